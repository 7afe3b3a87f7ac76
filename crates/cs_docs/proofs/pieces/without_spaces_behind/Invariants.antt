use Rattle.std.proofs.Common.{◌≡◌, length}
use Rattle.std.specs.Str.{IsUtf8}
use Rattle.cs_model.specs.Collection.{without_spaces_behind}
use Rattle.cs_docs.proofs.pieces.without_spaces_behind.Given as goal

abbrev pub invariant-loop-before : goal.invariant-loop-before
invariant-loop-before l = record {
  told : without_spaces_behind l.rest ≡ without_spaces_behind l.text;
  utf8 : IsUtf8 l.rest;
}

abbrev pub decreases-loop-before : goal.decreases-loop-before
decreases-loop-before l = length l.rest
