use Rattle.std.proofs.Common.{◌≡◌, length, drop}
use Rattle.std.specs.List.{prefix_len}
use Rattle.std.specs.Str.{IsUtf8}
use Rattle.cs_model.specs.Collection.{is_space}
use Rattle.cs_docs.proofs.pieces.without_spaces_before.Given as goal

abbrev pub invariant-loop-after : goal.invariant-loop-after
invariant-loop-after l = record {
  told : drop (prefix_len is_space l.rest) l.rest ≡ drop (prefix_len is_space l.text) l.text;
  utf8 : IsUtf8 l.rest;
}

abbrev pub decreases-loop-after : goal.decreases-loop-after
decreases-loop-after l = length l.rest
