use Rattle.std.proofs.Common.{◌≡◌, length, map}
use Rattle.std.specs.Str.{IsUtf8}
use Rattle.cs_model.specs.Collection.{piece_refusal, facet_pieces}
use Rattle.cs_model.specs.First.{first_reason}
use Rattle.cs_docs.proofs.pieces.check_facets.Given as goal

abbrev pub invariant-loop-rest : goal.invariant-loop-rest
invariant-loop-rest l = record {
  told : first_reason (map (piece_refusal l.line) (facet_pieces l.column)) ≡ first_reason (map (piece_refusal l.line) (facet_pieces l.rest));
  utf8 : IsUtf8 l.rest;
}

abbrev pub decreases-loop-rest : goal.decreases-loop-rest
decreases-loop-rest l = length l.rest
