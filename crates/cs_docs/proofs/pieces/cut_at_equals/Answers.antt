use Rattle.std.proofs.Common.{ap, ◌∙◌}
use Rattle.std.proofs.lemmas.List.Folds.{list_any_at}
use Rattle.std.proofs.lemmas.List.Sums.{passes_at_first}
use Rattle.std.specs.List.{position_or_len}
use Rattle.cs_model.specs.Collection.{is_equals, without_spaces_behind}
use Rattle.cs_docs.proofs.FacetPiecesLemmas.{none_passes}
use Rattle.cs_docs.proofs.pieces.cut_at_equals.Goals as goal

pub returns-in_default : goal.returns-in_default
returns-in_default c = none_passes is_equals c.args.piece.now c.in_default.ensures

pub returns : goal.returns
returns c =
    let piece = c.args.piece.now in
    let at = c.in-Some.ensures.0 in (
      list_any_at is_equals piece (position_or_len is_equals piece) 0 at (passes_at_first is_equals piece 0 at),
      c.without_spaces_behind.ensures ∙ ap without_spaces_behind c.in-Some.ensures.1,
      c.in-Some.ensures.2,
    )
