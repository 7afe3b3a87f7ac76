use Rattle.std.proofs.Common.{ap, ◌∙◌, sym}
use Rattle.std.specs.List.{after_first}
use Rattle.cs_model.specs.Collection.{without_spaces, without_spaces_behind}
use Rattle.cs_docs.specs.FacetPieces.{is_semicolon, one_piece}
use Rattle.cs_docs.proofs.FacetPiecesLemmas.{pieces_next}
use Rattle.cs_docs.proofs.pieces.cut_piece.Goals as goal

pub returns-clause-pieces : goal.returns-clause-pieces
returns-clause-pieces c =
    pieces_next c.args.column.now c.requires
    ∙ ap (λ p. one_piece (without_spaces p) (after_first is_semicolon c.args.column.now)) (sym c.cut_at_semicolon.ensures.before)
    ∙ ap (one_piece (without_spaces c.cut_at_semicolon.result.0.now)) (sym c.cut_at_semicolon.ensures.after)
    ∙ ap (λ p. one_piece p c.cut_at_semicolon.result.1.now) (sym (c.without_spaces_behind.ensures ∙ ap without_spaces_behind c.without_spaces_before.ensures))
