use Rattle.std.proofs.Common.{◌≡◌, ◌∷◌, [], true, sym, ap, ◌∙◌}
use Rattle.std.specs.List.{before_first}
use Rattle.std.proofs.lemmas.Bool.{and_from}
use Rattle.cs_model.specs.Collection.{has_name_form, is_equals, named, piece_value}
use Rattle.cs_text.specs.WordPieces.{is_small_word}
use Rattle.cs_docs.proofs.LoneLemmas.{lone-listed}
use Rattle.cs_docs.proofs.lone.lone_facet.Goals as goal

pub returns-then-is_small_word-clause-some : goal.returns-then-is_small_word-clause-some
returns-then-is_small_word-clause-some c =
    let column = c.args.column.now in
    let name = c.in-Some.ensures.1 in
    let value = c.in-Some.ensures.2 in
    let form : has_name_form (before_first is_equals column) ≡ true = ap has_name_form (sym name ∙ sym c.as_bytes.ensures.value) ∙ sym c.if-has_name_form.ensures in
    let small : is_small_word (piece_value column) ≡ true = ap is_small_word (sym value ∙ sym c.as_bytes-then-has_name_form.ensures.value) ∙ sym c.if-is_small_word.ensures in
    lone-listed column (and_from (has_name_form (before_first is_equals column)) (is_small_word (piece_value column)) form small)
    ∙ ap (λ n. named n (piece_value column) ∷ []) (sym name) ∙ ap (λ v. named c.in-Some.name.now v ∷ []) (sym value)
