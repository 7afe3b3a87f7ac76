use Rattle.std.proofs.Common.{◌≡◌, length, map, ap, sym, ◌∙◌}
use Rattle.std.proofs.lemmas.List.{length-map}
use Rattle.cs_base.specs.declared.content.doc.Row.{Row}
use Rattle.cs_model_index.specs.Numbered.{word_at}
use Rattle.cs_build.specs.declared.row_form.RowForm.TheVariants.{Listed}
use Rattle.cs_build.proofs.ColumnLemmas.{columns_are}
use Rattle.cs_build.proofs.RowPosts.{rows_again}
use Rattle.cs_build.proofs.row_columns.RowColumns.of_rows.Goals as goal

pub invariant_of-result : goal.invariant_of-result
invariant_of-result c =
    let n = c.in_ok-words.field-0 in
    let all = c.in_ok-words.ensures.numbers in
    let many : length c.args.rows ≡ length n.numbers = sym (length-map c.args.rows (λ (r : Row). r.word)) ∙ sym (ap length all.told) ∙ length-map n.numbers (word_at n.words) in
    columns_are n.words n.numbers (Listed c.args.rows) (map (λ r. r.word) c.args.rows) many all c.in_ok-words.ensures.words

pub returns : goal.returns
returns c = let n = c.in_ok-words.field-0 in record { ok = rows_again n.words c.args.rows n.numbers c.in_ok-words.ensures.numbers.told }
