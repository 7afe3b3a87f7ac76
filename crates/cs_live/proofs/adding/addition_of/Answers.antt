use Rattle.std.proofs.Common.{◌≡◌, ◌∙◌, List, [], ◌∷◌, ◌++◌, true, ap, drop, get_or, length, map, subst, sym, take, arith}
use Rattle.std.specs.Prelude.{All}
use Rattle.std.specs.Str.{is_utf8}
use Rattle.std.proofs.Math.Seq.{take-append_seam}
use Rattle.std.proofs.lemmas.List.{length-map}
use Rattle.std.proofs.lemmas.List.Elements.{All-from_recursion}
use Rattle.cs_base.specs.declared.content.doc.Doc.{Doc}
use Rattle.cs_base.specs.declared.content.doc.Row.{Row}
use Rattle.cs_model.specs.Corpus.{rows_of}
use Rattle.cs_model_changes.specs.Joined.{later_row}
use Rattle.cs_live.proofs.AddingLemmas.{own_text}
use Rattle.cs_live.proofs.AddedRows.{first_docs}
use Rattle.cs_live.proofs.adding.addition_of.Goals as goal

pub put_number-requires : goal.put_number-requires
put_number-requires c =
    let w = c.args.weights in
    let doc = c.args.doc in
    let rows_are = c.deref_mut.ensures.value ∙ c.into_vec-rows.ensures ∙ c.in-Ok.ensures.ok ∙ ap (rows_of w) c.in_ok-docs.ensures in
    subst (All (λ (r : Row). r.doc ≡ 0)) (sym rows_are) (All-from_recursion (λ (r : Row). r.doc ≡ 0) (rows_of w (doc ∷ [])) (first_docs w 0 doc))

pub returns-clause-ok : goal.returns-clause-ok
returns-clause-ok c =
    let w = c.args.weights in
    let doc = c.args.doc in
    let n = c.args.number in
    let docs_are = c.in_ok-docs.ensures in
    let rows_are = c.deref_mut.ensures.value ∙ c.into_vec-rows.ensures ∙ c.in-Ok.ensures.ok ∙ ap (rows_of w) docs_are in
    let all = c.put_number.ensures ∙ ap (map (later_row n)) rows_are in
    let title = c.in_ok-title.ensures.ok ∙ ap (λ (ds : List Doc). (get_or ds 0 c.index-as_slice-0.result).title) (c.as_slice.ensures ∙ docs_are) in
    let long = ap length all in
    let same = length-map (rows_of w (doc ∷ [])) (later_row n) in
    let few = c.in-Ok.ensures.few in
    let read = ap (λ ds. length (rows_of w ds)) docs_are in
    let before = ap length rows_are in
    let own = c.put_number.new.rows in
    let many = c.into_vec-rows.result.ok.0 in
    let rest = drop (length own) c.into_vec-rows.result.items in
    let ends : c.into_vec-rows.result.len ≡ length own = omega (arith, long, same, before, many, ap length c.deref_mut.ensures.value) in
    let whole : take c.into_vec-rows.result.len (own ++ rest) ≡ own = ap (λ m. take m (own ++ rest)) ends ∙ take-append_seam own rest in
    let whole_long = ap length whole in
    record {
      title = title;
      text = subst (λ t. is_utf8 t ≡ true) (sym title) (own_text w n doc c.requires);
      rows = whole ∙ all;
      few = omega (arith, long, same, few, read, whole_long);
    }
