use Rattle.std.proofs.Common.{◌∙◌, ◌++◌, ◌∷◌, [], ap, sym, arith}
use Rattle.std.specs.Vec.{vec_capacity, vec_len}
use Rattle.cs_rows.specs.Steps.{with_no_score}
use Rattle.cs_rows.proofs.PresentLemmas.{every_gone, every_there}
use Rattle.cs_rows.proofs.hits.all_docs.Goals as goal
use Rattle.cs_rows.proofs.hits.all_docs.Goals.{then-has_doc, else-has_doc}

pub loop-doc-preserved : goal.loop-doc-preserved
loop-doc-preserved g c =
    let present = (g.I.Source.view c.args.index.now).present in
    let doc = c.loop-doc.doc in
    let inv = c.loop-doc.invariant in
    elim c.if-has_doc.branch [
      | then-has_doc w ↦ record {
        are = ap (λ v. v.items) w.all-is ∙ w.push_reserved.ensures.items ∙ ap (λ xs. xs ++ with_no_score doc ∷ []) inv.are
            ∙ sym (every_there present doc (sym c.has_doc.ensures ∙ w.if-has_doc.true));
        room = omega (arith, inv.room, ap vec_len w.all-is, ap vec_capacity w.all-is, w.push_reserved.ensures.len, w.push_reserved.ensures.capacity);
      }
      | else-has_doc w ↦ record {
        are = ap (λ v. v.items) w.all-is ∙ inv.are ∙ sym (every_gone present doc (sym c.has_doc.ensures ∙ w.if-has_doc.false));
        room = omega (arith, inv.room, ap vec_len w.all-is, ap vec_capacity w.all-is);
      }
    ]
