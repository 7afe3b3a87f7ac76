use Rattle.std.proofs.Common.{ℕ, ◌≡◌, ◌+◌, ◌++◌, ◌<◌, List, length, get_or, drop, ap, sym, subst}
use Rattle.std.proofs.lemmas.List.{drop_more}
use Rattle.cs_base.specs.declared.content.scores.Weights.{Weights}
use Rattle.cs_build.specs.RowColumns.{AreDocRows, behind_doc, posts_of_doc, posts_of_docs}
use Rattle.cs_build.specs.WordRuns.{AreTaken, CanTake}
use Rattle.cs_build.specs.declared.row_form.DocRows.{DocRows}
use Rattle.cs_build.proofs.FillLemmas.{can_behind, can_front, taken-append}
use Rattle.cs_build.proofs.filling.fill_docs.Goals as goal

abbrev none : DocRows
none = record { facets = 0; titles = 0; texts = 0 }

here : (w : Weights) (d i : ℕ) (es : List DocRows) (ns : List ℕ) → i < length es → posts_of_docs w d (drop i es) ns ≡ posts_of_doc w d (get_or es i none) ns ++ posts_of_docs w (d + 1) (drop (i + 1) es) (behind_doc (get_or es i none) ns)
here w d i es ns l = ap (λ x. posts_of_docs w d x ns) (drop_more es i none l)

pub fill_doc-rest-requires-clause-room : goal.fill_doc-rest-requires-clause-room
fill_doc-rest-requires-clause-room c =
    let i = c.loop-doc.doc in
    can_front c.args.places.now c.loop-doc.blocks _ _ (subst (CanTake c.args.places.now c.loop-doc.blocks) (here c.args.weights i i c.args.docs.now c.loop-doc.rest.now c.loop-doc-test.true) c.loop-doc.invariant.can)

pub loop-doc-preserved : goal.loop-doc-preserved
loop-doc-preserved c =
    let i = c.loop-doc.doc in
    let rows = get_or c.args.docs.now i none in
    let ns = c.loop-doc.rest.now in
    let e = here c.args.weights i i c.args.docs.now ns c.loop-doc-test.true in
    let front = posts_of_doc c.args.weights i rows ns in
    let rest = posts_of_docs c.args.weights (i + 1) (drop (i + 1) c.args.docs.now) (behind_doc rows ns) in
    let behind = sym c.fill_doc-rest.ensures.behind in
    record {
      each = subst (AreDocRows (drop (i + 1) c.args.docs.now)) behind (subst (λ x. AreDocRows x ns) (drop_more c.args.docs.now i none c.loop-doc-test.true) c.loop-doc.invariant.each).2;
      can = subst (λ x. CanTake c.args.places.now c.fill_doc-rest.new.blocks (posts_of_docs c.args.weights (i + 1) (drop (i + 1) c.args.docs.now) x)) behind
          (can_behind c.args.places.now c.loop-doc.blocks c.fill_doc-rest.new.blocks front rest (subst (CanTake c.args.places.now c.loop-doc.blocks) e c.loop-doc.invariant.can) c.fill_doc-rest.ensures.taken);
      goes = λ end more. c.loop-doc.invariant.goes end (subst (λ x. AreTaken c.args.places.now x c.loop-doc.blocks end) (sym e)
          (taken-append c.args.places.now c.loop-doc.blocks c.fill_doc-rest.new.blocks end front rest c.fill_doc-rest.ensures.taken
          (subst (λ x. AreTaken c.args.places.now (posts_of_docs c.args.weights (i + 1) (drop (i + 1) c.args.docs.now) x) c.fill_doc-rest.new.blocks end) (sym behind) more)));
    }
