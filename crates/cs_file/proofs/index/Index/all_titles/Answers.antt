use Rattle.std.proofs.Common.{◌+◌, ◌<◌, refl, sym, ap, subst, ◌∙◌, arith}
use Rattle.cs_file.specs.CallAnswers.{IsChangeOfTitle}
use Rattle.cs_file.specs.ImageSteps.{AreTitlesRead}
use Rattle.cs_file.specs.Indexes.{IndexView, IsIndex}
use Rattle.cs_file.specs.WholeImages.{IsChangeBy, image_break}
use Rattle.cs_file.proofs.FetchLemmas.{fault_along}
use Rattle.cs_file.proofs.ImageStepLemmas.{title_changed, titles_next}
use Rattle.cs_file.proofs.index.Index.all_titles.Goals as goal

pub returns-in_err-title-clause-changed : goal.returns-in_err-title-clause-changed
returns-in_err-title-clause-changed g c = λ b t.
    let i = c.args.self.now in
    let e = c.in_err-title.field-0.0 in
    let lt : c.loop-doc.doc < i.docs = omega (arith, c.loop-doc-test.true, ap (λ (v : IndexView). v.docs) c.self.view_is) in
    let told = subst (λ o. IsChangeOfTitle i o c.loop-doc.doc e) c.loop-doc.invariant.same c.in_err-title.ensures.store.changed in
    fault_along (IsChangeBy (image_break i b)) e c.from_residual.result
    (title_changed (subst IsIndex c.self.view_is c.self.invariant.index) c.requires.fits c.loop-doc.invariant.read lt e told b t) c.from_residual.ensures.1

pub loop-doc-preserved : goal.loop-doc-preserved
loop-doc-preserved g c =
    let i = c.args.self.now in
    let told = g.S.Store.bytes c.args.store.now in
    record {
      read = subst (λ ts. AreTitlesRead i told ts (c.loop-doc.doc + 1)) (sym c.in_ok-push.ensures.ok)
          (titles_next c.loop-doc.invariant.read (record {
            len = c.in_ok-title.ensures.long;
            utf8 = c.in_ok-title.ensures.text;
            read = λ b t. c.in_ok-title.ensures.ok b (c.loop-doc.invariant.same ∙ t);
          }));
      same = c.in_ok-title.ensures.store.bytes ∙ c.loop-doc.invariant.same;
      lent = c.in_ok-title.ensures.store.lent ∙ c.loop-doc.invariant.lent;
      quiet = c.in_ok-title.ensures.store.caused.quiet refl ∙ c.loop-doc.invariant.quiet;
    }
