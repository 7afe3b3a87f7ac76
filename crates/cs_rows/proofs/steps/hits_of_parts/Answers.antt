use Rattle.std.proofs.Common.{◌≡◌, ◌+◌, ◌*◌, ◌<◌, ◌≤◌, ℕ, length, not, refl, sym, ap, subst, ◌∙◌, arith}
use Rattle.cs_base.specs.content.Orders.{AreSorted}
use Rattle.cs_base.specs.declared.content.doc.Base.{Base}
use Rattle.cs_base.specs.declared.content.doc.Post.{Post}
use Rattle.cs_base.specs.declared.content.limits.TheConstants.{MAX_PARTS}
use Rattle.cs_base.specs.declared.content.query.Part.{out-Part}
use Rattle.cs_base.specs.declared.content.scores.TheConstants.{MAX_ROW_SCORE}
use Rattle.cs_model.specs.Answers.{rows_of_part}
use Rattle.cs_model_kept.specs.Entries.{EntryOf}
use Rattle.cs_rank.specs.DocScores.{IsBase}
use Rattle.cs_rows.specs.Sources.{seen}
use Rattle.cs_rows.specs.Steps.{IsBaseOf, posts_hits}
use Rattle.cs_rows.specs.Stocked.{corpus_in}
use Rattle.cs_rows.proofs.BehindLemmas.{behind_words, most_more}
use Rattle.cs_rows.proofs.EvaluationLemmas.{hits_end, hits_go_on}
use Rattle.cs_rows.proofs.FoundLemmas.{is_excluded}
use Rattle.cs_rows.proofs.InsideLemmas.{hits_less}
use Rattle.cs_rows.proofs.NoHitLemmas.{lists_no, none_based, none_behind}
use Rattle.cs_rows.proofs.PartSteps.{AreHitsBehind, base_in, base_weaker, hits_in}
use Rattle.cs_rows.proofs.WalkLemmas.{list_begins, list_goes_on, list_skips, list_stops, within_more}
use Rattle.cs_rows.proofs.steps.hits_of_parts.Goals as goal

-- the hits of some of the parts are in the range of as many as there may be
of_most : (docs n many : ℕ) (hits : Base) → many ≤ MAX_PARTS → n < many → IsBaseOf docs (MAX_ROW_SCORE * n) hits
    → IsBaseOf docs (MAX_ROW_SCORE * MAX_PARTS) hits
of_most docs n many hits few l fits = base_weaker docs (MAX_ROW_SCORE * n) (MAX_ROW_SCORE * MAX_PARTS) hits (omega (arith, few, l)) fits

pub loop-part-init : goal.loop-part-init
loop-part-init g c = record {
  walk = list_begins refl refl;
  within = tt;
  told = λ b is stands known. refl;
}

-- ---- behind parts that leave no hit
pub loop-part-preserved-then-lists_none : goal.loop-part-preserved-then-lists_none
loop-part-preserved-then-lists_none g c =
    let v = g.I.Source.view c.args.index.now in
    let n = c.loop-part.part-index in
    let inv = c.loop-part.invariant in
    let x = c.part-item.result in
    let none = lists_no c.loop-part.hits (sym c.lists_none.ensures ∙ c.if-lists_none.true) in
    record {
      walk = list_skips inv.walk c.loop-part-test.true c.part-item.is;
      within = subst (IsBaseOf v.docs (MAX_ROW_SCORE * (n + 1))) (sym none) (none_based v.docs (MAX_ROW_SCORE * (n + 1)));
      told = λ b is stands known.
          let s = v.stock b in
          let p = rows_of_part (corpus_in s) x in
          hits_go_on s c.args.parts.now n x c.loop-part-test.true c.part-item.is c.loop-part.hits c.loop-part.hits (inv.told b is stands known)
          (subst (λ h. AreHitsBehind s h p h) (sym none) (none_behind s p));
    }

-- ---- a part that asks for some words
pub hits_in_words-requires-clause-base : goal.hits_in_words-requires-clause-base
hits_in_words-requires-clause-base g c = of_most _ _ _ _ c.requires.few c.loop-part-test.true c.loop-part.invariant.within

pub returns-in_err-hits-clause-reads : goal.returns-in_err-hits-clause-reads
returns-in_err-hits-clause-reads g c =
    list_stops c.loop-part.invariant.walk c.loop-part-test.true c.part-item.is (within_more c.hits_in_words.ensures.reads
    (let sharp = c.in-Some.ensures.sharp c.loop-part.hits in let less = hits_less (g.I.Source.view c.args.index.now) c.requires.opened.source c.loop-part.hits c.part-item.result in omega (arith, sharp, less)))

pub loop-part-preserved-in-Some : goal.loop-part-preserved-in-Some
loop-part-preserved-in-Some g c =
    let v = g.I.Source.view c.args.index.now in
    let n = c.loop-part.part-index in
    let inv = c.loop-part.invariant in
    let hits = c.loop-part.hits in
    let words = c.in-Some.words in
    let next = c.in_ok-hits in
    record {
      walk = list_goes_on inv.walk c.loop-part-test.true c.part-item.is next.ensures.store (within_more next.ensures.reads
          (let sharp = c.in-Some.ensures.sharp hits in let less = hits_less v c.requires.opened.source hits c.part-item.result in omega (arith, sharp, less)));
      within = next.ensures.within n inv.within;
      told = λ b is stands known. hits_go_on (v.stock b) c.args.parts.now n c.part-item.result c.loop-part-test.true
          c.part-item.is hits next.hits (inv.told b is stands known)
          (subst (λ h. AreHitsBehind (v.stock b) hits (rows_of_part (corpus_in (v.stock b)) c.part-item.result) h)
          (sym (next.ensures.told b (inv.walk.store.bytes ∙ is) stands known))
          (behind_words b v stands c.requires.opened.source c.part-item.result hits words.0 words.1 _ c.in-Some.ensures.positive c.in-Some.ensures.words refl));
    }

-- ---- another part
pub extended_entry-requires-clause-base : goal.extended_entry-requires-clause-base
extended_entry-requires-clause-base g c = of_most _ _ _ _ c.requires.few c.loop-part-test.true c.loop-part.invariant.within

pub returns-in_err-entry-clause-reads : goal.returns-in_err-entry-clause-reads
returns-in_err-entry-clause-reads g c = list_stops c.loop-part.invariant.walk c.loop-part-test.true c.part-item.is (within_more c.extended_entry.ensures.reads
    (hits_less (g.I.Source.view c.args.index.now) c.requires.opened.source c.loop-part.hits c.part-item.result))

pub returns-in_err-hits-2-clause-reads : goal.returns-in_err-hits-2-clause-reads
returns-in_err-hits-2-clause-reads g c = list_stops c.loop-part.invariant.walk c.loop-part-test.true c.part-item.is (within_more c.extended_entry.ensures.reads
    (hits_less (g.I.Source.view c.args.index.now) c.requires.opened.source c.loop-part.hits c.part-item.result))

pub posts_hits-requires-clause-base : goal.posts_hits-requires-clause-base
posts_hits-requires-clause-base g c =
    let fits = c.in_ok-entry.ensures.within MAX_PARTS (of_most _ _ _ _ c.requires.few c.loop-part-test.true c.loop-part.invariant.within) in
    let same = ap (λ (e : EntryOf Post). e.base) c.entry.view_is in
    subst IsBase (sym same) (base_in (g.I.Source.view c.args.index.now).docs _ c.in_ok-entry.entry.base
    (most_more (not (out-Part c.part-item.result).excluded)) fits.base)

pub posts_hits-requires-clause-sorted : goal.posts_hits-requires-clause-sorted
posts_hits-requires-clause-sorted g c =
    let fits = c.in_ok-entry.ensures.within c.loop-part.part-index c.loop-part.invariant.within in
    let same = ap (λ (e : EntryOf Post). e.rows) c.entry.view_is in
    subst AreSorted (sym same) fits.rows.sorted

pub loop-part-preserved : goal.loop-part-preserved
loop-part-preserved g c =
    let i = seen (g.I.Source.view c.args.index.now) in
    let n = c.loop-part.part-index in
    let inv = c.loop-part.invariant in
    let x = c.part-item.result in
    let positive = not (out-Part x).excluded in
    let e = c.in_ok-entry.entry in
    let are : c.in_ok-hits-2.hits ≡ posts_hits positive e.base e.rows =
    c.in_ok-hits-2.ensures ∙ ap (λ (x : EntryOf Post). posts_hits positive x.base x.rows) c.entry.view_is in
    record {
      walk = list_goes_on inv.walk c.loop-part-test.true c.part-item.is c.in_ok-entry.ensures.store (within_more c.in_ok-entry.ensures.reads
          (hits_less (g.I.Source.view c.args.index.now) c.requires.opened.source c.loop-part.hits x));
      within = subst (IsBaseOf i.docs (MAX_ROW_SCORE * (n + 1))) (sym are) (hits_in i positive (n + 1) e (c.in_ok-entry.ensures.within n inv.within));
      told = λ b is stands known. hits_go_on ((g.I.Source.view c.args.index.now).stock b) c.args.parts.now n x c.loop-part-test.true c.part-item.is c.loop-part.hits
          c.in_ok-hits-2.hits (inv.told b is stands known) (record {
            e = e;
            step = c.in_ok-entry.ensures.told b (inv.walk.store.bytes ∙ is) stands;
            are = are ∙ ap (λ x. posts_hits (not x) e.base e.rows) (sym (is_excluded ((g.I.Source.view c.args.index.now).stock b) x));
          });
    }

-- ---- all parts
pub returns-clause-told : goal.returns-clause-told
returns-clause-told g c b is stands known q are = hits_end ((g.I.Source.view c.args.index.now).stock b) c.args.parts.now q c.loop-part.part-index
    c.loop-part.hits are
    (omega (arith, c.loop-part-test.false)) (c.loop-part.invariant.told b is stands known)

pub returns-clause-within : goal.returns-clause-within
returns-clause-within g c =
    let whole : c.loop-part.part-index ≡ length c.args.parts.now = omega (arith, c.loop-part-test.false, c.loop-part.auto.part-index-end) in
    subst (λ m. IsBaseOf (g.I.Source.view c.args.index.now).docs (MAX_ROW_SCORE * m) c.loop-part.hits) whole c.loop-part.invariant.within
