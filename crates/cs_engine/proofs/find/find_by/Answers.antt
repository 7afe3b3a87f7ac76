use Rattle.std.proofs.Common.{◌≡◌, ◌≤◌, ◌∙◌, ap, refl, subst, sym, true≢false, arith}
use Rattle.cs_base.specs.declared.content.query.Query.{out-Query}
use Rattle.cs_base.specs.declared.index.plan.Plan.TheVariants.{Same, Narrow, Extend, Fresh}
use Rattle.cs_model.specs.Keys.{last_of}
use Rattle.cs_model_kept.specs.Due.{met_by, met_of_query}
use Rattle.cs_model_kept.specs.Sharp.{sharp_by}
use Rattle.cs_model_kept.specs.KeptList.{is_same}
use Rattle.cs_model_kept.specs.KeptListLaws.{before_last}
use Rattle.cs_rows.specs.IndexReading.{division}
use Rattle.cs_rows.specs.Steps.{entry_with, last_is_positive}
use Rattle.cs_rows.specs.Skipping.{hit_of_last}
use Rattle.cs_rows.specs.Stocked.{corpus_in}
use Rattle.cs_engine.proofs.LentLemmas.{extend_lent, narrow_lent, narrow_typed, same_lent, several_parts}
use Rattle.cs_engine.proofs.SharpReads.{by_hits}
use Rattle.cs_rows.proofs.InsideLemmas.{last_hits_less}
use Rattle.cs_rows.proofs.WalkLemmas.{within_more}
use Rattle.cs_engine.proofs.PlansLemmas.{first_base, first_in, found_by_entry, is_used}
use Rattle.cs_engine.proofs.find.find_by.Goals as goal

-- ---- the query's own entry
pub view-view-requires : goal.view-view-requires
view-view-requires g c =
    record {
      held = is_used c.requires.over.query c.requires.planned (λ f. let no : Same ≡ Fresh = sym c.in-Same.is ∙ f in cc);
    }

pub found_in-requires : goal.found_in-requires
found_in-requires g c = record {
  own = record {
    index = c.requires.over.opened.source;
    parts = c.requires.over.parts;
    fits = (same_lent c.requires.over.query c.requires.planned _ _ c.view-view.ensures.base c.view-view.ensures.rows c.in-Same.is).0;
  };
}

pub returns-in_ok-hits-in-Same-clause-told : goal.returns-in_ok-hits-in-Same-clause-told
returns-in_ok-hits-in-Same-clause-told g c b is stands held good = record {
  table = c.in_ok-hits-in-Same.ensures.told b stands
      ((same_lent c.requires.over.query c.requires.planned _ _ c.view-view.ensures.base c.view-view.ensures.rows c.in-Same.is).1
      (corpus_in ((g.I.Source.view c.args.over.index.now).stock b)) good);
  own = tt;
  large = λ none other. absurd (true≢false (sym (ap is_same c.in-Same.is) ∙ other));
  range = tt;
}

-- ---- a letter more
pub view-view-requires-in-Narrow : goal.view-view-requires-in-Narrow
view-view-requires-in-Narrow g c =
    record {
      held = is_used c.requires.over.query c.requires.planned (λ f. let no : Narrow c.in-Narrow.cut ≡ Fresh = sym c.in-Narrow.is ∙ f in cc);
    }

pub narrowed-requires-clause-within : goal.narrowed-requires-clause-within
narrowed-requires-clause-within g c =
    (narrow_typed c.requires.over.query c.requires.planned _ _ c.view-view-in-Narrow.ensures.base c.view-view-in-Narrow.ensures.rows
    c.in-Narrow.cut c.in-Narrow.is).1

pub found_with-requires : goal.found_with-requires
found_with-requires g c = record {
  own = record {
    index = c.requires.over.opened.source;
    parts = c.requires.over.parts;
    fits = (narrow_lent c.requires.over.query c.requires.planned _ _ c.view-view-in-Narrow.ensures.base c.view-view-in-Narrow.ensures.rows
        c.in-Narrow.cut c.in-Narrow.is c.in_ok-entry-in-Narrow.entry
        c.in_ok-entry-in-Narrow.ensures.base c.in_ok-entry-in-Narrow.ensures.rows).0;
  };
}

pub returns-in_ok-found-in-Narrow-clause-told : goal.returns-in_ok-found-in-Narrow-clause-told
returns-in_ok-found-in-Narrow-clause-told g c b is stands held good =
    c.in_ok-found-in-Narrow.ensures.told b stands
    ((narrow_lent c.requires.over.query c.requires.planned _ _ c.view-view-in-Narrow.ensures.base c.view-view-in-Narrow.ensures.rows
    c.in-Narrow.cut c.in-Narrow.is c.in_ok-entry-in-Narrow.entry
    c.in_ok-entry-in-Narrow.ensures.base c.in_ok-entry-in-Narrow.ensures.rows).1 (corpus_in ((g.I.Source.view c.args.over.index.now).stock b)) good)
    c.args.plan

-- ---- a part more
pub view-view-requires-in-Extend : goal.view-view-requires-in-Extend
view-view-requires-in-Extend g c =
    record {
      held = is_used c.requires.over.query c.requires.planned (λ f. let no : Extend ≡ Fresh = sym c.in-Extend.is ∙ f in cc);
    }

pub hits_before_last-requires : goal.hits_before_last-requires
hits_before_last-requires g c =
    let lent = extend_lent c.requires.over.query c.requires.planned _ _ c.view-view-in-Extend.ensures.base c.view-view-in-Extend.ensures.rows c.in-Extend.is in
    record {
      some = lent.0;
      base = first_base c.args.over.query.now c.requires.over.parts lent.1;
      sorted = lent.1.rows.sorted;
    }

pub find_last-requires : goal.find_last-requires
find_last-requires g c =
    let lent = extend_lent c.requires.over.query c.requires.planned _ _ c.view-view-in-Extend.ensures.base c.view-view-in-Extend.ensures.rows c.in-Extend.is in
    record {
      some = lent.0;
      base = first_in c.args.over.query.now c.in_ok-hits-in-Extend.hits lent.1 c.in_ok-hits-in-Extend.ensures;
      held = c.requires.held;
      over = c.requires.over;
    }

pub returns-in_ok-found-in-Extend-clause-told : goal.returns-in_ok-found-in-Extend-clause-told
returns-in_ok-found-in-Extend-clause-told g c b is stands held good =
    let v = (g.I.Source.view c.args.over.index.now) in
    let e = entry_with c.view-view-in-Extend.result.base.now c.view-view-in-Extend.result.rows.now.posts in
    let lent = extend_lent c.requires.over.query c.requires.planned _ _ c.view-view-in-Extend.ensures.base c.view-view-in-Extend.ensures.rows c.in-Extend.is in
    let found = found_by_entry v (before_last c.args.over.query.now) e (last_is_positive (before_last c.args.over.query.now)) refl
    c.in_ok-hits-in-Extend.hits c.in_ok-hits-in-Extend.ensures b stands c.requires.over.opened.source (lent.2 (corpus_in (v.stock b)) good) in
    c.in_ok-found-in-Extend.ensures.told b is stands held found.base c.args.plan

pub returns-in_err-found-in-Extend-clause-reads : goal.returns-in_err-found-in-Extend-clause-reads
returns-in_err-found-in-Extend-clause-reads g c =
    within_more c.in_err-found-in-Extend.ensures.reads
    (subst (λ p. hit_of_last (division (g.I.Source.view c.args.over.index.now).index) c.in_ok-hits-in-Extend.hits
    (last_of (out-Query c.args.over.query.now).parts) ≤ met_by (division (g.I.Source.view c.args.over.index.now).index) c.args.over.query.now p) (sym c.in-Extend.is)
    (last_hits_less (g.I.Source.view c.args.over.index.now) c.requires.over.opened.source c.in_ok-hits-in-Extend.hits (last_of (out-Query c.args.over.query.now).parts)))

pub returns-in_ok-found-in-Extend-clause-reads : goal.returns-in_ok-found-in-Extend-clause-reads
returns-in_ok-found-in-Extend-clause-reads g c =
    within_more c.in_ok-found-in-Extend.ensures.reads
    (subst (λ p. hit_of_last (division (g.I.Source.view c.args.over.index.now).index) c.in_ok-hits-in-Extend.hits
    (last_of (out-Query c.args.over.query.now).parts) ≤ met_by (division (g.I.Source.view c.args.over.index.now).index) c.args.over.query.now p) (sym c.in-Extend.is)
    (last_hits_less (g.I.Source.view c.args.over.index.now) c.requires.over.opened.source c.in_ok-hits-in-Extend.hits (last_of (out-Query c.args.over.query.now).parts)))

-- ---- all parts
pub returns-in_ok-found-in-Fresh-clause-told : goal.returns-in_ok-found-in-Fresh-clause-told
returns-in_ok-found-in-Fresh-clause-told g c b is stands held good = c.in_ok-found-in-Fresh.ensures.told b is stands held c.args.plan

-- ---- by the hits of the corpus
pub returns-in_err-found-in-Extend-clause-sharp : goal.returns-in_err-found-in-Extend-clause-sharp
returns-in_err-found-in-Extend-clause-sharp g c b is stands good =
    let v = (g.I.Source.view c.args.over.index.now) in
    let d = division v.index in
    let q = c.args.over.query.now in
    let k = corpus_in (v.stock b) in
    let hits = c.in_ok-hits-in-Extend.hits in
    let last = last_of (out-Query q).parts in
    let e = entry_with c.view-view-in-Extend.result.base.now c.view-view-in-Extend.result.rows.now.posts in
    let lent = extend_lent c.requires.over.query c.requires.planned _ _ c.view-view-in-Extend.ensures.base c.view-view-in-Extend.ensures.rows c.in-Extend.is in
    let several = several_parts c.requires.over.query c.requires.planned _ _ c.view-view-in-Extend.ensures.base c.view-view-in-Extend.ensures.rows c.in-Extend.is in
    let found = found_by_entry v (before_last q) e (last_is_positive (before_last q)) refl hits c.in_ok-hits-in-Extend.ensures b stands
    c.requires.over.opened.source (lent.2 k good) in
    within_more c.in_err-found-in-Extend.ensures.reads (subst (λ p. hit_of_last d hits last ≤ sharp_by d k q p) (sym c.in-Extend.is) (by_hits d k q hits last several found.base))

pub returns-in_ok-found-in-Extend-clause-sharp : goal.returns-in_ok-found-in-Extend-clause-sharp
returns-in_ok-found-in-Extend-clause-sharp g c b is stands good =
    let v = (g.I.Source.view c.args.over.index.now) in
    let d = division v.index in
    let q = c.args.over.query.now in
    let k = corpus_in (v.stock b) in
    let hits = c.in_ok-hits-in-Extend.hits in
    let last = last_of (out-Query q).parts in
    let e = entry_with c.view-view-in-Extend.result.base.now c.view-view-in-Extend.result.rows.now.posts in
    let lent = extend_lent c.requires.over.query c.requires.planned _ _ c.view-view-in-Extend.ensures.base c.view-view-in-Extend.ensures.rows c.in-Extend.is in
    let several = several_parts c.requires.over.query c.requires.planned _ _ c.view-view-in-Extend.ensures.base c.view-view-in-Extend.ensures.rows c.in-Extend.is in
    let found = found_by_entry v (before_last q) e (last_is_positive (before_last q)) refl hits c.in_ok-hits-in-Extend.ensures b stands
    c.requires.over.opened.source (lent.2 k good) in
    within_more c.in_ok-found-in-Extend.ensures.reads (subst (λ p. hit_of_last d hits last ≤ sharp_by d k q p) (sym c.in-Extend.is) (by_hits d k q hits last several found.base))

pub returns-in_err-found-in-Fresh-clause-sharp : goal.returns-in_err-found-in-Fresh-clause-sharp
returns-in_err-found-in-Fresh-clause-sharp g c b is stands good =
    let v = (g.I.Source.view c.args.over.index.now) in
    let d = division v.index in
    let q = c.args.over.query.now in
    within_more c.find_fresh.ensures.reads (subst (λ p. met_of_query d q ≤ sharp_by d (corpus_in (v.stock b)) q p) (sym c.in-Fresh.is) (omega arith))

pub returns-in_ok-found-in-Fresh-clause-sharp : goal.returns-in_ok-found-in-Fresh-clause-sharp
returns-in_ok-found-in-Fresh-clause-sharp g c b is stands good =
    let v = (g.I.Source.view c.args.over.index.now) in
    let d = division v.index in
    let q = c.args.over.query.now in
    within_more c.find_fresh.ensures.reads (subst (λ p. met_of_query d q ≤ sharp_by d (corpus_in (v.stock b)) q p) (sym c.in-Fresh.is) (omega arith))
