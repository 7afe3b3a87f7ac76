use Rattle.std.proofs.Common.{◌+◌, ◌*◌, not, sym, subst, arith}
use Rattle.cs_base.specs.declared.content.limits.TheConstants.{MAX_PARTS}
use Rattle.cs_base.specs.declared.content.scores.TheConstants.{MAX_ROW_SCORE}
use Rattle.cs_base.specs.declared.content.query.Part.{out-Part}
use Rattle.cs_model.specs.Answers.{rows_of_part}
use Rattle.cs_rows.specs.Sources.{seen}
use Rattle.cs_rows.specs.Steps.{EntryFits, IsStep}
use Rattle.cs_rows.specs.Stocked.{corpus_in, present_docs}
use Rattle.cs_rows.proofs.FoundLemmas.{is_excluded}
use Rattle.cs_rows.proofs.CountingLemmas.{listed_in}
use Rattle.cs_rows.proofs.ExtendingLemmas.{step_inside}
use Rattle.cs_rows.proofs.PartSteps.{step_within}
use Rattle.cs_rows.proofs.PresentLemmas.{docs_ascend, docs_below}
use Rattle.cs_rows.proofs.SkippingLemmas.{lists_of, sieve_of}
use Rattle.cs_rows.proofs.steps.extended_entry.Goals as goal

-- ---- what blocks are skipped by
pub rows_inside-requires-clause-sieve : goal.rows_inside-requires-clause-sieve
rows_inside-requires-clause-sieve g c =
    let v = g.I.Source.view c.args.index.now in
    sieve_of (g.S.Store.bytes c.args.store.now) v (MAX_ROW_SCORE * MAX_PARTS) c.args.hits c.deref.result.now c.requires.opened (omega arith) c.requires.base
    (listed_in c.args.hits c.in_ok-listed.listed.items c.deref.result.now c.in_ok-listed.ensures c.deref.ensures.value)

pub rows_inside-requires-clause-lists : goal.rows_inside-requires-clause-lists
rows_inside-requires-clause-lists g c =
    let v = g.I.Source.view c.args.index.now in
    lists_of v c.requires.opened.source c.args.hits c.deref.result.now
    (listed_in c.args.hits c.in_ok-listed.listed.items c.deref.result.now c.in_ok-listed.ensures c.deref.ensures.value)

-- ---- one part more
pub returns-clause-told : goal.returns-clause-told
returns-clause-told g c b is stands =
    let s = (g.I.Source.view c.args.index.now).stock b in
    let p = rows_of_part (corpus_in s) c.args.part.now in
    let told = c.requires.opened.source.told b stands in
    let has = c.in_ok-rows.ensures.told b is stands in
    subst (IsStep s c.args.hits p) (sym c.in_ok-entry.ensures)
    (step_inside s told.stocked _ told.docs c.args.hits p c.in_ok-rows.rows.posts has (out-Part c.args.part.now).excluded (is_excluded s c.args.part.now))

pub returns-clause-within : goal.returns-clause-within
returns-clause-within g c n fits =
    let v = g.I.Source.view c.args.index.now in
    let i = seen v in
    let excluded = (out-Part c.args.part.now).excluded in
    subst (EntryFits i (not excluded) (n + 1)) (sym c.in_ok-entry.ensures)
    (step_within i (present_docs v.present) (docs_ascend v.present) (docs_below v.present c.requires.opened.source.long) c.args.hits excluded
    c.in_ok-rows.rows.posts c.in_ok-rows.ensures.within n fits)
