use Rattle.std.proofs.Common.{◌*◌, arith, subst}
use Rattle.std.specs.Prelude.{filter}
use Rattle.cs_base.specs.declared.content.limits.TheConstants.{MAX_PARTS}
use Rattle.cs_base.specs.declared.content.scores.TheConstants.{MAX_ROW_SCORE}
use Rattle.cs_rows.specs.Blockwise.{CountsTable}
use Rattle.cs_rows.specs.Counting.{in_listed}
use Rattle.cs_engine.specs.HeldRanges.{FitsHolding, FitsRange, IsHeldOver, IsHoldingOver}
use Rattle.cs_rows.specs.Sources.{seen}
use Rattle.cs_rows.proofs.PartSteps.{base_in}
use Rattle.cs_engine.specs.declared.held.HeldKind.TheVariants as kinds
use Rattle.cs_engine.proofs.RangeLemmas.{goes_by, held_more, others_go, still_held, was_held}
use Rattle.cs_rows.proofs.SkippingLemmas.{sieve_of}
use Rattle.cs_rows.proofs.WalkLemmas.{within_more}
use Rattle.cs_engine.proofs.facets.counted_facet.Goals as goal

-- ---- what was held
pub counted_rows-requires : goal.counted_rows-requires
counted_rows-requires g c =
    let i = seen (g.I.Source.view c.args.index.now) in
    let source = c.requires.opened.source in
    record {
      index = i;
      present = (g.I.Source.view c.args.index.now).present;
      numbers = source.long;
      few_docs = source.few_docs;
      few_words = source.few_words;
      ordered = c.requires.words.ordered;
      words = c.requires.words.within;
      within = subst (FitsHolding i) c.in-Some-Rows.field-0-is (was_held c.in-Some-Rows.ensures.some.0 (FitsRange i) c.requires.held);
      base = c.requires.base;
      listed = c.requires.listed;
    }

pub returns-in-Some-Rows-clause-told : goal.returns-in-Some-Rows-clause-told
returns-in-Some-Rows-clause-told g c b is stands over =
    let s = (g.I.Source.view c.args.index.now).stock b in
    let are = subst (IsHoldingOver s c.args.words.0 c.args.words.1) c.in-Some-Rows.field-0-is (was_held c.in-Some-Rows.ensures.some.0 (IsHeldOver s) over) in
    subst (λ rows. CountsTable (filter (in_listed c.args.listed.now) rows) c.in_ok-counts.counts) are (c.in_ok-counts.ensures.told s.posts are)

pub returns-in_err-counts-clause-held : goal.returns-in_err-counts-clause-held
returns-in_err-counts-clause-held g c =
    let i = seen (g.I.Source.view c.args.index.now) in
    held_more (FitsRange i) c.counted_rows.ensures.held
    (subst (FitsHolding i) c.in-Some-Rows.field-0-is (was_held c.in-Some-Rows.ensures.some.0 (FitsRange i) c.requires.held))
    (still_held (FitsRange i) _ _ (others_go c.in-Some-Rows.ensures.some.0) c.requires.held)

pub returns-in_err-counts-clause-good : goal.returns-in_err-counts-clause-good
returns-in_err-counts-clause-good g c b is stands over =
    let s = (g.I.Source.view c.args.index.now).stock b in
    held_more (IsHeldOver s) c.counted_rows.ensures.held
    (subst (IsHoldingOver s c.args.words.0 c.args.words.1) c.in-Some-Rows.field-0-is (was_held c.in-Some-Rows.ensures.some.0 (IsHeldOver s) over))
    (still_held (IsHeldOver s) _ _ (others_go c.in-Some-Rows.ensures.some.0) over)

pub returns-in-Some-Rows-clause-held : goal.returns-in-Some-Rows-clause-held
returns-in-Some-Rows-clause-held g c =
    let i = seen (g.I.Source.view c.args.index.now) in
    held_more (FitsRange i) c.counted_rows.ensures.held
    (subst (FitsHolding i) c.in-Some-Rows.field-0-is (was_held c.in-Some-Rows.ensures.some.0 (FitsRange i) c.requires.held))
    (still_held (FitsRange i) _ _ (others_go c.in-Some-Rows.ensures.some.0) c.requires.held)

pub returns-in-Some-Rows-clause-good : goal.returns-in-Some-Rows-clause-good
returns-in-Some-Rows-clause-good g c b is stands over =
    let s = (g.I.Source.view c.args.index.now).stock b in
    held_more (IsHeldOver s) c.counted_rows.ensures.held
    (subst (IsHoldingOver s c.args.words.0 c.args.words.1) c.in-Some-Rows.field-0-is (was_held c.in-Some-Rows.ensures.some.0 (IsHeldOver s) over))
    (still_held (IsHeldOver s) _ _ (others_go c.in-Some-Rows.ensures.some.0) over)

-- ---- all blocks
pub reaches_all-requires-clause-base : goal.reaches_all-requires-clause-base
reaches_all-requires-clause-base g c =
    base_in (g.I.Source.view c.args.index.now).docs (MAX_ROW_SCORE * MAX_PARTS) c.args.base.now (omega arith) c.requires.base

pub counted_rows-requires-then-reaches_all : goal.counted_rows-requires-then-reaches_all
counted_rows-requires-then-reaches_all g c =
    let source = c.requires.opened.source in
    record {
      index = seen (g.I.Source.view c.args.index.now);
      present = (g.I.Source.view c.args.index.now).present;
      numbers = source.long;
      few_docs = source.few_docs;
      few_words = source.few_words;
      ordered = c.requires.words.ordered;
      words = c.requires.words.within;
      within = c.in_ok-rows.ensures.within;
      base = c.requires.base;
      listed = c.requires.listed;
    }

pub returns-then-reaches_all-clause-told : goal.returns-then-reaches_all-clause-told
returns-then-reaches_all-clause-told g c b is stands over =
    let s = (g.I.Source.view c.args.index.now).stock b in
    let are = c.in_ok-rows.ensures.told b is stands in
    subst (λ rows. CountsTable (filter (in_listed c.args.listed.now) rows) c.in_ok-counts-2.counts) are (c.in_ok-counts-2.ensures.told s.posts are)

pub returns-in_err-rows-clause-held : goal.returns-in_err-rows-clause-held
returns-in_err-rows-clause-held g c =
    still_held (FitsRange (seen (g.I.Source.view c.args.index.now))) _ _
    (goes_by c.take.result c.args.words.0 c.args.words.1 kinds.Rows c.take.ensures.none c.take.ensures.some) c.requires.held

pub returns-in_err-rows-clause-good : goal.returns-in_err-rows-clause-good
returns-in_err-rows-clause-good g c b is stands over =
    still_held (IsHeldOver ((g.I.Source.view c.args.index.now).stock b)) _ _
    (goes_by c.take.result c.args.words.0 c.args.words.1 kinds.Rows c.take.ensures.none c.take.ensures.some) over

pub returns-in_err-rows-clause-reads : goal.returns-in_err-rows-clause-reads
returns-in_err-rows-clause-reads g c = within_more c.rows_between.ensures.reads (c.reaches_all.ensures c.if-reaches_all.true)

pub returns-in_err-counts-2-clause-held : goal.returns-in_err-counts-2-clause-held
returns-in_err-counts-2-clause-held g c =
    let i = seen (g.I.Source.view c.args.index.now) in
    held_more (FitsRange i) c.counted_rows-then-reaches_all.ensures.held c.in_ok-rows.ensures.within
    (still_held (FitsRange i) _ _ (goes_by c.take.result c.args.words.0 c.args.words.1 kinds.Rows c.take.ensures.none c.take.ensures.some) c.requires.held)

pub returns-in_err-counts-2-clause-good : goal.returns-in_err-counts-2-clause-good
returns-in_err-counts-2-clause-good g c b is stands over =
    let s = (g.I.Source.view c.args.index.now).stock b in
    held_more (IsHeldOver s) c.counted_rows-then-reaches_all.ensures.held (c.in_ok-rows.ensures.told b is stands)
    (still_held (IsHeldOver s) _ _ (goes_by c.take.result c.args.words.0 c.args.words.1 kinds.Rows c.take.ensures.none c.take.ensures.some) over)

pub returns-in_err-counts-2-clause-reads : goal.returns-in_err-counts-2-clause-reads
returns-in_err-counts-2-clause-reads g c = within_more c.rows_between.ensures.reads (c.reaches_all.ensures c.if-reaches_all.true)

pub returns-then-reaches_all-clause-held : goal.returns-then-reaches_all-clause-held
returns-then-reaches_all-clause-held g c =
    let i = seen (g.I.Source.view c.args.index.now) in
    held_more (FitsRange i) c.counted_rows-then-reaches_all.ensures.held c.in_ok-rows.ensures.within
    (still_held (FitsRange i) _ _ (goes_by c.take.result c.args.words.0 c.args.words.1 kinds.Rows c.take.ensures.none c.take.ensures.some) c.requires.held)

pub returns-then-reaches_all-clause-good : goal.returns-then-reaches_all-clause-good
returns-then-reaches_all-clause-good g c b is stands over =
    let s = (g.I.Source.view c.args.index.now).stock b in
    held_more (IsHeldOver s) c.counted_rows-then-reaches_all.ensures.held (c.in_ok-rows.ensures.told b is stands)
    (still_held (IsHeldOver s) _ _ (goes_by c.take.result c.args.words.0 c.args.words.1 kinds.Rows c.take.ensures.none c.take.ensures.some) over)

pub returns-then-reaches_all-clause-reads : goal.returns-then-reaches_all-clause-reads
returns-then-reaches_all-clause-reads g c = within_more c.rows_between.ensures.reads (c.reaches_all.ensures c.if-reaches_all.true)

-- ---- those that a hit reaches
pub counted_in_hits-requires-clause-sieve : goal.counted_in_hits-requires-clause-sieve
counted_in_hits-requires-clause-sieve g c =
    sieve_of (g.S.Store.bytes c.args.store.now) (g.I.Source.view c.args.index.now) (MAX_ROW_SCORE * MAX_PARTS) c.args.base.now c.args.listed.now
    c.requires.opened (omega arith) c.requires.base c.requires.listed

pub returns-in_err-counts-3-clause-held : goal.returns-in_err-counts-3-clause-held
returns-in_err-counts-3-clause-held g c =
    still_held (FitsRange (seen (g.I.Source.view c.args.index.now))) _ _
    (goes_by c.take.result c.args.words.0 c.args.words.1 kinds.Rows c.take.ensures.none c.take.ensures.some) c.requires.held

pub returns-in_err-counts-3-clause-good : goal.returns-in_err-counts-3-clause-good
returns-in_err-counts-3-clause-good g c b is stands over =
    still_held (IsHeldOver ((g.I.Source.view c.args.index.now).stock b)) _ _
    (goes_by c.take.result c.args.words.0 c.args.words.1 kinds.Rows c.take.ensures.none c.take.ensures.some) over

pub returns-clause-held : goal.returns-clause-held
returns-clause-held g c =
    still_held (FitsRange (seen (g.I.Source.view c.args.index.now))) _ _
    (goes_by c.take.result c.args.words.0 c.args.words.1 kinds.Rows c.take.ensures.none c.take.ensures.some) c.requires.held

pub returns-clause-good : goal.returns-clause-good
returns-clause-good g c b is stands over =
    still_held (IsHeldOver ((g.I.Source.view c.args.index.now).stock b)) _ _
    (goes_by c.take.result c.args.words.0 c.args.words.1 kinds.Rows c.take.ensures.none c.take.ensures.some) over
