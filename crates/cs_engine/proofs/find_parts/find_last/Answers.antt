use Rattle.std.proofs.Common.{◌+◌, ◌-◌, ◌*◌, [], length, not, ap, subst, sym, ◌∙◌, arith}
use Rattle.cs_base.specs.declared.content.doc.Base.TheVariants as base
use Rattle.cs_base.specs.declared.content.limits.TheConstants.{MAX_PARTS}
use Rattle.cs_base.specs.declared.content.query.Part.{out-Part}
use Rattle.cs_base.specs.declared.content.query.Query.{out-Query}
use Rattle.cs_base.specs.declared.content.scores.TheConstants.{MAX_ROW_SCORE}
use Rattle.cs_model.specs.Answers.{rows_of_part}
use Rattle.cs_rows.specs.IndexReading.{division}
use Rattle.cs_engine.specs.Keeping.{FitsQuery, IsEntryOver}
use Rattle.cs_rows.specs.Steps.{entry_with, IsStep}
use Rattle.cs_rows.specs.Sources.{seen}
use Rattle.cs_rows.specs.Stocked.{corpus_in}
use Rattle.cs_rows.proofs.NoHitLemmas.{bare_entry, lists_no, none_fits, none_step}
use Rattle.cs_rows.proofs.PartSteps.{base_weaker}
use Rattle.cs_engine.proofs.PlansLemmas.{ends_last, is_last, last_hit, more_by_words, more_fits, more_told}
use Rattle.cs_rows.proofs.WalkLemmas.{within_more}
use Rattle.cs_engine.proofs.find_parts.find_last.Goals as goal

-- ---- no hit
pub found_with-requires : goal.found_with-requires
found_with-requires g c =
    let q = c.args.over.query.now in
    let i = seen (g.I.Source.view c.args.over.index.now) in
    let n = length (out-Query q).parts - 1 + 1 in
    let x = c.index-parts-last.result in
    let last = is_last {q = q} c.requires.some c.as_slice-parts.ensures c.index-parts-last.is in
    let none = lists_no c.args.hits (sym c.lists_none.ensures ∙ c.if-lists_none.true) in
    record {
      own = record {
        index = c.requires.over.opened.source;
        parts = c.requires.over.parts;
        fits = subst (FitsQuery i q) (sym (bare_entry none c.new-rows.ensures))
            (more_fits q i x (entry_with (base.Listed []) []) last (none_fits i (not (out-Part x).excluded) n (omega arith)));
      };
    }

pub returns-then-lists_none-clause-told : goal.returns-then-lists_none-clause-told
returns-then-lists_none-clause-told g c b is stands good over =
    let q = c.args.over.query.now in
    let v = (g.I.Source.view c.args.over.index.now) in
    let s = v.stock b in
    let k = corpus_in s in
    let x = c.index-parts-last.result in
    let last = is_last {q = q} c.requires.some c.as_slice-parts.ensures c.index-parts-last.is in
    let none = lists_no c.args.hits (sym c.lists_none.ensures ∙ c.if-lists_none.true) in
    let bare = entry_with (base.Listed []) [] in
    let step = subst (λ h. IsStep s h (rows_of_part k x) bare) (sym none) (none_step s (rows_of_part k x)) in
    c.in_ok-none.ensures.told b stands
    (subst (IsEntryOver k (seen v) q) (sym (bare_entry none c.new-rows.ensures))
    (more_told q b v stands c.requires.over.opened.source x c.args.hits bare last over step))

-- ---- a part that asks for some words
pub find_words-requires-clause-asks : goal.find_words-requires-clause-asks
find_words-requires-clause-asks g c =
    let q = c.args.over.query.now in
    let x = c.index-parts-last.result in
    let last = is_last {q = q} c.requires.some c.as_slice-parts.ensures c.index-parts-last.is in
    let asks = c.in-Some.ensures.words in
    record {
      some = c.requires.some;
      positive = ends_last q x last ∙ ap not c.in-Some.ensures.positive;
      ordered = asks.ordered;
      within = asks.within;
      base = c.requires.base;
    }

pub returns-in_err-found-clause-reads : goal.returns-in_err-found-clause-reads
returns-in_err-found-clause-reads g c =
    let met = last_hit (division (g.I.Source.view c.args.over.index.now).index) c.args.hits
    (is_last {q = c.args.over.query.now} c.requires.some c.as_slice-parts.ensures c.index-parts-last.is) in
    let few = c.in-Some.ensures.sharp c.args.hits in
    within_more c.in_err-found.ensures.reads (omega (arith, met, few))

pub returns-in-Some-clause-told : goal.returns-in-Some-clause-told
returns-in-Some-clause-told g c b is stands good over =
    let q = c.args.over.query.now in
    let x = c.index-parts-last.result in
    let last = is_last {q = q} c.requires.some c.as_slice-parts.ensures c.index-parts-last.is in
    c.in_ok-found.ensures.told b is stands good
    (more_by_words q b (g.I.Source.view c.args.over.index.now) stands c.requires.over.opened.source x c.args.hits c.in-Some.words.0 c.in-Some.words.1
    last over c.in-Some.ensures.positive
    c.in-Some.ensures.words)

pub returns-in-Some-clause-reads : goal.returns-in-Some-clause-reads
returns-in-Some-clause-reads g c =
    let met = last_hit (division (g.I.Source.view c.args.over.index.now).index) c.args.hits
    (is_last {q = c.args.over.query.now} c.requires.some c.as_slice-parts.ensures c.index-parts-last.is) in
    let few = c.in-Some.ensures.sharp c.args.hits in
    within_more c.in_ok-found.ensures.reads (omega (arith, met, few))

-- ---- another part
pub extended_entry-requires-clause-base : goal.extended_entry-requires-clause-base
extended_entry-requires-clause-base g c =
    let n = length (out-Query c.args.over.query.now).parts in
    let few = c.requires.over.parts in
    base_weaker (g.I.Source.view c.args.over.index.now).docs (MAX_ROW_SCORE * (n - 1)) (MAX_ROW_SCORE * MAX_PARTS) c.args.hits (omega (arith, few))
    c.requires.base

pub returns-in_err-entry-clause-reads : goal.returns-in_err-entry-clause-reads
returns-in_err-entry-clause-reads g c =
    let met = last_hit (division (g.I.Source.view c.args.over.index.now).index) c.args.hits
    (is_last {q = c.args.over.query.now} c.requires.some c.as_slice-parts.ensures c.index-parts-last.is) in
    within_more c.extended_entry.ensures.reads (omega (arith, met))

pub found_with-requires-2 : goal.found_with-requires-2
found_with-requires-2 g c =
    let q = c.args.over.query.now in
    let x = c.index-parts-last.result in
    let last = is_last {q = q} c.requires.some c.as_slice-parts.ensures c.index-parts-last.is in
    record {
      own = record {
        index = c.requires.over.opened.source;
        parts = c.requires.over.parts;
        fits = more_fits q (seen (g.I.Source.view c.args.over.index.now)) x c.in_ok-entry.entry last
            (c.in_ok-entry.ensures.within (length (out-Query q).parts - 1) c.requires.base);
      };
    }

pub returns-in_err-found-2-clause-reads : goal.returns-in_err-found-2-clause-reads
returns-in_err-found-2-clause-reads g c =
    let met = last_hit (division (g.I.Source.view c.args.over.index.now).index) c.args.hits
    (is_last {q = c.args.over.query.now} c.requires.some c.as_slice-parts.ensures c.index-parts-last.is) in
    within_more c.extended_entry.ensures.reads (omega (arith, met))

pub returns-clause-told : goal.returns-clause-told
returns-clause-told g c b is stands good over =
    let q = c.args.over.query.now in
    let v = (g.I.Source.view c.args.over.index.now) in
    let x = c.index-parts-last.result in
    let last = is_last {q = q} c.requires.some c.as_slice-parts.ensures c.index-parts-last.is in
    c.in_ok-found-2.ensures.told b stands
    (more_told q b v stands c.requires.over.opened.source x c.args.hits c.in_ok-entry.entry last over (c.in_ok-entry.ensures.told b is stands))

pub returns-clause-reads : goal.returns-clause-reads
returns-clause-reads g c =
    let met = last_hit (division (g.I.Source.view c.args.over.index.now).index) c.args.hits
    (is_last {q = c.args.over.query.now} c.requires.some c.as_slice-parts.ensures c.index-parts-last.is) in
    within_more c.extended_entry.ensures.reads (omega (arith, met))
