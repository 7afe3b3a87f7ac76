use Rattle.std.proofs.Common.{◌≡◌, ◌-◌, ◌*◌, ◌∙◌, List, length, length-take, take, ap, subst, arith}
use Rattle.std.proofs.lemmas.Grind.{common_steps}
use Rattle.cs_base.specs.declared.content.query.Part.{Part}
use Rattle.cs_base.specs.declared.content.query.Query.{out-Query}
use Rattle.cs_base.specs.declared.content.scores.TheConstants.{MAX_ROW_SCORE}
use Rattle.cs_model.specs.Keys.{last_of}
use Rattle.cs_model_kept.specs.KeptListLaws.{before_last}
use Rattle.cs_rows.specs.IndexReading.{division}
use Rattle.cs_engine.specs.Finding.{AsksAlone}
use Rattle.cs_engine.specs.HeldRanges.{FitsRange, IsHeldOver}
use Rattle.cs_engine.proofs.RangeLemmas.{still_held}
use Rattle.cs_rows.specs.Sources.{seen}
use Rattle.cs_rows.specs.Steps.{IsBaseOf}
use Rattle.cs_rows.proofs.InsideLemmas.{last_hits_less}
use Rattle.cs_engine.proofs.PlansLemmas.{all_met, first_parts, nothing_over, nothing_own}
use Rattle.cs_rows.proofs.WalkLemmas.{within_both, within_more}
use Rattle.cs_engine.proofs.WideLemmas.{alone_met}
use Rattle.cs_engine.proofs.find.find_fresh.Goals as goal

-- ---- no part
pub found_with-requires : goal.found_with-requires
found_with-requires g c = record {
  own = record {
    index = c.requires.over.opened.source;
    parts = c.requires.over.parts;
    fits = nothing_own c.args.over.query.now c.as_slice-parts.result.now c.as_slice-parts.ensures
        (grind (arith, common_steps)) c.first_entry-entry.result c.first_entry-entry.ensures (seen (g.I.Source.view c.args.over.index.now));
  };
}

pub returns-then-is_empty-clause-told : goal.returns-then-is_empty-clause-told
returns-then-is_empty-clause-told g c b is stands held =
    let q = c.args.over.query.now in
    c.in_ok-found.ensures.told b stands
    (nothing_over q c.as_slice-parts.result.now c.as_slice-parts.ensures
    (grind (arith, common_steps)) c.first_entry-entry.result c.first_entry-entry.ensures b (g.I.Source.view c.args.over.index.now) stands
    c.requires.over.opened.source)

-- ---- words alone
pub find_range-requires-clause-asks : goal.find_range-requires-clause-asks
find_range-requires-clause-asks g c =
    subst (λ (ps : List Part). AsksAlone (g.I.Source.view c.args.over.index.now) ps c.in-Some.words.0 c.in-Some.words.1) c.as_slice-parts.ensures
    c.in-Some.ensures.alone

pub find_range-requires-clause-wide : goal.find_range-requires-clause-wide
find_range-requires-clause-wide g c = c.in-Some.ensures.wide

pub returns-in-Some-clause-reads : goal.returns-in-Some-clause-reads
returns-in-Some-clause-reads g c =
    within_more c.in_ok-found-2.ensures.reads (alone_met (g.I.Source.view c.args.over.index.now) c.args.over.query.now c.as_slice-parts.ensures
    c.in-Some.ensures.alone)

pub returns-in_err-found-2-clause-reads : goal.returns-in_err-found-2-clause-reads
returns-in_err-found-2-clause-reads g c =
    within_more c.in_err-found-2.ensures.reads (alone_met (g.I.Source.view c.args.over.index.now) c.args.over.query.now c.as_slice-parts.ensures
    c.in-Some.ensures.alone)

pub returns-in_err-found-2-clause-held : goal.returns-in_err-found-2-clause-held
returns-in_err-found-2-clause-held g c = still_held (FitsRange (seen (g.I.Source.view c.args.over.index.now))) _ _ c.in_err-found-2.ensures.held c.requires.held

pub returns-in_err-found-2-clause-good : goal.returns-in_err-found-2-clause-good
returns-in_err-found-2-clause-good g c b is stands good =
    still_held (IsHeldOver ((g.I.Source.view c.args.over.index.now).stock b)) _ _ c.in_err-found-2.ensures.held good

pub returns-in-Some-clause-held : goal.returns-in-Some-clause-held
returns-in-Some-clause-held g c = still_held (FitsRange (seen (g.I.Source.view c.args.over.index.now))) _ _ c.in_ok-found-2.ensures.held c.requires.held

pub returns-in-Some-clause-good : goal.returns-in-Some-clause-good
returns-in-Some-clause-good g c b is stands good =
    still_held (IsHeldOver ((g.I.Source.view c.args.over.index.now).stock b)) _ _ c.in_ok-found-2.ensures.held good

-- ---- the parts before the last, and that one
pub returns-in_err-hits-clause-reads : goal.returns-in_err-hits-clause-reads
returns-in_err-hits-clause-reads g c =
    let met = all_met (division (g.I.Source.view c.args.over.index.now).index) c.args.over.query.now c.as_slice-parts.result.now
    c.as_slice-parts.ensures (grind (arith, common_steps)) in
    within_more c.hits_of_parts.ensures.reads (omega (arith, met))

pub returns-in_err-found-3-clause-reads : goal.returns-in_err-found-3-clause-reads
returns-in_err-found-3-clause-reads g c =
    let v = g.I.Source.view c.args.over.index.now in
    let met = all_met (division v.index) c.args.over.query.now c.as_slice-parts.result.now c.as_slice-parts.ensures (grind (arith, common_steps)) in
    let less = last_hits_less v c.requires.over.opened.source c.in_ok-hits.hits (last_of (out-Query c.args.over.query.now).parts) in
    within_both c.hits_of_parts.ensures.reads c.in_err-found-3.ensures.reads (omega (arith, met, less))

pub hits_of_parts-requires-clause-fits : goal.hits_of_parts-requires-clause-fits
hits_of_parts-requires-clause-fits g c = c.known_hits-known.ensures.fits (seen (g.I.Source.view c.args.over.index.now)) c.requires.held

pub find_last-requires-clause-base : goal.find_last-requires-clause-base
find_last-requires-clause-base g c =
    let parts = c.as_slice-parts.result.now in
    let many : length (take (length parts - 1) parts) ≡ length parts - 1 = (let l = length-take (length parts - 1) parts in omega (arith, l)) in
    let are = many ∙ ap (λ (xs : List Part). length xs - 1) c.as_slice-parts.ensures in
    subst (λ n. IsBaseOf (g.I.Source.view c.args.over.index.now).docs (MAX_ROW_SCORE * n) c.in_ok-hits.hits) are c.in_ok-hits.ensures.within

pub returns-clause-told : goal.returns-clause-told
returns-clause-told g c b is stands held =
    let q = c.args.over.query.now in
    let are = ap (λ (xs : List Part). take (length xs - 1) xs) c.as_slice-parts.ensures in
    c.in_ok-found-3.ensures.told b (c.hits_of_parts.ensures.store.bytes ∙ is) stands held
    (c.in_ok-hits.ensures.told b is stands (c.known_hits-known.ensures.over ((g.I.Source.view c.args.over.index.now).stock b) held) (before_last q)
    (first_parts q _ are))

pub returns-clause-reads : goal.returns-clause-reads
returns-clause-reads g c =
    let v = g.I.Source.view c.args.over.index.now in
    let met = all_met (division v.index) c.args.over.query.now c.as_slice-parts.result.now c.as_slice-parts.ensures (grind (arith, common_steps)) in
    let less = last_hits_less v c.requires.over.opened.source c.in_ok-hits.hits (last_of (out-Query c.args.over.query.now).parts) in
    within_both c.hits_of_parts.ensures.reads c.in_ok-found-3.ensures.reads (omega (arith, met, less))
