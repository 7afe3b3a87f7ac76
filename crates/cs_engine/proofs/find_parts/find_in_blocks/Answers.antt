use Rattle.std.proofs.Common.{◌*◌, ◌-◌, ◌≤◌, ◌∙◌, ◌++◌, List, ℕ, Some, None, refl, length, map, ap, subst, sym, arith, length-append}
use Rattle.std.specs.Prelude.{All, filter}
use Rattle.std.specs.Option.{ForSome}
use Rattle.std.proofs.lemmas.Bool.{ltb-false, ltb-true}
use Rattle.std.proofs.lemmas.Option.{none-some, same_Some}
use Rattle.std.proofs.lemmas.List.{length-map}
use Rattle.cs_base.specs.declared.content.query.Query.{out-Query}
use Rattle.cs_base.specs.declared.content.scores.TheConstants.{MAX_ROW_SCORE}
use Rattle.cs_base.specs.declared.content.scores.Weights.{Weights}
use Rattle.cs_tables.specs.WordCounts.{is_chosen}
use Rattle.cs_rows.specs.Packing.{IsPacked, key_of}
use Rattle.cs_rows.specs.IndexReading.{run_of}
use Rattle.cs_rows.specs.Sources.{seen}
use Rattle.cs_rows.proofs.CountingLemmas.{listed_in}
use Rattle.cs_engine.proofs.LooseLemmas.{chosen_entry, entry_fits}
use Rattle.cs_rows.proofs.SkippingLemmas.{few_hit, sieve_of, two_runs}
use Rattle.cs_rows.proofs.WalkLemmas.{within_both}
use Rattle.cs_rows.proofs.PackingLemmas.{all_in_room, chosen_are, held_chosen, held_known, held_packed, ordered_by, ordered_passed, ordered_told, ordered_within, run_longer, with_held}
use Rattle.cs_engine.proofs.find_parts.find_in_blocks.Goals as goal

-- ---- what is gathered over no bytes, and over those that the store tells
nothing_told : (P : List ℕ → Type 0) → ForSome None P
nothing_told P = λ b is. absurd (none-some b is)

these_told : (P : List ℕ → Type 0) (b : List ℕ) → P b → ForSome (Some b) P
these_told P b h = λ x is. subst P (same_Some b x is) h

-- ---- what blocks are skipped by
pub gather_held-requires-clause-sieve : goal.gather_held-requires-clause-sieve
gather_held-requires-clause-sieve g c =
    let v = (g.I.Source.view c.args.over.index.now) in
    let n = length (out-Query c.args.over.query.now).parts in
    let few = c.requires.over.parts in
    sieve_of (g.S.Store.bytes c.args.store.now) v (MAX_ROW_SCORE * (n - 1)) c.args.hits c.deref-marks.result.now c.requires.over.opened (omega (arith, few))
    c.requires.asks.base
    (listed_in c.args.hits c.in_ok-listed.listed.items c.deref-marks.result.now c.in_ok-listed.ensures c.deref-marks.ensures.value)

-- ---- what is in memory
pub many_chosen-requires : goal.many_chosen-requires
many_chosen-requires g c =
    held_known (g.I.Source.view c.args.over.index.now) c.requires.over.opened.source _ _ c.held-added.result.now c.held-added.ensures
    (ap length c.deref-marks.ensures.value ∙ c.in_ok-listed.ensures.long ∙ c.requires.over.opened.source.long)

pub pack_chosen-requires-clause-packed : goal.pack_chosen-requires-clause-packed
pack_chosen-requires-clause-packed g c =
    subst (λ (w : Weights). All (IsPacked w) c.held-added.result.now) (sym c.weights-weights.ensures)
    (held_packed (g.I.Source.view c.args.over.index.now) c.requires.over.opened.source _ _ c.held-added.result.now c.held-added.ensures)

pub pack_chosen-requires-clause-known : goal.pack_chosen-requires-clause-known
pack_chosen-requires-clause-known g c =
    held_known (g.I.Source.view c.args.over.index.now) c.requires.over.opened.source _ _ c.held-added.result.now c.held-added.ensures
    (ap length c.deref-marks.ensures.value ∙ c.in_ok-listed.ensures.long ∙ c.requires.over.opened.source.long)

-- ---- too many rows
pub returns-then-are_more-clause-told : goal.returns-then-are_more-clause-told
returns-then-are_more-clause-told g c b is stands files by p =
    let v = (g.I.Source.view c.args.over.index.now) in
    let lo = c.args.words.0 in
    let hi = c.args.words.1 in
    let listed = c.deref-marks.result.now in
    let from = c.in_ok-gathered.gathered in
    let had = c.in_ok-gathered.ensures.gathered (Some b) (these_told _ b (is, files)) in
    let h = had.keys in
    let t = is_chosen lo hi listed in
    let more = run_longer t (v.blocks b) from.first from.next from.last had.upto in
    let over = ltb-true _ _ (sym c.are_more.ensures ∙ c.if-are_more.true) in
    let rows = run_of (v.blocks b) from.first from.last t ++ filter t v.held in
    let long = (chosen_are b v stands c.requires.over.opened.source from.first from.last lo hi listed had.met).long in
    c.in_ok-found.ensures.told b (c.gather_held.ensures.store.bytes ∙ is) stands had (c.gather_held.ensures.file b is files) by
    (omega (
      arith,
      over,
      c.len.ensures,
      c.many_chosen.ensures,
      ap length (held_chosen v lo hi listed c.held-added.result.now c.held-added.ensures),
      c.saturating_sub-room.ensures,
      c.listed_count.ensures,
      ap length h.are,
      length-map h.rows (key_of v.index.weights),
      ap length (h.run b refl stands),
      length-append (run_of (v.blocks b) from.first from.last t) (filter t v.held),
      more,
      long,
    ))
    p

pub returns-in_err-found-clause-reads : goal.returns-in_err-found-clause-reads
returns-in_err-found-clause-reads g c =
    let v = (g.I.Source.view c.args.over.index.now) in
    let had = c.in_ok-gathered.ensures.gathered None (nothing_told _) in
    let from = c.in_ok-gathered.gathered in
    let many = few_hit v c.args.hits c.args.words.0 c.args.words.1 from.first from.last had.met in
    let runs = two_runs c.args.hits v.index.heads from.first from.next from.last had.onward had.upto had.met.within in
    within_both c.in_ok-gathered.ensures.read c.in_err-found.ensures.reads (omega (arith, many, runs))

pub returns-then-are_more-clause-reads : goal.returns-then-are_more-clause-reads
returns-then-are_more-clause-reads g c =
    let v = (g.I.Source.view c.args.over.index.now) in
    let had = c.in_ok-gathered.ensures.gathered None (nothing_told _) in
    let from = c.in_ok-gathered.gathered in
    let many = few_hit v c.args.hits c.args.words.0 c.args.words.1 from.first from.last had.met in
    let runs = two_runs c.args.hits v.index.heads from.first from.next from.last had.onward had.upto had.met.within in
    within_both c.in_ok-gathered.ensures.read c.in_ok-found.ensures.reads (omega (arith, many, runs))

-- ---- rows in order
pub found_with-requires : goal.found_with-requires
found_with-requires g c =
    let v = (g.I.Source.view c.args.over.index.now) in
    let source = c.requires.over.opened.source in
    let lo = c.args.words.0 in
    let hi = c.args.words.1 in
    let listed = c.deref-marks.result.now in
    let held = c.held-added.result.now in
    let old = c.in_ok-gathered.gathered.keys.items in
    let has = listed_in c.args.hits c.in_ok-listed.listed.items listed c.in_ok-listed.ensures c.deref-marks.ensures.value in
    let added = c.in_ok-pack_chosen.ensures ∙ ap (λ (w : Weights). old ++ map (key_of w) (filter (is_chosen lo hi listed) held)) c.weights-weights.ensures in
    let h = with_held v source None lo hi listed c.in_ok-gathered.gathered held c.pack_chosen.new.keys.items
    (c.in_ok-gathered.ensures.gathered None (nothing_told _)) c.held-added.ensures added in
    let o = ordered_by c.weights-weights.ensures c.in_ok-rows.ensures h.rows h.are h.packed in
    let rows = c.in_ok-rows.rows.posts in
    record {
      own = record {
        index = source;
        parts = c.requires.over.parts;
        fits = entry_fits v c.args.over.query.now c.args.hits lo hi c.requires.asks listed has source.long rows
            (ordered_within (seen v) h.rows rows h.within o) (ordered_passed lo hi listed h.rows rows h.passed o);
      };
    }

pub returns-clause-told : goal.returns-clause-told
returns-clause-told g c b is stands files by =
    let v = (g.I.Source.view c.args.over.index.now) in
    let source = c.requires.over.opened.source in
    let lo = c.args.words.0 in
    let hi = c.args.words.1 in
    let listed = c.deref-marks.result.now in
    let held = c.held-added.result.now in
    let old = c.in_ok-gathered.gathered.keys.items in
    let has = listed_in c.args.hits c.in_ok-listed.listed.items listed c.in_ok-listed.ensures c.deref-marks.ensures.value in
    let had = c.in_ok-gathered.ensures.gathered (Some b) (these_told _ b (is, files)) in
    let under = ltb-false _ _ (sym c.are_more.ensures ∙ c.if-are_more.false) in
    let few : length old ≤ c.saturating_sub-room.result = omega (arith, under, c.len.ensures) in
    let added = c.in_ok-pack_chosen.ensures ∙ ap (λ (w : Weights). old ++ map (key_of w) (filter (is_chosen lo hi listed) held)) c.weights-weights.ensures in
    let r = all_in_room v source (Some b) lo hi listed c.in_ok-gathered.gathered
    c.saturating_sub-room.result held c.pack_chosen.new.keys.items had c.in_ok-gathered.ensures.whole few c.held-added.ensures added in
    let o = ordered_by c.weights-weights.ensures c.in_ok-rows.ensures r.rows r.are r.packed in
    let rows = c.in_ok-rows.rows.posts in
    c.in_ok-found-2.ensures.told b stands
    (chosen_entry v c.args.over.query.now c.args.hits lo hi c.requires.asks listed has b stands source
    by rows (ordered_told b v stands source lo hi listed r.rows rows (r.stood b refl stands) o))

-- ---- the rest of the blocks
pub find_behind-requires-clause-gathered : goal.find_behind-requires-clause-gathered
find_behind-requires-clause-gathered g c = c.in_ok-gathered.ensures.gathered None (nothing_told _)

pub returns-then-are_more-clause-file : goal.returns-then-are_more-clause-file
returns-then-are_more-clause-file g c b is files =
    c.find_behind.ensures.file b (c.gather_held.ensures.store.bytes ∙ is) (c.gather_held.ensures.file b is files)

pub returns-in_err-found-clause-file : goal.returns-in_err-found-clause-file
returns-in_err-found-clause-file g c b is files =
    c.find_behind.ensures.file b (c.gather_held.ensures.store.bytes ∙ is) (c.gather_held.ensures.file b is files)
