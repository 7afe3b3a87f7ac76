use Rattle.std.proofs.Common.{◌≡◌, ◌<◌, ◌≤◌, ◌∙◌, ◌++◌, ap, arith, inl, inr, map, subst, sym}
use Rattle.std.specs.Prelude.{All, filter}
use Rattle.std.proofs.lemmas.Bool.{cases_eq}
use Rattle.cs_tables.specs.TableListings.{post_table}
use Rattle.cs_tables.specs.WordCounts.{AreCountable, HasCounted, is_chosen}
use Rattle.cs_rows.specs.Counting.{counted_rows}
use Rattle.cs_rows.specs.Packing.{post_of_key, word_of_key}
use Rattle.cs_rows.proofs.OverSources.{chosen_countable, chosen_table, run_countable}
use Rattle.cs_rows.proofs.PackingLemmas.{as_they_come, held_chosen, held_known, keys_between}
use Rattle.cs_engine.proofs.facets.counted_in_hits.Goals as goal

pub count_keys-requires : goal.count_keys-requires
count_keys-requires g c =
    let h = c.in_ok-gathered.ensures.gathered.keys in
    let keys = c.deref.result.now in
    let between = keys_between (g.I.Source.view c.args.index.now).index.weights c.args.words.0 c.args.words.1 c.args.listed.now h.rows keys
    (c.deref.ensures.value ∙ h.are) h.packed h.passed in
    subst (λ n. All (λ k. (n ≤ word_of_key k) × (word_of_key k < c.in_ok-counts.counts.high)) keys) (sym c.in_ok-counts.ensures.low)
    (subst (λ n. All (λ k. (c.args.words.0 ≤ word_of_key k) × (word_of_key k < n)) keys) (sym c.in_ok-counts.ensures.high) between)

pub count_chosen-requires-clause-known : goal.count_chosen-requires-clause-known
count_chosen-requires-clause-known g c =
    held_known (g.I.Source.view c.args.index.now) c.requires.sieve.opened.source _ _ c.held.result.now c.held.ensures c.requires.sieve.long

pub returns-clause-told : goal.returns-clause-told
returns-clause-told g c b is stands =
    let v = g.I.Source.view c.args.index.now in
    let source = c.requires.sieve.opened.source in
    let from = c.in_ok-gathered.gathered in
    let had = c.in_ok-gathered.ensures.gathered in
    let h = had.keys in
    let met = had.met in
    let lo = c.args.words.0 in
    let hi = c.args.words.1 in
    let listed = c.args.listed.now in
    let held = c.held.result.now in
    let t = is_chosen lo hi listed in
    let le = had.upto in
    let end : from.next ≡ from.last = elim (cases_eq from.next from.last) [
      | inl same ↦ same
      | inr other ↦ absurd (let w = c.in_ok-gathered.ensures.whole (omega (arith, le, other)) in omega (arith, w.0, w.1))
    ] in
    let w = v.index.weights in
    let same = ap (map (post_of_key w)) c.deref.ensures.value ∙ as_they_come w h.rows from.keys.items h.are h.packed ∙ h.run b is stands in
    let some = run_countable b v stands source from.first from.next lo hi listed had.onward (let u = met.within in omega (arith, le, u)) in
    let counted = subst (λ rows. HasCounted rows c.count_keys.new.counts) same
    (c.count_keys.ensures.counted w (subst AreCountable (sym same) some) c.in_ok-counts.ensures.none) in
    let run = counted_rows (v.blocks b) from.first from.last lo hi listed in
    let all = subst (λ k. HasCounted (counted_rows (v.blocks b) from.first k lo hi listed) c.count_keys.new.counts) end counted in
    let rows = run ++ filter t held in
    let whole : rows ≡ run ++ filter t v.held = ap (λ ps. run ++ ps) (held_chosen v lo hi listed held c.held.ensures) in
    let few = subst AreCountable (sym whole) (chosen_countable b v stands source from.first from.last lo hi listed met) in
    record {
      seen = rows;
      countable = few;
      counted = c.count_chosen.ensures.counted run few all;
      same = ap post_table whole ∙ chosen_table b v stands source from.first from.last lo hi listed met;
    }
