use Rattle.std.proofs.Common.{◌≡◌, ◌+◌, ◌<◌, ◌≤◌, ◌∙◌, ℕ, [], sym, ap, subst, length, get_or, refl, arith}
use Rattle.std.specs.Prelude.{All}
use Rattle.cs_base.specs.declared.content.doc.Base.TheVariants as base
use Rattle.cs_tables.specs.WordCounts.{HasCounted, is_chosen}
use Rattle.cs_rows.specs.Counting.{counted_rows}
use Rattle.cs_rows.specs.BestScores.{HasBestScores}
use Rattle.cs_rows.specs.IndexReading.{run_of}
use Rattle.cs_rows.specs.Skipping.{hit_blocks}
use Rattle.cs_rows.specs.Sources.{met_in}
use Rattle.cs_rows.proofs.BehindLemmas.{best_more}
use Rattle.cs_rows.proofs.CountingLemmas.{listed_in}
use Rattle.cs_rows.proofs.OverSources.{blocks_counted}
use Rattle.cs_rows.proofs.SkippingLemmas.{all_reach, hits_end, hits_go_on, hits_stop, next_block, read_where, some_hit}
use Rattle.cs_rows.proofs.WalkLemmas.{block_fails, fails_behind, hands_on}
use Rattle.cs_rows.proofs.blockwise.found_in_all.Given as given
use Rattle.cs_rows.proofs.blockwise.found_in_all.Goals as goal
use Rattle.cs_rows.proofs.blockwise.found_in_all.Goals.{After-blocks-first}

-- the blocks from the first up to one before the last
some : (g : given.Over) (c : After-blocks-first g) (k : ℕ) → c.blocks-first.result.0 ≤ k → k ≤ c.blocks-first.result.1
    → hit_blocks base.All (g.I.Source.view c.args.index.now).index.heads c.blocks-first.result.0 k
    ≤ met_in (g.I.Source.view c.args.index.now) c.args.words.0 c.args.words.1
some g c k le up =
    let v = g.I.Source.view c.args.index.now in
    let few = some_hit v base.All c.args.words.0 c.args.words.1 c.blocks-first.result.0 c.blocks-first.result.1 c.blocks-first.ensures k le up in
    let all = all_reach v c.args.words.0 c.args.words.1 in
    omega (arith, few, all)

pub fetch_scored-requires-clause-in_range : goal.fetch_scored-requires-clause-in_range
fetch_scored-requires-clause-in_range g c = omega (arith, c.blocks-first.ensures.within, c.loop-k-test.true)

pub add_rows-requires-clause-even : goal.add_rows-requires-clause-even
add_rows-requires-clause-even g c = ap length c.deref-in-loop-k.ensures.value ∙ c.in_ok-fetch_scored.ensures.words_even ∙ sym (ap length c.deref.ensures.value)

pub add_rows-requires-clause-known : goal.add_rows-requires-clause-known
add_rows-requires-clause-known g c =
    let long = ap length c.deref-listed.ensures.value ∙ c.in_ok-all.ensures.long ∙ c.requires.opened.source.long in
    subst (λ n. All (λ d. d < n) c.deref.result.now) (sym long)
    (subst (All (λ d. d < (g.I.Source.view c.args.index.now).docs)) (sym c.deref.ensures.value) c.in_ok-fetch_scored.ensures.docs)

pub raise_rows-requires-clause-known : goal.raise_rows-requires-clause-known
raise_rows-requires-clause-known g c =
    subst (λ n. All (λ d. d < n) c.fetch_scored.new.into.docs.items) (sym c.loop-k.invariant.len) c.in_ok-fetch_scored.ensures.docs

pub raise_rows-requires-clause-long : goal.raise_rows-requires-clause-long
raise_rows-requires-clause-long g c =
    ap length c.deref-listed.ensures.value ∙ c.in_ok-all.ensures.long ∙ c.requires.opened.source.long ∙ sym c.loop-k.invariant.len

pub returns-in_err-fetch_scored-clause-reads : goal.returns-in_err-fetch_scored-clause-reads
returns-in_err-fetch_scored-clause-reads g c =
    let v = g.I.Source.view c.args.index.now in
    let below : c.loop-k.k < length v.index.heads = omega (arith, c.blocks-first.ensures.within, c.loop-k-test.true) in
    let one = read_where base.All v.index.heads c.loop-k.k refl in
    let on = next_block base.All v.index.heads c.blocks-first.result.0 c.loop-k.k c.loop-k.auto.k below in
    let all = some g (goal.at.returns-in_err-fetch_scored-clause-reads g c).After-blocks-first (c.loop-k.k + 1) (omega (arith, c.loop-k.auto.k))
    (omega (arith, c.loop-k-test.true)) in
    hits_stop c.loop-k.invariant.walk c.fetch_scored.ensures.reads (omega (arith, all, on, one))

pub returns-in_err-fetch_scored-clause-store : goal.returns-in_err-fetch_scored-clause-store
returns-in_err-fetch_scored-clause-store g c =
    hands_on c.from_residual-in_err-fetch_scored.result c.from_residual-in_err-fetch_scored.ensures.1
    (fails_behind c.loop-k.invariant.walk.store
    (block_fails (omega (arith, c.blocks-first.ensures.within, c.loop-k-test.true)) c.in_err-fetch_scored.ensures.store))

pub loop-k-preserved : goal.loop-k-preserved
loop-k-preserved g c =
    let v = g.I.Source.view c.args.index.now in
    let source = c.requires.opened.source in
    let lo = c.args.words.0 in
    let hi = c.args.words.1 in
    let first = c.blocks-first.result.0 in
    let listed = c.deref-listed.result.now in
    let inv = c.loop-k.invariant in
    let read = c.in_ok-fetch_scored.ensures in
    let below : c.loop-k.k < length v.index.heads = omega (arith, c.blocks-first.ensures.within, c.loop-k-test.true) in
    let one = read_where base.All v.index.heads c.loop-k.k refl in
    let on = next_block base.All v.index.heads first c.loop-k.k c.loop-k.auto.k below in
    record {
      walk = hits_go_on inv.walk read.store read.reads (on ∙ ap (λ n. hit_blocks base.All v.index.heads first c.loop-k.k + n) one);
      low = c.add_rows.ensures.low ∙ inv.low;
      high = c.add_rows.ensures.high ∙ inv.high;
      told = λ b is stands.
          let posts = read.stood b (inv.walk.store.bytes ∙ is) stands in
          blocks_counted b v stands source first c.loop-k.k lo hi listed c.loop-k.counts c.add_rows.new.self c.loop-k.auto.k below inv.low inv.high
          (c.add_rows.ensures.counted (get_or (v.blocks b) c.loop-k.k []) (c.deref.ensures.value ∙ posts.0.0)
          (c.deref-in-loop-k.ensures.value ∙ posts.0.1)) (inv.told b is stands);
      scored = λ b is stands.
          best_more b v stands source lo hi listed first c.loop-k.k c.loop-k.best.items c.raise_rows.new.best.items c.loop-k.auto.k below
          (c.raise_rows.ensures.best (get_or (v.blocks b) c.loop-k.k []) (read.stood b (inv.walk.store.bytes ∙ is) stands)) (inv.scored b is stands);
      len = c.raise_rows.ensures.len ∙ inv.len;
    }

-- ---- all
pub found_with_held-requires-clause-listed : goal.found_with_held-requires-clause-listed
found_with_held-requires-clause-listed g c =
    listed_in base.All c.in_ok-all.all.items c.deref-listed.result.now c.in_ok-all.ensures c.deref-listed.ensures.value

pub returns-in_err-found-clause-reads : goal.returns-in_err-found-clause-reads
returns-in_err-found-clause-reads g c =
    let up = c.blocks-first.ensures.ordered in
    hits_end c.loop-k.invariant.walk (some g (goal.at.returns-in_err-found-clause-reads g c).After-blocks-first c.loop-k.k c.loop-k.auto.k
    (omega (arith, c.loop-k.auto.k-end, up)))

pub returns-clause-reads : goal.returns-clause-reads
returns-clause-reads g c =
    let up = c.blocks-first.ensures.ordered in
    hits_end c.loop-k.invariant.walk (some g (goal.at.returns-clause-reads g c).After-blocks-first c.loop-k.k c.loop-k.auto.k
    (omega (arith, c.loop-k.auto.k-end, up)))

pub returns-clause-told : goal.returns-clause-told
returns-clause-told g c b is stands =
    let v = g.I.Source.view c.args.index.now in
    let inv = c.loop-k.invariant in
    let met = c.blocks-first.ensures in
    let first = c.blocks-first.result.0 in
    let last = c.blocks-first.result.1 in
    let lo = c.args.words.0 in
    let hi = c.args.words.1 in
    let listed = c.deref-listed.result.now in
    let up = met.ordered in
    let done : c.loop-k.k ≡ last = omega (arith, c.loop-k-test.false, c.loop-k.auto.k-end, up) in
    c.in_ok-found.ensures.told b first last stands met
    (subst (λ k. HasCounted (counted_rows (v.blocks b) first k lo hi listed) c.loop-k.counts) done (inv.told b is stands))
    (subst (λ k. HasBestScores (run_of (v.blocks b) first k (is_chosen lo hi listed)) c.loop-k.best.items) done (inv.scored b is stands))

pub returns-clause-base : goal.returns-clause-base
returns-clause-base g c = c.in_ok-found.ensures.base 0 tt
