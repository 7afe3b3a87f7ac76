use Rattle.std.proofs.Common.{◌≡◌, ◌+◌, ◌<◌, ◌≤◌, ◌∙◌, ◌++◌, ℕ, [], ap, get_or, length, sym, subst, arith}
use Rattle.std.specs.Prelude.{All}
use Rattle.cs_tables.specs.WordCounts.{is_chosen}
use Rattle.cs_rows.specs.BestScores.{HasBestScores}
use Rattle.cs_rows.specs.IndexReading.{run_of}
use Rattle.cs_rows.specs.Skipping.{hit_blocks, hit_met, may_hit}
use Rattle.cs_rows.proofs.BehindLemmas.{best_found, best_more}
use Rattle.cs_rows.proofs.PackingLemmas.{held_chosen, held_known}
use Rattle.cs_rows.proofs.SkippingLemmas.{hits_end, hits_go_on, hits_skip, hits_stop, next_block, nothing_more, read_where, skipped, some_hit}
use Rattle.cs_rows.proofs.WalkLemmas.{block_fails, fails_behind, hands_on}
use Rattle.cs_rows.proofs.scored.best_in_blocks.Given as given
use Rattle.cs_rows.proofs.scored.best_in_blocks.Goals as goal
use Rattle.cs_rows.proofs.scored.best_in_blocks.Goals.{After-blocks-first}

-- the blocks that a hit reaches from the first up to one before the last
some : (g : given.Over) (c : After-blocks-first g) (k : ℕ) → c.blocks-first.result.0 ≤ k → k ≤ c.blocks-first.result.1
    → hit_blocks c.args.hits.now (g.I.Source.view c.args.index.now).index.heads c.blocks-first.result.0 k
    ≤ hit_met (g.I.Source.view c.args.index.now) c.args.hits.now c.args.words.0 c.args.words.1
some g c k le up = some_hit (g.I.Source.view c.args.index.now) c.args.hits.now c.args.words.0 c.args.words.1 c.blocks-first.result.0 c.blocks-first.result.1
    c.blocks-first.ensures k le up

pub head-requires : goal.head-requires
head-requires g c = omega (arith, c.blocks-first.ensures.within, c.loop-k-test.true)

pub may_hit-requires : goal.may_hit-requires
may_hit-requires g c = c.requires.sieve.base

-- ---- a block that no hit reaches
pub loop-k-preserved-then-not-may_hit : goal.loop-k-preserved-then-not-may_hit
loop-k-preserved-then-not-may_hit g c =
    let v = g.I.Source.view c.args.index.now in
    let hits = c.args.hits.now in
    let inv = c.loop-k.invariant in
    let below : c.loop-k.k < length v.index.heads = omega (arith, c.blocks-first.ensures.within, c.loop-k-test.true) in
    let none = ap (may_hit hits) (sym c.head.ensures) ∙ sym c.may_hit.ensures ∙ c.if-not-may_hit.true in
    let on = next_block hits v.index.heads c.blocks-first.result.0 c.loop-k.k c.loop-k.auto.k below in
    record {
      walk = hits_skip inv.walk (omega (arith, on));
      scored = λ b is stands.
          best_more b v stands c.requires.sieve.opened.source c.args.words.0 c.args.words.1 c.args.listed.now c.blocks-first.result.0 c.loop-k.k
          c.loop-k.best.items c.loop-k.best.items c.loop-k.auto.k below
          (λ seen has. nothing_more (λ rows. HasBestScores rows c.loop-k.best.items) seen _
          (skipped _ v hits c.args.listed.now c.requires.sieve b stands c.loop-k.k c.args.words.0 c.args.words.1 below none) has) (inv.scored b is stands);
      len = inv.len;
    }

-- ---- another block

pub returns-in_err-fetch_scored-clause-reads : goal.returns-in_err-fetch_scored-clause-reads
returns-in_err-fetch_scored-clause-reads g c =
    let v = g.I.Source.view c.args.index.now in
    let hits = c.args.hits.now in
    let below : c.loop-k.k < length v.index.heads = omega (arith, c.blocks-first.ensures.within, c.loop-k-test.true) in
    let one = read_where hits v.index.heads c.loop-k.k (ap (may_hit hits) (sym c.head.ensures) ∙ sym c.may_hit.ensures ∙ c.if-not-may_hit.false) in
    let on = next_block hits v.index.heads c.blocks-first.result.0 c.loop-k.k c.loop-k.auto.k below in
    let all = some g (goal.at.returns-in_err-fetch_scored-clause-reads g c).After-blocks-first (c.loop-k.k + 1) (omega (arith, c.loop-k.auto.k))
    (omega (arith, c.loop-k-test.true)) in
    hits_stop c.loop-k.invariant.walk c.fetch_scored.ensures.reads (omega (arith, all, on, one))

pub returns-in_err-fetch_scored-clause-store : goal.returns-in_err-fetch_scored-clause-store
returns-in_err-fetch_scored-clause-store g c =
    hands_on c.from_residual-in_err-fetch_scored.result c.from_residual-in_err-fetch_scored.ensures.1
    (fails_behind c.loop-k.invariant.walk.store
    (block_fails (omega (arith, c.blocks-first.ensures.within, c.loop-k-test.true)) c.in_err-fetch_scored.ensures.store))

pub raise_rows-requires-clause-known : goal.raise_rows-requires-clause-known
raise_rows-requires-clause-known g c =
    subst (λ n. All (λ d. d < n) c.fetch_scored.new.into.docs.items) (sym c.loop-k.invariant.len) c.in_ok-fetch_scored.ensures.docs

pub loop-k-preserved : goal.loop-k-preserved
loop-k-preserved g c =
    let v = g.I.Source.view c.args.index.now in
    let hits = c.args.hits.now in
    let inv = c.loop-k.invariant in
    let read = c.in_ok-fetch_scored.ensures in
    let below : c.loop-k.k < length v.index.heads = omega (arith, c.blocks-first.ensures.within, c.loop-k-test.true) in
    let one = read_where hits v.index.heads c.loop-k.k (ap (may_hit hits) (sym c.head.ensures) ∙ sym c.may_hit.ensures ∙ c.if-not-may_hit.false) in
    let on = next_block hits v.index.heads c.blocks-first.result.0 c.loop-k.k c.loop-k.auto.k below in
    record {
      walk = hits_go_on inv.walk read.store read.reads
          (on ∙ ap (λ n. hit_blocks hits v.index.heads c.blocks-first.result.0 c.loop-k.k + n) one);
      scored = λ b is stands.
          best_more b (g.I.Source.view c.args.index.now) stands c.requires.sieve.opened.source c.args.words.0 c.args.words.1 c.args.listed.now
          c.blocks-first.result.0 c.loop-k.k
          c.loop-k.best.items c.raise_rows.new.best.items c.loop-k.auto.k (omega (arith, c.blocks-first.ensures.within, c.loop-k-test.true))
          (c.raise_rows.ensures.best (get_or ((g.I.Source.view c.args.index.now).blocks b) c.loop-k.k [])
          (read.stood b (inv.walk.store.bytes ∙ is) stands)) (inv.scored b is stands);
      len = c.raise_rows.ensures.len ∙ inv.len;
    }

pub raise_at_hand-requires-clause-known : goal.raise_at_hand-requires-clause-known
raise_at_hand-requires-clause-known g c =
    held_known (g.I.Source.view c.args.index.now) c.requires.sieve.opened.source _ _ c.held.result.now c.held.ensures c.loop-k.invariant.len

pub raise_at_hand-requires-clause-long : goal.raise_at_hand-requires-clause-long
raise_at_hand-requires-clause-long g c = c.requires.sieve.long ∙ sym c.loop-k.invariant.len

pub returns-clause-told : goal.returns-clause-told
returns-clause-told g c b is stands =
    let met = c.blocks-first.ensures in
    let first = c.blocks-first.result.0 in
    let last = c.blocks-first.result.1 in
    let lo = c.args.words.0 in
    let hi = c.args.words.1 in
    let listed = c.args.listed.now in
    let up = met.ordered in
    let done : c.loop-k.k ≡ last = omega (arith, c.loop-k-test.false, c.loop-k.auto.k-end, up) in
    let v = g.I.Source.view c.args.index.now in
    let run = run_of (v.blocks b) first last (is_chosen lo hi listed) in
    best_found b v stands c.requires.sieve.opened.source lo hi listed first last c.raise_at_hand.new.best.items met
    (subst (λ h. HasBestScores (run ++ h) c.raise_at_hand.new.best.items) (held_chosen v lo hi listed c.held.result.now c.held.ensures)
    (c.raise_at_hand.ensures.best run
    (subst (λ k. HasBestScores (run_of (v.blocks b) first k (is_chosen lo hi listed)) c.loop-k.best.items) done (c.loop-k.invariant.scored b is stands))))

pub returns-clause-reads : goal.returns-clause-reads
returns-clause-reads g c =
    let up = c.blocks-first.ensures.ordered in
    hits_end c.loop-k.invariant.walk (some g (goal.at.returns-clause-reads g c).After-blocks-first c.loop-k.k c.loop-k.auto.k
    (omega (arith, c.loop-k.auto.k-end, up)))
