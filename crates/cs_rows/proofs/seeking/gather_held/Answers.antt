use Rattle.std.proofs.Common.{◌≡◌, ◌+◌, ◌<◌, ◌≤◌, ◌∙◌, ◌++◌, Bool, List, ℕ, Option, Some, None, ap, length, map, subst, sym, arith}
use Rattle.std.specs.Option.{ForSome}
use Rattle.std.proofs.lemmas.Option.{none-some}
use Rattle.cs_base.specs.declared.content.doc.Base.{Base}
use Rattle.cs_rows.specs.Sources.{SourceView}
use Rattle.std.specs.Prelude.{All}
use Rattle.cs_base.specs.declared.content.doc.Post.{Post}
use Rattle.cs_base.specs.declared.content.scores.Weights.{Weights}
use Rattle.cs_base.specs.outside.Causes.{ReadsWithin}
use Rattle.cs_tables.specs.WordCounts.{is_chosen}
use Rattle.cs_rows.specs.Packing.{HasKeys, IsPacked, key_of}
use Rattle.cs_rows.specs.Skipping.{IsSieve, hit_blocks, hit_met, may_hit}
use Rattle.cs_rows.proofs.PackingLemmas.{keys_more, no_keys}
use Rattle.cs_rows.proofs.SkippingLemmas.{hits_begin, hits_end, hits_go_on, hits_skip, hits_stop, next_block, read_where, same_keys, some_hit}
use Rattle.cs_rows.proofs.WalkLemmas.{block_fails, fails_behind, hands_on}
use Rattle.cs_rows.proofs.seeking.gather_held.Given as given
use Rattle.cs_rows.proofs.seeking.gather_held.Goals as goal
use Rattle.cs_rows.proofs.seeking.gather_held.Goals.{After-blocks-first}

-- what no hit reaches isn't read of any bytes that the store tells
sieve_told : {bytes : Option (List ℕ)} {v : SourceView} {hits : Base} {listed : List Bool} → IsSieve bytes v hits listed → (told : Option (List ℕ))
    → ForSome told (λ b. bytes ≡ Some b) → IsSieve told v hits listed
sieve_told s told h = record { opened = record { source = s.opened.source; fits = λ b is. s.opened.fits b (h b is) }; base = s.base; long = s.long; inside = s.inside }

-- the blocks that a hit reaches from the first up to one before the last
some : (g : given.Over) (c : After-blocks-first g) (k : ℕ) → c.blocks-first.result.0 ≤ k → k ≤ c.blocks-first.result.1
    → hit_blocks c.args.hits.now (g.I.Source.view c.args.index.now).index.heads c.blocks-first.result.0 k
    ≤ hit_met (g.I.Source.view c.args.index.now) c.args.hits.now c.args.words.0 c.args.words.1
some g c k le up = some_hit (g.I.Source.view c.args.index.now) c.args.hits.now c.args.words.0 c.args.words.1 c.blocks-first.result.0 c.blocks-first.result.1
    c.blocks-first.ensures k le up

pub loop-k-init : goal.loop-k-init
loop-k-init g c = record {
  walk = hits_begin (hit_blocks c.args.hits.now (g.I.Source.view c.args.index.now).index.heads c.blocks-first.result.0 c.blocks-first.result.0);
  keys = λ told h. no_keys (g.I.Source.view c.args.index.now) told c.blocks-first.result.0
      (is_chosen c.args.words.0 c.args.words.1 c.args.listed.now) c.new-keys.result.items c.new-keys.ensures.items;
  fit = c.reach.ensures.fit (g.I.Source.view c.args.index.now).index c.requires.fit;
  file = λ b is. c.reach.ensures.file b;
}

pub head-requires : goal.head-requires
head-requires g c = omega (arith, c.blocks-first.ensures.within, c.loop-k-test.true)

pub may_hit-requires : goal.may_hit-requires
may_hit-requires g c = c.requires.sieve.base

-- ---- a block that no hit reaches
pub loop-k-preserved-then-not-may_hit : goal.loop-k-preserved-then-not-may_hit
loop-k-preserved-then-not-may_hit g c =
    let v = g.I.Source.view c.args.index.now in
    let hits = c.args.hits.now in
    let below : c.loop-k.k < length v.index.heads = omega (arith, c.blocks-first.ensures.within, c.loop-k-test.true) in
    let none = ap (may_hit hits) (sym c.head.ensures) ∙ sym c.may_hit.ensures ∙ c.if-not-may_hit.true in
    let on = next_block hits v.index.heads c.blocks-first.result.0 c.loop-k.k c.loop-k.auto.k below in
    record {
      walk = hits_skip c.loop-k.invariant.walk (omega (arith, on));
      keys = λ told h. same_keys told v hits c.args.listed.now (sieve_told c.requires.sieve told (λ b is. (h b is).0)) c.blocks-first.result.0 c.loop-k.k
          c.args.words.0 c.args.words.1 c.loop-k.keys.items c.loop-k.auto.k below none (c.loop-k.invariant.keys told h);
      fit = c.loop-k.invariant.fit;
      file = c.loop-k.invariant.file;
    }

-- ---- another block
pub returns-in_err-seek_in-clause-reads : goal.returns-in_err-seek_in-clause-reads
returns-in_err-seek_in-clause-reads g c =
    let v = g.I.Source.view c.args.index.now in
    let hits = c.args.hits.now in
    let below : c.loop-k.k < length v.index.heads = omega (arith, c.blocks-first.ensures.within, c.loop-k-test.true) in
    let one = read_where hits v.index.heads c.loop-k.k (ap (may_hit hits) (sym c.head.ensures) ∙ sym c.may_hit.ensures ∙ c.if-not-may_hit.false) in
    let on = next_block hits v.index.heads c.blocks-first.result.0 c.loop-k.k c.loop-k.auto.k below in
    let all = some g (goal.at.returns-in_err-seek_in-clause-reads g c).After-blocks-first (c.loop-k.k + 1) (omega (arith, c.loop-k.auto.k))
    (omega (arith, c.loop-k-test.true)) in
    hits_stop c.loop-k.invariant.walk c.seek_in.ensures.reads (omega (arith, all, on, one))

pub returns-in_err-seek_in-clause-store : goal.returns-in_err-seek_in-clause-store
returns-in_err-seek_in-clause-store g c =
    hands_on c.from_residual.result c.from_residual.ensures.1
    (fails_behind c.loop-k.invariant.walk.store
    (block_fails (omega (arith, c.blocks-first.ensures.within, c.loop-k-test.true)) c.in_err-seek_in.ensures.store))

pub pack-requires : goal.pack-requires
pack-requires g c =
    let v = g.I.Source.view c.args.index.now in
    let from = c.in_ok-seek_in.ensures.rows None (λ b is. absurd (none-some b is)) in
    subst (λ (w : Weights). All (IsPacked w) c.deref.result.now) (sym c.weights-weights.ensures)
    (subst (All (IsPacked v.index.weights)) (sym c.deref.ensures.value) from.packed)

pub returns-in_err-pack-clause-reads : goal.returns-in_err-pack-clause-reads
returns-in_err-pack-clause-reads g c =
    let v = g.I.Source.view c.args.index.now in
    let hits = c.args.hits.now in
    let below : c.loop-k.k < length v.index.heads = omega (arith, c.blocks-first.ensures.within, c.loop-k-test.true) in
    let one = read_where hits v.index.heads c.loop-k.k (ap (may_hit hits) (sym c.head.ensures) ∙ sym c.may_hit.ensures ∙ c.if-not-may_hit.false) in
    let on = next_block hits v.index.heads c.blocks-first.result.0 c.loop-k.k c.loop-k.auto.k below in
    let all = some g (goal.at.returns-in_err-pack-clause-reads g c).After-blocks-first (c.loop-k.k + 1) (omega (arith, c.loop-k.auto.k))
    (omega (arith, c.loop-k-test.true)) in
    hits_stop c.loop-k.invariant.walk c.seek_in.ensures.reads (omega (arith, all, on, one))

pub loop-k-preserved : goal.loop-k-preserved
loop-k-preserved g c =
    let v = g.I.Source.view c.args.index.now in
    let hits = c.args.hits.now in
    let inv = c.loop-k.invariant in
    let source = c.requires.sieve.opened.source in
    let read = c.in_ok-seek_in.ensures in
    let old = c.loop-k.keys.items in
    let posts = c.seek_in.new.sought.posts.items in
    let added = c.in_ok-pack.ensures ∙ ap (λ (w : Weights). old ++ map (key_of w) c.deref.result.now) c.weights-weights.ensures
    ∙ ap (λ (ps : List Post). old ++ map (key_of v.index.weights) ps) c.deref.ensures.value in
    let below : c.loop-k.k < length v.index.heads = omega (arith, c.blocks-first.ensures.within, c.loop-k-test.true) in
    let one = read_where hits v.index.heads c.loop-k.k (ap (may_hit hits) (sym c.head.ensures) ∙ sym c.may_hit.ensures ∙ c.if-not-may_hit.false) in
    let on = next_block hits v.index.heads c.blocks-first.result.0 c.loop-k.k c.loop-k.auto.k below in
    record {
      walk = hits_go_on inv.walk read.store read.reads
          (on ∙ ap (λ n. hit_blocks hits v.index.heads c.blocks-first.result.0 c.loop-k.k + n) one);
      keys = λ told h.
          keys_more v source told c.blocks-first.result.0 c.loop-k.k
          (is_chosen c.args.words.0 c.args.words.1 c.args.listed.now) old c.pack.new.keys.items posts c.loop-k.auto.k below added
          (read.rows told (λ b is. (inv.walk.store.bytes ∙ (h b is).0, inv.file b (h b is).0 (h b is).1))) (inv.keys told h);
      fit = read.fit;
      file = λ b is all. read.file b (inv.walk.store.bytes ∙ is) (inv.file b is all);
    }

pub returns-in_err-seek_in-clause-file : goal.returns-in_err-seek_in-clause-file
returns-in_err-seek_in-clause-file g c b is all = c.seek_in.ensures.file b (c.loop-k.invariant.walk.store.bytes ∙ is) (c.loop-k.invariant.file b is all)

pub returns-in_err-pack-clause-file : goal.returns-in_err-pack-clause-file
returns-in_err-pack-clause-file g c b is all = c.seek_in.ensures.file b (c.loop-k.invariant.walk.store.bytes ∙ is) (c.loop-k.invariant.file b is all)

-- ---- too many
pub returns-then-len-room-clause-read : goal.returns-then-len-room-clause-read
returns-then-len-room-clause-read g c = hits_end c.loop-k.invariant.walk (omega arith)

pub returns-then-len-room-clause-reads : goal.returns-then-len-room-clause-reads
returns-then-len-room-clause-reads g c =
    hits_end c.loop-k.invariant.walk (some g (goal.at.returns-then-len-room-clause-reads g c).After-blocks-first c.loop-k.k c.loop-k.auto.k
    (omega (arith, c.loop-k-test.true)))

-- ---- all
pub returns-clause-gathered : goal.returns-clause-gathered
returns-clause-gathered g c told h =
    let met = c.blocks-first.ensures in
    let up = met.ordered in
    let done : c.loop-k.k ≡ c.blocks-first.result.1 = omega (arith, c.loop-k-test.false, c.loop-k.auto.k-end, up) in
    record {
      met = met;
      onward = up;
      upto = omega arith;
      keys = subst (λ k. HasKeys (g.I.Source.view c.args.index.now) told c.blocks-first.result.0 k
          (is_chosen c.args.words.0 c.args.words.1 c.args.listed.now) c.loop-k.keys.items) done (c.loop-k.invariant.keys told h);
    }

pub returns-clause-read : goal.returns-clause-read
returns-clause-read g c =
    let up = c.blocks-first.ensures.ordered in
    let done : c.loop-k.k ≡ c.blocks-first.result.1 = omega (arith, c.loop-k-test.false, c.loop-k.auto.k-end, up) in
    subst (λ k. ReadsWithin (hit_blocks c.args.hits.now (g.I.Source.view c.args.index.now).index.heads c.blocks-first.result.0 k)
    (g.S.Store.reads c.args.store.now) (g.S.Store.reads c.loop-k.store)) done (hits_end c.loop-k.invariant.walk (omega arith))

pub returns-clause-reads : goal.returns-clause-reads
returns-clause-reads g c =
    let up = c.blocks-first.ensures.ordered in
    hits_end c.loop-k.invariant.walk (some g (goal.at.returns-clause-reads g c).After-blocks-first c.loop-k.k c.loop-k.auto.k
    (omega (arith, c.loop-k.auto.k-end, up)))
