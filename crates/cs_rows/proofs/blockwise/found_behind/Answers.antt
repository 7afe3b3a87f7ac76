use Rattle.std.proofs.Common.{◌≡◌, ◌+◌, ◌<◌, ◌≤◌, ◌*◌, ◌-◌, ◌++◌, ℕ, List, [], Some, None, sym, ◌∙◌, ap, subst, length, map, get_or, refl, arith}
use Rattle.std.specs.Prelude.{All, filter}
use Rattle.std.proofs.lemmas.List.Elements.{All-weaker}
use Rattle.std.proofs.lemmas.Option.{none-some, same_Some}
use Rattle.cs_base.specs.declared.content.limits.TheConstants.{MAX_PARTS}
use Rattle.cs_base.specs.declared.content.scores.TheConstants.{MAX_ROW_SCORE}
use Rattle.cs_base.specs.declared.content.scores.Weights.{Weights}
use Rattle.cs_file.specs.BlockBytes.{HasFileBytes}
use Rattle.cs_file.specs.Indexes.{StandsFor}
use Rattle.cs_tables.specs.WordCounts.{AreCountable, HasCounted, is_chosen}
use Rattle.cs_rows.specs.Counting.{counted_rows}
use Rattle.cs_rows.specs.BestScores.{HasBestScores}
use Rattle.cs_rows.specs.IndexReading.{IsWithin, run_of}
use Rattle.cs_rows.specs.Packing.{doc_of_key, post_of_key, word_of_key}
use Rattle.cs_rows.specs.Skipping.{hit_blocks, may_hit}
use Rattle.cs_rows.proofs.PackingLemmas.{as_they_come, docs_below, keys_among, keys_between, words_between}
use Rattle.cs_rows.proofs.OverSources.{blocks_counted, posts_counted, run_countable}
use Rattle.cs_rows.proofs.PartSteps.{base_in}
use Rattle.cs_rows.proofs.BehindLemmas.{best_more}
use Rattle.cs_rows.proofs.SkippingLemmas.{hits_begin, hits_end, hits_go_on, hits_skip, hits_stop, next_block, nothing_more, read_where, sieve_of, skipped, two_runs}
use Rattle.cs_rows.proofs.WalkLemmas.{block_fails, fails_behind, hands_on}
use Rattle.cs_rows.proofs.blockwise.found_behind.Goals as goal

-- ---- what was gathered
pub count_keys-requires : goal.count_keys-requires
count_keys-requires g c =
    let h = c.requires.gathered.keys in
    let keys = c.deref.result.now in
    let between = keys_between (g.I.Source.view c.args.index.now).index.weights c.args.words.0 c.args.words.1 c.args.listed.now h.rows keys
    (c.deref.ensures.value ∙ h.are) h.packed h.passed in
    subst (λ n. All (λ k. (n ≤ word_of_key k) × (word_of_key k < c.in_ok-counts.counts.high)) keys) (sym c.in_ok-counts.ensures.low)
    (subst (λ n. All (λ k. (c.args.words.0 ≤ word_of_key k) × (word_of_key k < n)) keys) (sym c.in_ok-counts.ensures.high) between)

pub raise_keys-requires : goal.raise_keys-requires
raise_keys-requires g c =
    let v = (g.I.Source.view c.args.index.now) in
    let h = c.requires.gathered.keys in
    let keys = c.deref-2.result.now in
    let docs = c.in_ok-best.ensures.long ∙ c.docs.ensures in
    subst (λ n. All (λ k. doc_of_key k < n) keys) (sym docs)
    (keys_among v.index.weights (λ p. p.doc < v.docs) h.rows keys (c.deref-2.ensures.value ∙ h.are) h.packed
    (All-weaker (IsWithin v.docs (length v.words)) (λ p. p.doc < v.docs) (λ p w. w.doc) h.rows h.within))

pub loop-k-init : goal.loop-k-init
loop-k-init g c =
    let v = (g.I.Source.view c.args.index.now) in
    let from = c.args.gathered.now in
    let had = c.requires.gathered in
    let lo = c.args.words.0 in
    let hi = c.args.words.1 in
    let listed = c.args.listed.now in
    let upto : from.next ≤ length v.index.heads = (let u = had.upto in let w = had.met.within in omega (arith, u, w)) in
    record {
      walk = hits_begin (hit_blocks c.args.hits.now v.index.heads from.next from.next);
      low = c.count_keys.ensures.low ∙ c.in_ok-counts.ensures.low;
      high = c.count_keys.ensures.high ∙ c.in_ok-counts.ensures.high;
      told = λ b is stands own files.
          let h = own.keys in
          let same = ap (map (post_of_key v.index.weights)) c.deref.ensures.value ∙ as_they_come v.index.weights h.rows from.keys.items h.are h.packed
          ∙ h.run b refl stands in
          let few = run_countable b v stands c.requires.opened.source from.first from.next lo hi listed had.onward upto in
          subst (λ rows. HasCounted rows c.count_keys.new.counts) same
          (c.count_keys.ensures.counted v.index.weights (subst AreCountable (sym same) few) c.in_ok-counts.ensures.none);
      scored = λ b is stands own files.
          let h = own.keys in
          let same = ap (λ (w : Weights). map (post_of_key w) c.deref-2.result.now) c.weights.ensures
          ∙ ap (map (post_of_key v.index.weights)) c.deref-2.ensures.value ∙ as_they_come v.index.weights h.rows from.keys.items h.are h.packed
          ∙ h.run b refl stands in
          subst (λ rows. HasBestScores rows c.raise_keys.new.best.items) same (c.raise_keys.ensures.best [] c.in_ok-best.ensures.none);
      len = c.raise_keys.ensures.len ∙ c.in_ok-best.ensures.long ∙ c.docs.ensures;
      fit = c.requires.fit;
      file = λ b is files. files;
    }

-- ---- a block that no hit reaches
pub head-requires : goal.head-requires
head-requires g c = (let w = c.requires.gathered.met.within in omega (arith, w, c.loop-k-test.true))

pub may_hit-requires : goal.may_hit-requires
may_hit-requires g c = base_in (g.I.Source.view c.args.index.now).docs (MAX_ROW_SCORE * (MAX_PARTS - 1)) c.args.hits.now (omega arith) c.requires.base

pub loop-k-preserved-then-not-may_hit : goal.loop-k-preserved-then-not-may_hit
loop-k-preserved-then-not-may_hit g c =
    let v = (g.I.Source.view c.args.index.now) in
    let hits = c.args.hits.now in
    let from = c.args.gathered.now in
    let had = c.requires.gathered in
    let lo = c.args.words.0 in
    let hi = c.args.words.1 in
    let listed = c.args.listed.now in
    let inv = c.loop-k.invariant in
    let below : c.loop-k.k < length v.index.heads = (let w = had.met.within in omega (arith, w, c.loop-k-test.true)) in
    let onward : from.first ≤ c.loop-k.k = (let o = had.onward in omega (arith, o, c.loop-k.auto.k)) in
    let none = ap (may_hit hits) (sym c.head.ensures) ∙ sym c.may_hit.ensures ∙ c.if-not-may_hit.true in
    let on = next_block hits v.index.heads from.next c.loop-k.k c.loop-k.auto.k below in
    let is_sieve = sieve_of (g.S.Store.bytes c.args.store.now) v (MAX_ROW_SCORE * (MAX_PARTS - 1)) hits listed c.requires.opened (omega arith) c.requires.base
    c.requires.listed in
    record {
      walk = hits_skip inv.walk (omega (arith, on));
      low = inv.low;
      high = inv.high;
      told = λ b is stands own files.
          blocks_counted b v stands c.requires.opened.source from.first c.loop-k.k lo hi listed c.loop-k.counts c.loop-k.counts onward below inv.low inv.high
          (λ seen few has. nothing_more (λ rows. HasCounted rows c.loop-k.counts) seen _
          (skipped _ v hits listed is_sieve b stands c.loop-k.k c.loop-k.counts.low c.loop-k.counts.high below none) has) (inv.told b is stands own files);
      scored = λ b is stands own files.
          best_more b v stands c.requires.opened.source lo hi listed from.first c.loop-k.k c.loop-k.best.items c.loop-k.best.items onward below
          (λ seen has. nothing_more (λ rows. HasBestScores rows c.loop-k.best.items) seen _
          (skipped _ v hits listed is_sieve b stands c.loop-k.k lo hi below none) has) (inv.scored b is stands own files);
      len = inv.len;
      fit = inv.fit;
      file = inv.file;
    }

-- ---- another block
pub note_chosen-requires-clause-words : goal.note_chosen-requires-clause-words
note_chosen-requires-clause-words g c =
    let from = c.in_ok-seek_in.ensures.rows None (λ b is. absurd (none-some b is)) in
    let rows = c.deref-in-loop-k.result.now in
    let between = subst (All (λ p. (c.args.words.0 ≤ p.word) × (p.word < c.args.words.1))) (sym c.deref-in-loop-k.ensures.value)
    (words_between c.args.words.0 c.args.words.1 c.args.listed.now c.seek_in.new.sought.posts.items from.passed) in
    subst (λ n. All (λ p. (n ≤ p.word) × (p.word < c.loop-k.counts.high)) rows) (sym c.loop-k.invariant.low)
    (subst (λ n. All (λ p. (c.args.words.0 ≤ p.word) × (p.word < n)) rows) (sym c.loop-k.invariant.high) between)

pub note_chosen-requires-clause-known : goal.note_chosen-requires-clause-known
note_chosen-requires-clause-known g c =
    let v = g.I.Source.view c.args.index.now in
    let from = c.in_ok-seek_in.ensures.rows None (λ b is. absurd (none-some b is)) in
    subst (All (λ p. p.doc < length c.loop-k.best.items)) (sym c.deref-in-loop-k.ensures.value)
    (docs_below v c.seek_in.new.sought.posts.items c.loop-k.invariant.len from.within)

pub returns-in_err-seek_in-clause-reads : goal.returns-in_err-seek_in-clause-reads
returns-in_err-seek_in-clause-reads g c =
    let v = g.I.Source.view c.args.index.now in
    let hits = c.args.hits.now in
    let from = c.args.gathered.now in
    let within = c.requires.gathered.met.within in
    let below : c.loop-k.k < length v.index.heads = omega (arith, within, c.loop-k-test.true) in
    let one = read_where hits v.index.heads c.loop-k.k (ap (may_hit hits) (sym c.head.ensures) ∙ sym c.may_hit.ensures ∙ c.if-not-may_hit.false) in
    let on = next_block hits v.index.heads from.next c.loop-k.k c.loop-k.auto.k below in
    let all = two_runs hits v.index.heads from.next (c.loop-k.k + 1) from.last (omega (arith, c.loop-k.auto.k)) (omega (arith, c.loop-k-test.true)) within in
    hits_stop c.loop-k.invariant.walk c.seek_in.ensures.reads (omega (arith, all, on, one))

pub returns-in_err-seek_in-clause-store : goal.returns-in_err-seek_in-clause-store
returns-in_err-seek_in-clause-store g c =
    hands_on c.from_residual-in_err-seek_in.result c.from_residual-in_err-seek_in.ensures.1
    (fails_behind c.loop-k.invariant.walk.store
    (block_fails (let w = c.requires.gathered.met.within in omega (arith, w, c.loop-k-test.true)) c.in_err-seek_in.ensures.store))

pub returns-in_err-seek_in-clause-file : goal.returns-in_err-seek_in-clause-file
returns-in_err-seek_in-clause-file g c b is all = c.seek_in.ensures.file b (c.loop-k.invariant.walk.store.bytes ∙ is) (c.loop-k.invariant.file b is all)

pub loop-k-preserved : goal.loop-k-preserved
loop-k-preserved g c =
    let v = (g.I.Source.view c.args.index.now) in
    let from = c.args.gathered.now in
    let had = c.requires.gathered in
    let lo = c.args.words.0 in
    let hi = c.args.words.1 in
    let listed = c.args.listed.now in
    let t = is_chosen lo hi listed in
    let inv = c.loop-k.invariant in
    let read = c.in_ok-seek_in.ensures in
    let below : c.loop-k.k < length v.index.heads = (let w = had.met.within in omega (arith, w, c.loop-k-test.true)) in
    let onward : from.first ≤ c.loop-k.k = (let o = had.onward in omega (arith, o, c.loop-k.auto.k)) in
    let hits = c.args.hits.now in
    let one = read_where hits v.index.heads c.loop-k.k (ap (may_hit hits) (sym c.head.ensures) ∙ sym c.may_hit.ensures ∙ c.if-not-may_hit.false) in
    let on = next_block hits v.index.heads from.next c.loop-k.k c.loop-k.auto.k below in
    let Are : List ℕ → Type 0 = λ x. (g.S.Store.bytes c.loop-k.store ≡ Some x) × All (HasFileBytes x) c.loop-k.blocks.blocks.items in
    let handed : (b : List ℕ) → g.S.Store.bytes c.args.store.now ≡ Some b → StandsFor b v.index → All (HasFileBytes b) c.args.blocks.now.blocks.items
    → c.deref-in-loop-k.result.now ≡ filter t (get_or (v.blocks b) c.loop-k.k []) = λ b is stands files.
    let own = read.rows (Some b) (λ x same. subst Are (same_Some b x same) (inv.walk.store.bytes ∙ is, inv.file b is files)) in
    c.deref-in-loop-k.ensures.value ∙ own.read b refl stands in
    record {
      walk = hits_go_on inv.walk read.store read.reads (on ∙ ap (λ n. hit_blocks hits v.index.heads from.next c.loop-k.k + n) one);
      low = c.note_chosen.ensures.low ∙ inv.low;
      high = c.note_chosen.ensures.high ∙ inv.high;
      told = λ b is stands own files.
          posts_counted b v stands c.requires.opened.source from.first c.loop-k.k lo hi listed c.deref-in-loop-k.result.now c.loop-k.counts
          c.note_chosen.new.counts onward below (handed b is stands files) c.note_chosen.ensures.counted (inv.told b is stands own files);
      scored = λ b is stands own files.
          best_more b v stands c.requires.opened.source lo hi listed from.first c.loop-k.k c.loop-k.best.items
          c.note_chosen.new.best.items onward below
          (λ seen has. subst (λ rs. HasBestScores (seen ++ rs) c.note_chosen.new.best.items) (handed b is stands files) (c.note_chosen.ensures.best seen has))
          (inv.scored b is stands own files);
      len = c.note_chosen.ensures.len ∙ inv.len;
      fit = read.fit;
      file = λ b is files. read.file b (inv.walk.store.bytes ∙ is) (inv.file b is files);
    }

-- ---- all
pub found_with_held-requires-clause-base : goal.found_with_held-requires-clause-base
found_with_held-requires-clause-base g c = base_in (g.I.Source.view c.args.index.now).docs (MAX_ROW_SCORE * (MAX_PARTS - 1)) c.args.hits.now (omega arith)
    c.requires.base

pub returns-in_err-found-clause-reads : goal.returns-in_err-found-clause-reads
returns-in_err-found-clause-reads g c =
    let v = g.I.Source.view c.args.index.now in
    let from = c.args.gathered.now in
    let had = c.requires.gathered in
    let up = had.upto in
    let within = had.met.within in
    let all = two_runs c.args.hits.now v.index.heads from.next c.loop-k.k from.last c.loop-k.auto.k (omega (arith, c.loop-k.auto.k-end, up)) within in
    hits_end c.loop-k.invariant.walk (omega (arith, all))

pub returns-clause-reads : goal.returns-clause-reads
returns-clause-reads g c =
    let v = g.I.Source.view c.args.index.now in
    let from = c.args.gathered.now in
    let had = c.requires.gathered in
    let up = had.upto in
    let within = had.met.within in
    let all = two_runs c.args.hits.now v.index.heads from.next c.loop-k.k from.last c.loop-k.auto.k (omega (arith, c.loop-k.auto.k-end, up)) within in
    hits_end c.loop-k.invariant.walk (omega (arith, all))

pub returns-clause-told : goal.returns-clause-told
returns-clause-told g c b is stands own files =
    let v = (g.I.Source.view c.args.index.now) in
    let inv = c.loop-k.invariant in
    let had = c.requires.gathered in
    let first = c.args.gathered.now.first in
    let last = c.args.gathered.now.last in
    let lo = c.args.words.0 in
    let hi = c.args.words.1 in
    let listed = c.args.listed.now in
    let up = had.upto in
    let done : c.loop-k.k ≡ last = omega (arith, c.loop-k-test.false, c.loop-k.auto.k-end, up) in
    c.in_ok-found.ensures.told b first last stands had.met
    (subst (λ k. HasCounted (counted_rows (v.blocks b) first k lo hi listed) c.loop-k.counts) done (inv.told b is stands own files))
    (subst (λ k. HasBestScores (run_of (v.blocks b) first k (is_chosen lo hi listed)) c.loop-k.best.items) done (inv.scored b is stands own files))
