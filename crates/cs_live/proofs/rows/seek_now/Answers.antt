use Rattle.std.proofs.Common.{◌≡◌, ◌∙◌, ◌<◌, false, true, ap, get_or, length, subst, sym, take, arith}
use Rattle.std.specs.Prelude.{All, filter}
use Rattle.std.proofs.lemmas.List.Elements.{All-weaker}
use Rattle.cs_rows.specs.Sources.{is_there}
use Rattle.cs_file.specs.CallAnswers.{IsRanged}
use Rattle.cs_file.specs.Indexes.{block_posts}
use Rattle.cs_tables.specs.WordCounts.{is_chosen}
use Rattle.cs_live.specs.States.{AreOwnNumbers, IsState, rank}
use Rattle.cs_live.proofs.FetchedLemmas.{fetched_by}
use Rattle.cs_live.proofs.NumberLemmas.{own_numbers, rank_within}
use Rattle.cs_live.proofs.rows.seek_now.Goals as goal

pub seek-requires-clause-words : goal.seek-requires-clause-words
seek-requires-clause-words c =
    let le = rank_within c.deref-shift.result.now c.args.words.1 in
    let long = c.state.invariant.shift.long in
    let same = ap length c.deref-shift.ensures.value in
    omega (arith, le, long, same, c.old_words-old.ensures.high)

pub put_now-requires-clause-own : goal.put_now-requires-clause-own
put_now-requires-clause-own c e =
    let s = c.state.inside in
    subst AreOwnNumbers (sym c.deref-shift.ensures.value)
    (own_numbers s.index.words s.words s.shift.items c.state.invariant.shift (c.has_own_words-own.ensures e ∙ ap length c.deref-shift.ensures.value))

pub put_now-requires-clause-words : goal.put_now-requires-clause-words
put_now-requires-clause-words c =
    let long = c.state.invariant.shift.long in
    let same = ap length c.deref-shift.ensures.value in
    All-weaker (IsRanged c.state.inside.index) (λ p. p.word < length c.deref-shift.result.now) (λ p r. let lt = r.word in omega (arith, lt, long, same))
    c.seek.new.into.items (c.in_ok-found.ensures.ranged c.if-not-found.false)

pub put_now-requires-clause-whole : goal.put_now-requires-clause-whole
put_now-requires-clause-whole c w =
    All-weaker (IsRanged c.state.inside.index) (λ p. is_there c.deref.result.now p ≡ true)
    (λ p r. ap (λ ps. get_or ps p.doc false) c.deref.ensures.value ∙ c.state.invariant.whole w p.doc r.doc)
    c.seek.new.into.items (c.in_ok-found.ensures.ranged c.if-not-found.false)

pub returns-clause-is : goal.returns-clause-is
returns-clause-is c = subst IsState c.state.view_is c.state.invariant

pub returns-clause-sought : goal.returns-clause-sought
returns-clause-sought c told h e =
    let view = c.state.view_is in
    let shift = c.deref-shift.result.now in
    let lo = rank shift c.args.words.0 in
    let hi = rank shift c.args.words.1 in
    let posts = c.seek.new.into.items in
    let read = c.in_ok-found.ensures in
    let found = c.if-not-found.false in
    let cut = take c.docs_of_index.result c.args.listed.now in
    fetched_by c.args.state.now (ap (λ x. x.index) view) (c.deref-shift.ensures.value ∙ ap (λ x. x.shift) view) (c.deref.ensures.value ∙ ap (λ x. x.present) view) (record {
      read = posts;
      ranged = read.ranged found;
      sought = subst (λ d. All (λ p. is_chosen lo hi (take d c.args.listed.now) p ≡ true) posts) c.docs_of_index.ensures
          (subst (λ h. All (λ p. is_chosen lo h cut p ≡ true) posts) c.old_words-old.ensures.high
          (subst (λ l. All (λ p. is_chosen l c.old_words-old.result.1 cut p ≡ true) posts) c.old_words-old.ensures.low (read.sought found)));
      stood = λ b is stands.
          subst (λ d. posts ≡ filter (is_chosen lo hi (take d c.args.listed.now)) (block_posts b c.args.k)) c.docs_of_index.ensures
          (subst (λ h. posts ≡ filter (is_chosen lo h cut) (block_posts b c.args.k)) c.old_words-old.ensures.high
          (subst (λ l. posts ≡ filter (is_chosen l c.old_words-old.result.1 cut) (block_posts b c.args.k)) c.old_words-old.ensures.low
          (read.stood b stands (h b is) found)));
      now = c.put_now.ensures;
    })
