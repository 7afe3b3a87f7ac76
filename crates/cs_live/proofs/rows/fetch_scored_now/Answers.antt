use Rattle.std.proofs.Common.{◌≡◌, ◌∙◌, ◌<◌, false, true, ap, get_or, length, subst, sym, arith}
use Rattle.std.proofs.lemmas.List.Elements.{All-weaker}
use Rattle.cs_live.specs.States.{AreOwnNumbers, IsState}
use Rattle.cs_live.proofs.FetchedLemmas.{scored_by}
use Rattle.cs_live.proofs.NumberLemmas.{own_numbers}
use Rattle.cs_live.proofs.rows.fetch_scored_now.Goals as goal

pub put_scored_now-requires-clause-docs : goal.put_scored_now-requires-clause-docs
put_scored_now-requires-clause-docs g c =
    let count = c.state.invariant.count in
    let same = ap length c.deref.ensures.value in
    All-weaker (λ d. d < c.state.inside.index.docs) (λ d. d < length c.deref.result.now) (λ d lt. omega (arith, lt, count, same))
    c.fetch_scored.new.into.docs.items c.in_ok-fetch_scored.ensures.docs

pub put_scored_now-requires-clause-words : goal.put_scored_now-requires-clause-words
put_scored_now-requires-clause-words g c =
    let long = c.state.invariant.shift.long in
    let same = ap length c.deref-shift.ensures.value in
    All-weaker (λ w. w < length c.state.inside.index.words) (λ w. w < length c.deref-shift.result.now) (λ w lt. omega (arith, lt, long, same))
    c.fetch_scored.new.into.words.items c.in_ok-fetch_scored.ensures.words

pub put_scored_now-requires-clause-whole : goal.put_scored_now-requires-clause-whole
put_scored_now-requires-clause-whole g c w =
    All-weaker (λ d. d < c.state.inside.index.docs) (λ d. get_or c.deref.result.now d false ≡ true)
    (λ d lt. ap (λ ps. get_or ps d false) c.deref.ensures.value ∙ c.state.invariant.whole w d lt)
    c.fetch_scored.new.into.docs.items c.in_ok-fetch_scored.ensures.docs

pub put_scored_now-requires-clause-own : goal.put_scored_now-requires-clause-own
put_scored_now-requires-clause-own g c e =
    let s = c.state.inside in
    subst AreOwnNumbers (sym c.deref-shift.ensures.value)
    (own_numbers s.index.words s.words s.shift.items c.state.invariant.shift (c.has_own_words-own.ensures e ∙ ap length c.deref-shift.ensures.value))

pub returns-clause-is : goal.returns-clause-is
returns-clause-is g c = subst IsState c.state.view_is c.state.invariant

pub returns-clause-fetched : goal.returns-clause-fetched
returns-clause-fetched g c =
    let view = c.state.view_is in
    let read = c.in_ok-fetch_scored.ensures in
    let into = c.fetch_scored.new.into in
    scored_by c.args.state.now (ap (λ x. x.index) view) (c.deref-shift.ensures.value ∙ ap (λ x. x.shift) view) (c.deref.ensures.value ∙ ap (λ x. x.present) view) (record {
      docs = into.docs.items;
      words = into.words.items;
      scores = into.scores.items;
      words_even = read.words_even;
      scores_even = read.scores_even;
      docs_within = read.docs;
      words_within = read.words;
      scores_within = read.scores;
      stood = read.stood;
      now = c.put_scored_now.ensures;
    })
