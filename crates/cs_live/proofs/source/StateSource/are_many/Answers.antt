use Rattle.std.proofs.Common.{◌≡◌, ◌∙◌, ap, length, subst, sym, arith, true}
use Rattle.cs_rows.specs.Blockwise.{AreMany}
use Rattle.cs_rows.specs.Sources.{source_of as opened_source}
use Rattle.cs_live.specs.States.{IsState, rank}
use Rattle.cs_live.proofs.NumberLemmas.{rank_up, rank_within}
use Rattle.cs_live.proofs.StateLemmas.{many_now}
use Rattle.cs_live.proofs.source.StateSource.are_many.Goals as goal

pub are_many_old-requires : goal.are_many_old-requires
are_many_old-requires c =
    let up = rank_up c.deref.result.now c.args.words.0 c.args.words.1 c.requires.ordered in
    let le = rank_within c.deref.result.now c.args.words.1 in
    let long = c.self.invariant.shift.long in
    let same : length c.deref.result.now ≡ length c.self.inside.shift.items = ap length c.deref.ensures.value in
    record {
      ordered = omega (arith, up, c.old_words-old.ensures.low, c.old_words-old.ensures.high);
      within = omega (arith, le, long, same, c.old_words-old.ensures.high);
    }

pub returns-then-self : goal.returns-then-self
returns-then-self c e =
    let s = c.args.self.now in
    let shift_is : c.deref.result.now ≡ s.shift = c.deref.ensures.value ∙ ap (λ x. x.shift) c.self.view_is in
    let lo = c.args.words.0 in
    let hi = c.args.words.1 in
    let low : c.old_words-old.result.0 ≡ rank s.shift lo = c.old_words-old.ensures.low ∙ ap (λ ns. rank ns lo) shift_is in
    let high : c.old_words-old.result.1 ≡ rank s.shift hi = c.old_words-old.ensures.high ∙ ap (λ ns. rank ns hi) shift_is in
    let whole : s.whole ≡ true = sym (ap (λ x. x.whole) c.self.view_is) ∙ c.if-self.true in
    many_now s (subst IsState c.self.view_is c.self.invariant) whole lo hi
    (subst (λ i. AreMany (opened_source i) (rank s.shift lo) (rank s.shift hi)) (ap (λ x. x.index) c.self.view_is)
    (subst (λ h. AreMany (opened_source c.self.inside.index) (rank s.shift lo) h) high
    (subst (λ l. AreMany (opened_source c.self.inside.index) l c.old_words-old.result.1) low (c.are_many_old.ensures e))))
