use Rattle.std.proofs.Common.{◌<◌, false, length, get_or, take, refl, sym, subst, ◌∙◌, arith}
use Rattle.cs_live.proofs.RowsInPlace.{all_first, at_most_one, none_first, put_on, still_on}
use Rattle.cs_live.proofs.rows.keep_there.Goals as goal

pub loop-i-init : goal.loop-i-init
loop-i-init c = record {
  first = none_first c.args.shift.now c.args.present.now c.args.docs.now c.args.words.now c.args.scores.now;
  few = omega arith;
  docs_on = λ k le. refl;
  words_on = λ k le. refl;
  scores_on = λ k le. refl;
}

pub bounds-present-doc : goal.bounds-present-doc
bounds-present-doc c =
    let l = c.loop-i in
    subst (λ d. d < length c.args.present.now) (sym (l.invariant.docs_on l.i (omega arith))) (c.requires.docs l.i 0 c.loop-i-test.true)

pub bounds-shift-words : goal.bounds-shift-words
bounds-shift-words c =
    let l = c.loop-i in
    subst (λ w. w < length c.args.shift.now) (sym (l.invariant.words_on l.i (omega arith)))
    (c.requires.words l.i 0 (let lt = c.loop-i-test.true in let even = c.requires.words_even in omega (arith, lt, even)))

pub loop-i-preserved : goal.loop-i-preserved
loop-i-preserved c =
    let l = c.loop-i in
    let inv = l.invariant in
    let few = inv.few in
    let one = c.from-kept.ensures in
    let most = at_most_one (get_or c.args.present.now (get_or l.docs l.i 0) false) in
    record {
      first = put_on c.args.shift.now c.args.present.now c.args.docs.now c.args.words.now c.args.scores.now l.i l.kept c.from-kept.result l.docs l.words l.scores
          c.loop-i-test.true few c.requires.words_even c.requires.scores_even l.auto.docs l.auto.words l.auto.scores
          (inv.docs_on l.i (omega arith)) (inv.words_on l.i (omega arith)) (inv.scores_on l.i (omega arith)) one inv.first;
      few = omega (arith, few, one, most);
      docs_on = λ k le. still_on l.docs l.kept (get_or l.docs l.i 0) k (omega (arith, le, few)) ∙ inv.docs_on k (omega (arith, le));
      words_on = λ k le. still_on l.words l.kept (get_or c.args.shift.now (get_or l.words l.i 0) 0) k (omega (arith, le, few)) ∙ inv.words_on k (omega (arith, le));
      scores_on = λ k le. still_on l.scores l.kept (get_or l.scores l.i 0) k (omega (arith, le, few)) ∙ inv.scores_on k (omega (arith, le));
    }

pub returns : goal.returns
returns c =
    let l = c.loop-i in
    all_first c.args.shift.now c.args.present.now c.args.docs.now c.args.words.now c.args.scores.now l.i (take l.kept l.docs) (take l.kept l.words) (take l.kept l.scores)
    (let done = c.loop-i-test.false in omega (arith, done)) l.invariant.first
