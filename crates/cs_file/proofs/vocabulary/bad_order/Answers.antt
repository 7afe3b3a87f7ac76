use Rattle.std.proofs.Common.{◌+◌, length, sym, ap, subst, ◌∙◌, arith, []}
use Rattle.std.proofs.lemmas.List.{get_or_default}
use Rattle.cs_model_index.specs.FileRules.{follows, word_size}
use Rattle.cs_model_index.specs.Sections.{vocabulary_at}
use Rattle.cs_file.specs.Opening.{before}
use Rattle.cs_file.proofs.LaidLemmas.{Rest, rest_start, rest_on, rest_broken, rest_end}
use Rattle.cs_file.proofs.vocabulary.bad_order.Goals as goal

pub loop-i-init : goal.loop-i-init
loop-i-init c = record {
  rest = subst (λ n. Rest (λ i. follows i.last i.value) word_size vocabulary_at c.args.words.now 0 n) (sym c.from-at.ensures)
      (rest_start (λ i. follows i.last i.value) word_size vocabulary_at c.args.words.now);
  small = omega (arith, c.from-at.ensures);
}

pub returns-then-not-follows : goal.returns-then-not-follows
returns-then-not-follows c =
    let ws = c.args.words.now in
    let word = c.index-words-i.is ∙ get_or_default ws c.loop-i.i c.index-words-i.result [] c.loop-i-test.true in
    rest_broken (λ i. follows i.last i.value) word_size vocabulary_at ws c.loop-i.i c.loop-i.at c.index-words-i.result c.loop-i-test.true c.index-words-i.is
    (ap (follows (before ws c.loop-i.i)) word ∙ sym c.follows.ensures ∙ c.if-not-follows.true) c.loop-i.invariant.rest

pub loop-i-preserved : goal.loop-i-preserved
loop-i-preserved c =
    let ws = c.args.words.now in
    let word = c.index-words-i.is ∙ get_or_default ws c.loop-i.i c.index-words-i.result [] c.loop-i-test.true in
    let few = c.bytes.ensures.few in
    let len = ap length c.bytes.ensures.value in
    record {
      rest = rest_on (λ i. follows i.last i.value) word_size vocabulary_at ws c.loop-i.i c.loop-i.at _ c.index-words-i.result c.loop-i-test.true
          c.index-words-i.is
          (ap (λ n. c.loop-i.at + (1 + n)) len) (ap (follows (before ws c.loop-i.i)) word ∙ sym c.follows.ensures ∙ c.if-not-follows.false)
          c.loop-i.invariant.rest;
      small = omega (arith, few, len);
    }

pub returns : goal.returns
returns c = rest_end (λ i. follows i.last i.value) word_size vocabulary_at c.args.words.now c.loop-i.i c.loop-i.at c.loop-i-test.false c.loop-i.invariant.rest
