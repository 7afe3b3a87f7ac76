use Rattle.std.proofs.Common.{◌+◌, length, sym, ap, subst, ◌∙◌, arith}
use Rattle.cs_model_index.specs.FileRules.{is_word, word_size}
use Rattle.cs_model_index.specs.Sections.{vocabulary_at}
use Rattle.cs_file.proofs.LaidLemmas.{Rest, rest_start, rest_on, rest_broken, rest_end}
use Rattle.cs_file.proofs.vocabulary.bad_word.Goals as goal

pub loop-word-init : goal.loop-word-init
loop-word-init c = record {
  rest = subst (λ n. Rest (λ i. is_word i.value) word_size vocabulary_at c.args.words.now 0 n) (sym c.from-at.ensures)
      (rest_start (λ i. is_word i.value) word_size vocabulary_at c.args.words.now);
  small = omega (arith, c.from-at.ensures);
}

pub returns-then-not-is_word : goal.returns-then-not-is_word
returns-then-not-is_word c =
    rest_broken (λ i. is_word i.value) word_size vocabulary_at c.args.words.now c.loop-word.word-index c.loop-word.at c.word-item.result
    c.loop-word-test.true c.word-item.is
    (ap is_word (sym c.bytes.ensures.value) ∙ sym c.is_word.ensures ∙ c.if-not-is_word.true) c.loop-word.invariant.rest

pub loop-word-preserved : goal.loop-word-preserved
loop-word-preserved c =
    let few = c.bytes-in-loop-word.ensures.few in
    let len = ap length c.bytes-in-loop-word.ensures.value in
    record {
      rest = rest_on (λ i. is_word i.value) word_size vocabulary_at c.args.words.now c.loop-word.word-index c.loop-word.at _ c.word-item.result
          c.loop-word-test.true c.word-item.is
          (ap (λ n. c.loop-word.at + (1 + n)) len) (ap is_word (sym c.bytes.ensures.value) ∙ sym c.is_word.ensures ∙ c.if-not-is_word.false)
          c.loop-word.invariant.rest;
      small = omega (arith, few, len);
    }

pub returns : goal.returns
returns c = rest_end (λ i. is_word i.value) word_size vocabulary_at c.args.words.now c.loop-word.word-index c.loop-word.at c.loop-word-test.false
    c.loop-word.invariant.rest
