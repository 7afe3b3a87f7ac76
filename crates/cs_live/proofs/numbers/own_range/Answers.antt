use Rattle.std.proofs.Common.{true≢false, sym, ◌∙◌, arith}
use Rattle.cs_rows.proofs.AskedWords.{word_there, no_range}
use Rattle.cs_rows.proofs.AtomsLemmas.{span_word}
use Rattle.cs_live.proofs.numbers.own_range.Goals as goal

pub returns-in-Some-clause-range : goal.returns-in-Some-clause-range
returns-in-Some-clause-range c =
    let at = c.in-Some.ensures.found in
    record {
      ordered = omega arith;
      within = omega (arith, at.0);
      holds = span_word c.args.words.now c.requires.ascending c.in-Some.n c.args.word.now at;
    }

pub returns-in-Some-clause-none : goal.returns-in-Some-clause-none
returns-in-Some-clause-none c none =
    absurd (true≢false (sym (word_there c.args.words.now c.in-Some.n c.args.word.now c.in-Some.ensures.found) ∙ none))

pub returns-in-None-clause-range : goal.returns-in-None-clause-range
returns-in-None-clause-range c = no_range c.args.words.now c.args.word.now c.in-None.ensures.absent
