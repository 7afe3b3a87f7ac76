use Rattle.std.proofs.Common.{◌∙◌, ◌++◌, sym, ap, arith}
use Rattle.std.specs.Prelude.{replicate}
use Rattle.cs_model_trial.specs.Generator.{behind, draws, drawn, next_state, spaced, word}
use Rattle.cs_model_trial.specs.declared.sizes.TheConstants.{WORDS}
use Rattle.cs_trial.proofs.DrawsLemmas.{behind_more}
use Rattle.cs_trial.proofs.TrialLineLemmas.{put_behind}
use Rattle.cs_trial.proofs.lines.with_words.Goals as goal

pub loop-init : goal.loop-init
unfolding behind draws
loop-init c = record {
  bytes = c.with_word_of-words.ensures.items ∙ ap (λ w. c.args.bytes.items ++ word w) c.below.ensures.value;
  state = c.below.ensures.state;
  len = omega (arith, c.with_word_of-words.ensures.len);
  capacity = c.with_word_of-words.ensures.capacity;
}

pub loop-preserved : goal.loop-preserved
loop-preserved c =
    let before = c.loop.invariant in
    let x = c.args.numbers.now.state in
    record {
      bytes = c.with_word_of-words-in-loop.ensures.items ∙ ap (λ b. b ++ word c.below-in-loop.result) c.push_reserved.ensures.items
          ∙ put_behind c.args.bytes.items c.loop.words.items c.loop.counter x c.below-in-loop.result c.loop.auto.counter before.bytes (c.below-in-loop.ensures.value ∙ ap (drawn WORDS) before.state);
      state = c.below-in-loop.ensures.state ∙ ap next_state before.state ∙ sym (behind_more c.loop.counter x);
      len = omega (arith, c.with_word_of-words-in-loop.ensures.len, c.push_reserved.ensures.len, before.len);
      capacity = c.with_word_of-words-in-loop.ensures.capacity ∙ c.push_reserved.ensures.capacity ∙ before.capacity;
    }
