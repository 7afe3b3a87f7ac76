use Rattle.std.proofs.Common.{append_assoc}
use Rattle.cs_model_trial.specs.Generator.{word}
use Rattle.cs_trial.proofs.syllables.with_word_of.Goals as goal

pub returns-clause-items : goal.returns-clause-items
unfolding word
returns-clause-items c = rw (c.with_syllable.ensures.items, c.with_syllable-bytes-2.ensures.items, c.with_syllable-bytes.ensures.items) (simp append_assoc)
