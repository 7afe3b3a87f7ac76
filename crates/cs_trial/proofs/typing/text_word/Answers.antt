use Rattle.std.proofs.Common.{◌∙◌, ◌++◌, sym, ap, subst, length}
use Rattle.std.specs.Str.{IsAscii}
use Rattle.cs_model_trial.specs.Generator.{word, drawn}
use Rattle.cs_model_trial.specs.declared.sizes.TheConstants.{WORDS}
use Rattle.cs_trial.proofs.WordsLemmas.{word_form, word_ascii}
use Rattle.cs_trial.proofs.TypingLemmas.{text_word_is}
use Rattle.cs_trial.proofs.typing.text_word.Goals as goal

pub returns-clause-value : goal.returns-clause-value
returns-clause-value c =
    c.with_word_of.ensures.items ∙ ap (λ b. b ++ word c.below.result) c.in_ok-room.ensures.items
    ∙ ap word (c.below.ensures.value ∙ ap (drawn WORDS) c.behind-draws.ensures) ∙ text_word_is c.args.n c.args.doc c.args.place c.requires.place

pub returns-clause-ascii : goal.returns-clause-ascii
returns-clause-ascii c =
    subst IsAscii (sym (c.with_word_of.ensures.items ∙ ap (λ b. b ++ word c.below.result) c.in_ok-room.ensures.items)) (word_ascii c.below.result c.below.ensures.small)

pub returns-clause-long : goal.returns-clause-long
returns-clause-long c =
    ap length (c.with_word_of.ensures.items ∙ ap (λ b. b ++ word c.below.result) c.in_ok-room.ensures.items) ∙ (word_form c.below.result c.below.ensures.small).long
