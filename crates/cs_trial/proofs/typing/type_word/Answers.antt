use Rattle.std.proofs.Common.{◌≡◌, ◌∙◌, ◌++◌, ◌+◌, take, get_or, refl, ap}
use Rattle.std.specs.Char.{encode_utf8}
use Rattle.std.proofs.lemmas.Str.{encode_ascii}
use Rattle.cs_trial.proofs.TypingLemmas.{letter_more, texts_more}
use Rattle.cs_trial.proofs.typing.type_word.Goals as goal

pub loop-letter-preserved : goal.loop-letter-preserved
loop-letter-preserved c =
    let i = c.loop-letter.letter-index in
    let w = c.args.word.now in
    let letter : c.push.new.self ≡ c.args.before ++ take (i + 1) w =
    c.in_ok-push.ensures.ok ∙ ap (λ e. c.loop-letter.text ++ e) (ap encode_utf8 c.from.ensures ∙ encode_ascii (get_or w i 0) (c.requires i))
    ∙ letter_more c.args.before w c.loop-letter.text i (get_or w i 0) c.loop-letter-test.true refl c.loop-letter.invariant.text in
    record {
      text = letter;
      texts = c.in_ok-push-2.ensures.ok
          ∙ texts_more (λ k. c.args.before ++ take k w) c.args.texts.now c.loop-letter.texts i c.in_ok-copy.field-0 c.loop-letter.invariant.texts (c.in_ok-copy.ensures.ok ∙ letter);
    }
