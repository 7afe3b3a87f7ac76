use Rattle.std.proofs.Common.{◌∙◌, ◌++◌, ◌+◌, ◌%◌, length, sym, ap, arith}
use Rattle.std.proofs.lemmas.Str.{encode_ascii}
use Rattle.cs_model_trial.specs.Sessions.{text_word}
use Rattle.cs_trial.proofs.TypingLemmas.{session_typed}
use Rattle.cs_trial.proofs.typing.put_session.Goals as goal

pub returns : goal.returns
returns c =
    let first = c.in_ok-first.ensures in
    let second = c.in_ok-second.ensures in
    session_typed c.args.texts.now c.type_word.new.texts c.type_word-2.new.texts c.push-2.new.self c.new.result c.in_ok-text.text c.push.new.self c.in_ok-alone.alone
    c.deref.result.now c.deref-2.result.now (text_word c.args.n c.args.doc c.args.place) (text_word c.args.n c.args.doc ((c.args.place + 1) % 12))
    (record {
      begins = c.new.ensures;
      types = c.in_ok-text.ensures.text;
      copies = c.in_ok-alone.ensures.ok;
      spaces = c.in_ok-push.ensures.ok ∙ ap (λ s. c.in_ok-text.text ++ s) (encode_ascii 32 (omega arith));
      adds_first = c.in_ok-text.ensures.texts;
      adds_second = c.in_ok-type_word.ensures.texts;
      adds_alone = c.in_ok-push-2.ensures.ok;
    })
    (c.deref.ensures.value ∙ first.value) (c.deref-2.ensures.value ∙ second.value)
    (ap length (sym first.value) ∙ first.long) (ap length (sym second.value) ∙ second.long)
