use Rattle.std.proofs.Common.{◌≡◌, ◌∙◌, ◌++◌, ap, arith}
use Rattle.std.specs.List.{flat_map, range_with_len}
use Rattle.cs_model_trial.specs.Generator.{next_state, drawn, line_count}
use Rattle.cs_model_trial.specs.Sessions.{session, session_at, texts}
use Rattle.cs_trial.proofs.TypingLemmas.{sessions_more, sessions_behind}
use Rattle.cs_trial.proofs.typing.texts.Goals as goal

pub loop-preserved : goal.loop-preserved
loop-preserved c =
    let n = c.args.n in
    let s = c.loop.counter in
    let x = c.loop.draws.state in
    let place = c.below-place.ensures.value ∙ ap (drawn 12) c.below-doc.ensures.state in
    record {
      texts = sessions_more n s x c.loop.texts c.put_session.new.texts c.loop.invariant.state c.loop.invariant.texts
          (c.in_ok-put_session.ensures ∙ ap (λ d. c.loop.texts ++ session_at n d c.below-place.result) c.below-doc.ensures.value
          ∙ ap (λ j. c.loop.texts ++ session_at n (drawn (line_count n) x) j) place);
      state = c.below-place.ensures.state ∙ ap next_state c.below-doc.ensures.state ∙ sessions_behind n s x c.loop.invariant.state;
    }

pub returns : goal.returns
unfolding texts
returns c =
    let all : c.loop.counter ≡ 20 = omega arith in
    c.loop.invariant.texts ∙ ap (λ k. flat_map (session c.args.n) (range_with_len 0 k)) all
