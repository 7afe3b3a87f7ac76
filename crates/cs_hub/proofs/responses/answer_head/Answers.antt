use Rattle.std.proofs.Common.{◌≡◌, [], refl, sym, ◌∙◌, ap, subst}
use Rattle.std.proofs.lemmas.Result.{IfOk-weaker, on_err_weaker}
use Rattle.cs_base.proofs.GrewLemmas.{on_err}
use Rattle.cs_http.specs.Judging.{IsHeadCause, IsSearch}
use Rattle.cs_hub.specs.Responding.{response, response_for, IsJudgedSo}
use Rattle.cs_hub.specs.Turns.{IsGiven}
use Rattle.cs_model_serving.specs.Responses.{to_params, response_to}
use Rattle.cs_hub.proofs.OutcomeLemmas.{asks_outcome, given_outcome}
use Rattle.cs_hub.proofs.RespondingLemmas.{by_head, given_searched, given_judged, is_response}
use Rattle.std.specs.Prelude.{Some, IfOk, is_ok}
use Rattle.cs_model_serving.specs.Heads.{judge}
use Rattle.cs_model.specs.Parameters.{request_refusal}
use Rattle.cs_hub.specs.Asked.{AsksAsSent}
use Rattle.cs_hub.specs.DueReads.{IsBy, IsResponseBy, requests_by, requests_in, closes_behind}
use Rattle.cs_hub.proofs.AskedLemmas.{asks_by, asks_head, refused_head, refused_close}
use Rattle.cs_hub.proofs.responses.answer_head.Goals as goal

pub returns-in-Ok-clause-ok : goal.returns-in-Ok-clause-ok
returns-in-Ok-clause-ok g c =
    let over = g.A.Answerer.answers c.args.answerer.now in
    let before = g.A.Answerer.faults c.args.answerer.now in
    let after = g.A.Answerer.faults c.outcome_of-outcome.new.answerer in
    let close = c.in-Ok.asked.close in
    let o = c.outcome_of-outcome.result in
    let came = c.outcome_of-outcome.ensures in
    IfOk-weaker c.response_from.result (λ a. response_for close o ≡ Some (response a))
    (λ a. IsGiven over (λ k. response_to k c.args.bytes.now) (response a) before after)
    (λ a h. given_searched over c.args.bytes.now c.in-Ok.asked.params close (response a) before after c.in-Ok.ensures.ok
    (subst (λ p. IsGiven over (λ k. to_params k p close) (response a) before after) c.as_slice.ensures
    (given_outcome g.A.Answerer.leaves over c.as_slice.result.now close o (response a) (g.A.Answerer.kept c.args.answerer.now)
    (g.A.Answerer.kept c.outcome_of-outcome.new.answerer) before after came.comes came.right came.caused h))) c.response_from.ensures.ok

pub returns-in-Ok-clause-asked : goal.returns-in-Ok-clause-asked
returns-in-Ok-clause-asked g c =
    let bytes = c.args.bytes.now in
    let p = c.in-Ok.asked.params in
    let close = c.in-Ok.asked.close in
    let result = c.response_from.result in
    let s = g.A.Answerer.kept c.args.answerer.now in
    let t = g.A.Answerer.kept c.outcome_of-outcome.new.answerer in
    asks_by g.A.Answerer.leaves (is_ok result) (requests_in (judge bytes)) s t (λ xs. IfOk result (λ a. IsBy (λ k. to_params k p close) close xs (response a)))
    (λ xs. IfOk result (λ a. IsResponseBy bytes xs (response a)))
    (λ xs h. IfOk-weaker result (λ a. IsBy (λ k. to_params k p close) close xs (response a)) (λ a. IsResponseBy bytes xs (response a))
    (λ a b. by_head bytes p close xs (response a) c.in-Ok.ensures.ok b) h)
    (asks_head g.A.Answerer.leaves (is_ok result) bytes p close s t _ c.in-Ok.ensures.ok
    (subst (λ p. AsksAsSent g.A.Answerer.leaves (is_ok result) (requests_by p (request_refusal p)) s t
    (λ xs. IfOk result (λ a. IsBy (λ k. to_params k p close) close xs (response a)))) c.as_slice.ensures
    (asks_outcome g.A.Answerer.leaves c.as_slice.result.now close c.outcome_of-outcome.result result s t c.outcome_of-outcome.ensures.comes
    c.response_from.ensures.ok)))

pub returns-in-Ok-clause-close : goal.returns-in-Ok-clause-close
returns-in-Ok-clause-close g c =
    IfOk-weaker c.response_from.result (λ a. a.close ≡ c.in-Ok.asked.close) (λ a. a.close ≡ closes_behind (judge c.args.bytes.now))
    (λ a h. h ∙ sym (ap closes_behind c.in-Ok.ensures.ok)) c.response_from.ensures.close

pub returns-in-Ok-clause-memory : goal.returns-in-Ok-clause-memory
returns-in-Ok-clause-memory g c = on_err c.response_from.result (IsSearch (judge c.args.bytes.now)) (c.in-Ok.asked.params, c.in-Ok.asked.close, c.in-Ok.ensures.ok)

pub returns-in-Err-clause-ok : goal.returns-in-Err-clause-ok
returns-in-Err-clause-ok g c =
    let over = g.A.Answerer.answers c.args.answerer.now in
    let before = g.A.Answerer.faults c.args.answerer.now in
    IfOk-weaker c.refuse_head.result (λ a. IsJudgedSo c.in-Err.fault (response a))
    (λ a. IsGiven over (λ k. response_to k c.args.bytes.now) (response a) before before)
    (λ a h. given_judged over c.args.bytes.now c.in-Err.fault (response a) before c.in-Err.ensures.err h) c.refuse_head.ensures.judged

pub returns-in-Err-clause-asked : goal.returns-in-Err-clause-asked
returns-in-Err-clause-asked g c =
    let bytes = c.args.bytes.now in
    let result = c.refuse_head.result in
    refused_head g.A.Answerer.leaves (judge bytes) c.in-Err.fault result (g.A.Answerer.kept c.args.answerer.now)
    (λ xs. IfOk result (λ a. IsResponseBy bytes xs (response a))) c.in-Err.ensures.err c.refuse_head.ensures.told
    (IfOk-weaker result (λ a. IsJudgedSo c.in-Err.fault (response a)) (λ a. IsResponseBy bytes [] (response a))
    (λ a h k. h k (judge bytes) c.in-Err.ensures.err ∙ sym (is_response k bytes (judge bytes) refl)) c.refuse_head.ensures.judged)

pub returns-in-Err-clause-close : goal.returns-in-Err-clause-close
returns-in-Err-clause-close g c =
    IfOk-weaker c.refuse_head.result (λ a. IsJudgedSo c.in-Err.fault (response a)) (λ a. a.close ≡ closes_behind (judge c.args.bytes.now))
    (λ a h. refused_close (judge c.args.bytes.now) c.in-Err.fault (response a) c.in-Err.ensures.err h) c.refuse_head.ensures.judged

pub returns-in-Err-clause-memory : goal.returns-in-Err-clause-memory
returns-in-Err-clause-memory g c =
    on_err_weaker c.refuse_head.result (λ e. subst (IsHeadCause (judge c.args.bytes.now)) e c.in-Err.ensures.err) c.refuse_head.ensures.memory
