use Rattle.std.proofs.Common.{◌∙◌}
use Rattle.std.proofs.lemmas.List.Elements.{All-push}
use Rattle.cs_model.specs.Parameters.{HoldsLimits}
use Rattle.cs_model_trial.specs.Sessions.{plain_request}
use Rattle.cs_query.specs.declared.request.Request.{Request}
use Rattle.cs_query.specs.RequestView.{asked}
use Rattle.cs_trial.proofs.TypedTexts.{typed_at, one_more}
use Rattle.cs_trial.proofs.plain.requests.Goals as goal

pub plain_request-requires : goal.plain_request-requires
plain_request-requires c =
    typed_at c.args.n c.as_slice-text-items.result.now c.loop-text.text-index c.text-item.result (c.as_slice-text-items.ensures ∙ c.in_ok-typed.ensures) c.loop-text-test.true c.text-item.is

pub loop-text-preserved : goal.loop-text-preserved
loop-text-preserved c =
    let new = c.in_ok-plain_request in
    let before = c.loop-text in
    record {
      read = rw c.in_ok-push.ensures.items
          (one_more asked plain_request before.requests.items new.field-0 c.as_slice-text-items.result.now before.text-index c.text-item.result before.invariant.read c.loop-text-test.true c.text-item.is new.ensures.asked);
      limits = rw c.in_ok-push.ensures.items
          (All-push (λ (r : Request). HoldsLimits (asked r)) before.requests.items new.field-0 before.invariant.limits new.ensures.limits);
    }
