use Rattle.std.proofs.Common.{◌≡◌, take, map}
use Rattle.std.specs.List.{All}
use Rattle.cs_model.specs.Parameters.{HoldsLimits}
use Rattle.cs_model_trial.specs.Sessions.{plain_request}
use Rattle.cs_query.specs.declared.request.Request.{Request}
use Rattle.cs_query.specs.RequestView.{asked}
use Rattle.cs_trial.proofs.plain.requests.Given as goal

abbrev pub invariant-loop-text : goal.invariant-loop-text
invariant-loop-text l = record {
  read : map asked l.requests.items ≡ map plain_request (take l.text-index l.text-items);
  limits : All (λ (r : Request). HoldsLimits (asked r)) l.requests.items;
}
