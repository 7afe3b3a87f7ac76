use Rattle.std.proofs.Common.{◌∙◌, ap, subst, sym, Err}
use Rattle.cs_model.specs.Parameters.{HoldsLimits}
use Rattle.cs_model.specs.Refusals.{Bad, Limit}
use Rattle.cs_model.proofs.DefaultRequests.{default_holds}
use Rattle.cs_trial.specs.Typed.{IsTyped}
use Rattle.cs_trial.proofs.NoneRefused.{none_refused}
use Rattle.cs_trial.proofs.plain.plain_request.Goals as goal

pub unreachable-requires : goal.unreachable-requires
unreachable-requires c =
    let fault = c.in-Err-Bad in
    none_refused c.as_str.result.now (subst IsTyped (sym c.as_str.ensures) c.requires) fault.field-0-0 Bad (c.parse.ensures.bad fault.field-0-0 (fault.is ∙ ap Err fault.field-0-is))

pub unreachable-requires-in-Err-Limit : goal.unreachable-requires-in-Err-Limit
unreachable-requires-in-Err-Limit c =
    let fault = c.in-Err-Limit in
    none_refused c.as_str.result.now (subst IsTyped (sym c.as_str.ensures) c.requires) fault.field-0-0 (Limit fault.field-0-1)
    (c.parse.ensures.limit fault.field-0-0 fault.field-0-1 (fault.is ∙ ap Err fault.field-0-is))

pub returns-clause-limits : goal.returns-clause-limits
returns-clause-limits c = subst HoldsLimits (sym c.by_default.ensures) (default_holds c.in-Ok.query c.in-Ok.ensures.grammar)
