-- A fault of the code as the refusal that it stands for. Nothing is said of want of memory.
--
--   IsCause p e              e is the first refusal of the parameters p
--   IsRefusedBy which b e    e says that the parameter `which` is refused, which its test b refuses
--   IsQueryCause r e         e is the refusal r of a query
use Rattle.std.specs.Prelude.{◌≡◌, ℕ, Bool, false, List, Option, Some}
use Rattle.cs_model.specs.Parameters.{request_refusal, bad_param, bad_query}
use Rattle.cs_model.specs.Refusals.{QueryRefusal, Bad, Limit}
use Rattle.cs_query.specs.ParamNames.{param_name}
use Rattle.cs_query.specs.declared.request.Param.{Param}
use Rattle.cs_query.specs.declared.request.ReqFault.{ReqFault}
use Rattle.cs_query.specs.declared.request.ReqFault.TheVariants as faults

-- want of memory has no cause among the parameters
abbrev pub IsCause : List ℕ → ReqFault → Type 0
IsCause p (faults.BadParam which) = request_refusal p ≡ Some (bad_param (param_name which))
IsCause p (faults.Bad at) = request_refusal p ≡ Some (bad_query at Bad)
IsCause p (faults.Limit at which) = request_refusal p ≡ Some (bad_query at (Limit which))
IsCause p faults.Memory = Unit {0}

-- no other fault comes of a single parameter
abbrev pub IsRefusedBy : Param → Bool → ReqFault → Type 0
IsRefusedBy which accepted (faults.BadParam other) = (other ≡ which) × (accepted ≡ false)
IsRefusedBy which accepted faults.Memory = Unit {0}
IsRefusedBy which accepted e = ⊥

-- a query's fault isn't that of a parameter's own form
abbrev pub IsQueryCause : Option (ℕ × QueryRefusal) → ReqFault → Type 0
IsQueryCause r (faults.BadParam which) = ⊥
IsQueryCause r (faults.Bad at) = r ≡ Some (at, Bad)
IsQueryCause r (faults.Limit at which) = r ≡ Some (at, Limit which)
IsQueryCause r faults.Memory = Unit {0}
