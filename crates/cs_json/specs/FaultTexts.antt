-- Which text each fault has. The texts themselves stand in `Faults` of cs_model.
--
--   refused_text f      the text of a refused request
--   fault_text f        that of any fault
use Rattle.std.specs.Prelude.{ℕ, List, codes}
use Rattle.cs_model.specs.Faults.{error_text, bad_text, limit_text, param_text, changed_text, limit_word}
use Rattle.cs_query.specs.ParamNames.{param_name}
use Rattle.cs_query.specs.declared.request.ReqFault.{ReqFault}
use Rattle.cs_query.specs.declared.request.ReqFault.TheVariants as refusals
use Rattle.cs_json.specs.declared.fault.Fault.{Fault}
use Rattle.cs_json.specs.declared.fault.Fault.TheVariants as faults

-- the parameter, the query's place, or no memory
abbrev pub refused_text : ReqFault → List ℕ
refused_text (refusals.BadParam which) = param_text (param_name which)
refused_text (refusals.Bad at) = bad_text at
refused_text (refusals.Limit at which) = limit_text at (limit_word which)
refused_text refusals.Memory = error_text (codes "memory")

-- of a refused request and of a changed file more than a word
unfoldable pub fault_text : Fault → List ℕ
fault_text (faults.Refused f) = refused_text f
fault_text faults.Read = error_text (codes "read")
fault_text (faults.Changed rule at) = changed_text rule at
fault_text faults.NotHead = error_text (codes "head")
fault_text faults.Body = error_text (codes "body")
fault_text faults.TooLong = error_text (codes "head too long")
fault_text faults.Path = error_text (codes "path")
fault_text faults.Method = error_text (codes "method")
