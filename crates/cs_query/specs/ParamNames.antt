-- The names of the parameters that may be refused by their own form.
--
--   param_name which    the name of a parameter
use Rattle.std.specs.Prelude.{ℕ, List, codes}
use Rattle.cs_query.specs.declared.request.Param.{Param}
use Rattle.cs_query.specs.declared.request.Param.TheVariants as params

-- one letter each
abbrev pub param_name : Param → List ℕ
param_name params.H = codes "h"
param_name params.C = codes "c"
param_name params.O = codes "o"
param_name params.F = codes "f"
