-- A request with the defaults keeps the limits.
--
--   default_holds    it does, whatever query of the grammar it asks
use Rattle.std.proofs.Common.{refl, arith}
use Rattle.std.specs.List.Sorted.{IsStrictlySortedBy}
use Rattle.cs_base.specs.declared.content.query.Query.{Query}
use Rattle.cs_model.specs.Parameters.{HoldsLimits}
use Rattle.cs_model.specs.Refusals.{IsOfGrammar}
use Rattle.cs_model.specs.Requests.{by_default}
use Rattle.cs_model.proofs.PartsLemmas.{few_parts}

pub default_holds : (q : Query) → IsOfGrammar q → HoldsLimits (by_default q)
unfolding IsStrictlySortedBy
default_holds q grammar = record {
  query = grammar;
  parts = few_parts q grammar;
  hits = omega arith;
  completions = omega arith;
  offset = omega arith;
  names = refl;
  facets = tt;
  few = omega arith;
}
