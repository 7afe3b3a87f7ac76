use Rattle.std.proofs.Common.{◌≡◌}
use Rattle.form_urlencoded.specs.Parse.{pairs_left}
use Rattle.cs_model.specs.Parameters.{first_value, parameter}
use Rattle.cs_http.proofs.first.parameter.Given as goal

-- the parameter is the first of its name among the pairs that are left
abbrev pub invariant-loop-pair : goal.invariant-loop-pair
invariant-loop-pair l = record {
  can_next : (goal.iterator-loop-pair).can_next l.pair-iterator;
  is_finite : (goal.iterator-loop-pair).is_finite l.pair-iterator;
  same : first_value l.name (pairs_left l.pair-iterator) ≡ parameter l.name l.params;
}
