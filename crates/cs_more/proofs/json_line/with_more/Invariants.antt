use Rattle.std.proofs.Common.{◌≡◌, drop}
use Rattle.std.specs.Prelude.{string_bytes}
use Rattle.cs_more.proofs.JsonFields.{Joins}
use Rattle.cs_more.proofs.json_line.with_more.Given as goal

abbrev pub invariant-loop-value : goal.invariant-loop-value
invariant-loop-value l = Joins (string_bytes l.fn.column) l.list ≡ Joins (string_bytes l.column) (drop l.value-index l.list)
