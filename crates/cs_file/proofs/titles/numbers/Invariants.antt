use Rattle.std.proofs.Common.{◌≡◌, ◌-◌, ◌*◌, ◌++◌, drop}
use Rattle.cs_model_index.specs.Sections.{numbers_in}
use Rattle.cs_file.proofs.titles.numbers.Given as goal

abbrev pub invariant-loop-i : goal.invariant-loop-i
invariant-loop-i l = l.numbers.items ++ numbers_in (l.count - l.i) (drop (4 * l.i) l.bytes) ≡ numbers_in l.count l.bytes
