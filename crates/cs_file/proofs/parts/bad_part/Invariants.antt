use Rattle.cs_file.specs.Parting.{keeps_part}
use Rattle.cs_file.proofs.LaidLemmas.{RestOfEven}
use Rattle.cs_file.proofs.parts.bad_part.Given as goal

abbrev pub invariant-loop-i : goal.invariant-loop-i
invariant-loop-i l = RestOfEven (λ i. keeps_part l.target l.words i.value i.next) l.entries.size l.entries.first l.parts l.i
