use Rattle.cs_model_index.specs.FileRules.{is_joined}
use Rattle.cs_file.proofs.LaidLemmas.{RestOfEven}
use Rattle.cs_file.proofs.directory.bad_start.Given as goal

abbrev pub invariant-loop-i : goal.invariant-loop-i
invariant-loop-i l = RestOfEven (λ i. is_joined i.last i.value) l.entries.size l.entries.first l.heads l.i
