use Rattle.cs_model_index.specs.FileRules.{is_sized}
use Rattle.cs_file.proofs.LaidLemmas.{RestOfEven}
use Rattle.cs_file.proofs.directory.bad_shape.Given as goal

abbrev pub invariant-loop-i : goal.invariant-loop-i
invariant-loop-i l = RestOfEven (λ i. is_sized i.value) l.entries.size l.entries.first l.heads l.i
