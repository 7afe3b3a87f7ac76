use Rattle.cs_model_index.specs.FileRules.{is_of_one_kind}
use Rattle.cs_file.proofs.LaidLemmas.{RestOfEven}
use Rattle.cs_file.proofs.directory.bad_kind.Given as goal

abbrev pub invariant-loop-i : goal.invariant-loop-i
invariant-loop-i l = RestOfEven (λ i. is_of_one_kind l.words i.value) l.entries.size l.entries.first l.heads l.i
