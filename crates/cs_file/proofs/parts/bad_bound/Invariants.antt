use Rattle.cs_model_index.specs.FileRules.{is_bound}
use Rattle.cs_file.proofs.BlockParts.{bound_pairs}
use Rattle.cs_file.proofs.LaidLemmas.{RestOfEven}
use Rattle.cs_file.proofs.parts.bad_bound.Given as goal

abbrev pub invariant-loop-i : goal.invariant-loop-i
invariant-loop-i l = RestOfEven (λ i. is_bound i.value) l.entries.size l.entries.first (bound_pairs l.parts l.heads) l.i
