use Rattle.std.proofs.Common.{◌≡◌, drop}
use Rattle.std.specs.Prelude.{fold}
use Rattle.cs_model_excerpts.specs.OwnWords.{chain_marks, either_marks, part_marks}
use Rattle.cs_more.proofs.marks.part_marks.Given as goal

abbrev pub invariant-loop-chain : goal.invariant-loop-chain
invariant-loop-chain l = part_marks l.words l.part ≡ fold (λ ms c. either_marks ms (chain_marks l.words c)) l.marks.items (drop l.chain-index l.chain-items)
