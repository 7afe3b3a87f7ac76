use Rattle.std.proofs.Common.{◌≡◌, map, take}
use Rattle.cs_file.proofs.parts.heads_by_parts.Given as goal

abbrev pub invariant-loop-part : goal.invariant-loop-part
invariant-loop-part l = l.heads.items ≡ map (λ p. p.head) (take l.part-index l.parts)
