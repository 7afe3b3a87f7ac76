use Rattle.std.proofs.Common.{◌≡◌, ◌++◌}
use Rattle.std.specs.Prelude.{map, drop}
use Rattle.std.specs.List.{concat}
use Rattle.cs_model.specs.Canonical.{canonical_parts, canonical_chain, canonical_linked, canonical_part}
use Rattle.cs_query.specs.Printing.{following}
use Rattle.cs_query.proofs.printing.+print.Given as goal

abbrev pub invariant-put_chain-loop-linked : goal.invariant-put_chain-loop-linked
invariant-put_chain-loop-linked l = l.fn.out ++ canonical_chain l.chain ≡ l.out ++ concat (map canonical_linked (drop l.linked-index l.linked-items))

abbrev pub invariant-put_part-loop-i : goal.invariant-put_part-loop-i
invariant-put_part-loop-i l = l.fn.out ++ canonical_part l.part ≡ l.out ++ following 124 l.i (map canonical_chain (drop l.i l.chain-items))

abbrev pub invariant-put_parts-loop-i : goal.invariant-put_parts-loop-i
invariant-put_parts-loop-i l = l.fn.out ++ canonical_parts l.parts ≡ l.out ++ following 32 l.i (map canonical_part (drop l.i l.parts))
