use Rattle.std.proofs.Common.{◌≡◌, ◌++◌, length}
use Rattle.cs_model_sources.specs.Translated.{flat}
use Rattle.cs_more.proofs.document_line.push_flat.Given as goal

abbrev pub invariant-loop-at : goal.invariant-loop-at
invariant-loop-at l = l.tsv.items ++ flat l.rest ≡ l.fn.tsv.items ++ flat l.bytes

abbrev pub decreases-loop-at : goal.decreases-loop-at
decreases-loop-at l = length l.rest
