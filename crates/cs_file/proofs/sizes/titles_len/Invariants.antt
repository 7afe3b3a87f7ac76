use Rattle.std.proofs.Common.{◌≡◌, take, length}
use Rattle.std.specs.Prelude.{flat_map}
use Rattle.cs_file.proofs.sizes.titles_len.Given as goal

abbrev pub invariant-loop-title : goal.invariant-loop-title
invariant-loop-title l = l.bytes ≡ length (flat_map (λ t. t) (take l.title-index l.titles))
