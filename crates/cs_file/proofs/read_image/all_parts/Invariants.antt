use Rattle.std.proofs.Common.{◌≡◌, map, take}
use Rattle.std.specs.List.{zip}
use Rattle.cs_file.specs.ImageSteps.{block_parts}
use Rattle.cs_file.proofs.read_image.all_parts.Given as goal

abbrev pub invariant-loop-k : goal.invariant-loop-k
invariant-loop-k l = l.parts.items ≡ block_parts (take l.k (zip l.heads (map (λ c. c.posts) l.blocks)))
