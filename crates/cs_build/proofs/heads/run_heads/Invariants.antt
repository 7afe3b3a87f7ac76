use Rattle.std.proofs.Common.{◌≡◌, map, take}
use Rattle.std.specs.List.{zip}
use Rattle.cs_build.specs.WordRuns.{run_head}
use Rattle.cs_build.proofs.heads.run_heads.Given as goal

abbrev pub invariant-loop-i : goal.invariant-loop-i
invariant-loop-i l = l.heads.items ≡ map (run_head l.words) (take l.i (zip l.runs (map (λ b. b.posts) l.blocks)))
