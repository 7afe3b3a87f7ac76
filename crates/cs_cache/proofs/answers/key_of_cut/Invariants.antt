use Rattle.std.proofs.Common.{◌≡◌, ◌==◌, None, take}
use Rattle.std.specs.Prelude.{find}
use Rattle.cs_cache.proofs.answers.key_of_cut.Given as goal

abbrev pub invariant-loop-narrower : goal.invariant-loop-narrower
invariant-loop-narrower l = find (λ n. n.cut == l.cut) (take l.narrower-index l.narrower-items) ≡ None
