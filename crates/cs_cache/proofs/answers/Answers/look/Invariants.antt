use Rattle.std.proofs.Common.{◌≡◌, None, take}
use Rattle.std.specs.Prelude.{find}
use Rattle.cs_model_kept.specs.KeptList.{is_held}
use Rattle.cs_cache.proofs.answers.Answers.look.Given as goal

abbrev pub invariant-loop-narrower : goal.invariant-loop-narrower
invariant-loop-narrower l = find (λ n. is_held l.self.entries n.key) (take l.narrower-index l.narrower-items) ≡ None
