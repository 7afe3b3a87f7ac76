use Rattle.std.proofs.Common.{◌∙◌, ap, sym, List, ℕ, ◌++◌}
use Rattle.cs_gaps.proofs.PassLemmas.{short_code}
use Rattle.cs_gaps.proofs.gap.put_gap.Goals as goal

pub returns-then-n-lt128-clause-ok : goal.returns-then-n-lt128-clause-ok
returns-then-n-lt128-clause-ok c = c.in_ok-push.ensures.items ∙ ap (λ (x : List ℕ). c.args.out.now.items ++ x) (sym (short_code c.args.n c.if-n-lt128.true))
