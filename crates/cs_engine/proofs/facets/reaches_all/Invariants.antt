use Rattle.std.proofs.Common.{◌≡◌, ◌<◌, ◌≤◌, ℕ, get_or, true}
use Rattle.cs_rows.specs.Skipping.{may_hit, no_head}
use Rattle.cs_engine.proofs.facets.reaches_all.Given as goal

abbrev pub invariant-loop-k : goal.invariant-loop-k
invariant-loop-k g l = (j : ℕ) → l.first ≤ j → j < l.k → may_hit l.base (get_or (g.I.Source.view l.index).index.heads j no_head) ≡ true
