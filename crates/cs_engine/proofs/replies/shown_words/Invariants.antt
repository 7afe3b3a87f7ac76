use Rattle.std.proofs.Common.{◌≡◌, ◌++◌, drop, map}
use Rattle.cs_rows.specs.Stocked.{shown_at}
use Rattle.cs_engine.proofs.replies.shown_words.Given as goal

abbrev pub invariant-loop-completion : goal.invariant-loop-completion
invariant-loop-completion g l = map (shown_at (g.I.Source.view l.index).words) l.first
    ≡ l.shown ++ map (shown_at (g.I.Source.view l.index).words) (drop l.completion-index l.first)
