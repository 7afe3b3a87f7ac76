use Rattle.std.proofs.Common.{sym, ap, ◌∙◌}
use Rattle.std.specs.Prelude.{not}
use Rattle.std.specs.Ordering.{is_lt}
use Rattle.cs_rank.specs.Kept.{is_behind}
use Rattle.cs_rank.proofs.KeptLemmas.{let_go}
use Rattle.cs_rank.proofs.best.is_beaten.Goals as goal

pub returns-in-Some-clause-let_go : goal.returns-in-Some-clause-let_go
returns-in-Some-clause-let_go c =
    λ e room kept seen h.
    let_go room c.args.s.now seen kept c.args.worst.now
    (ap (is_behind c.args.s.now) c.in-Some.is ∙ ap not (ap is_lt (sym c.cmp.ensures) ∙ sym c.is_lt.ensures) ∙ e) h
