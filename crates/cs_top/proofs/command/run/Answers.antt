use Rattle.std.proofs.Common.{ℕ, sym, subst}
use Rattle.std.specs.Prelude.{map}
use Rattle.std.specs.String.{string_bytes}
use Rattle.cs_indexing.specs.CommandLine.{command_of}
use Rattle.cs_indexing.specs.Met.{met}
use Rattle.cs_indexing.specs.Views.{ended}
use Rattle.cs_top.specs.CommandRuns.{Completes}
use Rattle.cs_top.proofs.CompleteLemmas.{completes}
use Rattle.cs_top.proofs.command.run.Goals as goal

pub returns-clause-complete : goal.returns-clause-complete
returns-clause-complete g c =
    let words = command_of (map string_bytes c.args.words.now.items) in
    let m = met g.F.Files g.H.Hub g.O.Sink (c.args.files.now, c.args.hub.now, c.args.out.now) (c.carry_out-ended.new.files, c.carry_out-ended.new.hub, c.carry_out-ended.new.out) in
    subst (λ (n : ℕ). Completes words m n) (sym c.status_of.ensures) (completes (ended c.carry_out-ended.result) words m c.carry_out-ended.ensures.ran)
