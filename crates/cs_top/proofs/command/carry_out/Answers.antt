use Rattle.std.proofs.Common.{◌≡◌, ◌∙◌, Some, ap, map, subst, sym}
use Rattle.std.specs.String.{string_bytes}
use Rattle.cs_indexing.specs.CommandLine.{command_of, serve}
use Rattle.cs_indexing.specs.Met.{met}
use Rattle.cs_indexing.specs.Views.{HasNumbers, ended, seen_command}
use Rattle.cs_top.specs.CommandRuns.{Ran}
use Rattle.cs_top.proofs.ServeEndings.{ran_by}
use Rattle.cs_top.proofs.command.carry_out.Goals as goal

pub serve_index-requires-clause-port : goal.serve_index-requires-clause-port
serve_index-requires-clause-port g c =
    (subst HasNumbers c.in-Some-Serve.field-0-is (c.command_of.ensures.numbers c.in-Some-Serve.field-0 c.in-Some-Serve.is)).0

pub trial-requires : goal.trial-requires
trial-requires g c = subst HasNumbers c.in-Some-Trial.field-0-is (c.command_of.ensures.numbers c.in-Some-Trial.field-0 c.in-Some-Trial.is)

pub serve_index-requires-clause-conns : goal.serve_index-requires-clause-conns
serve_index-requires-clause-conns g c =
    (subst HasNumbers c.in-Some-Serve.field-0-is (c.command_of.ensures.numbers c.in-Some-Serve.field-0 c.in-Some-Serve.is)).1

pub returns-in-Some-Serve : goal.returns-in-Some-Serve
returns-in-Some-Serve g c =
    let s = c.in-Some-Serve in
    let m = met g.F.Files g.H.Hub g.O.Sink (c.args.files.now, c.args.hub.now, c.args.out.now) (c.serve_index.new.files, c.serve_index.new.hub, c.serve_index.new.out) in
    let e : Some (serve s.index.now s.port.now s.conns.now) ≡ command_of (map string_bytes c.args.words.now.items) =
    ap (λ x. Some (seen_command x)) (sym s.field-0-is) ∙ s.ensures.seen ∙ ap (λ l. command_of (map string_bytes l)) c.deref.ensures.value in
    record { ran = subst (λ x. Ran (ended c.serve_index.result) x m) e (ran_by s.index.now s.port.now s.conns.now m (ended c.serve_index.result) c.serve_index.ensures.ends c.serve_index.ensures.told c.serve_index.ensures.caused c.serve_index.ensures.files) }
