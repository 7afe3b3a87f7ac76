use Rattle.std.proofs.Common.{◌+◌, refl, rules, subst}
use Rattle.cs_indexing.specs.Met.{held_bytes, wrote}
use Rattle.cs_indexing.specs.Views.{of_script, stop_ending}
use Rattle.cs_top.specs.Answering.{MayAnswer, StaysOver}
use Rattle.cs_top.specs.ScriptEndings.{EndsAt, Reaches}
use Rattle.cs_top.proofs.LinesAtPlaces.{ends_at, reaches_by}
use Rattle.cs_top.proofs.OverLemmas.{came_at, over_at, over_behind, over_none}
use Rattle.cs_top.proofs.script.answer_next.Goals as goal

pub returns-in_err-came-clause-err : goal.returns-in_err-came-clause-err
returns-in_err-came-clause-err g c k over h held =
    let a = MayAnswer c.args.showing.now c.args.file.now k in
    let b = held_bytes h c.args.script.name.now in
    let e = stop_ending (of_script c.in_err-came.field-0.0) in
    let w = wrote g.O.Sink c.args.out.now c.answer_line.new.out in
    let fb = g.F.Files.faults c.args.files.now in
    let fn = g.F.Files.faults c.answer_line.new.files in
    let here = over_at c.args.engine.now c.args.file.now _ _ c.in_ok-len.ensures.same k over in
    let all : EndsAt a e b c.args.place w fb fn =
    subst (λ n. EndsAt a e b c.args.place w n fn) c.in_ok-len.ensures.counted.quiet
    (ends_at a b _ c.args.place c.in_ok-len.at w _ fn e (c.in_ok-len.ensures.line h held) (c.in_err-came.ensures.err k here)) in
    search rules

pub returns-clause-ok : goal.returns-clause-ok
returns-clause-ok g c k over h held =
    let here = over_at c.args.engine.now c.args.file.now _ _ c.in_ok-len.ensures.same k over in
    subst (λ n. Reaches (MayAnswer c.args.showing.now c.args.file.now k) (held_bytes h c.args.script.name.now) c.args.place (record { at = c.in_ok-len.at; number = c.args.place.number + 1 }) (g.O.Sink.written c.args.out.now) (g.O.Sink.written c.answer_line.new.out) c.in_ok-came.came n (g.F.Files.faults c.answer_line.new.files))
    c.in_ok-len.ensures.counted.quiet
    (reaches_by (MayAnswer c.args.showing.now c.args.file.now k) (held_bytes h c.args.script.name.now) _ c.args.place c.in_ok-len.at (wrote g.O.Sink c.args.out.now c.answer_line.new.out) _ (g.F.Files.faults c.answer_line.new.files)
    (record { at = c.in_ok-len.at; number = c.args.place.number + 1 }) (g.O.Sink.written c.args.out.now) (g.O.Sink.written c.answer_line.new.out) c.in_ok-came.came (c.in_ok-len.ensures.line h held) refl (c.in_ok-came.ensures.ok k here))

pub returns-clause-came : goal.returns-clause-came
returns-clause-came g c =
    came_at c.args.engine.now c.args.file.now _ _ c.in_ok-len.ensures.same c.in_ok-came.came _ _ _ c.in_ok-len.ensures.counted.quiet c.in_ok-came.ensures.came

pub returns-clause-over : goal.returns-clause-over
returns-clause-over g c = over_behind c.args.engine.now c.args.file.now _ _ c.in_ok-len.ensures.same _ _ _ c.in_ok-came.ensures.over

pub returns-in_err-came-clause-over : goal.returns-in_err-came-clause-over
returns-in_err-came-clause-over g c =
    let all : StaysOver c.args.engine.now c.answer_line.new.engine c.args.file.now c.answer_line.new.file (g.F.Files.held c.args.files.now) (g.F.Files.held c.answer_line.new.files) =
    over_behind c.args.engine.now c.args.file.now _ _ c.in_ok-len.ensures.same _ _ _ c.in_err-came.ensures.over in
    search rules

pub returns-in_err-len-clause-over : goal.returns-in_err-len-clause-over
returns-in_err-len-clause-over g c = over_none c.args.engine.now c.args.file.now _ _ c.in_err-len.ensures.same
