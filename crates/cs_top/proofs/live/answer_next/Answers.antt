use Rattle.std.proofs.Common.{◌∙◌, ◌+◌, refl, rules, subst, sym}
use Rattle.cs_indexing.specs.Met.{held_bytes, wrote}
use Rattle.cs_indexing.specs.Views.{of_script, stop_ending}
use Rattle.cs_top.specs.Answering.{CameCounts}
use Rattle.cs_top.specs.LiveAnswering.{LiveOver, StaysIndex}
use Rattle.cs_top.specs.LiveSteps.{LineText, LiveReaches}
use Rattle.cs_top.specs.ScriptEndings.{EndsAt}
use Rattle.cs_top.proofs.LinesAtPlaces.{ends_at, live_reaches}
use Rattle.cs_top.proofs.live.answer_next.Goals as goal

pub returns-in_err-came-clause-err : goal.returns-in_err-came-clause-err
returns-in_err-came-clause-err g c b s over h held =
    let a = LineText b s in
    let x = held_bytes h c.args.script.name.now in
    let e = stop_ending (of_script c.in_err-came.field-0.0) in
    let w = wrote g.O.Sink c.args.out.now c.answer_line.new.out in
    let fb = g.F.Files.faults c.args.files.now in
    let fn = g.F.Files.faults c.answer_line.new.files in
    let here = subst (λ z. LiveOver c.args.live.now c.args.index.name.now z b s) (sym c.in_ok-len.ensures.same) over in
    let all : EndsAt a e x c.args.place w fb fn =
    subst (λ n. EndsAt a e x c.args.place w n fn) c.in_ok-len.ensures.counted.quiet
    (ends_at a x _ c.args.place c.in_ok-len.at w _ fn e (c.in_ok-len.ensures.line h held) (c.in_err-came.ensures.err b s here)) in
    search rules

pub returns-clause-ok : goal.returns-clause-ok
returns-clause-ok g c b s over h held =
    let here = subst (λ z. LiveOver c.args.live.now c.args.index.name.now z b s) (sym c.in_ok-len.ensures.same) over in
    let there = c.in_ok-came.ensures.ok b s here in
    let x = held_bytes h c.args.script.name.now in (
      there.0,
      subst (λ n. LiveReaches b s x c.args.place (record { at = c.in_ok-len.at; number = c.args.place.number + 1 }) (g.O.Sink.written c.args.out.now) (g.O.Sink.written c.answer_line.new.out) c.in_ok-came.came n (g.F.Files.faults c.answer_line.new.files) there.0)
          c.in_ok-len.ensures.counted.quiet
          (live_reaches b s x _ c.args.place _ (g.F.Files.faults c.answer_line.new.files) (record { at = c.in_ok-len.at; number = c.args.place.number + 1 }) (g.O.Sink.written c.args.out.now) (g.O.Sink.written c.answer_line.new.out) c.in_ok-came.came there.0
          (c.in_ok-len.ensures.line h held) refl there.1),
      there.2,
    )

pub returns-clause-came : goal.returns-clause-came
returns-clause-came g c = subst (λ n. CameCounts c.in_ok-came.came n (g.F.Files.faults c.answer_line.new.files)) c.in_ok-len.ensures.counted.quiet c.in_ok-came.ensures.came

pub returns-clause-stays : goal.returns-clause-stays
returns-clause-stays g c = record { index = c.in_ok-came.ensures.stays.index; files = c.in_ok-came.ensures.stays.files ∙ c.in_ok-len.ensures.same }

pub returns-in_err-came-clause-stays : goal.returns-in_err-came-clause-stays
returns-in_err-came-clause-stays g c =
    let all : StaysIndex c.args.live.now c.answer_line.new.live (g.F.Files.held c.args.files.now) (g.F.Files.held c.answer_line.new.files) =
    record { index = c.in_err-came.ensures.stays.index; files = c.in_err-came.ensures.stays.files ∙ c.in_ok-len.ensures.same } in
    search rules
