use Rattle.std.proofs.Common.{◌∙◌, ℕ, List, rules, ap, sym, subst, arith, refl}
use Rattle.std.specs.Prelude.{filter}
use Rattle.std.specs.List.{enumerate_from}
use Rattle.std.specs.Str.Lines.{lines}
use Rattle.std.specs.FinMap as map
use Rattle.cs_model.specs.Outputs.{OneEach, script_lines}
use Rattle.cs_model.specs.Words.{is_filled}
use Rattle.cs_indexing.specs.CommandLine.{failed}
use Rattle.cs_indexing.specs.Met.{held_bytes, wrote}
use Rattle.cs_indexing.specs.Views.{of_script, stop_ending}
use Rattle.cs_indexing.proofs.SizedFiles.{held_size}
use Rattle.cs_top.specs.Answering.{CameOver, MayAnswer}
use Rattle.cs_top.specs.HitForms.{form_by}
use Rattle.cs_top.specs.PutTexts.{CutsLine, EndsBy, PutsTexts}
use Rattle.cs_top.specs.ScriptEndings.{ScriptEnds, ShortTally, EndsAt, Reaches}
use Rattle.cs_top.proofs.AnsweredLemmas.{HasAnswered, at_start, lines_at, unread, goes_on, ends_here, ends_done}
use Rattle.cs_top.proofs.PutTextLemmas.{nothing_put, puts_cut, puts_more, puts_none}
use Rattle.cs_top.proofs.OverLemmas.{came_more, came_none, over_more, over_none}
use Rattle.cs_top.proofs.script.answer_script.Goals as goal

pub returns-in_err-at-clause-short : goal.returns-in_err-at-clause-short
returns-in_err-at-clause-short g c k over h held =
    let a = MayAnswer c.args.showing.now c.args.file.now k in
    let ls = script_lines (held_bytes h c.args.script.name.now) in
    let w = g.O.Sink.written c.args.out.now in
    let n = g.O.Sink.faults c.args.out.now in
    let fb = g.F.Files.faults c.args.files.now in
    let fn = g.F.Files.faults c.first_place.new.files in
    let all : (ts : List (List ℕ)) × ScriptEnds a failed ls ts (wrote g.O.Sink c.args.out.now c.args.out.now)
    × ShortTally failed (wrote g.O.Sink c.args.out.now c.args.out.now) fb fn ts =
    unread (at_start (OneEach a) ls ls w fb fb tt refl refl) n n w fn refl c.in_err-at.ensures.counted.failed in
    search rules

pub returns-in_err-at-clause-cuts : goal.returns-in_err-at-clause-cuts
returns-in_err-at-clause-cuts g c =
    let all : EndsBy (form_by c.args.showing.now) failed (wrote g.O.Sink c.args.out.now c.args.out.now) = nothing_put (form_by c.args.showing.now) (wrote g.O.Sink c.args.out.now c.args.out.now) refl in
    search rules

pub loop-place-init : goal.loop-place-init
loop-place-init g c = record {
  so_far = λ k over h held.
      at_start (OneEach (MayAnswer c.args.showing.now c.args.file.now k)) _ _ (g.O.Sink.written c.args.out.now) (g.F.Files.faults c.args.files.now) (g.F.Files.faults c.first_place.new.files) tt (ap (λ x. filter (λ l. is_filled l.1) (enumerate_from 1 (lines x))) (c.in_ok-at.ensures.mark h held))
      c.in_ok-at.ensures.counted.quiet;
  puts = puts_none (form_by c.args.showing.now) (g.O.Sink.written c.args.out.now);
  came = came_none c.args.engine.now c.args.file.now _ _ _ c.in_ok-at.ensures.counted.quiet;
  over = over_none c.args.engine.now c.args.file.now _ _ c.in_ok-at.ensures.same;
  out = refl;
  numbered = omega arith;
}

pub returns-in_err-next-clause-short : goal.returns-in_err-next-clause-short
returns-in_err-next-clause-short g c k over h held =
    let inv = c.loop-place.invariant in
    let b = held_bytes h c.args.script.name.now in
    let e = stop_ending (of_script c.in_err-next.field-0.0) in
    let new = g.O.Sink.written c.answer_next.new.out in
    let first = g.O.Sink.faults c.args.out.now in
    let last = g.O.Sink.faults c.answer_next.new.out in
    let n = g.F.Files.faults c.answer_next.new.files in
    let there = c.in_err-next.ensures.err k (inv.over.stays k over) h (inv.over.files ∙ held) in
    let here : EndsAt (MayAnswer c.args.showing.now c.args.file.now k) e b c.loop-place.place (record { old = g.O.Sink.written c.loop-place.out; new = new; before = first; now = last }) (g.F.Files.faults c.loop-place.files) n =
    subst (λ m. EndsAt (MayAnswer c.args.showing.now c.args.file.now k) e b c.loop-place.place (record { old = g.O.Sink.written c.loop-place.out; new = new; before = m; now = last }) (g.F.Files.faults c.loop-place.files) n) inv.out
    (subst (λ f. EndsAt (MayAnswer c.args.showing.now f k) e b c.loop-place.place (wrote g.O.Sink c.loop-place.out c.answer_next.new.out) (g.F.Files.faults c.loop-place.files) n) inv.over.file there) in
    let all : (ts : List (List ℕ)) × ScriptEnds (MayAnswer c.args.showing.now c.args.file.now k) e (script_lines b) ts (wrote g.O.Sink c.args.out.now c.answer_next.new.out)
    × ShortTally e (wrote g.O.Sink c.args.out.now c.answer_next.new.out) (g.F.Files.faults c.args.files.now) n ts =
    ends_here b c.loop-place.place (inv.so_far k over h held) first last e new n here in
    search rules

pub returns-in_err-next-clause-cuts : goal.returns-in_err-next-clause-cuts
returns-in_err-next-clause-cuts g c =
    let inv = c.loop-place.invariant in
    let e = stop_ending (of_script c.in_err-next.field-0.0) in
    let new = g.O.Sink.written c.answer_next.new.out in
    let first = g.O.Sink.faults c.args.out.now in
    let last = g.O.Sink.faults c.answer_next.new.out in
    let here : CutsLine (form_by c.args.showing.now) e (record { old = g.O.Sink.written c.loop-place.out; new = new; before = first; now = last }) =
    subst (λ m. CutsLine (form_by c.args.showing.now) e (record { old = g.O.Sink.written c.loop-place.out; new = new; before = m; now = last })) inv.out c.in_err-next.ensures.cuts in
    let all : EndsBy (form_by c.args.showing.now) e (wrote g.O.Sink c.args.out.now c.answer_next.new.out) =
    puts_cut (form_by c.args.showing.now) c.loop-place.came (g.O.Sink.written c.args.out.now) (g.O.Sink.written c.loop-place.out) first last new e inv.puts here in
    search rules

pub loop-place-preserved : goal.loop-place-preserved
loop-place-preserved g c =
    let inv = c.loop-place.invariant in
    let is = c.and-came.ensures in
    let next = c.in_ok-next in
    record {
      so_far = λ k over h held.
          let b = held_bytes h c.args.script.name.now in
          let there = next.ensures.ok k (inv.over.stays k over) h (inv.over.files ∙ held) in
          let here : Reaches (MayAnswer c.args.showing.now c.args.file.now k) b c.loop-place.place next.next (g.O.Sink.written c.loop-place.out) (g.O.Sink.written c.answer_next.new.out) next.met (g.F.Files.faults c.loop-place.files) (g.F.Files.faults c.answer_next.new.files) =
          subst (λ f. Reaches (MayAnswer c.args.showing.now f k) b c.loop-place.place next.next (g.O.Sink.written c.loop-place.out) (g.O.Sink.written c.answer_next.new.out) next.met (g.F.Files.faults c.loop-place.files) (g.F.Files.faults c.answer_next.new.files)) inv.over.file there in
          subst (λ x. HasAnswered (OneEach (MayAnswer c.args.showing.now c.args.file.now k)) (script_lines b) (lines_at b next.next) (g.O.Sink.written c.args.out.now) (g.O.Sink.written c.answer_next.new.out) x (g.F.Files.faults c.args.files.now) (g.F.Files.faults c.answer_next.new.files)) (sym is)
          (goes_on b c.loop-place.place (inv.so_far k over h held) next.next (g.O.Sink.written c.answer_next.new.out) next.met (g.F.Files.faults c.answer_next.new.files) here);
      puts =
          subst (λ x. PutsTexts (form_by c.args.showing.now) x (g.O.Sink.written c.args.out.now) (g.O.Sink.written c.answer_next.new.out)) (sym is)
          (puts_more (form_by c.args.showing.now) c.loop-place.came next.met _ _ _ inv.puts next.ensures.puts);
      came =
          subst (λ x. CameOver c.args.engine.now c.args.file.now (g.F.Files.held c.args.files.now) x (g.F.Files.faults c.args.files.now) (g.F.Files.faults c.answer_next.new.files)) (sym is)
          (came_more inv.over c.loop-place.came next.met _ _ _ inv.came next.ensures.came);
      over = over_more inv.over next.ensures.over;
      out = next.ensures.quiet ∙ inv.out;
      numbered = next.ensures.further.2;
    }

pub returns-clause-whole : goal.returns-clause-whole
returns-clause-whole g c k over h held =
    let size = held_size (map.get h c.args.script.name.now) c.args.script.size (c.requires.size h held) in
    ends_done (held_bytes h c.args.script.name.now) c.loop-place.place (c.loop-place.invariant.so_far k over h held) (g.O.Sink.faults c.args.out.now) (g.O.Sink.faults c.loop-place.out) (omega (arith, size))
