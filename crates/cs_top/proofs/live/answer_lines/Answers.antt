use Rattle.std.proofs.Common.{◌∙◌, ℕ, List, rules, ap, sym, subst, arith, refl}
use Rattle.std.specs.Prelude.{filter}
use Rattle.std.specs.List.{enumerate_from}
use Rattle.std.specs.Str.Lines.{lines}
use Rattle.std.specs.FinMap as map
use Rattle.cs_model.specs.Outputs.{script_lines}
use Rattle.cs_model.specs.Words.{is_filled}
use Rattle.cs_model_index.specs.Sections.{file_corpus}
use Rattle.cs_model_live.specs.LiveStates.{before_changes}
use Rattle.cs_indexing.specs.CommandLine.{failed}
use Rattle.cs_indexing.specs.Met.{held_bytes, wrote}
use Rattle.cs_indexing.specs.Views.{of_script, stop_ending}
use Rattle.cs_indexing.proofs.SizedFiles.{held_size}
use Rattle.cs_top.specs.Answering.{CameCounts}
use Rattle.cs_top.specs.LiveAnswering.{LiveOver}
use Rattle.cs_top.specs.LiveRuns.{IsToldCourse}
use Rattle.cs_top.specs.LiveSteps.{IsToldCourseTo, LineText}
use Rattle.cs_top.specs.LiveTexts.{IsLiveText}
use Rattle.cs_top.specs.PutTexts.{CutsLineOf, EndsOf, PutsTextsOf}
use Rattle.cs_top.specs.ScriptEndings.{EndsAt, ScriptEndsBy, ShortTally}
use Rattle.cs_top.proofs.AnsweredLemmas.{HasAnswered, lines_at}
use Rattle.cs_top.proofs.LiveScripts.{counts_none, live_ends_done, live_ends_here, live_goes_on, live_start, live_unread}
use Rattle.cs_top.proofs.LiveTextsApart.{live_apart}
use Rattle.cs_top.proofs.PutTextLemmas.{nothing_put_of, puts_cut_of, puts_more_of, puts_none_of}
use Rattle.cs_top.proofs.TallyLemmas.{counts_more}
use Rattle.cs_top.proofs.live.answer_lines.Goals as goal

pub returns-in_err-at-clause-short : goal.returns-in_err-at-clause-short
returns-in_err-at-clause-short g c b over h held =
    let ls = script_lines (held_bytes h c.args.script.name.now) in
    let w = g.O.Sink.written c.args.out.now in
    let n = g.O.Sink.faults c.args.out.now in
    let fb = g.F.Files.faults c.args.files.now in
    let fn = g.F.Files.faults c.first_place.new.files in
    let all : (ts : List (List ℕ)) × ScriptEndsBy (IsToldCourse b) failed ls ts (wrote g.O.Sink c.args.out.now c.args.out.now)
    × ShortTally failed (wrote g.O.Sink c.args.out.now c.args.out.now) fb fn ts =
    live_unread b ls w n n fb fn c.in_err-at.ensures.counted.failed in
    search rules

pub returns-in_err-at-clause-cuts : goal.returns-in_err-at-clause-cuts
returns-in_err-at-clause-cuts g c =
    let all : EndsOf IsLiveText failed (wrote g.O.Sink c.args.out.now c.args.out.now) = nothing_put_of IsLiveText (wrote g.O.Sink c.args.out.now c.args.out.now) refl in
    search rules

pub loop-place-init : goal.loop-place-init
loop-place-init g c = record {
  so_far = λ b over h held. (
    before_changes (file_corpus b),
    live_start b _ _ (g.O.Sink.written c.args.out.now) (g.F.Files.faults c.args.files.now) (g.F.Files.faults c.first_place.new.files) (ap (λ x. filter (λ l. is_filled l.1) (enumerate_from 1 (lines x))) (c.in_ok-at.ensures.mark h held))
        c.in_ok-at.ensures.counted.quiet,
    subst (λ z. LiveOver c.args.live.now c.args.index.name.now z b (before_changes (file_corpus b))) (sym c.in_ok-at.ensures.same) over,
  );
  puts = puts_none_of IsLiveText (g.O.Sink.written c.args.out.now);
  came = counts_none _ _ c.in_ok-at.ensures.counted.quiet;
  stays = record { index = refl; files = c.in_ok-at.ensures.same };
  out = refl;
  numbered = omega arith;
}

pub returns-in_err-next-clause-short : goal.returns-in_err-next-clause-short
returns-in_err-next-clause-short g c b over h held =
    let inv = c.loop-place.invariant in
    let had = inv.so_far b over h held in
    let x = held_bytes h c.args.script.name.now in
    let e = stop_ending (of_script c.in_err-next.field-0.0) in
    let new = g.O.Sink.written c.answer_next.new.out in
    let first = g.O.Sink.faults c.args.out.now in
    let last = g.O.Sink.faults c.answer_next.new.out in
    let n = g.F.Files.faults c.answer_next.new.files in
    let there = c.in_err-next.ensures.err b had.0 had.2 h (inv.stays.files ∙ held) in
    let here : EndsAt (LineText b had.0) e x c.loop-place.place (record { old = g.O.Sink.written c.loop-place.out; new = new; before = first; now = last }) (g.F.Files.faults c.loop-place.files) n =
    subst (λ m. EndsAt (LineText b had.0) e x c.loop-place.place (record { old = g.O.Sink.written c.loop-place.out; new = new; before = m; now = last }) (g.F.Files.faults c.loop-place.files) n) inv.out there in
    let all : (ts : List (List ℕ)) × ScriptEndsBy (IsToldCourse b) e (script_lines x) ts (wrote g.O.Sink c.args.out.now c.answer_next.new.out)
    × ShortTally e (wrote g.O.Sink c.args.out.now c.answer_next.new.out) (g.F.Files.faults c.args.files.now) n ts =
    live_ends_here b had.0 x c.loop-place.place had.1 first last e new n here in
    search rules

pub returns-in_err-next-clause-cuts : goal.returns-in_err-next-clause-cuts
returns-in_err-next-clause-cuts g c =
    let inv = c.loop-place.invariant in
    let e = stop_ending (of_script c.in_err-next.field-0.0) in
    let new = g.O.Sink.written c.answer_next.new.out in
    let first = g.O.Sink.faults c.args.out.now in
    let last = g.O.Sink.faults c.answer_next.new.out in
    let here : CutsLineOf IsLiveText e (record { old = g.O.Sink.written c.loop-place.out; new = new; before = first; now = last }) =
    subst (λ m. CutsLineOf IsLiveText e (record { old = g.O.Sink.written c.loop-place.out; new = new; before = m; now = last })) inv.out c.in_err-next.ensures.cuts in
    let all : EndsOf IsLiveText e (wrote g.O.Sink c.args.out.now c.answer_next.new.out) =
    puts_cut_of IsLiveText live_apart c.loop-place.came (g.O.Sink.written c.args.out.now) (g.O.Sink.written c.loop-place.out) first last new e inv.puts here in
    search rules

pub loop-place-preserved : goal.loop-place-preserved
loop-place-preserved g c =
    let inv = c.loop-place.invariant in
    let is = c.and-came.ensures in
    let next = c.in_ok-next in
    record {
      so_far = λ b over h held.
          let had = inv.so_far b over h held in
          let x = held_bytes h c.args.script.name.now in
          let there = next.ensures.ok b had.0 had.2 h (inv.stays.files ∙ held) in (
            there.0,
            subst (λ y. HasAnswered (IsToldCourseTo b there.0) (script_lines x) (lines_at x next.next) (g.O.Sink.written c.args.out.now) (g.O.Sink.written c.answer_next.new.out) y (g.F.Files.faults c.args.files.now) (g.F.Files.faults c.answer_next.new.files)) (sym is)
                (live_goes_on b had.0 x c.loop-place.place had.1 next.next (g.O.Sink.written c.answer_next.new.out) next.met (g.F.Files.faults c.answer_next.new.files) there.0 there.1),
            there.2,
          );
      puts =
          subst (λ y. PutsTextsOf IsLiveText y (g.O.Sink.written c.args.out.now) (g.O.Sink.written c.answer_next.new.out)) (sym is)
          (puts_more_of IsLiveText live_apart c.loop-place.came next.met _ _ _ inv.puts next.ensures.puts);
      came =
          subst (λ y. CameCounts y (g.F.Files.faults c.args.files.now) (g.F.Files.faults c.answer_next.new.files)) (sym is)
          (counts_more c.loop-place.came next.met _ _ _ inv.came next.ensures.came);
      stays = record { index = next.ensures.stays.index ∙ inv.stays.index; files = next.ensures.stays.files ∙ inv.stays.files };
      out = next.ensures.quiet ∙ inv.out;
      numbered = next.ensures.further.2;
    }

pub returns-clause-whole : goal.returns-clause-whole
returns-clause-whole g c b over h held =
    let had = c.loop-place.invariant.so_far b over h held in
    let size = held_size (map.get h c.args.script.name.now) c.args.script.size (c.requires.size h held) in
    live_ends_done b had.0 (held_bytes h c.args.script.name.now) c.loop-place.place had.1 (g.O.Sink.faults c.args.out.now) (g.O.Sink.faults c.loop-place.out) (omega (arith, size))
