use Rattle.std.proofs.Common.{◌≡◌, ◌∙◌, ℕ, List, inl, inr, refl, sym, subst}
use Rattle.std.specs.Prelude.{Some, false}
use Rattle.cs_base.specs.outside.Outside.{Held}
use Rattle.cs_model.specs.Outputs.{script_lines}
use Rattle.cs_model_index.specs.Sections.{file_corpus}
use Rattle.cs_model_live.specs.LiveStates.{before_changes}
use Rattle.cs_indexing.specs.CommandLine.{Ending}
use Rattle.cs_indexing.specs.Met.{HasToldSize, Wrote, held_bytes, wrote}
use Rattle.cs_indexing.proofs.SizedFiles.{held_by}
use Rattle.cs_indexing.proofs.StopLemmas.{ended_early}
use Rattle.cs_top.specs.LiveAnswering.{LiveOver}
use Rattle.cs_top.specs.LiveRuns.{LiveEnds, LiveScript, LiveTold}
use Rattle.cs_top.specs.LiveTexts.{IsLiveText}
use Rattle.cs_top.specs.ScriptRuns.{CanBeOpened, ReplayCaused}
use Rattle.cs_top.specs.ScriptEndings.{script_ending}
use Rattle.cs_top.proofs.LiveScripts.{live_ended}
use Rattle.cs_top.proofs.ScriptLemmas.{index_caused}
use Rattle.cs_top.proofs.ScriptStops.{index_absent, index_damaged, index_ends, live_first, live_second, live_unopened}
use Rattle.cs_top.proofs.live.live_script.Given as given
use Rattle.cs_top.proofs.live.live_script.Goals as goal
use Rattle.cs_top.proofs.live.live_script.Goals.{After-answer_lines}

-- over files that hold h: the bytes of the index file, the lines of the script, and what was put
abbrev b : (g : given.Over) → After-answer_lines g → Held → List ℕ
b g c h = held_bytes h c.args.index.now

abbrev ls : (g : given.Over) → After-answer_lines g → Held → List (ℕ × List ℕ)
ls g c h = script_lines (held_bytes h c.args.script.now)

abbrev w : (g : given.Over) → After-answer_lines g → Wrote
w g c = wrote g.O.Sink c.args.out.now c.answer_lines.new.out

-- both files were opened, no read of them failed, and the index is as it is before the first change
record IsOpen (g : given.Over) (c : After-answer_lines g) (h : Held) : Type 0 where
  still : g.F.Files.held c.open_live.new.files ≡ Some h
  calm : g.F.Files.faults c.open_live.new.files ≡ g.F.Files.faults c.args.files.now
  able : CanBeOpened h c.args.index.now c.args.script.now
  over : LiveOver c.in_ok-live.live c.args.index.now (g.F.Files.held c.open_live.new.files) (b g c h) (before_changes (file_corpus (b g c h)))

is_open : (g : given.Over) (c : After-answer_lines g) (h : Held) → g.F.Files.held c.args.files.now ≡ Some h → IsOpen g c h
is_open g c h held =
    let first : g.F.Files.held c.told_size.new.files ≡ Some h = c.in_ok-size.ensures.reads.files ∙ held in
    let second : g.F.Files.held c.told_size-2.new.files ≡ Some h = c.in_ok-script_size.ensures.reads.files ∙ first in
    let third : g.F.Files.held c.open_live.new.files ≡ Some h = c.in_ok-live.ensures.reads.files ∙ second in
    let over : LiveOver c.in_ok-live.live c.args.index.now (g.F.Files.held c.open_live.new.files) (b g c h) (before_changes (file_corpus (b g c h))) = c.in_ok-live.ensures.ok h second in
    record {
      still = third;
      calm = c.in_ok-live.ensures.reads.quiet ∙ c.in_ok-script_size.ensures.reads.quiet ∙ c.in_ok-size.ensures.reads.quiet;
      able = ((held_by _ _ (c.in_ok-size.ensures.ok h held), held_by _ _ (c.in_ok-script_size.ensures.ok h first)), over.live.stands.accepted);
      over = over;
    }

-- before the script nothing is put
abbrev unput : (g : given.Over) → g.row.O.Denot → Wrote
unput g out = wrote g.O.Sink out out

pub returns-in_err-size-clause-told : goal.returns-in_err-size-clause-told
returns-in_err-size-clause-told g c h held =
    let fn = g.F.Files.faults c.told_size.new.files in
    ended_early (λ e. LiveTold e h c.args.index.now c.args.script.now (g.F.Files.faults c.args.files.now) fn (unput g c.args.out.now)) c.from_residual.result c.in_err-size.field-0.0 c.from_residual.ensures.1
    (live_first h c.args.index.now c.args.script.now (g.F.Files.faults c.args.files.now) fn (unput g c.args.out.now) refl c.in_err-size.field-0.0
    c.in_err-size.ensures.absence (c.in_err-size.ensures.missing h held))

pub returns-in_err-script_size-clause-told : goal.returns-in_err-script_size-clause-told
returns-in_err-script_size-clause-told g c h held =
    let first : g.F.Files.held c.told_size.new.files ≡ Some h = c.in_ok-size.ensures.reads.files ∙ held in
    let fn = g.F.Files.faults c.told_size-2.new.files in
    ended_early (λ e. LiveTold e h c.args.index.now c.args.script.now (g.F.Files.faults c.args.files.now) fn (unput g c.args.out.now)) c.from_residual-in_err-script_size.result c.in_err-script_size.field-0.0
    c.from_residual-in_err-script_size.ensures.1
    (live_second h c.args.index.now c.args.script.now (g.F.Files.faults c.args.files.now) fn (unput g c.args.out.now) refl c.in_err-script_size.field-0.0
    (held_by _ _ (c.in_ok-size.ensures.ok h held)) c.in_err-script_size.ensures.absence (c.in_err-script_size.ensures.missing h first))

pub returns-in_err-live-clause-told : goal.returns-in_err-live-clause-told
returns-in_err-live-clause-told g c h held =
    let first : g.F.Files.held c.told_size.new.files ≡ Some h = c.in_ok-size.ensures.reads.files ∙ held in
    let second : g.F.Files.held c.told_size-2.new.files ≡ Some h = c.in_ok-script_size.ensures.reads.files ∙ first in
    let fn = g.F.Files.faults c.open_live.new.files in
    ended_early (λ e. LiveTold e h c.args.index.now c.args.script.now (g.F.Files.faults c.args.files.now) fn (unput g c.args.out.now)) c.from_residual-in_err-live.result c.in_err-live.field-0.0
    c.from_residual-in_err-live.ensures.1
    (live_unopened h c.args.index.now c.args.script.now (g.F.Files.faults c.args.files.now) fn (unput g c.args.out.now) refl c.in_err-live.field-0.0
    (held_by _ _ (c.in_ok-size.ensures.ok h held), held_by _ _ (c.in_ok-script_size.ensures.ok h first)) c.in_err-live.ensures.kind (c.in_err-live.ensures.damaged h second))

-- how the script ended is how the run ended
told : (g : given.Over) (c : After-answer_lines g) (h : Held) → g.F.Files.held c.args.files.now ≡ Some h → (e : Ending)
    → LiveScript (b g c h) e (ls g c h) (g.F.Files.faults c.open_live.new.files) (g.F.Files.faults c.answer_lines.new.files) (w g c)
    → LiveTold e h c.args.index.now c.args.script.now (g.F.Files.faults c.args.files.now) (g.F.Files.faults c.answer_lines.new.files) (w g c)
told g c h held e script =
    let o = is_open g c h held in
    inr (o.able, subst (λ n. LiveScript (b g c h) e (ls g c h) n (g.F.Files.faults c.answer_lines.new.files) (w g c)) o.calm script)

pub returns-clause-told : goal.returns-clause-told
returns-clause-told g c h held =
    let met = (goal.at.returns-clause-told g c).After-answer_lines in
    let o = is_open g met h held in
    let fn = g.F.Files.faults c.answer_lines.new.files in
    let all = live_ended (b g met h) (ls g met h) (g.F.Files.faults c.open_live.new.files) fn (w g met) c.answer_lines.result
    (c.answer_lines.ensures.whole (b g met h) o.over h o.still) (c.answer_lines.ensures.short (b g met h) o.over h o.still) in
    subst (λ e. LiveTold e h c.args.index.now c.args.script.now (g.F.Files.faults c.args.files.now) fn (w g met)) (sym c.end_of_run.ensures)
    (told g met h held (script_ending c.answer_lines.result) all)

-- ---- over any files
pub returns-in_err-size-clause-ends : goal.returns-in_err-size-clause-ends
returns-in_err-size-clause-ends g c =
    ended_early (λ e. LiveEnds e c.args.index.now c.args.script.now (unput g c.args.out.now)) c.from_residual.result c.in_err-size.field-0.0 c.from_residual.ensures.1
    (index_absent c.args.index.now c.args.script.now (unput g c.args.out.now) c.in_err-size.field-0.0 refl IsLiveText c.args.index.now c.in_err-size.ensures.absence (inl refl))

pub returns-in_err-script_size-clause-ends : goal.returns-in_err-script_size-clause-ends
returns-in_err-script_size-clause-ends g c =
    ended_early (λ e. LiveEnds e c.args.index.now c.args.script.now (unput g c.args.out.now)) c.from_residual-in_err-script_size.result c.in_err-script_size.field-0.0 c.from_residual-in_err-script_size.ensures.1
    (index_absent c.args.index.now c.args.script.now (unput g c.args.out.now) c.in_err-script_size.field-0.0 refl IsLiveText c.args.script.now c.in_err-script_size.ensures.absence (inr refl))

pub returns-in_err-live-clause-ends : goal.returns-in_err-live-clause-ends
returns-in_err-live-clause-ends g c =
    ended_early (λ e. LiveEnds e c.args.index.now c.args.script.now (unput g c.args.out.now)) c.from_residual-in_err-live.result c.in_err-live.field-0.0 c.from_residual-in_err-live.ensures.1
    (index_damaged c.args.index.now c.args.script.now (unput g c.args.out.now) c.in_err-live.field-0.0 refl IsLiveText c.in_err-live.ensures.kind)

pub returns-clause-ends : goal.returns-clause-ends
returns-clause-ends g c =
    let put = w g (goal.at.returns-clause-ends g c).After-answer_lines in
    subst (λ e. LiveEnds e c.args.index.now c.args.script.now put) (sym c.end_of_run.ensures)
    (index_ends IsLiveText c.args.index.now c.args.script.now put c.answer_lines.result c.answer_lines.ensures.puts c.answer_lines.ensures.cuts)

-- ---- what it takes from files, and why it ends
pub answer_lines-requires-clause-index_size : goal.answer_lines-requires-clause-index_size
answer_lines-requires-clause-index_size g c =
    let same : g.F.Files.held c.open_live.new.files ≡ g.F.Files.held c.args.files.now = c.in_ok-live.ensures.reads.files ∙ c.in_ok-script_size.ensures.reads.files ∙ c.in_ok-size.ensures.reads.files in
    subst (λ x. HasToldSize x c.args.index.now c.in_ok-size.size) (sym same) c.in_ok-size.ensures.ok

pub answer_lines-requires-clause-size : goal.answer_lines-requires-clause-size
answer_lines-requires-clause-size g c =
    let same : g.F.Files.held c.open_live.new.files ≡ g.F.Files.held c.told_size.new.files = c.in_ok-live.ensures.reads.files ∙ c.in_ok-script_size.ensures.reads.files in
    subst (λ x. HasToldSize x c.args.script.now c.in_ok-script_size.script_size) (sym same) c.in_ok-script_size.ensures.ok

pub returns-clause-caused : goal.returns-clause-caused
returns-clause-caused g c =
    let fo = g.F.Files.faults c.args.files.now in
    let fb = g.F.Files.faults c.open_live.new.files in
    let fn = g.F.Files.faults c.answer_lines.new.files in
    let ob = g.O.Sink.faults c.args.out.now in
    let on = g.O.Sink.faults c.answer_lines.new.out in
    let calm : fb ≡ fo = c.in_ok-live.ensures.reads.quiet ∙ c.in_ok-script_size.ensures.reads.quiet ∙ c.in_ok-size.ensures.reads.quiet in
    subst (λ e. ReplayCaused e fo fn ob on) (sym c.end_of_run.ensures)
    (index_caused c.answer_lines.result false fo fb fn ob on calm c.answer_lines.ensures.came c.answer_lines.ensures.quiet c.answer_lines.ensures.caused)
