use Rattle.std.proofs.Common.{◌≡◌, ◌∙◌, ℕ, List, inl, inr, refl, rules, sym, subst}
use Rattle.std.specs.Prelude.{Some, IfOk, IfErr}
use Rattle.std.proofs.lemmas.Result.{IfOk-weaker}
use Rattle.cs_base.specs.outside.Outside.{Held}
use Rattle.cs_file.specs.Indexes.{StandsFor}
use Rattle.cs_model.specs.Corpus.{Corpus}
use Rattle.cs_model.specs.Outputs.{script_lines}
use Rattle.cs_model_index.specs.Sections.{file_corpus}
use Rattle.cs_indexing.specs.declared.words.HitForm.TheVariants.{Titled}
use Rattle.cs_indexing.specs.CommandLine.{Ending}
use Rattle.cs_indexing.specs.Met.{Wrote, held_bytes, wrote}
use Rattle.cs_indexing.specs.Views.{of_script, stop_ending}
use Rattle.cs_indexing.proofs.SizedFiles.{held_by}
use Rattle.cs_top.specs.Answering.{AnswersOver, CameCounts}
use Rattle.cs_top.specs.HitForms.{AtHand, form_by}
use Rattle.cs_top.specs.PutTexts.{EndsBy, IsOwnText, PutsTexts}
use Rattle.cs_top.specs.ScriptRuns.{CanBeOpened, ReplayCaused, ReplayEnds, ReplayScript, ReplayTold}
use Rattle.cs_top.specs.ScriptEndings.{script_ending}
use Rattle.cs_top.proofs.ScriptStops.{index_absent, index_damaged, index_ends}
use Rattle.cs_top.proofs.ScriptLemmas.{index_caused, over_held, replay_ended}
use Rattle.cs_top.proofs.replay.replay.Given as given
use Rattle.cs_top.proofs.replay.replay.Goals as goal
use Rattle.cs_top.proofs.replay.replay.Goals.{After-answer_script}

-- over files that hold h: the corpus of the index file, the lines of the script, and what was put
abbrev k : (g : given.Over) → After-answer_script g → Held → Corpus
k g c h = file_corpus (held_bytes h c.args.index.now)

abbrev ls : (g : given.Over) → After-answer_script g → Held → List (ℕ × List ℕ)
ls g c h = script_lines (held_bytes h c.args.script.now)

abbrev w : (g : given.Over) → After-answer_script g → Wrote
w g c = wrote g.O.Sink c.args.out.now c.answer_script.new.out

-- both files were opened, no read of them failed, and the engine answers over the index file
record IsOpen (g : given.Over) (c : After-answer_script g) (h : Held) : Type 0 where
  still : g.F.Files.held c.open.new.files ≡ Some h
  calm : g.F.Files.faults c.open.new.files ≡ g.F.Files.faults c.args.files.now
  able : CanBeOpened h c.args.index.now c.args.script.now
  over : AnswersOver c.in_ok-engine.engine c.held-file.result (g.F.Files.held c.open.new.files) (k g c h)

is_open : (g : given.Over) (c : After-answer_script g) (h : Held) → g.F.Files.held c.args.files.now ≡ Some h → IsOpen g c h
is_open g c h held =
    let i = c.args.index.now in
    let first : g.F.Files.held c.told_size.new.files ≡ Some h = c.in_ok-size.ensures.reads.files ∙ held in
    let second : g.F.Files.held c.told_size-2.new.files ≡ Some h = c.in_ok-script_size.ensures.reads.files ∙ first in
    let third : g.F.Files.held c.open.new.files ≡ Some h = c.in_ok-engine.ensures.reads.files ∙ second in
    let stands : StandsFor (held_bytes h i) c.in_ok-engine.engine.index = c.in_ok-engine.ensures.ok h second in
    record {
      still = third;
      calm = c.in_ok-engine.ensures.reads.quiet ∙ c.in_ok-script_size.ensures.reads.quiet ∙ c.in_ok-size.ensures.reads.quiet;
      able = ((held_by _ _ (c.in_ok-size.ensures.ok h held), held_by _ _ (c.in_ok-script_size.ensures.ok h first)), stands.accepted);
      over = over_held c.in_ok-engine.engine c.held-file.result (g.F.Files.held c.open.new.files) h i c.in_ok-size.size
          c.held-file.ensures third stands (c.in_ok-engine.ensures.good (held_bytes h i));
    }

-- how the script ended is how the run ended
told : (g : given.Over) (c : After-answer_script g) (h : Held) → g.F.Files.held c.args.files.now ≡ Some h → (e : Ending)
    → ReplayScript (k g c h) e (ls g c h) (g.F.Files.faults c.open.new.files) (g.F.Files.faults c.answer_script.new.files) (w g c)
    → ReplayTold e h c.args.index.now c.args.script.now (g.F.Files.faults c.args.files.now) (g.F.Files.faults c.answer_script.new.files) (w g c)
told g c h held e script =
    let o = is_open g c h held in
    inr (o.able, subst (λ n. ReplayScript (k g c h) e (ls g c h) n (g.F.Files.faults c.answer_script.new.files) (w g c)) o.calm script)

pub returns-clause-told : goal.returns-clause-told
returns-clause-told g c h held =
    let met = (goal.at.returns-clause-told g c).After-answer_script in
    let o = is_open g met h held in
    let fn = g.F.Files.faults c.answer_script.new.files in
    let all = replay_ended _ c.held-file.result (k g met h) (ls g met h) (g.F.Files.faults c.open.new.files) fn (w g met) c.titled-showing.ensures c.answer_script.result
    (c.answer_script.ensures.whole (k g met h) o.over h o.still) (c.answer_script.ensures.short (k g met h) o.over h o.still) in
    subst (λ e. ReplayTold e h c.args.index.now c.args.script.now (g.F.Files.faults c.args.files.now) fn (w g met)) (sym c.end_of_run.ensures)
    (told g met h held (script_ending c.answer_script.result) all)

-- ---- over any files
-- before the script nothing is put
abbrev unput : (g : given.Over) → g.row.O.Denot → Wrote
unput g out = wrote g.O.Sink out out

pub returns-in_err-size-clause-ends : goal.returns-in_err-size-clause-ends
returns-in_err-size-clause-ends g c =
    let all = index_absent c.args.index.now c.args.script.now (unput g c.args.out.now) c.in_err-size.field-0.0 refl (IsOwnText Titled) c.args.index.now c.in_err-size.ensures.absence (inl refl) in
    search rules

pub returns-in_err-script_size-clause-ends : goal.returns-in_err-script_size-clause-ends
returns-in_err-script_size-clause-ends g c =
    let all = index_absent c.args.index.now c.args.script.now (unput g c.args.out.now) c.in_err-script_size.field-0.0 refl (IsOwnText Titled) c.args.script.now c.in_err-script_size.ensures.absence (inr refl) in
    search rules

pub returns-in_err-engine-clause-ends : goal.returns-in_err-engine-clause-ends
returns-in_err-engine-clause-ends g c =
    let all = index_damaged c.args.index.now c.args.script.now (unput g c.args.out.now) c.in_err-engine.field-0.0 refl (IsOwnText Titled) c.in_err-engine.ensures.kind in
    search rules

pub returns-clause-ends : goal.returns-clause-ends
returns-clause-ends g c =
    let put = w g (goal.at.returns-clause-ends g c).After-answer_script in
    let puts = subst (λ (docs : AtHand). IfOk c.answer_script.result (λ came. PutsTexts (form_by docs) came put.old put.new)) c.titled-showing.ensures c.answer_script.ensures.puts in
    let cuts = subst (λ (docs : AtHand). IfErr c.answer_script.result (λ y. EndsBy (form_by docs) (stop_ending (of_script y)) put)) c.titled-showing.ensures c.answer_script.ensures.cuts in
    subst (λ e. ReplayEnds e c.args.index.now c.args.script.now put) (sym c.end_of_run.ensures)
    (index_ends (IsOwnText Titled) c.args.index.now c.args.script.now put c.answer_script.result puts cuts)

pub returns-clause-caused : goal.returns-clause-caused
returns-clause-caused g c =
    let fo = g.F.Files.faults c.args.files.now in
    let fb = g.F.Files.faults c.open.new.files in
    let fn = g.F.Files.faults c.answer_script.new.files in
    let ob = g.O.Sink.faults c.args.out.now in
    let on = g.O.Sink.faults c.answer_script.new.out in
    let calm : fb ≡ fo = c.in_ok-engine.ensures.reads.quiet ∙ c.in_ok-script_size.ensures.reads.quiet ∙ c.in_ok-size.ensures.reads.quiet in
    subst (λ e. ReplayCaused e fo fn ob on) (sym c.end_of_run.ensures)
    (index_caused c.answer_script.result _ fo fb fn ob on calm (IfOk-weaker c.answer_script.result _ (λ x. CameCounts x fb fn) (λ x h. h.counts) c.answer_script.ensures.came)
    c.answer_script.ensures.quiet c.answer_script.ensures.caused)
