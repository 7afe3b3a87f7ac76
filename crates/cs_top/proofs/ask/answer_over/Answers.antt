use Rattle.std.proofs.Common.{◌≡◌, ℕ, List, inl, inr, refl, rules, sym, subst}
use Rattle.std.specs.Prelude.{Ok}
use Rattle.cs_base.specs.outside.Outside.{Held}
use Rattle.cs_model.specs.Corpus.{Corpus, corpus}
use Rattle.cs_model.specs.Outputs.{script_lines}
use Rattle.cs_model_index.specs.Layout.{file}
use Rattle.cs_model_index.specs.Sections.{file_corpus}
use Rattle.cs_indexing.specs.CommandLine.{Ending, done, no_memory}
use Rattle.cs_indexing.specs.Met.{Wrote, held_bytes, wrote}
use Rattle.cs_indexing.specs.Views.{ended, of_script, stop_ending}
use Rattle.cs_top.specs.Answering.{AnswersOver, CameOver, MayAnswer}
use Rattle.cs_top.specs.HitForms.{IsAnswerIn, form_by}
use Rattle.cs_top.specs.PutTexts.{PutsTexts}
use Rattle.cs_top.specs.ScriptEndings.{ScriptEnds, ShortTally, Tally}
use Rattle.cs_top.specs.ScriptRuns.{AskEnds, AskTold, IsAskedOver}
use Rattle.cs_top.specs.declared.script.WhatCame.{WhatCame}
use Rattle.cs_top.specs.declared.script.WhatCame.TheVariants.{Answered, Read, Changed}
use Rattle.cs_top.proofs.ShownLemmas.{shown_in}
use Rattle.cs_top.proofs.ScriptStops.{short_by}
use Rattle.cs_top.proofs.ScriptLemmas.{ends_by, err_there, made_only, ok_there, over_made, some_made, there_made}
use Rattle.cs_top.proofs.ask.answer_over.Given as given
use Rattle.cs_top.proofs.ask.answer_over.Goals as goal
use Rattle.cs_top.proofs.ask.answer_over.Goals.{After-answer_script}

-- what was put
abbrev w : (g : given.Over) → After-answer_script g → Wrote
w g c = wrote g.O.Sink c.args.out.now c.answer_script.new.out

-- the collection of which this is the image, and its corpus
abbrev Over : (g : given.Over) → After-answer_script g → Held → List ℕ → Type 0
Over g c h name = IsAskedOver h name c.args.script.name.now c.args.showing.now c.args.image

abbrev k : Held → List ℕ → Corpus
k h name = corpus (held_bytes h name)

-- the engine answers over the collection
over : (g : given.Over) (c : After-answer_script g) (h : Held) (name : List ℕ) → Over g c h name
    → AnswersOver c.in_ok-engine.engine c.made-file.result (g.F.Files.held c.args.files.now) (k h name)
over g c h name is =
    over_made c.in_ok-engine.engine c.made-file.result (g.F.Files.held c.args.files.now) (file c.args.image)
    c.in_ok-engine.store.bytes (k h name) c.made-file.ensures c.in_ok-engine.ensures.bytes c.in_ok-engine.ensures.stands
    (c.in_ok-engine.ensures.good (file c.args.image))
    (sym is.filed.corpus)

-- how the script ended is how the run ended: over an index file in memory each text is an answer
told : (g : given.Over) (c : After-answer_script g) (h : Held) (name : List ℕ) → Over g c h name → (e : Ending) (ts : List (List ℕ))
    → ScriptEnds (MayAnswer c.args.showing.now c.made-file.result (k h name)) e (script_lines (held_bytes h c.args.script.name.now)) ts (w g c)
    → AskTold (form_by c.args.showing.now) e h name c.args.script.name.now (w g c)
told g c h name is e ts script =
    let docs = c.args.showing.now in
    let b = held_bytes h name in
    let some = some_made c.in_ok-engine.engine.index c.made-file.result (g.F.Files.held c.args.files.now)
    c.in_ok-engine.store.bytes c.made-file.ensures in
    inr (
      is.ready,
      (
        ts,
        ends_by (MayAnswer docs c.made-file.result (corpus b)) (IsAnswerIn (form_by docs) b)
            (λ l t h. shown_in b docs is.shown l t (made_only docs c.made-file.result (corpus b) some l t h)) e (script_lines (held_bytes h c.args.script.name.now)) ts (w g c) script,
      ),
    )

pub answer_script-requires-clause-there : goal.answer_script-requires-clause-there
answer_script-requires-clause-there g c =
    there_made c.in_ok-engine.engine.index c.made-file.result (g.F.Files.held c.args.files.now) (file c.args.image) c.in_ok-engine.store.bytes c.made-file.ensures c.in_ok-engine.ensures.bytes c.in_ok-engine.ensures.fits

-- what came of the lines
came : (g : given.Over) (c : After-answer_script g) (x y : WhatCame) → c.answer_script.result ≡ Ok x → x ≡ y
    → CameOver c.in_ok-engine.engine c.made-file.result (g.F.Files.held c.args.files.now) y (g.F.Files.faults c.args.files.now) (g.F.Files.faults c.answer_script.new.files)
came g c x y is same =
    ok_there c.answer_script.result x y (λ a. CameOver c.in_ok-engine.engine c.made-file.result (g.F.Files.held c.args.files.now) a (g.F.Files.faults c.args.files.now) (g.F.Files.faults c.answer_script.new.files))
    is same c.answer_script.ensures.came

pub unreachable-requires : goal.unreachable-requires
unreachable-requires g c =
    let some = some_made c.in_ok-engine.engine.index c.made-file.result (g.F.Files.held c.args.files.now) c.in_ok-engine.store.bytes c.made-file.ensures in
    (came g (goal.at.unreachable-requires g c).After-answer_script c.in-Ok-Read.field-0 Read c.in-Ok-Read.is c.in-Ok-Read.field-0-is).unread some refl

pub unreachable-requires-in-Ok-Changed : goal.unreachable-requires-in-Ok-Changed
unreachable-requires-in-Ok-Changed g c =
    let b = file c.args.image in
    let over = over_made c.in_ok-engine.engine c.made-file.result (g.F.Files.held c.args.files.now) b c.in_ok-engine.store.bytes (file_corpus b) c.made-file.ensures c.in_ok-engine.ensures.bytes c.in_ok-engine.ensures.stands (c.in_ok-engine.ensures.good b) refl in
    (came g (goal.at.unreachable-requires-in-Ok-Changed g c).After-answer_script c.in-Ok-Changed.field-0 Changed c.in-Ok-Changed.is c.in-Ok-Changed.field-0-is).unchanged (file_corpus b) over refl

pub returns-in_err-engine-clause-told : goal.returns-in_err-engine-clause-told
returns-in_err-engine-clause-told g c h held name is =
    let w = wrote g.O.Sink c.args.out.now c.args.out.now in
    let memory : ended c.from_residual.result ≡ no_memory = search rules in
    subst (λ (e : Ending). AskTold (form_by c.args.showing.now) e h name c.args.script.name.now w) (sym memory) (inl (is.ready.0, refl))

pub returns-in-Ok-Answered-clause-told : goal.returns-in-Ok-Answered-clause-told
returns-in-Ok-Answered-clause-told g c h held name is =
    let met = (goal.at.returns-in-Ok-Answered-clause-told g c).After-answer_script in
    let fb = g.F.Files.faults c.args.files.now in
    let fn = g.F.Files.faults c.answer_script.new.files in
    let whole = ok_there c.answer_script.result c.in-Ok-Answered.field-0 Answered (λ came. (ts : List (List ℕ))
    × ScriptEnds (MayAnswer c.args.showing.now c.made-file.result (k h name)) done (script_lines (held_bytes h c.args.script.name.now)) ts (w g met)
    × Tally came fb fn ts) c.in-Ok-Answered.is c.in-Ok-Answered.field-0-is
    (c.answer_script.ensures.whole (k h name) (over g met h name is) h held) in
    told g met h name is done whole.0 whole.1

pub returns-clause-told : goal.returns-clause-told
returns-clause-told g c h held name is =
    let met = (goal.at.returns-clause-told g c).After-answer_script in
    let fb = g.F.Files.faults c.args.files.now in
    let fn = g.F.Files.faults c.answer_script.new.files in
    let short = err_there c.answer_script.result c.in-Err.stop (λ s. (ts : List (List ℕ))
    × ScriptEnds (MayAnswer c.args.showing.now c.made-file.result (k h name)) (stop_ending (of_script s)) (script_lines (held_bytes h c.args.script.name.now)) ts (w g met)
    × ShortTally (stop_ending (of_script s)) (w g met) fb fn ts) c.in-Err.is
    (c.answer_script.ensures.short (k h name) (over g met h name is) h held) in
    let all = told g met h name is (stop_ending (of_script c.in-Err.stop)) short.0 short.1 in
    subst (λ x. AskTold (form_by c.args.showing.now) (stop_ending x) h name c.args.script.name.now (w g met)) (sym c.from.ensures) all

-- ---- over any files
pub returns-in_err-engine-clause-ends : goal.returns-in_err-engine-clause-ends
returns-in_err-engine-clause-ends g c name s =
    let w = wrote g.O.Sink c.args.out.now c.args.out.now in
    let memory : ended c.from_residual.result ≡ no_memory = search rules in
    subst (λ (e : Ending). AskEnds (form_by c.args.showing.now) e name s w) (sym memory) refl

pub returns-in-Ok-Answered-clause-ends : goal.returns-in-Ok-Answered-clause-ends
returns-in-Ok-Answered-clause-ends g c name s =
    ok_there c.answer_script.result c.in-Ok-Answered.field-0 Answered (λ came. PutsTexts (form_by c.args.showing.now) came (g.O.Sink.written c.args.out.now) (g.O.Sink.written c.answer_script.new.out)) c.in-Ok-Answered.is c.in-Ok-Answered.field-0-is c.answer_script.ensures.puts

pub returns-clause-ends : goal.returns-clause-ends
returns-clause-ends g c name s =
    let put = w g (goal.at.returns-clause-ends g c).After-answer_script in
    let form = form_by c.args.showing.now in
    short_by (λ e. AskEnds form e name s put) form put c.answer_script.result c.in-Err.stop c.from.result (λ f h. h) (λ h. h) c.in-Err.is c.answer_script.ensures.cuts c.from.ensures
