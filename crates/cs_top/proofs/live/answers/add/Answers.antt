use Rattle.std.proofs.Common.{◌≡◌, [], ◌∷◌, ◌++◌, refl, subst}
use Rattle.cs_live_lines.specs.LineViews.{IsLineRefusal, broken}
use Rattle.cs_model.specs.Collection.{line_refusal}
use Rattle.cs_model_live.specs.LiveLines.{change_text, document_text, second_line}
use Rattle.cs_top.specs.LiveTexts.{told_bytes}
use Rattle.cs_top.specs.declared.live.outcomes.Outcome.TheVariants.{Line}
use Rattle.cs_top.proofs.AnswerLemmas.{some_bytes}
use Rattle.cs_top.proofs.LiveStateLemmas.{no_bytes, nothing_added, read_line_tells, refused_outcome, stays_told, tells_memory, tells_said}
use Rattle.cs_top.proofs.live.answers.add.Goals as goal

pub returns-then-is_empty-clause-tells : goal.returns-then-is_empty-clause-tells
returns-then-is_empty-clause-tells c b s h =
    stays_told b c.args.live.now s h _ (Line c.change_line.result) c.args.live.now
    (tells_said b s _ (Line c.change_line.result) change_text (nothing_added b s c.args.line.now (no_bytes c.args.line.now c.if-is_empty.ensures)) c.change_line.ensures) refl

pub returns-in-Ok-clause-tells : goal.returns-in-Ok-clause-tells
returns-in-Ok-clause-tells c b s h =
    let told = c.add_document.ensures.tells b s h in (
      told.0,
      read_line_tells b s c.args.line.now c.in-Ok.document c.add_document.result told.0 (some_bytes c.args.line.now c.if-is_empty.ensures) c.in-Ok.ensures.accepted c.in-Ok.ensures.ok told.1,
      told.2,
    )

pub returns-in-Err-Broken-clause-tells : goal.returns-in-Err-Broken-clause-tells
returns-in-Err-Broken-clause-tells c b s h =
    let is = subst (IsLineRefusal (line_refusal (second_line c.args.line.now))) c.in-Err-Broken.field-0-is c.in-Err-Broken.ensures.err in
    let told : told_bytes (Line c.refused_line.result) ≡ document_text (broken c.in-Err-Broken.rule) ++ 10 ∷ [] =
    subst (λ r. told_bytes (Line c.refused_line.result) ≡ document_text (broken r) ++ 10 ∷ []) c.in-Err-Broken.rule-is c.refused_line.ensures in
    stays_told b c.args.live.now s h _ (Line c.refused_line.result) c.args.live.now
    (tells_said b s _ (Line c.refused_line.result) (document_text (broken c.in-Err-Broken.rule))
    (refused_outcome b s c.args.line.now (broken c.in-Err-Broken.rule) (some_bytes c.args.line.now c.if-is_empty.ensures) is) told) refl

pub returns-in-Err-Memory-clause-tells : goal.returns-in-Err-Memory-clause-tells
returns-in-Err-Memory-clause-tells c b s h =
    stays_told b c.args.live.now s h _ (Line c.memory_line.result) c.args.live.now (tells_memory b s _ (Line c.memory_line.result) c.memory_line.ensures) refl
