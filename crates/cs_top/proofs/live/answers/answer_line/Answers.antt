use Rattle.std.proofs.Common.{◌≢◌, ap, inl, refl, sym, subst}
use Rattle.cs_base.specs.content.Bytes.{line_feed}
use Rattle.cs_model_index.specs.Sections.{file_corpus, image_of}
use Rattle.cs_model_live.specs.LiveLines.{added_outcome, deleted_outcome, line_outcome}
use Rattle.cs_indexing.specs.Met.{wrote}
use Rattle.cs_top.specs.Answering.{came_of_answer, line_bytes}
use Rattle.cs_top.specs.LiveAnswering.{LiveOver}
use Rattle.cs_top.specs.LiveTexts.{IsLiveText, told_bytes}
use Rattle.cs_top.specs.OutcomeTexts.{IsAnswerBy}
use Rattle.cs_top.specs.declared.script.WhatCame.TheVariants.{Answered}
use Rattle.cs_top.proofs.AnswerLemmas.{some_bytes}
use Rattle.cs_top.proofs.LiveStateLemmas.{no_bytes}
use Rattle.cs_top.proofs.LiveStepLemmas.{answer_text, asked_step, behind_adds, change_step, live_err, live_ok}
use Rattle.cs_top.proofs.PutTextLemmas.{cuts_line_of, puts_line_of}
use Rattle.cs_top.proofs.live.answers.answer_line.Goals as goal

pub returns-then-is_empty-clause-ok : goal.returns-then-is_empty-clause-ok
returns-then-is_empty-clause-ok g c b s over = (s, inl (no_bytes c.args.line.now c.if-is_empty.ensures, refl, refl, refl, refl), over)

pub add-requires-clause-one : goal.add-requires-clause-one
add-requires-clause-one g c = behind_adds (λ x. x ≢ line_feed) c.args.line.now c.in-Adds.document.now (sym c.in-Adds.ensures) c.requires.one

pub returns-in-Adds-clause-ok : goal.returns-in-Adds-clause-ok
returns-in-Adds-clause-ok g c b s over =
    let became = c.add.ensures.tells b s over.live in
    let n = g.F.Files.faults c.args.files.now in
    let step = change_step b s c.args.line.now c.add.result c.add.ensures.texts (added_outcome (image_of b).weights (file_corpus b) s c.in-Adds.document.now) became.0 n n
    (ap (line_outcome (image_of b).weights (file_corpus b) s) c.in-Adds.ensures) became.1 refl in
    live_ok b s (c.args.number, c.args.line.now) (some_bytes c.args.line.now c.if-is_empty.ensures) (sym c.in_default.ensures) step (LiveOver c.add.new.live c.args.index.name.now (g.F.Files.held c.args.files.now) b)
    c.put_outcome.result _ _ c.put_outcome.ensures.ok c.put_outcome.ensures.came (record { told = over.told; live = became.2 })

pub returns-in-Adds-clause-err : goal.returns-in-Adds-clause-err
returns-in-Adds-clause-err g c b s over =
    let became = c.add.ensures.tells b s over.live in
    let n = g.F.Files.faults c.args.files.now in
    let step = change_step b s c.args.line.now c.add.result c.add.ensures.texts (added_outcome (image_of b).weights (file_corpus b) s c.in-Adds.document.now) became.0 n n
    (ap (line_outcome (image_of b).weights (file_corpus b) s) c.in-Adds.ensures) became.1 refl in
    live_err b s (c.args.number, c.args.line.now) (some_bytes c.args.line.now c.if-is_empty.ensures) (sym c.in_default.ensures) step
    c.put_outcome.result (wrote g.O.Sink c.args.out.now c.put_outcome.new.out) c.put_outcome.ensures.err c.put_outcome.ensures.kind c.put_outcome.ensures.caused

pub returns-in-Adds-clause-puts : goal.returns-in-Adds-clause-puts
returns-in-Adds-clause-puts g c =
    let texts = c.add.ensures.texts in
    puts_line_of IsLiveText Answered (told_bytes c.add.result) texts.0 texts.1 texts.2 c.put_outcome.result _ _ c.put_outcome.ensures.ok c.put_outcome.ensures.came

pub returns-in-Deletes-clause-ok : goal.returns-in-Deletes-clause-ok
returns-in-Deletes-clause-ok g c b s over =
    let became = c.delete.ensures.tells b s over.live in
    let n = g.F.Files.faults c.args.files.now in
    let step = change_step b s c.args.line.now c.delete.result c.delete.ensures.texts (deleted_outcome s c.in-Deletes.digits.now) became.0 n n
    (ap (line_outcome (image_of b).weights (file_corpus b) s) c.in-Deletes.ensures) became.1 refl in
    live_ok b s (c.args.number, c.args.line.now) (some_bytes c.args.line.now c.if-is_empty.ensures) (sym c.in_default.ensures) step (LiveOver c.delete.new.live c.args.index.name.now (g.F.Files.held c.args.files.now) b)
    c.put_outcome-in-Deletes.result _ _ c.put_outcome-in-Deletes.ensures.ok c.put_outcome-in-Deletes.ensures.came (record { told = over.told; live = became.2 })

pub returns-in-Deletes-clause-err : goal.returns-in-Deletes-clause-err
returns-in-Deletes-clause-err g c b s over =
    let became = c.delete.ensures.tells b s over.live in
    let n = g.F.Files.faults c.args.files.now in
    let step = change_step b s c.args.line.now c.delete.result c.delete.ensures.texts (deleted_outcome s c.in-Deletes.digits.now) became.0 n n
    (ap (line_outcome (image_of b).weights (file_corpus b) s) c.in-Deletes.ensures) became.1 refl in
    live_err b s (c.args.number, c.args.line.now) (some_bytes c.args.line.now c.if-is_empty.ensures) (sym c.in_default.ensures) step
    c.put_outcome-in-Deletes.result (wrote g.O.Sink c.args.out.now c.put_outcome-in-Deletes.new.out) c.put_outcome-in-Deletes.ensures.err c.put_outcome-in-Deletes.ensures.kind c.put_outcome-in-Deletes.ensures.caused

pub returns-in-Deletes-clause-puts : goal.returns-in-Deletes-clause-puts
returns-in-Deletes-clause-puts g c =
    let texts = c.delete.ensures.texts in
    puts_line_of IsLiveText Answered (told_bytes c.delete.result) texts.0 texts.1 texts.2 c.put_outcome-in-Deletes.result _ _ c.put_outcome-in-Deletes.ensures.ok c.put_outcome-in-Deletes.ensures.came

pub returns-in-Asks-clause-ok : goal.returns-in-Asks-clause-ok
returns-in-Asks-clause-ok g c b s over =
    let o = c.outcome_now-outcome.result in
    let a = c.answer_by-answer.result in
    let by = subst (λ d. IsAnswerBy d o a) c.titled.ensures c.answer_by-answer.ensures in
    let step = asked_step b s c.args.line.now c.in-Asks.params.now (sym c.in-Asks.ensures) o a _ _ _ _ c.outcome_now-outcome.ensures.comes (c.outcome_now-outcome.ensures.right b s over) by c.outcome_now-outcome.ensures.caused in
    live_ok b s (c.args.number, c.args.line.now) (some_bytes c.args.line.now c.if-is_empty.ensures) (sym c.in_default.ensures) step
    (LiveOver c.outcome_now-outcome.new.live c.args.index.name.now (g.F.Files.held c.outcome_now-outcome.new.files) b)
    c.put_answer.result _ _ c.put_answer.ensures.ok c.put_answer.ensures.came (c.outcome_now-outcome.ensures.live b s over)

pub returns-in-Asks-clause-err : goal.returns-in-Asks-clause-err
returns-in-Asks-clause-err g c b s over =
    let o = c.outcome_now-outcome.result in
    let a = c.answer_by-answer.result in
    let by = subst (λ d. IsAnswerBy d o a) c.titled.ensures c.answer_by-answer.ensures in
    let step = asked_step b s c.args.line.now c.in-Asks.params.now (sym c.in-Asks.ensures) o a _ _ _ _ c.outcome_now-outcome.ensures.comes (c.outcome_now-outcome.ensures.right b s over) by c.outcome_now-outcome.ensures.caused in
    live_err b s (c.args.number, c.args.line.now) (some_bytes c.args.line.now c.if-is_empty.ensures) (sym c.in_default.ensures) step
    c.put_answer.result (wrote g.O.Sink c.args.out.now c.put_answer.new.out) c.put_answer.ensures.err c.put_answer.ensures.kind c.put_answer.ensures.caused

pub returns-in-Asks-clause-puts : goal.returns-in-Asks-clause-puts
returns-in-Asks-clause-puts g c =
    let o = c.outcome_now-outcome.result in
    let a = c.answer_by-answer.result in
    let by = subst (λ d. IsAnswerBy d o a) c.titled.ensures c.answer_by-answer.ensures in
    puts_line_of IsLiveText (came_of_answer a) (line_bytes a) by.text by.is (answer_text c.in-Asks.params.now o a _ _ c.outcome_now-outcome.ensures.comes by) c.put_answer.result _ _ c.put_answer.ensures.ok c.put_answer.ensures.came

pub returns-in-Asks-clause-cuts : goal.returns-in-Asks-clause-cuts
returns-in-Asks-clause-cuts g c =
    let o = c.outcome_now-outcome.result in
    let a = c.answer_by-answer.result in
    let by = subst (λ d. IsAnswerBy d o a) c.titled.ensures c.answer_by-answer.ensures in
    cuts_line_of IsLiveText (came_of_answer a) (line_bytes a) by.text by.is (answer_text c.in-Asks.params.now o a _ _ c.outcome_now-outcome.ensures.comes by) c.put_answer.result
    (wrote g.O.Sink c.args.out.now c.put_answer.new.out) c.put_answer.ensures.err c.put_answer.ensures.kind c.put_answer.ensures.caused
