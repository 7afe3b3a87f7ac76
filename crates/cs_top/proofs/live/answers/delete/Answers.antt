use Rattle.std.proofs.Common.{inr, refl}
use Rattle.cs_live.specs.Lives.{has_document}
use Rattle.cs_model.specs.Digits.{has_digits, number_of}
use Rattle.cs_model_live.specs.LiveLines.{change_text, deleted_text}
use Rattle.cs_model_live.specs.declared.limits.TheConstants.{MAX_DOC_DIGITS}
use Rattle.cs_top.specs.declared.live.outcomes.Outcome.TheVariants.{Line}
use Rattle.cs_top.proofs.LiveStateLemmas.{absent_tells, deleted_tells, no_number, removed_there, removed_absent, some_number, stays_told, tells_memory, tells_said, unnumbered}
use Rattle.cs_top.proofs.live.answers.delete.Goals as goal

pub returns-in_default-clause-tells : goal.returns-in_default-clause-tells
returns-in_default-clause-tells c b s h =
    let digits = c.args.digits.now in
    stays_told b c.args.live.now s h _ (Line c.change_line.result) c.args.live.now
    (tells_said b s _ (Line c.change_line.result) change_text (unnumbered s digits (no_number (has_digits MAX_DOC_DIGITS digits) (number_of digits) c.in_default.ensures)) c.change_line.ensures) refl

pub returns-in-Ok-clause-tells : goal.returns-in-Ok-clause-tells
returns-in-Ok-clause-tells c b s h =
    let digits = c.args.digits.now in
    let number = some_number (has_digits MAX_DOC_DIGITS digits) (number_of digits) c.in-Some.doc c.in-Some.ensures in
    deleted_tells b c.args.live.now s h digits c.in-Some.doc number.0 number.1 ((c.is_in_state.ensures b s h).documents c.in-Some.doc) c.changes.result c.remove.new.self
    (removed_there c.remove.result c.in-Ok.field-0 (has_document c.args.live.now c.in-Some.doc) c.in-Ok.is c.remove.ensures.absent) c.changes.ensures.changes c.in-Ok.ensures.removed (c.in-Ok.ensures.behind b) (c.in-Ok.ensures.good b)

pub returns-in-Ok-clause-texts : goal.returns-in-Ok-clause-texts
returns-in-Ok-clause-texts c = (deleted_text c.changes.result, refl, inr (inr (inr (inr (inr (inr (c.changes.result, refl)))))))

pub returns-in-Err-Absent-clause-tells : goal.returns-in-Err-Absent-clause-tells
returns-in-Err-Absent-clause-tells c b s h =
    let digits = c.args.digits.now in
    let number = some_number (has_digits MAX_DOC_DIGITS digits) (number_of digits) c.in-Some.doc c.in-Some.ensures in
    stays_told b c.args.live.now s h _ (Line c.absent_line.result) c.remove.new.self
    (absent_tells b c.args.live.now s h digits c.in-Some.doc number.0 number.1 ((c.is_in_state.ensures b s h).documents c.in-Some.doc) (Line c.absent_line.result)
    (removed_absent c.remove.result c.in-Err-Absent.field-0 (has_document c.args.live.now c.in-Some.doc) c.in-Err-Absent.is c.in-Err-Absent.field-0-is c.remove.ensures.absent) c.absent_line.ensures) c.in-Err-Absent.ensures.kept

pub returns-in-Err-Memory-clause-tells : goal.returns-in-Err-Memory-clause-tells
returns-in-Err-Memory-clause-tells c b s h =
    stays_told b c.args.live.now s h _ (Line c.memory_line.result) c.remove.new.self (tells_memory b s _ (Line c.memory_line.result) c.memory_line.ensures) c.in-Err-Memory.ensures.kept
