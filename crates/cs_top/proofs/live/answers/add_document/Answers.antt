use Rattle.std.proofs.Common.{inl, inr, refl}
use Rattle.cs_live.specs.declared.fault.AddFault.TheVariants as faults
use Rattle.cs_model_live.specs.LiveLines.{added_text}
use Rattle.cs_model_live.specs.LiveStates.{full_docs, full_rows, full_words}
use Rattle.cs_top.specs.declared.live.outcomes.Outcome.TheVariants.{Line}
use Rattle.cs_top.proofs.LiveStateLemmas.{added_tells, fault_tells, stays_told, tells_memory}
use Rattle.cs_top.proofs.live.answers.add_document.Goals as goal

pub returns-in-Ok-clause-tells : goal.returns-in-Ok-clause-tells
returns-in-Ok-clause-tells c b s h =
    added_tells b c.args.live.now s h (c.is_in_state.ensures b s h) c.args.document c.in-Ok.doc c.changes.result c.add.new.self c.in-Ok.ensures.number c.changes.ensures.changes c.in-Ok.ensures.added
    (c.in-Ok.ensures.behind b) (c.in-Ok.ensures.good b) c.in-Ok.ensures.room

pub returns-in-Ok-clause-texts : goal.returns-in-Ok-clause-texts
returns-in-Ok-clause-texts c = (added_text c.in-Ok.doc c.changes.result, refl, inr (inr (inr (inr (inr (inl (c.in-Ok.doc, c.changes.result, refl)))))))

pub returns-in-Err-FullDocs-clause-tells : goal.returns-in-Err-FullDocs-clause-tells
returns-in-Err-FullDocs-clause-tells c b s h =
    fault_tells b c.args.live.now s h (c.is_in_state.ensures b s h) c.args.document c.in-Err-FullDocs.field-0 faults.FullDocs full_docs (Line c.full_line.result) c.add.new.self c.in-Err-FullDocs.ensures.err c.in-Err-FullDocs.field-0-is refl
    c.full_line.ensures c.in-Err-FullDocs.ensures.kept

pub returns-in-Err-FullRows-clause-tells : goal.returns-in-Err-FullRows-clause-tells
returns-in-Err-FullRows-clause-tells c b s h =
    fault_tells b c.args.live.now s h (c.is_in_state.ensures b s h) c.args.document c.in-Err-FullRows.field-0 faults.FullRows full_rows (Line c.full_line-in-Err-FullRows.result) c.add.new.self c.in-Err-FullRows.ensures.err
    c.in-Err-FullRows.field-0-is refl c.full_line-in-Err-FullRows.ensures c.in-Err-FullRows.ensures.kept

pub returns-in-Err-FullWords-clause-tells : goal.returns-in-Err-FullWords-clause-tells
returns-in-Err-FullWords-clause-tells c b s h =
    fault_tells b c.args.live.now s h (c.is_in_state.ensures b s h) c.args.document c.in-Err-FullWords.field-0 faults.FullWords full_words (Line c.full_line-in-Err-FullWords.result) c.add.new.self c.in-Err-FullWords.ensures.err
    c.in-Err-FullWords.field-0-is refl c.full_line-in-Err-FullWords.ensures c.in-Err-FullWords.ensures.kept

pub returns-in-Err-Memory-clause-tells : goal.returns-in-Err-Memory-clause-tells
returns-in-Err-Memory-clause-tells c b s h =
    stays_told b c.args.live.now s h _ (Line c.memory_line.result) c.add.new.self (tells_memory b s _ (Line c.memory_line.result) c.memory_line.ensures) c.in-Err-Memory.ensures.kept
