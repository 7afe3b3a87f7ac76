use Rattle.std.proofs.Common.{sym}
use Rattle.cs_indexing.specs.Met.{wrote}
use Rattle.cs_top.specs.HitForms.{form_by}
use Rattle.cs_top.specs.Answering.{CameOver, came_of_answer}
use Rattle.cs_top.proofs.AnswerLemmas.{line_err, line_ok, said_came, some_bytes}
use Rattle.cs_top.proofs.PutTextLemmas.{line_cuts, line_puts}
use Rattle.cs_top.proofs.script.answers.answer_line.Goals as goal

pub returns-clause-ok : goal.returns-clause-ok
returns-clause-ok g c k over =
    line_ok c.args.showing.now c.args.file.now k (c.args.number, c.args.line.now) c.answer_params-answer.result _ _ (some_bytes c.args.line.now c.if-is_empty.ensures) (sym c.in_default.ensures)
    (c.answer_params-answer.ensures.text k over) c.answer_params-answer.ensures.came.counts c.put_answer.result _ _ c.put_answer.ensures.ok c.put_answer.ensures.came

pub returns-clause-err : goal.returns-clause-err
returns-clause-err g c k over =
    line_err c.args.showing.now c.args.file.now k (c.args.number, c.args.line.now) c.answer_params-answer.result _ _ (some_bytes c.args.line.now c.if-is_empty.ensures) (sym c.in_default.ensures)
    (c.answer_params-answer.ensures.text k over) c.answer_params-answer.ensures.came.counts c.put_answer.result
    (wrote g.O.Sink c.args.out.now c.put_answer.new.out) c.put_answer.ensures.err c.put_answer.ensures.kind c.put_answer.ensures.caused

pub returns-clause-came : goal.returns-clause-came
returns-clause-came g c =
    said_came c.put_answer.result (came_of_answer c.answer_params-answer.result)
    (λ x. CameOver c.args.engine.now c.args.file.now (g.F.Files.held c.args.files.now) x (g.F.Files.faults c.args.files.now) (g.F.Files.faults c.answer_params-answer.new.files))
    c.put_answer.ensures.came c.answer_params-answer.ensures.came

pub returns-clause-puts : goal.returns-clause-puts
returns-clause-puts g c = line_puts (form_by c.args.showing.now) c.answer_params-answer.result c.answer_params-answer.ensures.texts c.put_answer.result _ _ c.put_answer.ensures.ok c.put_answer.ensures.came

pub returns-clause-cuts : goal.returns-clause-cuts
returns-clause-cuts g c =
    line_cuts (form_by c.args.showing.now) c.answer_params-answer.result c.answer_params-answer.ensures.texts c.put_answer.result (wrote g.O.Sink c.args.out.now c.put_answer.new.out)
    c.put_answer.ensures.err c.put_answer.ensures.kind c.put_answer.ensures.caused
