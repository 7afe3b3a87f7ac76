use Rattle.cs_top.specs.Answering.{bytes_there}
use Rattle.cs_top.proofs.OutcomeTextLemmas.{came_over, own_text_by, text_by}
use Rattle.cs_top.proofs.script.answers.answer_params.Goals as goal

pub returns-clause-came : goal.returns-clause-came
returns-clause-came g c =
    let o = c.outcome_over_file-outcome in
    came_over c.args.showing.now c.args.engine.now c.args.file.now (g.F.Files.held c.args.files.now) c.args.line.now o.result c.answer_by.result (g.F.Files.faults c.args.files.now) (g.F.Files.faults o.new.files) c.answer_by.ensures
    o.ensures.right o.ensures.unread o.ensures.caused

pub returns-clause-text : goal.returns-clause-text
returns-clause-text g c k over =
    let o = c.outcome_over_file-outcome in
    text_by c.args.showing.now c.args.line.now c.args.file.now k o.result c.answer_by.result c.answer_by.ensures o.ensures.outcome (o.ensures.right k over) o.ensures.unread

pub returns-clause-texts : goal.returns-clause-texts
returns-clause-texts g c =
    let o = c.outcome_over_file-outcome in
    own_text_by c.args.showing.now c.args.line.now o.result c.answer_by.result c.answer_by.ensures o.ensures.outcome

pub returns-clause-changed : goal.returns-clause-changed
returns-clause-changed g c = c.answer_by.ensures.changed c.args.engine.now.index (bytes_there c.args.file.now (g.F.Files.held c.args.files.now)) c.outcome_over_file-outcome.ensures.changed
