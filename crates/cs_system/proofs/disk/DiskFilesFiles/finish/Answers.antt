use Rattle.cs_system.proofs.NotedAnswers.{noted_err}
use Rattle.cs_system.proofs.disk.DiskFilesFiles.finish.Goals as goal

pub returns-clause-gone : goal.returns-clause-gone
returns-clause-gone g c = noted_err _ c.finish.result c.note.result c.note.ensures.ok c.finish.ensures.err
