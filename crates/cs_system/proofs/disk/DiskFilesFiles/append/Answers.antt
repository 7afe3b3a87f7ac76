use Rattle.cs_system.proofs.NotedAnswers.{noted_err}
use Rattle.cs_system.proofs.disk.DiskFilesFiles.append.Goals as goal

pub returns-clause-gone : goal.returns-clause-gone
returns-clause-gone g c = noted_err _ c.append.result c.note.result c.note.ensures.ok c.append.ensures.err
