use Rattle.cs_system.proofs.NotedAnswers.{noted_err}
use Rattle.cs_system.proofs.disk.DiskFilesFiles.read_at.Goals as goal

pub returns-clause-short : goal.returns-clause-short
returns-clause-short g c = λ x at x' whole. noted_err _ c.read_at.result c.note.result c.note.ensures.ok (c.read_at.ensures.short x at x' whole)
