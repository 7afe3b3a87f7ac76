use Rattle.cs_model_excerpts.proofs.OwnLemmas.{excerpts_own, marks_own}
use Rattle.cs_model_excerpts.proofs.OwnRows.{corpora_have}
use Rattle.cs_model_excerpts.proofs.laws.marks_are_own.Goals as goal

pub returns : goal.returns
returns c = record { marks = marks_own; excerpts = excerpts_own; collections = corpora_have }
