use Rattle.cs_engine.specs.declared.held.HeldKind.TheVariants as kinds
use Rattle.cs_engine.proofs.RangeLemmas.{goes_by}
use Rattle.cs_engine.proofs.held.taken_blocks.Goals as goal

pub returns-in-Some-Blocks-clause-held : goal.returns-in-Some-Blocks-clause-held
returns-in-Some-Blocks-clause-held c = goes_by c.take.result 0 0 kinds.Blocks c.take.ensures.none c.take.ensures.some

pub returns-clause-held : goal.returns-clause-held
returns-clause-held c = goes_by c.take.result 0 0 kinds.Blocks c.take.ensures.none c.take.ensures.some
