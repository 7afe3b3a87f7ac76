use Rattle.cs_model_kept.proofs.EntryLemmas.{entries_extend, entries_are_steps}
use Rattle.cs_model_kept.proofs.laws.entries_extend.Goals as goal

pub returns : goal.returns
returns c = record { extend = entries_extend; steps = entries_are_steps }
