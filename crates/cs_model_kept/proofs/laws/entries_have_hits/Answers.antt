use Rattle.cs_model_kept.proofs.EntryLemmas.{hits_are, listed_base}
use Rattle.cs_model_kept.proofs.laws.entries_have_hits.Goals as goal

pub returns : goal.returns
returns c = record { hits = hits_are; listed = listed_base }
