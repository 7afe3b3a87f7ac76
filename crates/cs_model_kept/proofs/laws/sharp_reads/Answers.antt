use Rattle.cs_model_kept.proofs.SharpLemmas.{files_divided, sharp_less, skipped_have_no_row}
use Rattle.cs_model_kept.proofs.laws.sharp_reads.Goals as goal

pub returns : goal.returns
returns c = record { skipped = skipped_have_no_row; less = sharp_less; divided = files_divided }
