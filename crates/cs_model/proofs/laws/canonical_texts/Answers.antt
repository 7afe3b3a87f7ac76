use Rattle.cs_model.proofs.CanonicalReading.{read_again, different, short, no_longer, keep_counts}
use Rattle.cs_model.proofs.laws.canonical_texts.Goals as goal

pub returns : goal.returns
returns c = record { read_again = read_again; different = different; short = short; no_longer = no_longer; counts = keep_counts }
