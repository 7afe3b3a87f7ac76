use Rattle.cs_model_index.proofs.ImageLimits.{files_accepted}
use Rattle.cs_model_index.proofs.ReadCorpora.{corpora_read}
use Rattle.cs_model_index.proofs.ReadImages.{images_read}
use Rattle.cs_model_index.proofs.laws.accepted_files.Goals as goal

pub returns : goal.returns
returns c = record { images = files_accepted; reading = images_read; corpora = corpora_read }
