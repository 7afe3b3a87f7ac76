use Rattle.cs_model_index.proofs.AcceptedLemmas.{files_follow_blocks}
use Rattle.cs_model_index.proofs.ImageLimits.{files_accepted}
use Rattle.cs_model_index.proofs.ReadCorpora.{corpora_read}
use Rattle.cs_model_index.proofs.ReadImages.{images_read}
use Rattle.cs_build.proofs.CollectionFiles.{blocks_accepted, blocks_read, files_of_collections}
use Rattle.cs_build.proofs.laws.files_of_images.Goals as goal

pub returns-clause-accepted : goal.returns-clause-accepted
returns-clause-accepted c = files_accepted blocks_read

pub returns-clause-same : goal.returns-clause-same
returns-clause-same c = files_follow_blocks blocks_accepted blocks_read

pub returns-clause-images : goal.returns-clause-images
returns-clause-images c = images_read blocks_accepted blocks_read

pub returns-clause-corpora : goal.returns-clause-corpora
returns-clause-corpora c = corpora_read blocks_accepted blocks_read

pub returns-clause-collections : goal.returns-clause-collections
returns-clause-collections c = files_of_collections
