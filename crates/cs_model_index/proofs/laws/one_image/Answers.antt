use Rattle.cs_model_index.proofs.CorpusLemmas.{corpora_are_kept}
use Rattle.cs_model_index.proofs.PartitionLemmas.{partitions_are_one}
use Rattle.cs_model_index.proofs.ImageLemmas.{images_are_one}
use Rattle.cs_model_index.proofs.laws.one_image.Goals as goal

pub returns : goal.returns
returns c = record { partitions = partitions_are_one; images = images_are_one; corpora = corpora_are_kept }
