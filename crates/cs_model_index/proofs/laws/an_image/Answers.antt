use Rattle.cs_model_index.proofs.PartitionsMade.{images_exist, partitions_exist}
use Rattle.cs_model_index.proofs.laws.an_image.Goals as goal

pub returns : goal.returns
returns c = record { partitions = partitions_exist; images = images_exist }
