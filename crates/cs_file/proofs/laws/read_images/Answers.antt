use Rattle.cs_file.proofs.ImageStood.{stood_images}
use Rattle.cs_file.proofs.ImageWritten.{read_images}
use Rattle.cs_file.proofs.laws.read_images.Goals as goal

pub returns : goal.returns
returns c = record { files = read_images; stood = stood_images }
