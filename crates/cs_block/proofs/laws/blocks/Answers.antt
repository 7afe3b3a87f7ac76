use Rattle.cs_block.proofs.LawsLemmas.{accepted_are_blocks, have_bytes, unique}
use Rattle.cs_block.proofs.laws.blocks.Goals as goal

pub returns : goal.returns
returns c = record { accepted = λ w are. accepted_are_blocks w (have_bytes w are); rows = λ w are. unique w (have_bytes w are) }
