use Rattle.cs_model.proofs.AsciiLemmas.{norm-ascii, words-ascii}
use Rattle.cs_model.proofs.laws.ascii_text.Goals as goal

pub returns : goal.returns
returns c = record { norm = norm-ascii; words = words-ascii }
