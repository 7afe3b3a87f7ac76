use Rattle.cs_file.proofs.StagesLemmas.{judged_along}
use Rattle.cs_file.proofs.postings.read_block.Goals as goal

pub returns-in_err-bytes-clause-exact : goal.returns-in_err-bytes-clause-exact
returns-in_err-bytes-clause-exact g c = λ b t. judged_along _ _ c.from_residual.result (c.in_err-bytes.ensures.err _) c.from_residual.ensures.1
