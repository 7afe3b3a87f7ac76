use Rattle.cs_file.proofs.StagesLemmas.{judged_along}
use Rattle.cs_file.proofs.titles.judge_piece.Goals as goal

pub returns-in_err-section_over-clause-exact : goal.returns-in_err-section_over-clause-exact
returns-in_err-section_over-clause-exact g c = λ b t. judged_along _ _ c.from_residual.result (c.in_err-section_over.ensures.err _) c.from_residual.ensures.1
