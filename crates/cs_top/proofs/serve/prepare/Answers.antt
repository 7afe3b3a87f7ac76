use Rattle.cs_top.proofs.serve.prepare.Goals as goal

pub returns-clause-good : goal.returns-clause-good
returns-clause-good g c b = c.in_ok-engine.ensures.good b
