use Rattle.cs_gaps.proofs.CodesLemmas.{first_found, found_first}
use Rattle.cs_gaps.proofs.laws.first_codes.Goals as goal

pub returns-clause-found : goal.returns-clause-found
returns-clause-found c = first_found

pub returns-clause-only : goal.returns-clause-only
returns-clause-only c = found_first
