use Rattle.cs_docs.proofs.PlainLaws.{plain_accepted, plain_titles, plain_rows}
use Rattle.cs_docs.proofs.laws.plain_collections.Goals as goal

pub returns-clause-accepted : goal.returns-clause-accepted
returns-clause-accepted c = plain_accepted

pub returns-clause-titles : goal.returns-clause-titles
returns-clause-titles c = plain_titles

pub returns-clause-rows : goal.returns-clause-rows
returns-clause-rows c = plain_rows
