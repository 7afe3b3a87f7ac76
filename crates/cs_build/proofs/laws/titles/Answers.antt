use Rattle.cs_build.proofs.TitleLemmas.{titles_within, titles_few}
use Rattle.cs_build.proofs.laws.titles.Goals as goal

pub returns-clause-parts : goal.returns-clause-parts
returns-clause-parts c = titles_within

pub returns-clause-few : goal.returns-clause-few
returns-clause-few c = titles_few
