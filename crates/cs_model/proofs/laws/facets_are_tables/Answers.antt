use Rattle.cs_model.proofs.AnswersLemmas.{add_facet_parts, tables_of_queries}
use Rattle.cs_model.proofs.laws.facets_are_tables.Goals as goal

pub returns : goal.returns
returns c = record { parts = add_facet_parts; tables = tables_of_queries }
