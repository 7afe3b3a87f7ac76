-- What holds of answers.
--
--   with_facet n q      the query q with one more positive part behind it, the one atom Prefix(:n:)
--   AddFacetParts       the parts of that query are those of q and the facet part of n
--   AreTablesOfQueries  so the table of the facet n of q is the table of that query
use Rattle.std.specs.Prelude.{◌≡◌, ℕ, false, List, [], ◌∷◌, ◌++◌}
use Rattle.cs_base.specs.declared.content.query.Query.{Query, roll-Query, out-Query}
use Rattle.cs_base.specs.declared.content.query.Atom.{Prefix}
use Rattle.cs_model.specs.Collection.{named}
use Rattle.cs_model.specs.Corpus.{Corpus}
use Rattle.cs_model.specs.Grammar.{part_of}
use Rattle.cs_model.specs.Answers.{parts_of, table, facet_part, facet_table}

-- of the empty query it is the query of the facet's words alone
abbrev pub with_facet : List ℕ → Query → Query
with_facet n q = roll-Query (record { parts = (out-Query q).parts ++ part_of false (Prefix (named n [])) ∷ [] })

-- over each corpus
abbrev pub AddFacetParts : Type 0
AddFacetParts = (k : Corpus) (q : Query) (n : List ℕ) → parts_of k (with_facet n q) ≡ parts_of k q ++ facet_part k n ∷ []

-- a facet is a completion of its leading colon, name and colon
abbrev pub AreTablesOfQueries : Type 0
AreTablesOfQueries = (k : Corpus) (q : Query) (n : List ℕ) → facet_table k (parts_of k q) n ≡ table k (parts_of k (with_facet n q))
