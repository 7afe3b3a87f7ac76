-- What may be read over an index of the three documents: the definitions computed.
--
--   division       its words in three blocks: authors, years, and plain words
--   asks           a query with the defaults
--   due-..         how many blocks and titles may be read for a request
use Rattle.std.proofs.Common.{◌≡◌, ℕ, List, [], ◌∷◌, refl, codes, true, false}
use Rattle.std.specs.Char.{encode_utf8}
use Rattle.cs_base.specs.declared.index.plan.Plan.TheVariants.{Same, Narrow, Extend, Fresh}
use Rattle.cs_base.specs.declared.content.query.Query.{out-roll-Query}
use Rattle.cs_base.specs.declared.content.query.Part.{out-roll-Part}
use Rattle.cs_base.specs.declared.content.query.Chain.{out-roll-Chain}
use Rattle.cs_model.specs.Words.{is_word_char}
use Rattle.cs_model.specs.Grammar.{query_of}
use Rattle.cs_model.specs.Requests.{Request, by_default}
use Rattle.cs_model_kept.specs.Due.{Division, due}
use Rattle.cs_model_kept.proofs.DueLemmas.{met_query, met_part, met_chain, met_linked, met_prefix_atom, met_exact_atom, met_join_atom}

abbrev words : List (List ℕ)
words =
    codes ":author:bast" ∷ codes ":author:church" ∷ codes ":author:weber"
    ∷ codes ":year:1940" ∷ codes ":year:2006" ∷ codes ":year:2007"
    ∷ codes "a" ∷ codes "ahead" ∷ codes "and" ∷ codes "autocompletion" ∷ codes "calculi" ∷ codes "completesearch" ∷ codes "engine"
    ∷ codes "faceted" ∷ codes "find" ∷ codes "index" ∷ codes "lambda" ∷ codes "less" ∷ codes "more" ∷ codes "search"
    ∷ codes "succinct" ∷ codes "the" ∷ codes "type" ∷ codes "typed" ∷ codes "types" ∷ codes "with" ∷ []

abbrev division : Division
division = record {
  words = words;
  heads = record { lo = 0; words = 3; rows = 4; len = 32; facet = true; least = 0; greatest = 2 } ∷ record { lo = 3; words = 3; rows = 3; len = 24; facet = true; least = 0; greatest = 2 } ∷ record { lo = 6; words = 20; rows = 23; len = 184; facet = false; least = 0; greatest = 2 } ∷ [];
}

abbrev asks : List ℕ → List (List ℕ) → Request
asks text facets = record (by_default (query_of text)) { facets = facets }

-- ---- letter by letter
-- the one block of plain words, and three titles
due-t : due division (asks (codes "t") []) Fresh 3 ≡ 4
unfolding due is_word_char encode_utf8
due-t = simp (met_query, met_part, met_chain, met_prefix_atom) refl

-- a shorter prefix was kept, so titles alone
due-ty : due division (asks (codes "ty") []) (Narrow 1) 3 ≡ 3
unfolding due
due-ty = refl

-- the last part's block, and two titles
due-typ_s : due division (asks (codes "typ s") []) Extend 2 ≡ 3
unfolding due is_word_char encode_utf8
due-typ_s = simp (out-roll-Query, met_part, met_chain, met_prefix_atom) refl

-- the same again reads titles alone
due-same : due division (asks (codes "typ") []) Same 3 ≡ 3
unfolding due
due-same = refl

-- ---- other requests
-- each atom counts by itself, though both are in one block
due-two : due division (asks (codes "typ s") []) Fresh 2 ≡ 4
unfolding due is_word_char encode_utf8
due-two = simp (met_query, met_part, met_chain, met_prefix_atom) refl

-- a facet that no document has meets no block, and the empty query none
due-facets : due division (asks [] (codes "author" ∷ codes "zzz" ∷ [])) Fresh 3 ≡ 4
unfolding due
due-facets = simp met_query refl

-- a word that isn't there meets no block, and one that is meets one
due-exact : due division (asks (codes "type$.typo$") []) Fresh 0 ≡ 1
unfolding due is_word_char encode_utf8
due-exact = simp (out-roll-Part, out-roll-Chain, met_query, met_part, met_chain, met_linked, met_exact_atom) refl

-- the block of authors, that of the inner query, and that of the last part
due-join : due division (asks (codes "author[search] typ") []) Fresh 2 ≡ 5
unfolding due is_word_char encode_utf8
due-join = simp (met_query, met_part, met_chain, met_prefix_atom, met_join_atom) refl
