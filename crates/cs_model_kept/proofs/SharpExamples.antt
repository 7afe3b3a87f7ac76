-- What may be read over an index of two documents of different facets, where bounds are used: the definitions computed.
--
--   two              a corpus of two documents; each has the word a and a facet word of its own
--   division         its words in three blocks, with the bounds of their rows
--   asks             a query with the defaults
--   sharp-..         how many blocks and titles may be read for a request
--   due-..           and how many where bounds aren't used
use Rattle.std.proofs.Common.{◌≡◌, ℕ, List, [], ◌∷◌, refl, codes, true, false}
use Rattle.std.specs.Char.{encode_utf8}
use Rattle.std.specs.Ordering.{nat_cmp}
use Rattle.std.specs.FinMap.{FinMap, entries, from_entries}
use Rattle.std.proofs.lemmas.Cmp.{nat_cmp_total}
use Rattle.cs_base.specs.declared.index.plan.Plan.TheVariants.{Same, Extend, Fresh}
use Rattle.cs_base.specs.declared.content.query.Query.{out-roll-Query}
use Rattle.cs_base.specs.declared.content.query.Part.{out-roll-Part}
use Rattle.cs_base.specs.declared.content.query.Chain.{out-roll-Chain}
use Rattle.cs_model.specs.Words.{is_word_char}
use Rattle.cs_model.specs.Corpus.{Corpus}
use Rattle.cs_model.specs.Grammar.{query_of}
use Rattle.cs_model.specs.Requests.{Request, by_default}
use Rattle.cs_model.proofs.AnswersExamples.{row}
use Rattle.cs_model.proofs.ListedMembers.{entries-sorted}
use Rattle.cs_model.proofs.AnswersLemmas.{query_rolled, part_listed, chain_rolled, prefix_rows}
use Rattle.cs_model_kept.specs.Due.{Division, due}
use Rattle.cs_model_kept.specs.Sharp.{has_hit, sharp}
use Rattle.cs_model_kept.proofs.DueLemmas.{met_query, met_part, met_chain, met_prefix_atom}
use Rattle.cs_model_kept.proofs.ShorterQueries.{out-prefix, out-exact}

titles : FinMap nat_cmp (List ℕ)
titles = from_entries ((0, codes "a") ∷ (1, codes "a") ∷ [])

titles-are : entries titles ≡ (0, codes "a") ∷ (1, codes "a") ∷ []
unfolding titles
titles-are = entries-sorted nat_cmp nat_cmp_total ((0, codes "a") ∷ (1, codes "a") ∷ [])

abbrev two : Corpus
two = record { titles = titles; rows = row 0 0 2 (codes ":x:p") ∷ row 0 1 4 (codes "a") ∷ row 1 0 2 (codes ":y:q") ∷ row 1 1 4 (codes "a") ∷ [] }

abbrev division : Division
division = record {
  words = codes ":x:p" ∷ codes ":y:q" ∷ codes "a" ∷ [];
  heads =
      record { lo = 0; words = 1; rows = 1; len = 8; facet = true; least = 0; greatest = 0 }
      ∷ record { lo = 1; words = 1; rows = 1; len = 8; facet = true; least = 1; greatest = 1 }
      ∷ record { lo = 2; words = 1; rows = 2; len = 16; facet = false; least = 0; greatest = 1 } ∷ [];
}

abbrev asks : List ℕ → List (List ℕ) → Request
asks text facets = record (by_default (query_of text)) { facets = facets }

-- ---- parts
-- the block of the facet x, and one title
sharp-fresh : sharp division two (asks (codes "x:p") []) Fresh 1 ≡ 2
unfolding sharp is_word_char encode_utf8
sharp-fresh = simp (met_query, met_part, met_chain, met_prefix_atom) refl

-- no document with the facet word p has a row in the block of the facet y
sharp-apart : sharp division two (asks (codes "x:p y:") []) Extend 0 ≡ 0
unfolding sharp has_hit is_word_char encode_utf8
sharp-apart = simp (query_rolled, part_listed, chain_rolled, prefix_rows, titles-are, out-roll-Query, out-roll-Part, out-roll-Chain, out-prefix) refl

due-apart : due division (asks (codes "x:p y:") []) Extend 0 ≡ 1
unfolding due is_word_char encode_utf8
due-apart = simp (out-roll-Query, met_part, met_chain, met_prefix_atom) refl

-- such a document lies within the bounds of the block of the word a
sharp-within : sharp division two (asks (codes "x:p a$") []) Extend 1 ≡ 2
unfolding sharp has_hit is_word_char encode_utf8
sharp-within = simp (query_rolled, part_listed, chain_rolled, prefix_rows, titles-are, out-roll-Query, out-roll-Part, out-roll-Chain, out-exact) refl

-- ---- facets
-- the hit has no word of the facet y, so that block isn't read
sharp-facet : sharp division two (asks (codes "x:p") (codes "y" ∷ [])) Same 1 ≡ 1
unfolding sharp has_hit is_word_char encode_utf8
sharp-facet = simp (query_rolled, part_listed, chain_rolled, prefix_rows, titles-are) refl

due-facet : due division (asks (codes "x:p") (codes "y" ∷ [])) Same 1 ≡ 2
unfolding due
due-facet = refl

-- and that of the facet x is
sharp-own_facet : sharp division two (asks (codes "x:p") (codes "x" ∷ [])) Same 1 ≡ 2
unfolding sharp has_hit is_word_char encode_utf8
sharp-own_facet = simp (query_rolled, part_listed, chain_rolled, prefix_rows, titles-are) refl

-- without hits no facet's block is read
sharp-no_hit : sharp division two (asks (codes "z") (codes "x" ∷ codes "y" ∷ [])) Same 0 ≡ 0
unfolding sharp has_hit is_word_char encode_utf8
sharp-no_hit = simp (query_rolled, part_listed, chain_rolled, prefix_rows, titles-are) refl
