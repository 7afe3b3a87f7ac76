-- The grammar of queries on worked texts: the definitions computed. Steps have the newest first.
use Rattle.std.proofs.Common.{◌≡◌, ℕ, List, [], ◌∷◌, map, refl, true, false, codes}
use Rattle.std.specs.Char.{encode_utf8}
use Rattle.std.specs.Str.{chars}
use Rattle.caseless.proofs.Computing.{caseless}
use Rattle.cs_base.specs.declared.content.query.Link.TheVariants.{Phrase, Near}
use Rattle.cs_base.specs.declared.content.query.Query.{Query, roll-Query}
use Rattle.cs_base.specs.declared.content.query.Part.{Part, roll-Part, out-roll-Part}
use Rattle.cs_base.specs.declared.content.query.Chain.{roll-Chain, out-roll-Chain}
use Rattle.cs_base.specs.declared.content.query.Linked.{roll-Linked}
use Rattle.cs_base.specs.declared.content.query.Atom.{Prefix, Exact}
use Rattle.cs_model.specs.declared.kinds.Tie.TheVariants.{Begins, Alternative, Linked as LinkedBy}
use Rattle.cs_model.specs.KeyText.{norm}
use Rattle.cs_model.specs.Words.{is_word_char}
use Rattle.cs_model.specs.Tokens.{tokens}
use Rattle.cs_model.specs.Grammar.{Step, Leaf, Enter, Leave, steps, chain_of, part_of, join, query_of}
use lib.Utf8

-- ---- the atoms of a text
-- texts, each with its steps
abbrev stepped : List (List ℕ × List Step)
stepped =
    -- two words are two parts
    (codes "typ se", Leaf (Begins false) (Prefix (codes "se")) ∷ Leaf (Begins false) (Prefix (codes "typ")) ∷ [])
    -- a dash behind a word and before a gap separates
    ∷ (codes "a- b", Leaf (Begins false) (Prefix (codes "b")) ∷ Leaf (Begins false) (Prefix (codes "a")) ∷ [])
    -- two dashes separate
    ∷ (codes "a--b", Leaf (Begins false) (Prefix (codes "b")) ∷ Leaf (Begins false) (Prefix (codes "a")) ∷ [])
    -- a dot at the front separates
    ∷ (codes "a .b", Leaf (Begins false) (Prefix (codes "b")) ∷ Leaf (Begins false) (Prefix (codes "a")) ∷ [])
    -- a lone dash at the front excludes
    ∷ (codes "a -b", Leaf (Begins true) (Prefix (codes "b")) ∷ Leaf (Begins false) (Prefix (codes "a")) ∷ [])
    -- a dash alone is no part
    ∷ (codes "-", [])
    -- a dash before a gap excludes nothing
    ∷ (codes "- a", Leaf (Begins false) (Prefix (codes "a")) ∷ [])
    -- a phrase, and an exact word as its alternative
    ∷ (codes "a.b|c$", Leaf Alternative (Exact (codes "c")) ∷ Leaf (LinkedBy Phrase) (Prefix (codes "b")) ∷ Leaf (Begins false) (Prefix (codes "a")) ∷ [])
    -- two dots are nearness
    ∷ (codes "a..b", Leaf (LinkedBy Near) (Prefix (codes "b")) ∷ Leaf (Begins false) (Prefix (codes "a")) ∷ [])
    -- a dot behind a value separates
    ∷ (codes "author:bast.x", Leaf (Begins false) (Prefix (codes "x")) ∷ Leaf (Begins false) (Prefix (codes ":author:bast")) ∷ [])
    -- a dash in a value is a low line
    ∷ (codes "author:hans-pe", Leaf (Begins false) (Prefix (codes ":author:hans_pe")) ∷ [])
    -- a value may be empty
    ∷ (codes "http://x", Leaf (Begins false) (Prefix (codes "x")) ∷ Leaf (Begins false) (Prefix (codes ":http:")) ∷ [])
    -- a run between a word and a facet is a link
    ∷ (codes "a.k:b", Leaf (LinkedBy Phrase) (Prefix (codes ":k:b")) ∷ Leaf (Begins false) (Prefix (codes "a")) ∷ [])
    -- a run behind a bracket is a link
    ∷ (codes "k[x]-b", Leaf (LinkedBy Phrase) (Prefix (codes "b")) ∷ Leave ∷ Leaf (Begins false) (Prefix (codes "x")) ∷ Enter (Begins false) (codes "k") ∷ [])
    ∷ []

steps-are : map (λ c. steps (tokens c.0)) stepped ≡ map (λ c. c.1) stepped
unfolding is_word_char encode_utf8
steps-are = refl

-- a join of the empty query
empty_join : query_of (codes "author[]") ≡ roll-Query (record { parts = roll-Part (record { excluded = false; chains = roll-Chain (record { first = join (codes "author") []; rest = [] }) ∷ [] }) ∷ [] })
unfolding is_word_char encode_utf8
empty_join = refl

-- a bar at the end is dropped, and an open bracket is closed there
open_end : query_of (codes "a[b|") ≡ query_of (codes "a[b]")
unfolding is_word_char encode_utf8
open_end = refl

-- ---- queries
-- the query of these parts
abbrev of_parts : List Part → Query
of_parts ps = roll-Query (record { parts = ps })

-- of no character it is the empty query
query_of-empty : query_of [] ≡ of_parts []
query_of-empty = refl

-- one part of two alternatives: a phrase, and an exact word
query_of-alternatives : query_of (codes "a.b|c$") ≡ of_parts (roll-Part (record {
  excluded = false;
  chains = roll-Chain (record { first = Prefix (codes "a"); rest = roll-Linked (record { link = Phrase; atom = Prefix (codes "b") }) ∷ [] }) ∷ chain_of (Exact (codes "c")) ∷ [];
}) ∷ [])
unfolding is_word_char encode_utf8
query_of-alternatives = simp (out-roll-Part, out-roll-Chain) refl

-- a positive part, and an excluded one
query_of-excluded : query_of (codes "a -b") ≡ of_parts (part_of false (Prefix (codes "a")) ∷ part_of true (Prefix (codes "b")) ∷ [])
unfolding is_word_char encode_utf8
query_of-excluded = refl

-- a capital letter is lower-cased, and a dot ends a facet's value
query_of-facet : query_of (chars (norm (codes "author:Bast.x"))) ≡ of_parts (part_of false (Prefix (codes ":author:bast")) ∷ part_of false (Prefix (codes "x")) ∷ [])
unfolding norm chars caseless is_word_char lib.Utf8.encode
query_of-facet = refl

-- slashes end an empty value
query_of-address : query_of (codes "http://x") ≡ of_parts (part_of false (Prefix (codes ":http:")) ∷ part_of false (Prefix (codes "x")) ∷ [])
unfolding is_word_char encode_utf8
query_of-address = refl
