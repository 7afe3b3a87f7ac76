-- Which text words of a document serve a part, told by these words alone.
--
-- Source: this engine's own.
--
-- Marks are a list with an entry for each text word. A facet's rows stand at position 0, those of a join too, so neither serves a text word; and no link
-- leads from a title word to a text word.
--
--   level_marks ws a               the words that an atom asks for, of one level of the query
--   atom_marks ws a                the words that an atom asks for
--   is_neighbour kept j i          the word at place i has a mark, and is another one at most `MAX_DISTANCE` behind place j
--   is_near_marked kept j          another word with a mark is at most `MAX_DISTANCE` places away
--   is_led link kept j             whether the link leads to the word at place j from a kept one
--   linked_marks link kept next    of the marks next those to which the link leads
--   led_marks ws kept l            the words to which a linked atom leads from the kept ones
--   chain_marks ws c               the words that a chain serves
--   either_marks a b               the words that one of both has a mark for
--   part_marks ws p                the words that a part serves
use Rattle.std.specs.Prelude.{ℕ, ◌+◌, ◌*◌, ◌-◌, Bool, false, ◌&&◌, ◌||◌, ◌==◌, not, nat_lt, nat_le, List, map, fold}
use Rattle.std.specs.List.{enumerate_from, list_any, range_with_len}
use Rattle.std.specs.Str.{bytes_eq}
use Rattle.cs_base.specs.declared.content.limits.TheConstants.{MAX_DISTANCE}
use Rattle.cs_base.specs.declared.content.query.Atom.{Atom, out-Atom}
use Rattle.cs_base.specs.declared.content.query.Atom.TheOpen.{Atom-F}
use Rattle.cs_base.specs.declared.content.query.Chain.{Chain, out-Chain}
use Rattle.cs_base.specs.declared.content.query.Link.{Link}
use Rattle.cs_base.specs.declared.content.query.Link.TheVariants.{Phrase, Near}
use Rattle.cs_base.specs.declared.content.query.Linked.{Linked, out-Linked}
use Rattle.cs_base.specs.declared.content.query.Part.{Part, out-Part}
use Rattle.cs_base.specs.declared.content.query.Query.{Query}
use Rattle.cs_model.specs.Answers.{begins}
use Rattle.cs_model_excerpts.specs.Runs.{has_mark_at}

-- the words that begin with a prefix, or that are the exact word; of a join none
abbrev pub level_marks : List (List ℕ) → Atom-F Atom Chain Linked Part Query → List Bool
level_marks ws (Atom-F.Prefix p) = map (begins p) ws
level_marks ws (Atom-F.Exact w) = map (λ x. bytes_eq x w) ws
level_marks ws (Atom-F.Join name inner) = map (λ x. false) ws

-- the words that an atom asks for; of no words no marks
abbrev pub atom_marks : List (List ℕ) → Atom → List Bool
atom_marks ws a = level_marks ws (out-Atom a)

-- another word than that at place j, with a mark and at most `MAX_DISTANCE` places behind it
abbrev pub is_neighbour : List Bool → ℕ → ℕ → Bool
is_neighbour kept j i = not (i == j) && (nat_le i (j + MAX_DISTANCE) && has_mark_at kept i)

-- another word with a mark is at most `MAX_DISTANCE` places away, on either side
unfoldable pub is_near_marked : List Bool → ℕ → Bool
is_near_marked kept j = list_any (is_neighbour kept j) (range_with_len (j - MAX_DISTANCE) (2 * MAX_DISTANCE + 1))

-- a link leads to a word from the one before it (a phrase), or from another one at most `MAX_DISTANCE` away (nearness); a phrase never to the first word
abbrev pub is_led : Link → List Bool → ℕ → Bool
is_led Phrase kept j = nat_lt 0 j && has_mark_at kept (j - 1)
is_led Near kept j = is_near_marked kept j

-- those of the marks next to which the link leads from a kept one
abbrev pub linked_marks : Link → List Bool → List Bool → List Bool
linked_marks link kept next = map (λ p. p.1 && is_led link kept p.0) (enumerate_from 0 next)

-- the words of a linked atom to which its link leads from the kept ones
abbrev pub led_marks : List (List ℕ) → List Bool → Linked → List Bool
led_marks ws kept l = linked_marks (out-Linked l).link kept (atom_marks ws (out-Linked l).atom)

-- the words that a chain serves, link by link from the left
abbrev pub chain_marks : List (List ℕ) → Chain → List Bool
chain_marks ws c = fold (led_marks ws) (atom_marks ws (out-Chain c).first) (out-Chain c).rest

-- the words that have a mark in one of both lists, of one length
abbrev pub either_marks : List Bool → List Bool → List Bool
either_marks a b = map (λ p. p.1 || has_mark_at a p.0) (enumerate_from 0 b)

-- the words that some alternative of a part serves; of no alternatives none
abbrev pub part_marks : List (List ℕ) → Part → List Bool
part_marks ws p = fold (λ ms c. either_marks ms (chain_marks ws c)) (map (λ x. false) ws) (out-Part p).chains
