-- The keys under which an answer to a query is looked for: that of the query itself, those of queries that the same person
-- may have typed on the way to it, and that of the query without its last part.
--
-- Source: this engine's own.
--
--   last_of xs         the last entry; of no entry None
--   prefix_in a        the word of the atom a where it is a prefix; of an exact word and of a join None
--   last_atom a l      the atom behind the link l; where there is no link a
--   chain_prefix c     the prefix at the end of the chain c; None where it ends in another atom
--   chains_prefix cs   that of the one chain of cs; None where there are several or none
--   part_prefix p      that of a positive part with one chain; else None, as for no part
--   last_prefix q      the prefix that is being typed: that at the end of the last part, where the part is positive and has
--                      one chain; else None
--   relinked w l       the linked atom l with the prefix w in its place, behind the same link
--   ended_by w a ls    the chain of a and the linked atoms ls with the prefix w in the place of the last one
--   with_prefix w q    the query with w in the place of the prefix that is being typed; without a part it stays
--   shorter cs         the shorter prefixes of the characters cs, the longest first; of no character none
--   is_left cs w       of the word cs the first characters w are a word: there is one, and no colon is cut off
--   shorter_words p    the words that the word p may have been before, the longest first
--   narrower q w       the key of the query q with w in that place, and how many bytes w has
--   narrowers q p      those of all shorter words of the prefix p; none where there is no prefix
--   key_before ps      the key of the parts ps without the last one; None where there are fewer than two
--   keys_of q          the keys of a query
use Rattle.std.specs.Prelude.{ℕ, ◌-◌, Bool, ◌&&◌, ◌==◌, not, nat_lt, if◌then◌else◌, List, [], ◌∷◌, ◌++◌, map, filter, length, take, drop, Option, Some, None, chars, encode_utf8_all}
use Rattle.std.specs.List.{list_any}
use Rattle.cs_base.specs.content.Bytes.{colon}
use Rattle.cs_base.specs.declared.content.key.Keys.{Keys}
use Rattle.cs_base.specs.declared.content.key.Narrower.{Narrower}
use Rattle.cs_base.specs.declared.content.query.Query.{Query, roll-Query, out-Query}
use Rattle.cs_base.specs.declared.content.query.Part.{Part, out-Part}
use Rattle.cs_base.specs.declared.content.query.Chain.{Chain, roll-Chain, out-Chain}
use Rattle.cs_base.specs.declared.content.query.Linked.{Linked, roll-Linked, out-Linked}
use Rattle.cs_base.specs.declared.content.query.Atom.{Atom, Prefix, out-Atom}
use Rattle.cs_base.specs.declared.content.query.Atom.TheOpen.{Atom-F}
use Rattle.cs_model.specs.Grammar.{on_last, chain_of, with_chains}
use Rattle.cs_model.specs.Canonical.{canonical}

-- ---- the prefix that is being typed
-- the last entry of a list; of no entry None
abbrev pub last_of : {X : Type 0} → List X → Option X
last_of [] = None
last_of (x ∷ []) = Some x
last_of (x ∷ y ∷ ys) = last_of (y ∷ ys)

-- the word of an atom that is a prefix; of an exact word and of a join None
abbrev pub prefix_in : Atom-F Atom Chain Linked Part Query → Option (List ℕ)
prefix_in (Atom-F.Prefix p) = Some p
prefix_in (Atom-F.Exact w) = None
prefix_in (Atom-F.Join name inner) = None

-- the atom behind the last link, or the first one where there is no link
abbrev pub last_atom : Atom → Option Linked → Atom
last_atom a None = a
last_atom a (Some l) = (out-Linked l).atom

-- the prefix at the end of a chain; None where it ends in another atom
abbrev pub chain_prefix : Chain → Option (List ℕ)
chain_prefix c = prefix_in (out-Atom (last_atom (out-Chain c).first (last_of (out-Chain c).rest)))

-- the prefix at the end of a part's one alternative; None where there are several or none
abbrev pub chains_prefix : List Chain → Option (List ℕ)
chains_prefix [] = None
chains_prefix (c ∷ []) = chain_prefix c
chains_prefix (c ∷ d ∷ cs) = None

-- the prefix at the end of a part, where there is one; an excluded part has none
abbrev pub part_prefix : Option Part → Option (List ℕ)
part_prefix None = None
part_prefix (Some p) = if (out-Part p).excluded then None else chains_prefix (out-Part p).chains

-- the prefix that is being typed; None where the last part is excluded, has several alternatives or ends in another atom, and
-- without a part
abbrev pub last_prefix : Query → Option (List ℕ)
last_prefix q = part_prefix (last_of (out-Query q).parts)

-- ---- the query with another prefix there
-- a linked atom with Prefix w in its place, behind the same link
abbrev pub relinked : List ℕ → Linked → Linked
relinked w l = roll-Linked (record { link = (out-Linked l).link; atom = Prefix w })

-- a chain with Prefix w in the place of its last atom; where nothing is linked, Prefix w alone
abbrev pub ended_by : List ℕ → Atom → List Linked → Chain
ended_by w a [] = chain_of (Prefix w)
ended_by w a (l ∷ ls) = roll-Chain (record { first = a; rest = on_last (relinked w) (l ∷ ls) })

-- the query with Prefix w in the place of the last atom of its last part's last chain; a query without parts stays as it is
abbrev pub with_prefix : List ℕ → Query → Query
with_prefix w q = roll-Query (record { parts = on_last (with_chains (on_last (λ c. ended_by w (out-Chain c).first (out-Chain c).rest))) (out-Query q).parts })

-- ---- shorter words
-- the shorter prefixes of characters, the longest first and the empty one last; of no character none
abbrev pub shorter : List ℕ → List (List ℕ)
shorter [] = []
shorter (c ∷ cs) = map (λ w. c ∷ w) (shorter cs) ++ [] ∷ []

-- what is left of a word is a word: of a facet's the name stays and the value may be empty, of any other word at least one
-- character stays
abbrev pub is_left : List ℕ → List ℕ → Bool
is_left cs w = nat_lt 0 (length w) && not (list_any (λ c. c == colon) (drop (length w) cs))

-- what a word may have been before, cut by whole characters, the longest first; none for a word of one character
abbrev pub shorter_words : List ℕ → List (List ℕ)
shorter_words p = map encode_utf8_all (filter (is_left (chars p)) (shorter (chars p)))

-- ---- the keys
-- the key of the query with the prefix w, and how many bytes w has, a facet's leading colon and name included
abbrev pub narrower : Query → List ℕ → Narrower
narrower q w = record { cut = length w; key = canonical (with_prefix w q) }

-- the keys of the query with each shorter prefix; none where no prefix is being typed
abbrev pub narrowers : Query → Option (List ℕ) → List Narrower
narrowers q None = []
narrowers q (Some p) = map (narrower q) (shorter_words p)

-- the key of the query once its last part is dropped; None where it has fewer than two
abbrev pub key_before : List Part → Option (List ℕ)
key_before ps = if nat_lt 1 (length ps) then Some (canonical (roll-Query (record { parts = take (length ps - 1) ps }))) else None

-- the keys of a query, its own being its canonical text; the query without parts has that one alone, the empty text
abbrev pub keys_of : Query → Keys
keys_of q = record { same = canonical q; narrow = narrowers q (last_prefix q); extend = key_before (out-Query q).parts }
