-- The canonical text of a query: one text for each query of the grammar, which is read as that query again.
--
-- Source: none; it is written in the signs of the grammar (Tokens, Grammar).
--
-- It is built from the atoms up: each atom becomes its text, each chain the texts of its atoms with their links, and so on.
--
--   Bytes                                  texts as lists of bytes
--   word_text w                            a word, that of a facet as name:value
--   link_text l                            the sign of a link: . or ..
--   atom_text                              the text of a word, with $ behind it where it is exact; of a join name[query]
--   linked_text                            an atom behind the sign of its link
--   chain_text                             the atoms of a chain, each but the first behind the sign of its link
--   part_text                              the alternatives with | between each two, behind a - where the part is excluded
--   query_text                             the parts with a space between each two; of no part the empty text
--   canonical q                            the canonical text of a query, as bytes; the empty text for the query without
--                                          parts
--   canonical_part p, canonical_chain c    the same of a part and of a chain
--   canonical_linked l, canonical_atom a   and of a linked atom and an atom
--   canonical_parts ps                     the canonical text of the query with the parts ps; of no part the empty text
use Rattle.std.specs.Prelude.{ℕ, ◌==◌, if◌then◌else◌, List, [], ◌∷◌, ◌++◌, map, codes}
use Rattle.std.specs.List.{concat, join_with_byte}
use Rattle.cs_base.specs.content.Bytes.{colon, space, bar}
use Rattle.cs_base.specs.declared.content.query.Link.{Link}
use Rattle.cs_base.specs.declared.content.query.Link.TheVariants.{Phrase, Near}
use Rattle.cs_base.specs.declared.content.query.Query.{Query}
use Rattle.cs_base.specs.declared.content.query.Part.{Part}
use Rattle.cs_base.specs.declared.content.query.Chain.{Chain}
use Rattle.cs_base.specs.declared.content.query.Linked.{Linked}
use Rattle.cs_base.specs.declared.content.query.Atom.{Atom}
use Rattle.cs_base.specs.declared.content.query.Atom.TheOpen.{Atom-F, Query-F, Part-F, Chain-F, Linked-F}
use Rattle.cs_base.specs.declared.content.query.Atom.TheFolds.{fold-Query, fold-Part, fold-Chain, fold-Linked, fold-Atom}

-- a text as its bytes
abbrev pub Bytes : Type 0
Bytes = List ℕ

-- ---- level by level
-- a word in a query, that of a facet without its leading colon; the empty text stays empty
abbrev pub word_text : Bytes → Bytes
word_text [] = []
word_text (b ∷ bs) = if b == colon then bs else b ∷ bs

-- one dot for a phrase, two for nearness
abbrev pub link_text : Link → Bytes
link_text Phrase = codes "."
link_text Near = codes ".."

-- the text of an atom, a facet's word without its leading colon, as name:value; of a join whose query is empty name[]
abbrev pub atom_text : Atom-F Bytes Bytes Bytes Bytes Bytes → Bytes
atom_text (Atom-F.Prefix w) = word_text w
atom_text (Atom-F.Exact w) = word_text w ++ codes "$"
atom_text (Atom-F.Join name inner) = name ++ codes "[" ++ inner ++ codes "]"

-- an atom behind the sign of its link
abbrev pub linked_text : Linked-F Bytes Bytes Bytes Bytes Bytes → Bytes
linked_text l = link_text l.link ++ l.atom

-- the text of a chain; a chain of one atom is told by that atom alone
abbrev pub chain_text : Chain-F Bytes Bytes Bytes Bytes Bytes → Bytes
chain_text c = c.first ++ concat c.rest

-- the text of a part, with |, which is 124, between each two alternatives; of one alternative that one alone
abbrev pub part_text : Part-F Bytes Bytes Bytes Bytes Bytes → Bytes
part_text p = (if p.excluded then codes "-" else []) ++ join_with_byte bar p.chains

-- the text of a query, with one space, which is 32, between each two parts; of no part nothing
abbrev pub query_text : Query-F Bytes Bytes Bytes Bytes Bytes → Bytes
query_text q = join_with_byte space q.parts

-- ---- the texts
-- the canonical text of an atom, which is never empty in a query of the grammar
abbrev pub canonical_atom : Atom → Bytes
canonical_atom = fold-Atom Bytes Bytes Bytes Bytes Bytes atom_text chain_text linked_text part_text query_text

-- the canonical text of a linked atom, which begins with the sign of its link
abbrev pub canonical_linked : Linked → Bytes
canonical_linked = fold-Linked Bytes Bytes Bytes Bytes Bytes atom_text chain_text linked_text part_text query_text

-- the canonical text of a chain; of one atom it is the atom's
abbrev pub canonical_chain : Chain → Bytes
canonical_chain = fold-Chain Bytes Bytes Bytes Bytes Bytes atom_text chain_text linked_text part_text query_text

-- the canonical text of a part; of a positive part with one chain it is the chain's
abbrev pub canonical_part : Part → Bytes
canonical_part = fold-Part Bytes Bytes Bytes Bytes Bytes atom_text chain_text linked_text part_text query_text

-- the canonical text of a query; that of the query without parts is empty, and of no other query of the grammar
abbrev pub canonical : Query → Bytes
canonical = fold-Query Bytes Bytes Bytes Bytes Bytes atom_text chain_text linked_text part_text query_text

-- the canonical text of some parts, as a query has them; of no part it is empty
abbrev pub canonical_parts : List Part → Bytes
canonical_parts ps = join_with_byte space (map canonical_part ps)
