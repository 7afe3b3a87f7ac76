-- What a query means over a corpus.
--
-- Source: Bast and Weber, "Type less, find more: fast autocompletion search with a succinct index" (SIGIR 2006), for
-- prefixes, hits and completions; "The CompleteSearch engine: interactive, efficient, and towards IR&DB integration" (CIDR
-- 2007), for facets and joins. Scores and links are this engine's own.
--
-- A query is read from its atoms up: each atom becomes its rows, each chain its rows, each part its rows with whether it is
-- excluded. `parts_of k q` is the list of a query's parts so read; its hits over the corpus k are `hits k (parts_of k q)`,
-- and so on.
--
--   PartRows                      the rows of a part, and whether it is excluded
--   LinkedRows                    the rows of a linked atom, and its link
--   AtomLevel, LinkedLevel        an atom and a linked atom, with what stands within them read
--   ChainLevel, PartLevel         a chain and a part, likewise
--   QueryLevel                    a query, likewise
--   begins p w                    the word w begins with p; every word begins with the empty text
--   in_doc d r                    the row r is of the document d
--   is_listed ds d                d is one of ds; of none it isn't
--   of_word w rows                those of rows that have the word w
--   agrees d p                    d has a row of the part p where p is positive, and none where p is excluded
--   hits k ps                     the documents in which each positive part has a row and no excluded one has, ascending;
--                                 without a part all documents
--   is_shared k inner r           some hit of the inner query has the word of the row r
--   atom_rows k a                 the rows of an atom: a filter of the corpus's rows
--   is_linked link r x            the row r is linked to the row x; a row at position 0 never is
--   linked_to link x rows         those of rows that are linked to a row of x
--   chained x ls                  link by link from the left, the rows of each atom that are linked to a row kept so far; x
--                                 where there is no link
--   linked_rows l, chain_rows c   what a linked atom and a chain become: link and rows; rows
--   union_of chains               the rows that at least one of the chains has, each once, by document, position and word; of
--                                 no chains none
--   part_rows p, query_parts q    what a part and a query become: rows with whether it is excluded; the list of these
--   rows_of_atom k a              the rows of an atom over a corpus
--   rows_of_linked k l            the rows of a linked atom over a corpus, with its link
--   rows_of_chain k c             the rows of a chain over a corpus
--   rows_of_part k p              the rows of a part over a corpus, with whether it is excluded
--   parts_of k q                  the parts of a query with their rows, in order; none for the empty query
--   last_rows ps                  the rows of the last part; none where it is excluded or there is none
--   pairs k ps                    those of them whose document is a hit; none where there are no such rows
--   greatest_score rows           the greatest score of rows; 0 where there is none
--   score ps d                    what d scores: of each positive part the greatest score that it has in d, added up; 0 where
--                                 no part is positive
--   scored ps d                   the document d with that score
--   ranked k ps                   the hits with their scores, in the order in which they are shown; none where there is no
--                                 hit
--   Completion, by_count          a word with its number of documents; more documents first, then by bytes
--   row_docs rows                  the documents of rows, ascending, each once; of no rows none
--   completion_of rows w          the word w with the number of documents in which rows have it; 0 where no row does
--   table_of rows                 each word of rows with that number, in that order; of no rows the empty table
--   table k ps                    the completions: the table of the pairs; empty where there is no pair
--   facet_part k n                the positive part that asks the facet words of the name n
--   facet_table k ps n            the table of the query followed by that part; empty where no hit has such a word
use Rattle.std.specs.Prelude.{ℕ, ◌+◌, Bool, false, not, if◌then◌else◌, ◌&&◌, ◌==◌, nat_lt, nat_le, nat_eq, max, List, [], ◌∷◌, ◌++◌, map, filter, fold, sum, length}
use Rattle.std.specs.List.{list_any, list_all, flat_map, starts_with}
use Rattle.std.specs.Str.{bytes_eq}
use Rattle.std.specs.Ordering.{nat_cmp, then_cmp, on, flip_args}
use Rattle.std.specs.declared.cmp.Ordering.{Ordering}
use Rattle.std.specs.Cmp.Lexicographic.{slice_cmp}
use Rattle.std.specs.FinMap as map
use Rattle.cs_base.specs.content.Members.{members_in}
use Rattle.cs_base.specs.content.Orders.{by_row, by_rank}
use Rattle.cs_base.specs.declared.content.doc.Row.{Row}
use Rattle.cs_base.specs.declared.content.limits.TheConstants.{MAX_DISTANCE}
use Rattle.cs_base.specs.declared.content.doc.Scored.{Scored}
use Rattle.cs_base.specs.declared.content.query.Query.{Query}
use Rattle.cs_base.specs.declared.content.query.Part.{Part}
use Rattle.cs_base.specs.declared.content.query.Chain.{Chain}
use Rattle.cs_base.specs.declared.content.query.Linked.{Linked}
use Rattle.cs_base.specs.declared.content.query.Atom.{Atom}
use Rattle.cs_base.specs.declared.content.query.Link.{Link}
use Rattle.cs_base.specs.declared.content.query.Link.TheVariants.{Phrase, Near}
use Rattle.cs_base.specs.declared.content.query.Atom.TheOpen.{Atom-F, Query-F, Part-F, Chain-F, Linked-F}
use Rattle.cs_base.specs.declared.content.query.Atom.TheFolds.{fold-Query, fold-Part, fold-Chain, fold-Linked, fold-Atom}
use Rattle.cs_model.specs.Collection.{named}
use Rattle.cs_model.specs.Corpus.{Corpus}

-- a part as it is read: whether it is excluded, and its rows, of which there may be none
pub record PartRows : Type 0 where
  pub excluded : Bool
  pub rows : List Row

-- a linked atom as it is read: its link, and its rows, of which there may be none
pub record LinkedRows : Type 0 where
  pub link : Link
  pub rows : List Row

-- an atom, with the parts of its inner query read where it is a join
abbrev pub AtomLevel : Type 0
AtomLevel = Atom-F (List Row) (List Row) LinkedRows PartRows (List PartRows)

-- a linked atom, with its atom read
abbrev pub LinkedLevel : Type 0
LinkedLevel = Linked-F (List Row) (List Row) LinkedRows PartRows (List PartRows)

-- a chain, with its first atom and its linked atoms read
abbrev pub ChainLevel : Type 0
ChainLevel = Chain-F (List Row) (List Row) LinkedRows PartRows (List PartRows)

-- a part, with its chains read
abbrev pub PartLevel : Type 0
PartLevel = Part-F (List Row) (List Row) LinkedRows PartRows (List PartRows)

-- a query, with its parts read
abbrev pub QueryLevel : Type 0
QueryLevel = Query-F (List Row) (List Row) LinkedRows PartRows (List PartRows)

-- ---- tests of rows
-- the word w begins with p; each word begins with itself and with the empty text
abbrev pub begins : List ℕ → List ℕ → Bool
begins p w = starts_with nat_eq w p

-- the row is of document d
abbrev pub in_doc : ℕ → Row → Bool
in_doc d r = r.doc == d

-- d is one of these documents; of none it isn't
abbrev pub is_listed : List ℕ → ℕ → Bool
is_listed ds d = list_any (λ e. e == d) ds

-- the rows that have the word w and no longer one, in their order; none where no row has it
abbrev pub of_word : List ℕ → List Row → List Row
of_word w rows = filter (λ r. bytes_eq r.word w) rows

-- ---- hits
-- a document agrees with a positive part that has a row in it, and with an excluded one that has none, so with each excluded
-- one without rows
abbrev pub agrees : ℕ → PartRows → Bool
agrees d p = if p.excluded then not (list_any (in_doc d) p.rows) else list_any (in_doc d) p.rows

-- the hits over a corpus, ascending; every document where there is no part, none where a positive part has no row
abbrev pub hits : Corpus → List PartRows → List ℕ
hits k ps = filter (λ d. list_all (agrees d) ps) (map.keys k.titles)

-- ---- the rows of a query's parts
-- the word of a row is that of some row in a hit of the inner query; never where the inner query has no hit
abbrev pub is_shared : Corpus → List PartRows → Row → Bool
is_shared k inner r = list_any (λ s. bytes_eq s.word r.word && is_listed (hits k inner) s.doc) k.rows

-- the rows of an atom, in the corpus's order, where a join keeps the facet words of its name that the hits of its inner query
-- have, in every document; none where no word is one that it asks for
abbrev pub atom_rows : Corpus → AtomLevel → List Row
atom_rows k (Atom-F.Prefix p) = filter (λ r. begins p r.word) k.rows
atom_rows k (Atom-F.Exact w) = of_word w k.rows
atom_rows k (Atom-F.Join name inner) = filter (λ r. begins (named name []) r.word && is_shared k inner r) k.rows

-- in one document, r is one position behind x (a phrase), or 1 to `MAX_DISTANCE` away on either side (nearness); a facet's
-- row, at position 0, is linked to none
abbrev pub is_linked : Link → Row → Row → Bool
is_linked Phrase r x = (x.doc == r.doc) && (nat_lt 0 x.pos && (x.pos + 1 == r.pos))
is_linked Near r x = (x.doc == r.doc) && ((nat_lt 0 x.pos && nat_lt 0 r.pos) && (not (x.pos == r.pos) && (nat_le x.pos (r.pos + MAX_DISTANCE) && nat_le r.pos (x.pos + MAX_DISTANCE))))

-- those of rows that are linked to a row of x, in their order; none where x has none
abbrev pub linked_to : Link → List Row → List Row → List Row
linked_to link x rows = filter (λ r. list_any (is_linked link r) x) rows

-- the rows to which the links lead from the rows x, one after the other; x itself where there is no link
abbrev pub chained : List Row → List LinkedRows → List Row
chained x ls = fold (λ kept l. linked_to l.link kept l.rows) x ls

-- what a linked atom is read as, the rows being those of its atom
abbrev pub linked_rows : LinkedLevel → LinkedRows
linked_rows l = record { link = l.link; rows = l.atom }

-- the rows of a chain, which are rows of its last atom; none where some atom of it has none
abbrev pub chain_rows : ChainLevel → List Row
chain_rows c = chained c.first c.rest

-- the rows that at least one of the chains has, each once, by document, position and word; of no chains none
abbrev pub union_of : List (List Row) → List Row
union_of chains = members_in by_row (flat_map (λ rows. rows) chains)

-- what a part is read as, the rows being those of all its alternatives; none where no alternative has one
abbrev pub part_rows : PartLevel → PartRows
part_rows p = record { excluded = p.excluded; rows = union_of p.chains }

-- what a query is read as, its parts in order; none for the empty query
abbrev pub query_parts : QueryLevel → List PartRows
query_parts q = q.parts

-- the rows of an atom over a corpus; none over one without rows
abbrev pub rows_of_atom : Corpus → Atom → List Row
rows_of_atom k = fold-Atom (List Row) (List Row) LinkedRows PartRows (List PartRows) (atom_rows k) chain_rows linked_rows part_rows query_parts

-- the rows of a linked atom over a corpus, with its link; none over one without rows
abbrev pub rows_of_linked : Corpus → Linked → LinkedRows
rows_of_linked k = fold-Linked (List Row) (List Row) LinkedRows PartRows (List PartRows) (atom_rows k) chain_rows linked_rows part_rows query_parts

-- the rows of a chain over a corpus; none over one without rows
abbrev pub rows_of_chain : Corpus → Chain → List Row
rows_of_chain k = fold-Chain (List Row) (List Row) LinkedRows PartRows (List PartRows) (atom_rows k) chain_rows linked_rows part_rows query_parts

-- the rows of a part over a corpus, with whether it is excluded; none over one without rows
abbrev pub rows_of_part : Corpus → Part → PartRows
rows_of_part k = fold-Part (List Row) (List Row) LinkedRows PartRows (List PartRows) (atom_rows k) chain_rows linked_rows part_rows query_parts

-- the parts of a query as they are read over a corpus, in order; none for the empty query
abbrev pub parts_of : Corpus → Query → List PartRows
parts_of k = fold-Query (List Row) (List Row) LinkedRows PartRows (List PartRows) (atom_rows k) chain_rows linked_rows part_rows query_parts

-- ---- pairs: the rows of the last part in the hits
-- the rows of the last part; none where it is excluded, and where there is no part
abbrev pub last_rows : List PartRows → List Row
last_rows [] = []
last_rows (p ∷ []) = if p.excluded then [] else p.rows
last_rows (p ∷ q ∷ ps) = last_rows (q ∷ ps)

-- the rows of the last part in the hits; none where that part is excluded, and where there is no part
abbrev pub pairs : Corpus → List PartRows → List Row
pairs k ps = filter (λ r. is_listed (hits k ps) r.doc) (last_rows ps)

-- ---- scores
-- the greatest score of some rows; 0 where there is no row
abbrev pub greatest_score : List Row → ℕ
greatest_score [] = 0
greatest_score (r ∷ rs) = max r.score (greatest_score rs)

-- the score of a document, to which an excluded part adds nothing; 0 where no part is positive
abbrev pub score : List PartRows → ℕ → ℕ
score ps d = sum (map (λ p. greatest_score (filter (in_doc d) p.rows)) (filter (λ p. not p.excluded) ps))

-- a document with its score, which is 0 where no part is positive
abbrev pub scored : List PartRows → ℕ → Scored
scored ps d = record { doc = d; score = score ps d }

-- the hits with their scores, by score descending, then by document; none where there is no hit
abbrev pub ranked : Corpus → List PartRows → List Scored
ranked k ps = members_in by_rank (map (scored ps) (hits k ps))

-- ---- tables
-- a word with the number of documents that have it, which is at least 1 in a table
pub record Completion : Type 0 where
  pub docs : ℕ
  pub word : List ℕ

-- the order of tables: more documents first, and of equal numbers the word that is less by bytes
abbrev pub by_count : Completion → Completion → Ordering
by_count = then_cmp (on (λ c. c.docs) (flip_args nat_cmp)) (on (λ c. c.word) (slice_cmp nat_cmp))

-- the documents of rows, each once, ascending; none where there is no row
abbrev pub row_docs : List Row → List ℕ
row_docs rows = members_in nat_cmp (map (λ r. r.doc) rows)

-- a word with its number of documents among these rows, one in which it stands twice counted once; 0 where no row has it
abbrev pub completion_of : List Row → List ℕ → Completion
completion_of rows w = record { docs = length (row_docs (of_word w rows)); word = w }

-- each word of rows once, with its number of documents, in the order of tables; the empty table for no rows
abbrev pub table_of : List Row → List Completion
table_of rows = members_in by_count (map (λ r. completion_of rows r.word) rows)

-- the completions of a query, with their numbers of documents among the pairs; the empty table where there is no pair
abbrev pub table : Corpus → List PartRows → List Completion
table k ps = table_of (pairs k ps)

-- ---- facets
-- the positive part of the one atom that asks any word of the facet n; without rows where the corpus has no such facet
abbrev pub facet_part : Corpus → List ℕ → PartRows
facet_part k n = record { excluded = false; rows = union_of (atom_rows k (Atom-F.Prefix (named n [])) ∷ []) }

-- the words of the facet n that hits have, with their numbers of documents among the hits; the empty table where no hit has
-- one
abbrev pub facet_table : Corpus → List PartRows → List ℕ → List Completion
facet_table k ps n = table k (ps ++ facet_part k n ∷ [])
