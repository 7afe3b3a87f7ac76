-- How many blocks of an index may be read for a query.
--
-- Source: the blocks are those of Bast and Weber, "Type less, find more: fast autocompletion search with a succinct index"
-- (SIGIR 2006). Which of them a request may read is this engine's own.
--
-- Each atom is counted by itself: a block that two atoms meet counts twice.
--
--   Division             the words of an index, and the heads of the blocks that they are divided into
--   block_words v h      the words of the block with the head h; none where it has none
--   met_prefix v p       how many blocks hold a word that begins with p; 0 where no word does
--   met_word v w         1 where w is a word of the index, else 0
--   atom_met, linked_met, chain_met, part_met, query_met     what is counted for an atom and for what holds atoms, where it is
--                        counted for what stands within
--   met_of_atom v a      the blocks of an atom: those of its prefix; one for an exact word; those of a join's name and of all atoms
--                        of its query
--   met_of_linked v l, met_of_chain v c, met_of_part v p, met_of_query v q     the sum over the atoms of these; of the empty
--                        query 0
--   met_of_facets v ns   the sum over the names of facets; of none 0
--   met_of_last v p      the blocks of the last part's atoms; 0 where there is no part
--   met_by v q plan      the blocks that a plan leaves to read for the parts of a query
--   due v r plan n       the blocks and titles that may be read for a request, where n titles are
use Rattle.std.specs.Prelude.{ℕ, ◌+◌, if◌then◌else◌, List, [], map, filter, take, drop, sum, length, Option, Some, None}
use Rattle.std.specs.List.{list_any}
use Rattle.std.specs.Str.{bytes_eq}
use Rattle.cs_base.specs.declared.index.block.BlockHead.{BlockHead}
use Rattle.cs_base.specs.declared.content.query.Query.{Query, out-Query}
use Rattle.cs_base.specs.declared.content.query.Part.{Part}
use Rattle.cs_base.specs.declared.content.query.Chain.{Chain}
use Rattle.cs_base.specs.declared.content.query.Linked.{Linked}
use Rattle.cs_base.specs.declared.content.query.Atom.{Atom}
use Rattle.cs_base.specs.declared.content.query.Atom.TheOpen.{Atom-F, Query-F, Part-F, Chain-F, Linked-F}
use Rattle.cs_base.specs.declared.content.query.Atom.TheFolds.{fold-Query, fold-Part, fold-Chain, fold-Linked, fold-Atom}
use Rattle.cs_model.specs.Answers.{begins}
use Rattle.cs_model.specs.Collection.{named}
use Rattle.cs_model.specs.Keys.{last_of}
use Rattle.cs_model.specs.Requests.{Request}
use Rattle.cs_base.specs.declared.index.plan.Plan.{Plan}
use Rattle.cs_base.specs.declared.index.plan.Plan.TheVariants.{Same, Narrow, Extend, Fresh}

-- the words of an index in their order, and the blocks that they are divided into, each told by its head; of both there may be
-- none
pub record Division : Type 0 where
  pub words : List (List ℕ)
  pub heads : List BlockHead

-- ---- blocks that are met
-- the words of a block: as many as its head says, from its first one on; none where there are fewer words
abbrev pub block_words : Division → BlockHead → List (List ℕ)
block_words v h = take h.words (drop h.lo v.words)

-- the number of blocks that hold a word that begins with p; 0 where no word of the index does
abbrev pub met_prefix : Division → List ℕ → ℕ
met_prefix v p = length (filter (λ h. list_any (begins p) (block_words v h)) v.heads)

-- a word lies in one block; 0 where w isn't a word of the index
abbrev pub met_word : Division → List ℕ → ℕ
met_word v w = if list_any (bytes_eq w) v.words then 1 else 0

-- ---- level by level
-- the blocks of an atom, where those of a join's query are counted; of a join whose query is empty those of its name alone
abbrev pub atom_met : Division → Atom-F ℕ ℕ ℕ ℕ ℕ → ℕ
atom_met v (Atom-F.Prefix p) = met_prefix v p
atom_met v (Atom-F.Exact w) = met_word v w
atom_met v (Atom-F.Join name inner) = met_prefix v (named name []) + inner

-- those of a linked atom are those of its atom
abbrev pub linked_met : Linked-F ℕ ℕ ℕ ℕ ℕ → ℕ
linked_met l = l.atom

-- those of all atoms of a chain; of one atom its own
abbrev pub chain_met : Chain-F ℕ ℕ ℕ ℕ ℕ → ℕ
chain_met c = c.first + sum c.rest

-- those of all alternatives of a part, be it excluded or not; 0 of no alternative
abbrev pub part_met : Part-F ℕ ℕ ℕ ℕ ℕ → ℕ
part_met p = sum p.chains

-- those of all parts of a query; 0 of no part
abbrev pub query_met : Query-F ℕ ℕ ℕ ℕ ℕ → ℕ
query_met q = sum q.parts

-- ---- the sums
-- the blocks of an atom, those of the atoms within a join included; 0 over an index without words
abbrev pub met_of_atom : Division → Atom → ℕ
met_of_atom v = fold-Atom ℕ ℕ ℕ ℕ ℕ (atom_met v) chain_met linked_met part_met query_met

-- the blocks of a linked atom; 0 over an index without words
abbrev pub met_of_linked : Division → Linked → ℕ
met_of_linked v = fold-Linked ℕ ℕ ℕ ℕ ℕ (atom_met v) chain_met linked_met part_met query_met

-- the blocks of the atoms of a chain; 0 over an index without words
abbrev pub met_of_chain : Division → Chain → ℕ
met_of_chain v = fold-Chain ℕ ℕ ℕ ℕ ℕ (atom_met v) chain_met linked_met part_met query_met

-- the blocks of the atoms of a part; 0 over an index without words
abbrev pub met_of_part : Division → Part → ℕ
met_of_part v = fold-Part ℕ ℕ ℕ ℕ ℕ (atom_met v) chain_met linked_met part_met query_met

-- the blocks of all atoms of a query; 0 for the empty query
abbrev pub met_of_query : Division → Query → ℕ
met_of_query v = fold-Query ℕ ℕ ℕ ℕ ℕ (atom_met v) chain_met linked_met part_met query_met

-- the blocks of the last part's atoms; 0 where there is no part
abbrev pub met_of_last : Division → Option Part → ℕ
met_of_last v None = 0
met_of_last v (Some p) = met_of_part v p

-- the blocks of the words of each facet named; 0 where none is
abbrev pub met_of_facets : Division → List (List ℕ) → ℕ
met_of_facets v names = sum (map (λ n. met_prefix v (named n [])) names)

-- ---- what may be read
-- the blocks that a plan leaves to read for a query's parts: none where what is kept tells all, those of the last part where it
-- goes on from the parts before, and else those of all parts
abbrev pub met_by : Division → Query → Plan → ℕ
met_by v q Same = 0
met_by v q (Narrow cut) = 0
met_by v q Extend = met_of_last v (last_of (out-Query q).parts)
met_by v q Fresh = met_of_query v q

-- the reads that a request may take by this plan, where the titles of so many documents are read
unfoldable pub due : Division → Request → Plan → ℕ → ℕ
due v r plan titles = titles + met_of_facets v r.facets + met_by v r.query plan
