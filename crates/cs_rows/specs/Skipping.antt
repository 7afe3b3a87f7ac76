-- Blocks that no hit reaches, which aren't read.
--
-- Source: this engine's own.
--
--   lists_none b         a base lists no document
--   bare_facet n         the facet of the name n as it is shown where no document has it
--   lists_doc b d        a base lists the document d, or stands for all
--   no_head              the head of no block
--   may_hit b h          a document of a base may have a row in a block
--   may_read b hs k      how often block k may be read: once where one may
--   hit_blocks b hs first last     in how many blocks from number first up to last one may
--   hit_met v b lo hi    and in how many of the blocks that hold a word from lo up to hi
--   hit_of_atom v b a, hit_of_linked v b l, hit_of_chain v b c, hit_of_part v b p, hit_of_last v b p
--                        and of those that an atom meets, and what holds atoms
--   hit_of_facet v b n, hit_of_facets v b ns     and those of facets
--   hit_reads v k r plan n      the reads that a request over a corpus may take by this plan, where the titles of so many documents are read
--   IsSieve told v b listed     what blocks are skipped by: a base, and which documents are listed, all of the base
--   Lists v b listed     the rows in listed documents are those in documents of the base
use Rattle.std.specs.Prelude.{◌≡◌, ℕ, ◌+◌, ◌-◌, ◌==◌, ◌&&◌, Bool, true, false, if◌then◌else◌, List, [], map, filter, take, drop, sum, length, slice_index_or}
use Rattle.std.specs.Prelude.{Option, Some, None}
use Rattle.std.specs.List.{All}
use Rattle.cs_base.specs.declared.content.doc.Base.{Base}
use Rattle.cs_base.specs.declared.content.doc.Base.TheVariants as base
use Rattle.cs_base.specs.declared.content.doc.Scored.{Scored}
use Rattle.cs_base.specs.declared.content.query.Atom.{Atom}
use Rattle.cs_base.specs.declared.content.query.Chain.{Chain, out-Chain}
use Rattle.cs_base.specs.declared.content.query.Linked.{Linked, out-Linked}
use Rattle.cs_base.specs.declared.content.query.Part.{Part, out-Part}
use Rattle.cs_base.specs.declared.index.block.BlockHead.{BlockHead}
use Rattle.cs_base.specs.declared.index.plan.Plan.{Plan}
use Rattle.cs_file.specs.Indexes.{StandsFor, is_met}
use Rattle.cs_model.specs.Answers.{begins, is_listed, parts_of}
use Rattle.cs_model.specs.Collection.{named}
use Rattle.cs_model.specs.Corpus.{Corpus}
use Rattle.cs_model.specs.Replies.{FacetShown}
use Rattle.cs_model.specs.Requests.{Request}
use Rattle.cs_model_kept.specs.Due.{Division, met_of_atom, met_prefix}
use Rattle.cs_model_kept.specs.Entries.{base_of}
use Rattle.cs_model_kept.specs.Sharp.{has_hit, sharp_by, sharp_of, sharp_of_atom}
use Rattle.cs_rank.specs.DocScores.{IsBase}
use Rattle.cs_rows.specs.Counting.{in_listed}
use Rattle.cs_rows.specs.Sources.{CanRead, SourceView}

-- ---- bases
-- one that stands for all isn't said to
abbrev pub lists_none : Base → Bool
lists_none base.All = false
lists_none (base.Listed hs) = length hs == 0

-- with no word
abbrev pub bare_facet : List ℕ → FacetShown
bare_facet n = record { name = n; table = [] }

-- the documents of hits; of no hits none
abbrev pub hit_docs : List Scored → List ℕ
hit_docs hs = map (λ h. h.doc) hs

-- All lists each
abbrev pub lists_doc : Base → ℕ → Bool
lists_doc base.All d = true
lists_doc (base.Listed hs) d = is_listed (hit_docs hs) d

-- ---- blocks
-- of no words
abbrev pub no_head : BlockHead
no_head = record { lo = 0; words = 0; rows = 0; len = 0; facet = false; least = 0; greatest = 0 }

-- where it has a hit from its least document to its greatest; by All each may
abbrev pub may_hit : Base → BlockHead → Bool
may_hit base.All h = true
may_hit (base.Listed hs) h = has_hit (hit_docs hs) h

-- 0 where none may
abbrev pub may_read : Base → List BlockHead → ℕ → ℕ
may_read b hs k = if may_hit b (slice_index_or hs k no_head) then 1 else 0

-- 0 where first is last
abbrev pub hit_blocks : Base → List BlockHead → ℕ → ℕ → ℕ
hit_blocks b hs first last = length (filter (may_hit b) (take (last - first) (drop first hs)))

-- 0 where lo is hi
abbrev pub hit_met : SourceView → Base → ℕ → ℕ → ℕ
hit_met v b lo hi = length (filter (λ h. is_met (v.before lo) (v.before hi) h && may_hit b h) v.index.heads)

-- ---- level by level
-- by All as many as are met
abbrev pub hit_of_atom : Division → Base → Atom → ℕ
hit_of_atom v base.All a = met_of_atom v a
hit_of_atom v (base.Listed hs) a = sharp_of_atom v (hit_docs hs) a

-- those of its atom
abbrev pub hit_of_linked : Division → Base → Linked → ℕ
hit_of_linked v b l = hit_of_atom v b (out-Linked l).atom

-- those of all its atoms
abbrev pub hit_of_chain : Division → Base → Chain → ℕ
hit_of_chain v b c = hit_of_atom v b (out-Chain c).first + sum (map (hit_of_linked v b) (out-Chain c).rest)

-- 0 of no alternative
abbrev pub hit_of_part : Division → Base → Part → ℕ
hit_of_part v b p = sum (map (hit_of_chain v b) (out-Part p).chains)

-- 0 where there is no part
abbrev pub hit_of_last : Division → Base → Option Part → ℕ
hit_of_last v b None = 0
hit_of_last v b (Some p) = hit_of_part v b p

-- ---- what may be read
-- by All as many as are met
abbrev pub hit_of_facet : Division → Base → List ℕ → ℕ
hit_of_facet v base.All n = met_prefix v (named n [])
hit_of_facet v (base.Listed hs) n = sharp_of v (hit_docs hs) (begins (named n []))

-- 0 where none is named
abbrev pub hit_of_facets : Division → Base → List (List ℕ) → ℕ
hit_of_facets v b names = sum (map (hit_of_facet v b) names)

-- as `sharp`, but that of a facet asked with the empty query each block may be read
abbrev pub hit_reads : Division → Corpus → Request → Plan → ℕ → ℕ
hit_reads v k r plan titles = titles + hit_of_facets v (base_of k (parts_of k r.query)) r.facets + sharp_by v k r.query plan

-- ---- what blocks are skipped by
-- whatever store the hits were read from
pub record IsSieve (told : Option (List ℕ)) (v : SourceView) (b : Base) (listed : List Bool) : Type 0 where
  pub opened : CanRead told v
  pub base : IsBase b
  pub long : length listed ≡ v.docs
  pub inside : (d : ℕ) → slice_index_or listed d false ≡ true → lists_doc b d ≡ true

-- over the bytes of the index
abbrev pub Lists : SourceView → Base → List Bool → Type 0
Lists v b listed = (bytes : List ℕ) → StandsFor bytes v.index → All (λ p. in_listed listed p ≡ lists_doc b p.doc) (v.stock bytes).posts
