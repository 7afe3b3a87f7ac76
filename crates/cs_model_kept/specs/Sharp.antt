-- How many blocks of an index may be read for a query, those left out that have no hit from their least document to their greatest.
--
-- Source: this engine's own.
--
-- Each atom is counted by itself, as in Due. The heads of an index file's blocks have the bounds of their rows.
--
--   lies_in h d                   the document d lies within the bounds of the block with the head h
--   has_hit ds h                  one of the documents ds does; of no documents none
--   sharp_of v ds test            how many blocks hold a word that passes, and have one of these documents within their bounds
--   sharp_open v ds all a         those of an opened atom; of a join all that are counted without hits
--   sharp_of_atom v ds a          those of an atom
--   sharp_of_linked v ds l, sharp_of_chain v ds c, sharp_of_part v ds p      the sums over the atoms of these
--   sharp_of_last v ds p          those of the last part; 0 where there is no part
--   sharp_of_facets v ds ns       the sum over the names of facets; of none 0
--   hits_before k ps              the hits of all parts but the last; of one part or none every document
--   sharp_by v k q plan           the blocks that a plan leaves to read for the parts of a query
--   sharp v k r plan n            the blocks and titles that may be read for a request, where n titles are
--   SkippedHaveNoRow              a block that isn't read has no row in these documents
--   IsDivided v                   words in order, and blocks one behind the other
--   image_division i              the words and the blocks of an image
--   SharpIsLess                   no more may be read than without bounds
--   FilesAreDivided               the words of index files are divided so
use Rattle.std.specs.Prelude.{◌≡◌, ℕ, ◌+◌, ◌-◌, ◌^◌, ◌<◌, ◌≤◌, ◌&&◌, Bool, false, nat_le, List, [], map, filter, take, sum, length, All, Option, Some, None, slice_index_or}
use Rattle.std.specs.List.{list_any, zip}
use Rattle.std.specs.List.Sorted.{IsStrictlySortedBy}
use Rattle.std.specs.Ordering.{nat_cmp}
use Rattle.std.specs.Cmp.Lexicographic.{slice_cmp}
use Rattle.std.specs.Str.{bytes_eq}
use Rattle.cs_base.specs.declared.index.block.BlockHead.{BlockHead}
use Rattle.cs_base.specs.declared.content.query.Query.{Query, out-Query}
use Rattle.cs_base.specs.declared.content.query.Part.{Part, out-Part}
use Rattle.cs_base.specs.declared.content.query.Chain.{Chain, out-Chain}
use Rattle.cs_base.specs.declared.content.query.Linked.{Linked, out-Linked}
use Rattle.cs_base.specs.declared.content.query.Atom.{Atom, out-Atom}
use Rattle.cs_base.specs.declared.content.query.Atom.TheOpen.{Atom-F}
use Rattle.cs_base.specs.declared.index.plan.Plan.{Plan}
use Rattle.cs_base.specs.declared.index.plan.Plan.TheVariants.{Same, Narrow, Extend, Fresh}
use Rattle.cs_model.specs.Answers.{PartRows, begins, hits, is_listed, parts_of}
use Rattle.cs_model.specs.Collection.{named}
use Rattle.cs_model.specs.Corpus.{Corpus}
use Rattle.cs_model.specs.Keys.{last_of}
use Rattle.cs_model.specs.Requests.{Request}
use Rattle.cs_model_index.specs.BlockLaws.{AcceptedAreBlocks, OneReading}
use Rattle.cs_model_index.specs.FileRules.{IsIndexFile}
use Rattle.cs_model_index.specs.Images.{Image}
use Rattle.cs_model_index.specs.Sections.{image_of}
use Rattle.cs_model_kept.specs.Due.{Division, block_words, due, met_of_atom, met_of_query}

-- ---- blocks that have a hit
-- both bounds included
abbrev pub lies_in : BlockHead → ℕ → Bool
lies_in h d = nat_le h.least d && nat_le d h.greatest

-- of no documents none
unfoldable pub has_hit : List ℕ → BlockHead → Bool
has_hit ds h = list_any (lies_in h) ds

-- 0 where no word of the index passes
abbrev pub sharp_of : Division → List ℕ → (List ℕ → Bool) → ℕ
sharp_of v ds test = length (filter (λ h. list_any test (block_words v h) && has_hit ds h) v.heads)

-- ---- level by level
-- those of a prefix and of an exact word by what it asks for; of a join as many as without hits
abbrev pub sharp_open : {Q P C L A : Type 0} → Division → List ℕ → ℕ → Atom-F Q P C L A → ℕ
sharp_open v ds all (Atom-F.Prefix p) = sharp_of v ds (begins p)
sharp_open v ds all (Atom-F.Exact w) = sharp_of v ds (λ x. bytes_eq x w)
sharp_open v ds all (Atom-F.Join name inner) = all

-- 0 over an index without words
abbrev pub sharp_of_atom : Division → List ℕ → Atom → ℕ
sharp_of_atom v ds a = sharp_open v ds (met_of_atom v a) (out-Atom a)

-- those of its atom
abbrev pub sharp_of_linked : Division → List ℕ → Linked → ℕ
sharp_of_linked v ds l = sharp_of_atom v ds (out-Linked l).atom

-- those of all its atoms
abbrev pub sharp_of_chain : Division → List ℕ → Chain → ℕ
sharp_of_chain v ds c = sharp_of_atom v ds (out-Chain c).first + sum (map (sharp_of_linked v ds) (out-Chain c).rest)

-- those of all alternatives, be the part excluded or not; 0 of no alternative
abbrev pub sharp_of_part : Division → List ℕ → Part → ℕ
sharp_of_part v ds p = sum (map (sharp_of_chain v ds) (out-Part p).chains)

-- 0 where there is no part
abbrev pub sharp_of_last : Division → List ℕ → Option Part → ℕ
sharp_of_last v ds None = 0
sharp_of_last v ds (Some p) = sharp_of_part v ds p

-- ---- what may be read
-- the blocks of the words of each facet named that have one of these documents; 0 where none is named
abbrev pub sharp_of_facets : Division → List ℕ → List (List ℕ) → ℕ
sharp_of_facets v ds names = sum (map (λ n. sharp_of v ds (begins (named n []))) names)

-- of one part or none every document, since no part is before it
abbrev pub hits_before : Corpus → List PartRows → List ℕ
hits_before k ps = hits k (take (length ps - 1) ps)

-- the blocks that a plan leaves to read for a query's parts: none where what is kept tells all, those of the last part that have a
-- hit of the parts before where it goes on from these, and else those of all parts
abbrev pub sharp_by : Division → Corpus → Query → Plan → ℕ
sharp_by v k q Same = 0
sharp_by v k q (Narrow cut) = 0
sharp_by v k q Extend = sharp_of_last v (hits_before k (parts_of k q)) (last_of (out-Query q).parts)
sharp_by v k q Fresh = met_of_query v q

-- the reads that a request over this corpus may take by this plan, where the titles of so many documents are read
unfoldable pub sharp : Division → Corpus → Request → Plan → ℕ → ℕ
sharp v k r plan titles = titles + sharp_of_facets v (hits k (parts_of k r.query)) r.facets + sharp_by v k r.query plan

-- ---- what isn't read
-- in the blocks of an index file, by the laws of blocks
abbrev pub SkippedHaveNoRow : Type 0
SkippedHaveNoRow = AcceptedAreBlocks → OneReading → (b : List ℕ) → All (λ x. x < 2 ^ 8) b → IsIndexFile b → (ds : List ℕ)
    → All (λ p. has_hit ds p.0 ≡ false → All (λ r. is_listed ds r.doc ≡ false) p.1) (zip (image_of b).heads (image_of b).blocks)

-- ---- against what may be read without bounds
-- no word stands twice, and a block begins no earlier than those before it end, so that each word lies in at most one
pub record IsDivided (v : Division) : Type 0 where
  pub ascending : IsStrictlySortedBy (slice_cmp nat_cmp) v.words
  pub apart : (k l : ℕ) (d : BlockHead) → k < l → l < length v.heads → (slice_index_or v.heads k d).lo + (slice_index_or v.heads k d).words ≤ (slice_index_or v.heads l d).lo

-- of an image without words there are none
abbrev pub image_division : Image → Division
image_division i = record { words = i.words; heads = i.heads }

-- whatever the corpus and the bounds are
abbrev pub SharpIsLess : Type 0
SharpIsLess = (v : Division) → IsDivided v → (k : Corpus) (r : Request) (plan : Plan) (titles : ℕ) → sharp v k r plan titles ≤ due v r plan titles

-- of bytes, each below 256
abbrev pub FilesAreDivided : Type 0
FilesAreDivided = (b : List ℕ) → All (λ x. x < 2 ^ 8) b → IsIndexFile b → IsDivided (image_division (image_of b))
