-- The rows that the table of a facet counts.
--
-- Source: this engine's own.
--
--   in_listed listed p       the document of a post is listed
--   counted_rows blocks first last lo hi listed     the posts that are counted in the blocks from number first up to last, one block
--                            behind the other
--   AreMarked hits old new   the documents of hits are listed beside those that were
--   AreListed present b listed  which of the documents that are there a base lists
--   CountsFacet lo hi rows b marks     rows of a facet's words are counted in the documents that a base lists
use Rattle.std.specs.Prelude.{◌≡◌, ℕ, ◌-◌, ◌*◌, ◌<◌, ◌≤◌, ◌||◌, Bool, false, List, length, map, take, drop, flat_map, slice_index_or}
use Rattle.cs_base.specs.declared.content.doc.Base.{Base}
use Rattle.cs_base.specs.declared.content.doc.Post.{Post}
use Rattle.cs_base.specs.declared.content.doc.Scored.{Scored}
use Rattle.cs_base.specs.declared.content.limits.TheConstants.{MAX_DOCS, MAX_PARTS, MAX_WORDS}
use Rattle.cs_base.specs.declared.content.scores.TheConstants.{MAX_ROW_SCORE}
use Rattle.cs_file.specs.Indexes.{IndexView}
use Rattle.cs_model.specs.Answers.{is_listed}
use Rattle.cs_tables.specs.WordCounts.{chosen}
use Rattle.cs_rows.specs.IndexReading.{AreWithin}
use Rattle.cs_rows.specs.Steps.{IsBaseOf}
use Rattle.cs_rows.specs.Stocked.{base_docs, present_docs}

-- a document behind the last of the list isn't
abbrev pub in_listed : List Bool → Post → Bool
in_listed listed p = slice_index_or listed p.doc false

-- none where first is last
abbrev pub counted_rows : List (List Post) → ℕ → ℕ → ℕ → ℕ → List Bool → List Post
counted_rows blocks first last lo hi listed = flat_map (chosen lo hi listed) (take (last - first) (drop first blocks))

-- of no hits they are the same
abbrev pub AreMarked : List Scored → List Bool → List Bool → Type 0
AreMarked hits old new = (length new ≡ length old) × ((d : ℕ) → d < length new
    → slice_index_or new d false ≡ (slice_index_or old d false || is_listed (map (λ h. h.doc) hits) d))

-- All lists each of them
pub record AreListed (present : List Bool) (b : Base) (listed : List Bool) : Type 0 where
  pub long : length listed ≡ length present
  pub each : (d : ℕ) → d < length present → slice_index_or listed d false ≡ is_listed (base_docs (present_docs present) b) d

-- whatever store the rows were read from, and whatever else is known of the index
pub record CountsFacet (lo hi : ℕ) (rows : List Post) (b : Base) (marks : List Bool) : Type 0 where
  pub index : IndexView
  pub present : List Bool
  pub numbers : length present ≡ index.docs
  pub few_docs : index.docs ≤ MAX_DOCS
  pub few_words : length index.words ≤ MAX_WORDS
  pub ordered : lo ≤ hi
  pub words : hi ≤ length index.words
  pub within : AreWithin index rows
  pub base : IsBaseOf index.docs (MAX_ROW_SCORE * MAX_PARTS) b
  pub listed : AreListed present b marks
