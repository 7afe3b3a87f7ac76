-- What is found of a range of words, straight from their blocks.
--
-- Source: this engine's own.
--
--   rows_within lo hi h      how many rows a block has, where all its words are from lo up to hi
--   AreMany v lo hi          over the bytes of its index a source's posts with a word from lo up to hi are more than an entry may have
--   CountsTable rows t       what is counted gives the table of rows
--   HasFound b rows hits t   the documents of rows with their scores over a base, and what gives the table of the rows
--   IsWideFound rows hits t  the same over every document, of more rows than an entry may have
use Rattle.std.specs.Prelude.{◌≡◌, ℕ, ◌+◌, ◌<◌, ◌&&◌, nat_le, List, length, filter, if◌then◌else◌}
use Rattle.cs_base.specs.declared.content.doc.Base.{Base}
use Rattle.cs_base.specs.declared.content.doc.Base.TheVariants as base
use Rattle.cs_base.specs.declared.content.doc.Post.{Post}
use Rattle.cs_base.specs.declared.index.block.BlockHead.{BlockHead}
use Rattle.cs_file.specs.Indexes.{StandsFor}
use Rattle.cs_model_kept.specs.declared.limits.TheConstants.{MAX_ENTRY_SIZE}
use Rattle.cs_rank.specs.DocScores.{doc_scores}
use Rattle.cs_tables.specs.TableListings.{post_table}
use Rattle.cs_tables.specs.WordCounts.{AreCountable, HasCounted, WordCountsView}
use Rattle.cs_rows.specs.Sources.{SourceView}
use Rattle.cs_rows.specs.Stocked.{is_between}

-- 0 where a word of it isn't
abbrev pub rows_within : ℕ → ℕ → BlockHead → ℕ
rows_within lo hi h = if nat_le lo h.lo && nat_le (h.lo + h.words) hi then h.rows else 0

-- so an entry of them alone is too large
abbrev pub AreMany : SourceView → ℕ → ℕ → Type 0
AreMany v lo hi = (b : List ℕ) → StandsFor b v.index → MAX_ENTRY_SIZE < length (filter (is_between lo hi) (v.stock b).posts)

-- those that were counted may have come in any order; of no rows the table is empty
pub record CountsTable (rows : List Post) (t : WordCountsView) : Type 0 where
  pub seen : List Post
  pub countable : AreCountable seen
  pub counted : HasCounted seen t
  pub same : post_table seen ≡ post_table rows

-- of no rows there are none, and an empty table
pub record HasFound (b : Base) (rows : List Post) (hits : Base) (t : WordCountsView) : Type 0 where
  pub hits_are : hits ≡ base.Listed (doc_scores b rows)
  pub table : CountsTable rows t

-- those of a range of words; a query of these words alone has an entry that is too large
pub record IsWideFound (rows : List Post) (hits : Base) (t : WordCountsView) : Type 0 where
  pub found : HasFound base.All rows hits t
  pub many : MAX_ENTRY_SIZE < length rows
