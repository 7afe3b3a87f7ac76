-- Rows in any order: what depends on their members alone.
--
-- Source: this engine's own.
--
--   AreLastWords i q hits lo hi      the last part of a query is positive and asks for these words, and hits are in range as those before it
--   IsEntryByWords b v q hits lo hi  over the bytes of its index a source's own entry of a query is that of these hits and words
--   IsTableFor v b q cut hits t      over the bytes of its index a table is that of a query of these hits, cut
--   AreCountsFor v b q hits t        over them what is counted gives the table of a query of these hits
use Rattle.std.specs.Prelude.{◌≡◌, ℕ, ◌-◌, ◌*◌, ◌≤◌, true, List, length, filter, take}
use Rattle.cs_base.specs.declared.content.doc.Base.{Base}
use Rattle.cs_base.specs.declared.content.doc.Post.{Post}
use Rattle.cs_base.specs.declared.content.query.Query.{Query, out-Query}
use Rattle.cs_base.specs.declared.content.scores.TheConstants.{MAX_ROW_SCORE}
use Rattle.cs_file.specs.Indexes.{IndexView}
use Rattle.cs_tables.specs.TableListings.{post_table}
use Rattle.cs_tables.specs.WordCounts.{WordCountsView}
use Rattle.cs_tables.specs.declared.tables.Table.{Table}
use Rattle.cs_rows.specs.Blockwise.{CountsTable}
use Rattle.cs_engine.specs.Keeping.{IsEntryOver}
use Rattle.cs_rows.specs.Steps.{entry_with, AreFound, IsBaseOf, last_is_positive}
use Rattle.cs_rows.specs.IndexReading.{AreWithin}
use Rattle.cs_rows.specs.Sources.{SourceView, seen}
use Rattle.cs_rows.specs.Stocked.{corpus_in, is_between, base_posts}

-- before a query's only part all documents are hits
pub record AreLastWords (i : IndexView) (q : Query) (hits : Base) (lo hi : ℕ) : Type 0 where
  pub some : 1 ≤ length (out-Query q).parts
  pub positive : last_is_positive q ≡ true
  pub ordered : lo ≤ hi
  pub within : hi ≤ length i.words
  pub base : IsBaseOf i.docs (MAX_ROW_SCORE * (length (out-Query q).parts - 1)) hits

-- its base are the hits, and its rows are those of these words in them
abbrev pub IsEntryByWords : List ℕ → SourceView → Query → Base → ℕ → ℕ → Type 0
IsEntryByWords b v q hits lo hi =
    IsEntryOver (corpus_in (v.stock b)) (seen v) q (entry_with hits (base_posts hits (filter (is_between lo hi) (v.stock b).posts)))

-- of posts that stand for the pairs, in order
pub record IsTableFor (v : SourceView) (b : List ℕ) (q : Query) (cut : ℕ) (hits : Base) (t : Table) : Type 0 where
  pub posts : List Post
  pub found : AreFound (v.stock b) q hits posts
  pub within : AreWithin (seen v) posts
  pub first : t.first ≡ take cut (post_table posts)
  pub total : t.total ≡ length (post_table posts)

-- whatever the cut
pub record AreCountsFor (v : SourceView) (b : List ℕ) (q : Query) (hits : Base) (t : WordCountsView) : Type 0 where
  pub posts : List Post
  pub found : AreFound (v.stock b) q hits posts
  pub within : AreWithin (seen v) posts
  pub table : CountsTable posts t
