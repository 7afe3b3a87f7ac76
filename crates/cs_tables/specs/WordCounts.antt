-- Counting the documents of words over rows that come in pieces.
--
-- Source: this engine's own.
--
--   WordCountsView                      the words from one number up to another, and the mark of each
--   is_chosen low high listed p    the word of a row is one of these, and its document is listed
--   chosen low high listed rows    the rows that are counted
--   is_of_listed listed p          the document of a row is listed
--   IsListedAt listed docs i       the document that stands there is listed
--   AreOfOne low high words        there are words, all of them are the same, and that is one of these
--   AreCountable rows              the rows of each word are in order, and their documents are few
--   HasWordMarks low rows marks    the marks of the words from low on are those after these rows
--   Counts low high listed rows old new     the marks after these rows more, whatever rows came before
--   HasColumnsOf rows posts        the documents and the words of posts
--   CanCount low high rows marks, CountsRows low high rows old new      rows by their documents and words: before they are counted, and after
--   CanCountAt low high rows places marks, CountsAt low high rows places old new      the same of the rows at some places, all in listed documents
--   HasCounted rows t              what is counted after these rows, all of words that are counted
--   AddsColumns listed docs words old new     rows more, by their documents and words
use Rattle.std.specs.Prelude.{◌≡◌, ℕ, ◌+◌, ◌<◌, ◌≤◌, ◌&&◌, Bool, true, false, nat_le, nat_lt, List, ◌++◌, filter, length, map, slice_index, slice_index_or}
use Rattle.std.specs.List.{All}
use Rattle.cs_base.specs.content.Orders.{AreSorted}
use Rattle.cs_base.specs.declared.content.doc.Post.{Post}
use Rattle.cs_base.specs.declared.content.limits.TheConstants.{MAX_DOCS}
use Rattle.cs_tables.specs.TableListings.{with_word}
use Rattle.cs_tables.specs.Marks.{mark_of}
use Rattle.cs_tables.specs.declared.counts.Mark.{Mark}
use Rattle.cs_tables.specs.declared.word_counts.Rows.{Rows}

-- the words from low up to high, high left out, and one mark for each
pub record WordCountsView : Type 0 where
  pub low : ℕ
  pub high : ℕ
  pub marks : List Mark

-- a document behind the last of the list isn't listed
abbrev pub is_chosen : ℕ → ℕ → List Bool → Post → Bool
is_chosen low high listed p = (nat_le low p.word && nat_lt p.word high) && slice_index_or listed p.doc false

-- of no rows none
abbrev pub chosen : ℕ → ℕ → List Bool → List Post → List Post
chosen low high listed rows = filter (is_chosen low high listed) rows

-- a document behind the last of the list isn't listed
abbrev pub is_of_listed : List Bool → Post → Bool
is_of_listed listed p = slice_index_or listed p.doc false

-- a place behind the last document isn't one
abbrev pub IsListedAt : List Bool → List ℕ → ℕ → Type 0
IsListedAt listed docs i = (i < length docs) × (slice_index_or listed (slice_index_or docs i 0) false ≡ true)

-- no words aren't of one
pub record AreOfOne (low high : ℕ) (words : List ℕ) : Type 0 where
  pub some : 0 < length words
  pub same : All (λ w. w ≡ slice_index words 0) words
  pub from : low ≤ slice_index words 0
  pub upto : slice_index words 0 < high

-- rows of different words may come in any order; no rows are countable
pub record AreCountable (rows : List Post) : Type 0 where
  pub ordered : (w : ℕ) → AreSorted (with_word w rows)
  pub few_docs : All (λ p. p.doc < MAX_DOCS) rows

-- one for each word; after no rows none has a document
abbrev pub HasWordMarks : ℕ → List Post → List Mark → Type 0
HasWordMarks low rows marks = (k : ℕ) (d : Mark) → k < length marks → slice_index_or marks k d ≡ mark_of (low + k) rows

-- those of the rows that are chosen count, and no others
abbrev pub Counts : ℕ → ℕ → List Bool → List Post → List Mark → List Mark → Type 0
Counts low high listed rows old new = (seen : List Post) → AreCountable (seen ++ chosen low high listed rows) → HasWordMarks low seen old → HasWordMarks low (seen ++ chosen low high listed rows) new

-- after no rows no word has a document
pub record HasCounted (rows : List Post) (t : WordCountsView) : Type 0 where
  pub marks : HasWordMarks t.low rows t.marks
  pub within : All (λ p. (t.low ≤ p.word) × (p.word < t.high)) rows

-- none of no posts
pub record HasColumnsOf (rows : Rows) (posts : List Post) : Type 0 where
  pub docs : rows.docs.now ≡ map (λ p. p.doc) posts
  pub words : rows.words.now ≡ map (λ p. p.word) posts

-- a mark for each word, a word for each document, and each document is listed or not
pub record CanCount (low high : ℕ) (rows : Rows) (marks : List Mark) : Type 0 where
  pub sized : low + length marks ≡ high
  pub even : length rows.words.now ≡ length rows.docs.now
  pub known : All (λ d. d < length rows.listed.now) rows.docs.now

-- whatever posts have these documents and words
pub record CountsRows (low high : ℕ) (rows : Rows) (old new : List Mark) : Type 0 where
  pub counted : (posts : List Post) → HasColumnsOf rows posts → Counts low high rows.listed.now posts old new
  pub sized : length new ≡ length old

-- documents at other places may be listed or not
pub record CanCountAt (low high : ℕ) (rows : Rows) (places : List ℕ) (marks : List Mark) : Type 0 where
  pub sized : low + length marks ≡ high
  pub even : length rows.words.now ≡ length rows.docs.now
  pub known : All (IsListedAt rows.listed.now rows.docs.now) places

-- d stands where a place has no row, which none of these is
pub record CountsAt (low high : ℕ) (rows : Rows) (places : List ℕ) (old new : List Mark) : Type 0 where
  pub counted : (posts : List Post) → HasColumnsOf rows posts → (d : Post)
      → Counts low high rows.listed.now (map (λ i. slice_index_or posts i d) places) old new
  pub sized : length new ≡ length old

-- of no columns what was counted stays; the words that are counted stay the same
pub record AddsColumns (listed : List Bool) (docs words : List ℕ) (old new : WordCountsView) : Type 0 where
  pub counted : (rows : List Post) → docs ≡ map (λ p. p.doc) rows → words ≡ map (λ p. p.word) rows
      → (seen : List Post) → AreCountable (seen ++ chosen old.low old.high listed rows)
      → HasCounted seen old → HasCounted (seen ++ chosen old.low old.high listed rows) new
  pub low : new.low ≡ old.low
  pub high : new.high ≡ old.high
