-- What asks for the words from one number up to another.
--
-- Source: this engine's own.
--
--   AreSharp v count lo hi         whatever the hits are, no more blocks that they reach hold these words than are counted
--   AreWordsOf v met rows lo hi    what asks for these rows, in blocks of which so many may be read, asks for the words of a source
--                                  from number lo up to hi
--   IsInside a b                   the numbers of the range a are among those of b; of an empty range they are
--   AreJoined a b w                w is two ranges as one: the one that has the other inside, or both where one ends at the other's begin
use Rattle.std.specs.Prelude.{◌≡◌, ◌⊎◌, ℕ, ◌≤◌, List, filter, length}
use Rattle.cs_base.specs.declared.content.doc.Base.{Base}
use Rattle.cs_base.specs.declared.content.doc.Row.{Row}
use Rattle.cs_file.specs.Indexes.{StandsFor}
use Rattle.cs_model.specs.Corpus.{Corpus}
use Rattle.cs_rows.specs.IndexReading.{HasRows}
use Rattle.cs_rows.specs.Skipping.{hit_met}
use Rattle.cs_rows.specs.Sources.{SourceView, met_in}
use Rattle.cs_rows.specs.Stocked.{corpus_in, is_between}

-- where no word is asked for, lo is hi
pub record AreWordsOf (v : SourceView) (met : ℕ) (rows : Corpus → List Row) (lo hi : ℕ) : Type 0 where
  pub ordered : lo ≤ hi
  pub within : hi ≤ length v.words
  pub few : met_in v lo hi ≤ met
  pub posts : (b : List ℕ) → StandsFor b v.index → HasRows (v.stock b) (rows (corpus_in (v.stock b))) (filter (is_between lo hi) (v.stock b).posts)

-- by each base
abbrev pub AreSharp : SourceView → (Base → ℕ) → ℕ → ℕ → Type 0
AreSharp v count lo hi = (b : Base) → hit_met v b lo hi ≤ count b

-- its first number and the one behind its last
abbrev pub IsInside : ℕ × ℕ → ℕ × ℕ → Type 0
IsInside a b = (a.0 ≡ a.1) ⊎ ((b.0 ≤ a.0) × (a.1 ≤ b.1))

-- no number lies between them
abbrev pub AreJoined : ℕ × ℕ → ℕ × ℕ → ℕ × ℕ → Type 0
AreJoined a b w =
    (IsInside b a × (w ≡ a)) ⊎ (IsInside a b × (w ≡ b)) ⊎ ((a.1 ≡ b.0) × (w ≡ (a.0, b.1))) ⊎ ((b.1 ≡ a.0) × (w ≡ (b.0, a.1)))
