-- How the words of a vocabulary are parted into runs, one for each block of an index file.
--
-- Source: this engine's own. An index in blocks of many words is that of H. Bast and I. Weber, Type Less, Find More (SIGIR 2006).
--
--   Count                     how many rows a word has
--   is_facet w                whether a word is that of a facet, which begins with a colon
--   kind_of w                 the facet name that a word stands under; with its leading colon; of a plain word the empty text
--   is_alike v w              two words of one kind: both plain, or both under one facet name
--   is_one_kind run           each word is of the kind of the first; so is the empty run
--   rows_of_run count run     how many rows the words of a run have; of no words 0
--   is_light target n rows    a block of n words may have so many rows: one word any number, several at most the target
--   is_run target count run   words that a block may have
--   is_full target n rows     n words leave no room for one more, with which they would have so many rows
--   is_ended target count p   the run p.0 is one that ends where the run p.1 begins
--   IsPartition target count words runs    runs that joined are the words, each as long as it may be
--   PartitionsAreOne          the law that no words have two partitions
--   PartitionsExist           the law that words have one
use Rattle.std.specs.Prelude.{◌≡◌, ℕ, ◌+◌, Bool, true, false, ◌&&◌, ◌||◌, not, nat_lt, nat_le, List, [], ◌∷◌, length, drop, flat_map, if◌then◌else◌}
use Rattle.std.specs.List.{list_all, sum_by, zip, before_first}
use Rattle.std.specs.Str.{bytes_eq}
use Rattle.cs_model.specs.Words.{is_filled}
use Rattle.cs_model.specs.Collection.{is_colon}
use Rattle.cs_model_index.specs.Numbered.{word_at}
use Rattle.cs_model_index.specs.declared.limits.TheConstants.{MAX_BLOCK_WORDS}

-- how many rows a word has
abbrev pub Count : Type 0
Count = List ℕ → ℕ

-- ---- kinds of words
-- a word that begins with a colon; the empty text doesn't
abbrev pub is_facet : List ℕ → Bool
is_facet [] = false
is_facet (b ∷ w) = is_colon b

-- a leading colon and what stands between it and the next one, or the end; of a word that doesn't begin with a colon the empty text
abbrev pub kind_of : List ℕ → List ℕ
kind_of [] = []
kind_of (b ∷ w) = if is_colon b then b ∷ before_first is_colon w else []

-- of one kind: both plain, or both under one facet name
abbrev pub is_alike : List ℕ → List ℕ → Bool
is_alike v w = bytes_eq (kind_of v) (kind_of w)

-- each of the kind of the first; so is the empty run
abbrev pub is_one_kind : List (List ℕ) → Bool
is_one_kind run = list_all (is_alike (word_at run 0)) run

-- ---- runs
-- the rows of all its words together; of no words 0
abbrev pub rows_of_run : Count → List (List ℕ) → ℕ
rows_of_run count run = sum_by count run

-- one word may have any number of rows, and several at most the target; of no words any number
abbrev pub is_light : ℕ → ℕ → ℕ → Bool
is_light target n rows = nat_le n 1 || nat_le rows target

-- words of one kind, at least one and at most MAX_BLOCK_WORDS of them, and if several, with at most the target's rows
abbrev pub is_run : ℕ → Count → List (List ℕ) → Bool
is_run target count run = is_filled run && (is_one_kind run && (nat_le (length run) MAX_BLOCK_WORDS && is_light target (length run) (rows_of_run count run)))

-- as many words as a block may have, or with one more word more rows than the target
abbrev pub is_full : ℕ → ℕ → ℕ → Bool
is_full target n rows = nat_le MAX_BLOCK_WORDS n || nat_lt target rows

-- the next run is of another kind, or this one has no room for its first word
abbrev pub is_ended : ℕ → Count → List (List ℕ) × List (List ℕ) → Bool
is_ended target count p =
    not (is_alike (word_at p.0 0) (word_at p.1 0)) || is_full target (length p.0) (rows_of_run count p.0 + count (word_at p.1 0))

-- the runs joined are the words, each may be a block's, and each that another follows has no room for that one's first word; of no words
-- there are no runs
pub record IsPartition (target : ℕ) (count : Count) (words : List (List ℕ)) (runs : List (List (List ℕ))) : Type 0 where
  pub joined : flat_map (λ run. run) runs ≡ words
  pub each : list_all (is_run target count) runs ≡ true
  pub ended : list_all (is_ended target count) (zip runs (drop 1 runs)) ≡ true

-- words have one partition, whatever their rows and the target
abbrev pub PartitionsAreOne : Type 0
PartitionsAreOne = (target : ℕ) (count : Count) (words : List (List ℕ)) (runs others : List (List (List ℕ))) → IsPartition target count words runs → IsPartition target count words others → runs ≡ others

-- and they have one, for each target; no words have the partition of no runs
abbrev pub PartitionsExist : Type 0
PartitionsExist = (target : ℕ) (count : Count) (words : List (List ℕ)) → (runs : List (List (List ℕ))) × IsPartition target count words runs
