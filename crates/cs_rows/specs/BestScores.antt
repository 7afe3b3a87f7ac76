-- The best score of each document, over rows in any order.
--
-- Source: this engine's own.
--
--   best_of rows d           the greatest score of the rows of document d
--   HasBestScores seen best  a table by document of the rows that were seen; a row has a score, so 0 says that there is none
--   hits_in d best           the documents of a table, from d on, that have a row, with their scores
use Rattle.std.specs.Prelude.{◌≡◌, ℕ, ◌+◌, ◌<◌, nat_lt, List, [], ◌∷◌, length, map, slice_index, if◌then◌else◌}
use Rattle.cs_base.specs.declared.content.doc.Post.{Post}
use Rattle.cs_base.specs.declared.content.doc.Scored.{Scored}
use Rattle.cs_rank.specs.DocScores.{greatest, of_doc}

-- 0 where the document has no row
abbrev pub best_of : List Post → ℕ → ℕ
best_of rows d = greatest (map (λ p. p.score) (of_doc d rows))

-- of no rows each entry is 0
abbrev pub HasBestScores : List Post → List ℕ → Type 0
HasBestScores seen best = (d : ℕ) → d < length best → slice_index best d ≡ best_of seen d

-- none of an empty table
unfoldable pub hits_in : ℕ → List ℕ → List Scored
hits_in d [] = []
hits_in d (b ∷ bs) = if nat_lt 0 b then record { doc = d; score = b } ∷ hits_in (d + 1) bs else hits_in (d + 1) bs
