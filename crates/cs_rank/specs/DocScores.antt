-- The score of a document, from its rows and from what the earlier parts of the query gave it.
--
--   greatest ns           the greatest of some numbers
--   of_doc d rows         the rows of document d
--   best_row rows d       document d with the greatest score of its rows
--   with_base base h      h, with what the earlier parts gave it added
--   doc_scores base rows  each document of the rows with its score, ascending
--   IsBase base           what a base keeps: its documents ascend, and no score is above 2^20
--   PassedBelow hs n d    the first n of hs are of documents below d
use Rattle.std.specs.Prelude.{ℕ, ◌+◌, ◌≤◌, ◌^◌, ◌<◌, max, length, slice_index_or, List, [], ◌∷◌, map, All, filter, ◌==◌}
use Rattle.cs_base.specs.content.Orders.{AreByDoc, docs_of}
use Rattle.cs_base.specs.declared.content.doc.Base.{Base}
use Rattle.cs_base.specs.declared.content.doc.Base.TheVariants as base
use Rattle.cs_base.specs.declared.content.doc.Post.{Post}
use Rattle.cs_base.specs.declared.content.doc.Scored.{Scored}
use Rattle.cs_base.specs.content.Bases.{base_score}

-- the greatest of some numbers; of none it is 0
abbrev pub greatest : List ℕ → ℕ
greatest [] = 0
greatest (n ∷ ns) = max n (greatest ns)

-- the rows of document d, in their order
abbrev pub of_doc : ℕ → List Post → List Post
of_doc d rows = filter (λ p. p.doc == d) rows

-- document d with the greatest score of its rows
abbrev pub best_row : List Post → ℕ → Scored
best_row rows d = record { doc = d; score = greatest (map (λ p. p.score) (of_doc d rows)) }

-- h, with what the earlier parts gave its document added
abbrev pub with_base : Base → Scored → Scored
with_base base h = record { doc = h.doc; score = base_score base h.doc + h.score }

-- each document of the rows with its score, by document ascending
abbrev pub doc_scores : Base → List Post → List Scored
doc_scores base rows = map (λ d. with_base base (best_row rows d)) (docs_of rows)

-- the listed documents strictly ascend, and none has a score above 2^20: no limit of a query comes near it, and below it adding a
-- row's score to a base's never wraps
abbrev pub IsBase : Base → Type 0
IsBase base.All = Unit {0}
IsBase (base.Listed listed) = AreByDoc listed × All (λ h. h.score ≤ 2 ^ 20) listed

-- the first n listed documents are there, and each of them is below d
abbrev pub PassedBelow : List Scored → ℕ → ℕ → Type 0
PassedBelow listed n d = (n ≤ length listed) × ((k : ℕ) (h : Scored) → k < n → (slice_index_or listed k h).doc < d)
