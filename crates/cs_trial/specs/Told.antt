-- The lines of a summary by its counts.
--
--   told c    the nine lines of the counts c, each a word and its number
use Rattle.std.specs.Prelude.{ℕ, List, [], ◌∷◌, codes}
use Rattle.cs_trial.specs.declared.counts.TrialCounts.{TrialCounts}

-- each count with its word, in the order of a summary; a count of 0 is told too
abbrev pub told : TrialCounts → List (List ℕ × ℕ)
told c =
    (codes "documents", c.documents)
    ∷ (codes "rows", c.rows)
    ∷ (codes "blocks", c.blocks)
    ∷ (codes "replies", c.replies)
    ∷ (codes "hits", c.hits)
    ∷ (codes "same", c.same)
    ∷ (codes "narrow", c.narrow)
    ∷ (codes "extend", c.extend)
    ∷ (codes "fresh", c.fresh)
    ∷ []
