-- The law that shared posts stand for the rows of a join.
--
--   JoinsAreShared     where posts stand for the rows with a facet's name, the shared ones stand for the rows of a join
use Rattle.std.specs.Prelude.{◌≡◌, ℕ, ◌<◌, All, List, [], length}
use Rattle.std.specs.List.Sorted.{IsStrictlySortedBy}
use Rattle.std.specs.Ordering.{nat_cmp}
use Rattle.std.specs.Cmp.Lexicographic.{slice_cmp}
use Rattle.cs_base.specs.declared.content.doc.Post.{Post}
use Rattle.cs_base.specs.declared.content.query.Atom.TheOpen.{Atom-F}
use Rattle.cs_model.specs.Answers.{PartRows, atom_rows, hits}
use Rattle.cs_model.specs.Collection.{named}
use Rattle.cs_model.specs.Corpus.{Corpus}
use Rattle.cs_model_index.specs.Numbered.{rows_at}
use Rattle.cs_join.specs.Shared.{shared}

-- over words that strictly ascend, posts that stand for the rows of a facet's prefix, in order, have as their shared ones those of
-- the join of that facet; no posts where the inner query has no hit
abbrev pub JoinsAreShared : Type 0
JoinsAreShared =
    (k : Corpus) (name : List ℕ) (inner : List PartRows) (ws : List (List ℕ)) (posts : List Post)
    → IsStrictlySortedBy (slice_cmp nat_cmp) ws
    → All (λ p. p.word < length ws) posts
    → rows_at ws posts ≡ atom_rows k (Atom-F.Prefix (named name []))
    → rows_at ws (shared posts (hits k inner)) ≡ atom_rows k (Atom-F.Join name inner)
