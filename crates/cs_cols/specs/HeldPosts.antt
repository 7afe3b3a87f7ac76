-- What callers see of columns of posts, and how the columns stand for it.
--
--   HeldPosts              posts in their order, and how many more there is room for
--   posts_of ds ws ps ss   the posts whose documents, words, positions and scores these are; a column that is longer than another has no say behind its end
--   AreEven ds ws ps ss    the four columns are equally long
use Rattle.std.specs.Prelude.{◌≡◌, ℕ, List, [], ◌∷◌, length}
use Rattle.cs_base.specs.declared.content.doc.Post.{Post}

-- posts in their order, and how many more there is room for
pub record HeldPosts : Type 0 where
  pub posts : List Post
  pub room : ℕ

-- the posts whose numbers stand in these four columns; of no columns it is []
abbrev pub posts_of : List ℕ → List ℕ → List ℕ → List ℕ → List Post
posts_of (d ∷ ds) (w ∷ ws) (p ∷ ps) (s ∷ ss) = record { doc = d; word = w; pos = p; score = s } ∷ posts_of ds ws ps ss
posts_of _ _ _ _ = []

-- four columns of equal length
abbrev pub AreEven : List ℕ → List ℕ → List ℕ → List ℕ → Type 0
AreEven ds ws ps ss = (length ws ≡ length ds) × (length ps ≡ length ds) × (length ss ≡ length ds)
