-- Four columns against the list of posts that they stand for.
--
--   post           the post of these four numbers
--   columns        the posts' documents, words, positions and scores are the columns
--   columns-back   the posts of those columns are the posts
--   posts-length   there are as many posts as documents
--   lengths        that, for the tactics of a function
--   held_length    so are there where the posts are what callers see
--   posts-at       the post at a place is made of the columns' entries there
--   posts-append   more entries at the end of each column are posts at the end
--   posts-push     an entry at the end of each column is a post at the end
--   even-take      the first entries of even columns are even
--   posts-take     the first entries of each column are the first posts
use Rattle.std.proofs.Common.{◌≡◌, ℕ, zero, suc, ◌<◌, List, [], ◌∷◌, ◌++◌, length, get_or, take, refl, sym, ◌∙◌, ap, arith}
use Rattle.std.specs.Prelude.{map, min}
use Rattle.std.proofs.lemmas.List.{length-map, length-take, get_or-map}
use Rattle.cs_base.specs.declared.content.doc.Post.{Post}
use Rattle.cs_cols.specs.HeldPosts.{HeldPosts, posts_of, AreEven}

-- the post of a document, a word, a position and a score
abbrev pub post : ℕ → ℕ → ℕ → ℕ → Post
post d w p s = record { doc = d; word = w; pos = p; score = s }

pub columns : (ds ws ps ss : List ℕ) → AreEven ds ws ps ss → (map (λ p. p.doc) (posts_of ds ws ps ss) ≡ ds) × (map (λ p. p.word) (posts_of ds ws ps ss) ≡ ws) × (map (λ p. p.pos) (posts_of ds ws ps ss) ≡ ps) × (map (λ p. p.score) (posts_of ds ws ps ss) ≡ ss)
columns [] [] [] [] h = (refl, refl, refl, refl)
columns [] (w ∷ ws) ps ss h = absurd (omega arith)
columns [] [] (p ∷ ps) ss h = absurd (omega arith)
columns [] [] [] (s ∷ ss) h = absurd (omega arith)
columns (d ∷ ds) [] ps ss h = absurd (omega arith)
columns (d ∷ ds) (w ∷ ws) [] ss h = absurd (omega arith)
columns (d ∷ ds) (w ∷ ws) (p ∷ ps) [] h = absurd (omega arith)
columns (d ∷ ds) (w ∷ ws) (p ∷ ps) (s ∷ ss) h =
    let rest = columns ds ws ps ss (omega arith, omega arith, omega arith) in
    (ap (λ l. d ∷ l) rest.0, ap (λ l. w ∷ l) rest.1, ap (λ l. p ∷ l) rest.2, ap (λ l. s ∷ l) rest.3)

pub posts-length : (ds ws ps ss : List ℕ) → AreEven ds ws ps ss → length (posts_of ds ws ps ss) ≡ length ds
posts-length ds ws ps ss h = sym (length-map (posts_of ds ws ps ss) (λ p. p.doc)) ∙ ap length (columns ds ws ps ss h).0

-- for the tactics of a function
pub ruleset lengths = (posts-length)

pub held_length : (ds ws ps ss : List ℕ) (room : ℕ) (h : HeldPosts) → AreEven ds ws ps ss
    → record { posts = posts_of ds ws ps ss; room = room } ≡ h → length h.posts ≡ length ds
held_length ds ws ps ss room h even is = ap (λ (x : HeldPosts). length x.posts) (sym is) ∙ posts-length ds ws ps ss even

module _ (ds ws ps ss : List ℕ) (h : AreEven ds ws ps ss) (i : ℕ) (e : Post) (l : i < length ds) where
  inside : i < length (posts_of ds ws ps ss)
  inside = let n = posts-length ds ws ps ss h in omega arith

  at_column : (f : Post → ℕ) (col : List ℕ) → map f (posts_of ds ws ps ss) ≡ col → get_or col i 0 ≡ f (get_or (posts_of ds ws ps ss) i e)
  at_column f col is = ap (λ c. get_or c i 0) (sym is) ∙ get_or-map f (posts_of ds ws ps ss) i e 0 inside

  pub posts-at : post (get_or ds i 0) (get_or ws i 0) (get_or ps i 0) (get_or ss i 0) ≡ get_or (posts_of ds ws ps ss) i e
  posts-at =
      let are = columns ds ws ps ss h in
      ap (λ d. post d (get_or ws i 0) (get_or ps i 0) (get_or ss i 0)) (at_column (λ p. p.doc) ds are.0)
      ∙ ap (λ w. post (get_or (posts_of ds ws ps ss) i e).doc w (get_or ps i 0) (get_or ss i 0)) (at_column (λ p. p.word) ws are.1)
      ∙ ap (λ p. post (get_or (posts_of ds ws ps ss) i e).doc (get_or (posts_of ds ws ps ss) i e).word p (get_or ss i 0)) (at_column (λ p. p.pos) ps are.2)
      ∙ ap (λ s. post (get_or (posts_of ds ws ps ss) i e).doc (get_or (posts_of ds ws ps ss) i e).word (get_or (posts_of ds ws ps ss) i e).pos s) (at_column (λ p. p.score) ss are.3)

pub posts-append : (ds ws ps ss ds' ws' ps' ss' : List ℕ) → AreEven ds ws ps ss → posts_of (ds ++ ds') (ws ++ ws') (ps ++ ps') (ss ++ ss') ≡ posts_of ds ws ps ss ++ posts_of ds' ws' ps' ss'
posts-append [] [] [] [] ds' ws' ps' ss' h = refl
posts-append [] (w ∷ ws) ps ss ds' ws' ps' ss' h = absurd (omega arith)
posts-append [] [] (p ∷ ps) ss ds' ws' ps' ss' h = absurd (omega arith)
posts-append [] [] [] (s ∷ ss) ds' ws' ps' ss' h = absurd (omega arith)
posts-append (d ∷ ds) [] ps ss ds' ws' ps' ss' h = absurd (omega arith)
posts-append (d ∷ ds) (w ∷ ws) [] ss ds' ws' ps' ss' h = absurd (omega arith)
posts-append (d ∷ ds) (w ∷ ws) (p ∷ ps) [] ds' ws' ps' ss' h = absurd (omega arith)
posts-append (d ∷ ds) (w ∷ ws) (p ∷ ps) (s ∷ ss) ds' ws' ps' ss' h = ap (λ l. post d w p s ∷ l) (posts-append ds ws ps ss ds' ws' ps' ss' (omega arith, omega arith, omega arith))

pub posts-push : (ds ws ps ss : List ℕ) → AreEven ds ws ps ss → (p : Post) → posts_of (ds ++ p.doc ∷ []) (ws ++ p.word ∷ []) (ps ++ p.pos ∷ []) (ss ++ p.score ∷ []) ≡ posts_of ds ws ps ss ++ p ∷ []
posts-push ds ws ps ss h p = posts-append ds ws ps ss (p.doc ∷ []) (p.word ∷ []) (p.pos ∷ []) (p.score ∷ []) h

pub posts-take : (n : ℕ) (ds ws ps ss : List ℕ) → posts_of (take n ds) (take n ws) (take n ps) (take n ss) ≡ take n (posts_of ds ws ps ss)
posts-take zero ds ws ps ss = refl
posts-take (suc n) [] ws ps ss = refl
posts-take (suc n) (d ∷ ds) [] ps ss = refl
posts-take (suc n) (d ∷ ds) (w ∷ ws) [] ss = refl
posts-take (suc n) (d ∷ ds) (w ∷ ws) (p ∷ ps) [] = refl
posts-take (suc n) (d ∷ ds) (w ∷ ws) (p ∷ ps) (s ∷ ss) = ap (λ l. post d w p s ∷ l) (posts-take n ds ws ps ss)

pub even-take : (n : ℕ) (ds ws ps ss : List ℕ) → AreEven ds ws ps ss → AreEven (take n ds) (take n ws) (take n ps) (take n ss)
even-take n ds ws ps ss h =
    let same : (xs : List ℕ) → length xs ≡ length ds → length (take n xs) ≡ length (take n ds) = λ xs e. length-take n xs ∙ ap (min n) e ∙ sym (length-take n ds) in
    (same ws h.0, same ps h.1, same ss h.2)

pub columns-back : (l : List Post) → posts_of (map (λ p. p.doc) l) (map (λ p. p.word) l) (map (λ p. p.pos) l) (map (λ p. p.score) l) ≡ l
columns-back [] = refl
columns-back (p ∷ l) = ap (λ t. p ∷ t) (columns-back l)
