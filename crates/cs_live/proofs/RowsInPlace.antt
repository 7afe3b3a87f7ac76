-- Rows of the index put right in their own place.
--
--   own_posts, own_words     where each word has its own number none gets another
--   whole_columns            documents, words and scores where each document is there
--   AreFirst, none_first, put_on, all_first     those of the first rows, put to the front
use Rattle.std.proofs.Common.{◌≡◌, ℕ, ◌+◌, ◌<◌, ◌≤◌, Bool, true, false, List, [], ◌∷◌, ◌++◌, length, get_or, set, take, map}
use Rattle.std.proofs.Common.{cond, refl, sym, ap, ap₂, subst, ◌∙◌, arith, append-nil}
use Rattle.std.specs.Prelude.{All}
use Rattle.std.specs.Int.{from_bool}
use Rattle.std.specs.List.{AllByRecursion}
use Rattle.std.proofs.lemmas.List.{get_or-map, get_or-set_other, length-map, map-append, take-set, take_all, take_more, take_more_set}
use Rattle.std.proofs.lemmas.List.Elements.{recursion_from_All}
use Rattle.cs_base.specs.declared.content.doc.Post.{Post}
use Rattle.cs_rows.specs.Sources.{is_there}
use Rattle.cs_rows.proofs.FoundLemmas.{stays}
use Rattle.cs_file.specs.CallAnswers.{AreScoredOf}
use Rattle.cs_live.specs.States.{AreOwnNumbers, AreScoredNow, now_posts, renumbered}
use Rattle.cs_live.proofs.NowLemmas.{now_append}

-- ---- numbers
abbrev at : List ℕ → ℕ → ℕ
at shift w = get_or shift w 0

pub own_posts : (shift : List ℕ) → AreOwnNumbers shift → (ps : List Post) → AllByRecursion (λ p. p.word < length shift) ps → map (renumbered shift) ps ≡ ps
own_posts shift own [] h = refl
own_posts shift own (p ∷ ps) h =
    ap₂ (λ w l. (let q : Post = record { doc = p.doc; word = w; pos = p.pos; score = p.score } in q) ∷ l) (own p.word h.0) (own_posts shift own ps h.1)

pub own_words : (shift : List ℕ) → AreOwnNumbers shift → (ws : List ℕ) → AllByRecursion (λ w. w < length shift) ws → map (λ w. get_or shift w 0) ws ≡ ws
own_words shift own [] h = refl
own_words shift own (w ∷ ws) h = ap₂ (λ n l. n ∷ l) (own w h.0) (own_words shift own ws h.1)

-- ---- all documents there
there_posts : (present : List Bool) (ps : List Post) → AllByRecursion (λ d. get_or present d false ≡ true) (map (λ p. p.doc) ps) → AllByRecursion (λ p. is_there present p ≡ true) ps
there_posts present [] h = tt
there_posts present (p ∷ ps) h = (h.0, there_posts present ps h.1)

same_docs : (shift : List ℕ) (ps : List Post) → map (λ p. p.doc) ps ≡ map (λ p. p.doc) (map (renumbered shift) ps)
same_docs shift [] = refl
same_docs shift (p ∷ ps) = ap (λ l. p.doc ∷ l) (same_docs shift ps)

same_scores : (shift : List ℕ) (ps : List Post) → map (λ p. p.score) ps ≡ map (λ p. p.score) (map (renumbered shift) ps)
same_scores shift [] = refl
same_scores shift (p ∷ ps) = ap (λ l. p.score ∷ l) (same_scores shift ps)

new_words : (shift : List ℕ) (ps : List Post) → map (at shift) (map (λ p. p.word) ps) ≡ map (λ p. p.word) (map (renumbered shift) ps)
new_words shift [] = refl
new_words shift (p ∷ ps) = ap (λ l. get_or shift p.word 0 ∷ l) (new_words shift ps)

pub whole_columns : (shift : List ℕ) (present : List Bool) (docs words scores : List ℕ) → All (λ d. get_or present d false ≡ true) docs
    → AreScoredNow shift present docs words scores docs (map (λ w. get_or shift w 0) words) scores
whole_columns shift present docs words scores there posts are =
    let here : AllByRecursion (λ d. get_or present d false ≡ true) (map (λ p. p.doc) posts) =
    subst (AllByRecursion (λ d. get_or present d false ≡ true)) are.0.0 (recursion_from_All (λ d. get_or present d false ≡ true) docs there) in
    let kept : map (renumbered shift) posts ≡ now_posts shift present posts = ap (map (renumbered shift)) (sym (stays (is_there present) posts (there_posts present posts here))) in (
      (
        are.0.0 ∙ same_docs shift posts ∙ ap (map (λ p. p.doc)) kept,
        ap (map (at shift)) are.0.1 ∙ new_words shift posts ∙ ap (map (λ p. p.word)) kept,
      ),
      are.1 ∙ same_scores shift posts ∙ ap (map (λ p. p.score)) kept,
    )

-- ---- rows one after the other
module _ (shift : List ℕ) (present : List Bool) (docs words scores : List ℕ) where
  -- what is kept of the first rows
  pub AreFirst : ℕ → List ℕ → List ℕ → List ℕ → Type 0
  AreFirst i kept_docs kept_words kept_scores =
      (posts : List Post) → AreScoredOf posts docs words scores → AreScoredOf (now_posts shift present (take i posts)) kept_docs kept_words kept_scores

  pub none_first : AreFirst 0 [] [] []
  unfolding AreFirst
  none_first posts are = ((refl, refl), refl)

  blank : Post
  blank = record { doc = 0; word = 0; pos = 0; score = 0 }

  one_more : (posts : List Post) (i : ℕ) → i < length posts
      → now_posts shift present (take (i + 1) posts) ≡ now_posts shift present (take i posts) ++ now_posts shift present (get_or posts i blank ∷ [])
  one_more posts i lt = ap (now_posts shift present) (take_more posts i blank lt) ∙ now_append shift present (take i posts) (get_or posts i blank ∷ [])

  column_at : (f : Post → ℕ) (posts : List Post) (column : List ℕ) (i : ℕ) → i < length posts → column ≡ map f posts → get_or column i 0 ≡ f (get_or posts i blank)
  column_at f posts column i lt are = ap (λ xs. get_or xs i 0) are ∙ get_or-map f posts i blank 0 lt

  row_kept : (i : ℕ) (kd kw ks nd nw ns : List ℕ) → i < length docs → get_or present (get_or docs i 0) false ≡ true
      → nd ≡ kd ++ get_or docs i 0 ∷ [] → nw ≡ kw ++ get_or shift (get_or words i 0) 0 ∷ [] → ns ≡ ks ++ get_or scores i 0 ∷ []
      → AreFirst i kd kw ks → AreFirst (i + 1) nd nw ns
  unfolding AreFirst
  row_kept i kd kw ks nd nw ns lt there d w x first posts are =
      let long = ap length are.0.0 ∙ length-map posts (λ (p : Post). p.doc) in
      let inside : i < length posts = omega (arith, lt, long) in
      let p = get_or posts i blank in
      let doc = column_at (λ p. p.doc) posts docs i inside are.0.0 in
      let word = column_at (λ p. p.word) posts words i inside are.0.1 in
      let score = column_at (λ p. p.score) posts scores i inside are.1 in
      let here : now_posts shift present (p ∷ []) ≡ renumbered shift p ∷ [] =
      ap (λ b. map (renumbered shift) (cond b (p ∷ []) [])) (ap (λ n. get_or present n false) (sym doc) ∙ there) in
      let all : now_posts shift present (take (i + 1) posts) ≡ now_posts shift present (take i posts) ++ renumbered shift p ∷ [] =
      one_more posts i inside ∙ ap (λ l. now_posts shift present (take i posts) ++ l) here in
      let old = first posts are in
      let before = now_posts shift present (take i posts) in (
        (
          d ∙ ap₂ (λ l n. l ++ n ∷ []) old.0.0 doc ∙ sym (map-append (λ p. p.doc) before (renumbered shift p ∷ [])) ∙ sym (ap (map (λ p. p.doc)) all),
          w ∙ ap₂ (λ l n. l ++ get_or shift n 0 ∷ []) old.0.1 word ∙ sym (map-append (λ p. p.word) before (renumbered shift p ∷ [])) ∙ sym (ap (map (λ p. p.word)) all),
        ),
        x ∙ ap₂ (λ l n. l ++ n ∷ []) old.1 score ∙ sym (map-append (λ p. p.score) before (renumbered shift p ∷ [])) ∙ sym (ap (map (λ p. p.score)) all),
      )

  row_gone : (i : ℕ) (kd kw ks : List ℕ) → i < length docs → get_or present (get_or docs i 0) false ≡ false
      → AreFirst i kd kw ks → AreFirst (i + 1) kd kw ks
  unfolding AreFirst
  row_gone i kd kw ks lt gone first posts are =
      let long = ap length are.0.0 ∙ length-map posts (λ (p : Post). p.doc) in
      let inside : i < length posts = omega (arith, lt, long) in
      let p = get_or posts i blank in
      let doc = column_at (λ p. p.doc) posts docs i inside are.0.0 in
      let here : now_posts shift present (p ∷ []) ≡ [] =
      ap (λ b. map (renumbered shift) (cond b (p ∷ []) [])) (ap (λ n. get_or present n false) (sym doc) ∙ gone) in
      let all : now_posts shift present (take (i + 1) posts) ≡ now_posts shift present (take i posts) =
      one_more posts i inside ∙ ap (λ l. now_posts shift present (take i posts) ++ l) here ∙ append-nil (now_posts shift present (take i posts)) in
      subst (λ ps. AreScoredOf ps kd kw ks) (sym all) (first posts are)

  pub all_first : (i : ℕ) (kd kw ks : List ℕ) → length docs ≤ i → AreFirst i kd kw ks → AreScoredNow shift present docs words scores kd kw ks
  unfolding AreFirst
  all_first i kd kw ks le first posts are =
      let long = ap length are.0.0 ∙ length-map posts (λ (p : Post). p.doc) in
      subst (λ ps. AreScoredOf (now_posts shift present ps) kd kw ks) (take_all i posts (omega (arith, le, long))) (first posts are)

  none_more : (n : ℕ) → n + 0 ≡ n
  none_more n = omega arith

  put : (xs : List ℕ) (n one x : ℕ) → one ≡ 1 → n < length xs → take (n + one) (set xs n x) ≡ take n xs ++ x ∷ []
  put xs n one x count room = ap (λ m. take (n + m) (set xs n x)) count ∙ take_more_set xs n x room

  passed : (xs : List ℕ) (n one x : ℕ) → one ≡ 0 → take (n + one) (set xs n x) ≡ take n xs
  passed xs n one x count = ap (λ m. take (n + m) (set xs n x)) count ∙ ap (λ m. take m (set xs n x)) (none_more n) ∙ take-set xs n x

  -- the next row is put behind those that are kept, and counts where its document is there
  pub put_on : (i n one : ℕ) (ds ws xs : List ℕ) → i < length docs → n ≤ i → length words ≡ length docs → length scores ≡ length docs
      → length ds ≡ length docs → length ws ≡ length words → length xs ≡ length scores
      → get_or ds i 0 ≡ get_or docs i 0 → get_or ws i 0 ≡ get_or words i 0 → get_or xs i 0 ≡ get_or scores i 0
      → one ≡ from_bool (get_or present (get_or ds i 0) false) → AreFirst i (take n ds) (take n ws) (take n xs)
      → AreFirst (i + 1) (take (n + one) (set ds n (get_or ds i 0))) (take (n + one) (set ws n (get_or shift (get_or ws i 0) 0))) (take (n + one) (set xs n (get_or xs i 0)))
  put_on i n one ds ws xs lt few even_w even_x long_d long_w long_x d w x count first =
      let nd = take (n + one) (set ds n (get_or ds i 0)) in
      let nw = take (n + one) (set ws n (get_or shift (get_or ws i 0) 0)) in
      let nx = take (n + one) (set xs n (get_or xs i 0)) in
      let own : one ≡ from_bool (get_or present (get_or docs i 0) false) = count ∙ ap (λ k. from_bool (get_or present k false)) d in
      elim (get_or present (get_or docs i 0) false) as (λ b. get_or present (get_or docs i 0) false ≡ b → one ≡ from_bool b → AreFirst (i + 1) nd nw nx) [
        | true ↦ λ there many.
            row_kept i (take n ds) (take n ws) (take n xs) nd nw nx lt there
            (put ds n one (get_or ds i 0) many (omega (arith, few, lt, long_d)) ∙ ap (λ k. take n ds ++ k ∷ []) d)
            (put ws n one (get_or shift (get_or ws i 0) 0) many (omega (arith, few, lt, long_w, even_w)) ∙ ap (λ k. take n ws ++ get_or shift k 0 ∷ []) w)
            (put xs n one (get_or xs i 0) many (omega (arith, few, lt, long_x, even_x)) ∙ ap (λ k. take n xs ++ k ∷ []) x)
            first
        | false ↦ λ gone many.
            subst (λ a. AreFirst (i + 1) a nw nx) (sym (passed ds n one (get_or ds i 0) many))
            (subst (λ a. AreFirst (i + 1) (take n ds) a nx) (sym (passed ws n one (get_or shift (get_or ws i 0) 0) many))
            (subst (λ a. AreFirst (i + 1) (take n ds) (take n ws) a) (sym (passed xs n one (get_or xs i 0) many))
            (row_gone i (take n ds) (take n ws) (take n xs) lt gone first)))
      ] refl own

-- what stands behind the rows that were looked at
pub still_on : (xs : List ℕ) (n x k : ℕ) → n < k → get_or (set xs n x) k 0 ≡ get_or xs k 0
still_on xs n x k lt = get_or-set_other xs n k x 0 (omega (arith, lt))

pub at_most_one : (b : Bool) → from_bool b ≤ 1
at_most_one true = omega arith
at_most_one false = omega arith
