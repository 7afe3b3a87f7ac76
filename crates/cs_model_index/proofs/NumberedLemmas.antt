-- Words and their numbers undo each other, so rows and their posts do.
--
--   word_of_number     the word of a word's number is that word, where it is there
--   number_of_word     the number of word n is n, where there are more words
--   row_of_post        the row of a row's post is that row
--   post_of_row        the post of a post's row is that post
--   rows_of_numbered   the same of lists of rows
--   numbered_of_rows   the same of lists of posts
--   number_below       a word that is there has a number below that of the words
--   less_number        words that ascend have numbers that do
--   posts_ascend       the posts of rows in order are in order
use Rattle.std.proofs.Common.{◌≡◌, ℕ, ◌+◌, ◌<◌, ◌||◌, Bool, true, false, true≢false, not, cond, List, [], ◌∷◌, length, refl, sym, ◌∙◌, ap, inl, inr, arith}
use Rattle.std.specs.List.{AllByRecursion, list_any}
use Rattle.std.specs.List.Sorted.{IsStrictlySortedBy}
use Rattle.std.specs.Ordering.{nat_cmp, is_lt, ordering_then}
use Rattle.std.specs.Cmp.{tied_itself}
use Rattle.std.specs.Cmp.Lexicographic.{slice_cmp}
use Rattle.std.specs.declared.cmp.Ordering.{Ordering}
use Rattle.std.specs.declared.cmp.Ordering.TheVariants.{Less, Equal, Greater}
use Rattle.std.specs.Str.{bytes_eq}
use Rattle.std.proofs.Math.Numerals.{one-add}
use Rattle.std.proofs.lemmas.Bool.{false_from_ne_true, cases_lt}
use Rattle.std.proofs.lemmas.Cmp.{nat_list_cmp_total}
use Rattle.std.proofs.lemmas.List.Sums.{position_or_len_is}
use Rattle.std.proofs.lemmas.Map.Keys.{Less-from_sorted}
use Rattle.std.proofs.lemmas.Slice.Eq.{bytes_eq-Decides}
use Rattle.cs_base.proofs.OrdersLemmas.{Less-from_lt}
use Rattle.cs_base.specs.content.Orders.{by_place, by_spot}
use Rattle.cs_base.specs.declared.content.doc.Post.{Post}
use Rattle.cs_base.specs.declared.content.doc.Row.{Row}
use Rattle.cs_model_index.specs.Numbered.{word_at, word_number, row_of, post_of, rows_at, numbered, HasWord}

-- ---- words
found_step : (w v : List ℕ) (b : Bool) (vs : List (List ℕ)) → bytes_eq w v ≡ b → (list_any (bytes_eq w) vs ≡ true → word_at vs (word_number vs w) ≡ w) → b || list_any (bytes_eq w) vs ≡ true → word_at (v ∷ vs) (cond (not b) (1 + word_number vs w) 0) ≡ w
found_step w v true vs e rest h = sym ((bytes_eq-Decides w v).0 e)
found_step w v false vs e rest h = ap (λ k. word_at (v ∷ vs) k) (one-add (word_number vs w)) ∙ rest h

-- a word that is there has its place
pub word_of_number : (ws : List (List ℕ)) (w : List ℕ) → list_any (bytes_eq w) ws ≡ true → word_at ws (word_number ws w) ≡ w
word_of_number [] w h = absurd (true≢false (sym h))
word_of_number (v ∷ vs) w h = found_step w v (bytes_eq w v) vs refl (word_of_number vs w) h

-- a word is no other one that comes before it
apart : (v w : List ℕ) → slice_cmp nat_cmp v w ≡ Less → bytes_eq w v ≡ false
apart v w h =
    false_from_ne_true _ (λ e. true≢false (sym (ap is_lt h) ∙ ap (λ x. is_lt (slice_cmp nat_cmp v x)) ((bytes_eq-Decides w v).0 e) ∙ ap is_lt (tied_itself nat_list_cmp_total v)))

-- words that ascend have each one number
pub number_of_word : (ws : List (List ℕ)) (n : ℕ) → IsStrictlySortedBy (slice_cmp nat_cmp) ws → n < length ws → word_number ws (word_at ws n) ≡ n
number_of_word ws n up h =
    position_or_len_is (bytes_eq (word_at ws n)) ws n [] (omega arith)
    (λ k below. apart (word_at ws k) (word_at ws n) (Less-from_sorted (slice_cmp nat_cmp) ws k n [] up below h))
    (λ there. (bytes_eq-Decides (word_at ws n) (word_at ws n)).1 refl)

-- ---- rows and posts
pub row_of_post : (ws : List (List ℕ)) (r : Row) → HasWord ws r → row_of ws (post_of ws r) ≡ r
row_of_post ws r h = ap (λ (w : List ℕ). let x : Row = record { doc = r.doc; word = w; pos = r.pos; score = r.score } in x) (word_of_number ws r.word h)

pub post_of_row : (ws : List (List ℕ)) (p : Post) → IsStrictlySortedBy (slice_cmp nat_cmp) ws → p.word < length ws → post_of ws (row_of ws p) ≡ p
post_of_row ws p up h = ap (λ (n : ℕ). let x : Post = record { doc = p.doc; word = n; pos = p.pos; score = p.score } in x) (number_of_word ws p.word up h)

pub rows_of_numbered : (ws : List (List ℕ)) (rows : List Row) → AllByRecursion (HasWord ws) rows → rows_at ws (numbered ws rows) ≡ rows
rows_of_numbered ws [] h = refl
rows_of_numbered ws (r ∷ rows) h = ap (λ x. x ∷ rows_at ws (numbered ws rows)) (row_of_post ws r h.0) ∙ ap (λ l. r ∷ l) (rows_of_numbered ws rows h.1)

pub numbered_of_rows : (ws : List (List ℕ)) (posts : List Post) → IsStrictlySortedBy (slice_cmp nat_cmp) ws → AllByRecursion (λ p. p.word < length ws) posts → numbered ws (rows_at ws posts) ≡ posts
numbered_of_rows ws [] up h = refl
numbered_of_rows ws (p ∷ posts) up h =
    ap (λ x. x ∷ numbered ws (rows_at ws posts)) (post_of_row ws p up h.0) ∙ ap (λ l. p ∷ l) (numbered_of_rows ws posts up h.1)

-- ---- order
below_step : (w v : List ℕ) (b : Bool) (vs : List (List ℕ)) → bytes_eq w v ≡ b → (list_any (bytes_eq w) vs ≡ true → word_number vs w < length vs) → (b || list_any (bytes_eq w) vs) ≡ true → cond (not b) (1 + word_number vs w) 0 < length (v ∷ vs)
below_step w v true vs e rest h = omega arith
below_step w v false vs e rest h = let l = rest h in omega (arith, l)

pub number_below : (ws : List (List ℕ)) (w : List ℕ) → list_any (bytes_eq w) ws ≡ true → word_number ws w < length ws
number_below [] w h = absurd (true≢false (sym h))
number_below (v ∷ vs) w h = below_step w v (bytes_eq w v) vs refl (number_below vs w) h

not_before : (v w : List ℕ) → slice_cmp nat_cmp v w ≡ Less → slice_cmp nat_cmp w v ≡ Less → ⊥
not_before v w h k = true≢false (sym (ap is_lt (nat_list_cmp_total.trans v w v h k)) ∙ ap is_lt (tied_itself nat_list_cmp_total v))

not_itself : (v w : List ℕ) → slice_cmp nat_cmp v w ≡ Less → v ≡ w → ⊥
not_itself v w h same = true≢false (sym (ap is_lt h) ∙ ap (λ x. is_lt (slice_cmp nat_cmp v x)) (sym same) ∙ ap is_lt (tied_itself nat_list_cmp_total v))

module _ (ws : List (List ℕ)) (up : IsStrictlySortedBy (slice_cmp nat_cmp) ws) where
  pub less_number : (v w : List ℕ) → list_any (bytes_eq v) ws ≡ true → list_any (bytes_eq w) ws ≡ true → slice_cmp nat_cmp v w ≡ Less → word_number ws v < word_number ws w
  less_number v w hv hw less =
      elim (cases_lt (word_number ws v) (word_number ws w)) [
        | inl lt ↦ lt
        | inr ge ↦ elim (cases_lt (word_number ws w) (word_number ws v)) [
          | inl gt ↦ absurd (not_before v w less (
              ap (λ x. slice_cmp nat_cmp x v) (sym (word_of_number ws w hw)) ∙ ap (slice_cmp nat_cmp (word_at ws (word_number ws w))) (sym (word_of_number ws v hv))
              ∙ Less-from_sorted (slice_cmp nat_cmp) ws (word_number ws w) (word_number ws v) [] up gt (number_below ws v hv)))
          | inr le ↦ let same : word_number ws v ≡ word_number ws w = omega (arith, ge, le) in absurd (not_itself v w less (sym (word_of_number ws v hv) ∙ ap (word_at ws) same ∙ word_of_number ws w hw))
        ]
      ]

  spot_place : (a b : Ordering) (v w : List ℕ) → list_any (bytes_eq v) ws ≡ true → list_any (bytes_eq w) ws ≡ true → ordering_then a (ordering_then b (slice_cmp nat_cmp v w)) ≡ Less → ordering_then a (ordering_then b (nat_cmp (word_number ws v) (word_number ws w))) ≡ Less
  spot_place Less b v w hv hw h = refl
  spot_place Greater b v w hv hw h = h
  spot_place Equal Less v w hv hw h = refl
  spot_place Equal Greater v w hv hw h = h
  spot_place Equal Equal v w hv hw h = Less-from_lt (word_number ws v) (word_number ws w) (less_number v w hv hw h)

  rest_ascend : (r : Row) (rows : List Row) → HasWord ws r → AllByRecursion (HasWord ws) rows → AllByRecursion (λ s. by_spot r s ≡ Less) rows → AllByRecursion (λ q. by_place (post_of ws r) q ≡ Less) (numbered ws rows)
  rest_ascend r [] k l h = tt
  rest_ascend r (s ∷ rows) k l h = (spot_place (nat_cmp r.doc s.doc) (nat_cmp r.pos s.pos) r.word s.word k l.0 h.0, rest_ascend r rows k l.1 h.1)

  pub posts_ascend : (rows : List Row) → AllByRecursion (HasWord ws) rows → IsStrictlySortedBy by_spot rows → IsStrictlySortedBy by_place (numbered ws rows)
  unfolding IsStrictlySortedBy
  posts_ascend [] l h = tt
  posts_ascend (r ∷ rows) l h = (rest_ascend r rows l.0 l.1 h.0, posts_ascend rows l.1 h.1)
