-- Lists and orders through the vocabulary: a post stands for a row, and numbers of words ascend as their bytes do.
--
--   apart                words in order differ
--   less_word            numbers of words ascend as the words do
--   rows_rise            sorted posts stand for rows in order
use Rattle.std.proofs.Common.{◌≡◌, ℕ, ◌<◌, false, true≢false, List, [], ◌∷◌, length, refl, sym, ◌∙◌, ap, arith}
use Rattle.std.specs.List.{AllByRecursion}
use Rattle.std.specs.List.Sorted.{IsStrictlySortedBy}
use Rattle.std.specs.Ordering.{nat_cmp, ordering_then, is_lt}
use Rattle.std.specs.Cmp.{tied_itself}
use Rattle.std.specs.Cmp.Lexicographic.{slice_cmp}
use Rattle.std.specs.declared.cmp.Ordering.{Ordering}
use Rattle.std.specs.declared.cmp.Ordering.TheVariants.{Less, Equal, Greater}
use Rattle.std.specs.Str.{bytes_eq}
use Rattle.std.proofs.lemmas.Bool.{false_from_ne_true}
use Rattle.std.proofs.lemmas.Bool.Decides.{nat_tests}
use Rattle.std.proofs.lemmas.Cmp.{nat_list_cmp_total}
use Rattle.std.proofs.lemmas.Map.Keys.{Less-from_sorted}
use Rattle.std.proofs.lemmas.Slice.Eq.{bytes_eq-Decides}
use Rattle.cs_base.specs.content.Orders.{by_row, by_place, AreSorted}
use Rattle.cs_base.specs.declared.content.doc.Post.{Post}
use Rattle.cs_model_index.specs.Numbered.{word_at, row_of, rows_at}

pub is_less : (x y : ℕ) → nat_cmp x y ≡ Less → x < y
is_less x y h = grind (arith, nat_tests)

-- a word is no other one that comes before it
pub apart : (v w : List ℕ) → slice_cmp nat_cmp v w ≡ Less → bytes_eq v w ≡ false
apart v w h =
    false_from_ne_true _ (λ e. true≢false (sym (ap is_lt h) ∙ ap (λ x. is_lt (slice_cmp nat_cmp v x)) (sym ((bytes_eq-Decides v w).0 e))
    ∙ ap is_lt (tied_itself nat_list_cmp_total v)))

module _ (ws : List (List ℕ)) (up : IsStrictlySortedBy (slice_cmp nat_cmp) ws) where
  pub less_word : (m n : ℕ) → m < n → n < length ws → slice_cmp nat_cmp (word_at ws m) (word_at ws n) ≡ Less
  less_word m n h l = Less-from_sorted (slice_cmp nat_cmp) ws m n [] up h l

  through : (a b e : Ordering) (m n : ℕ) → n < length ws → ordering_then a (ordering_then b (nat_cmp m n)) ≡ Less
      → ordering_then a (ordering_then b (ordering_then (slice_cmp nat_cmp (word_at ws m) (word_at ws n)) e)) ≡ Less
  through Less b e m n l h = refl
  through Greater b e m n l h = h
  through Equal Less e m n l h = refl
  through Equal Greater e m n l h = h
  through Equal Equal e m n l h = ap (λ o. ordering_then o e) (less_word m n (is_less m n h) l)

  pub row_less : (p q : Post) → q.word < length ws → by_place p q ≡ Less → by_row (row_of ws p) (row_of ws q) ≡ Less
  row_less p q l h = through (nat_cmp p.doc q.doc) (nat_cmp p.pos q.pos) (nat_cmp p.score q.score) p.word q.word l h

  abbrev pub HasWord : Post → Type 0
  HasWord p = p.word < length ws

  rest_rise : (p : Post) (ps : List Post) → AllByRecursion HasWord ps → AllByRecursion (λ q. by_place p q ≡ Less) ps
      → AllByRecursion (λ r. by_row (row_of ws p) r ≡ Less) (rows_at ws ps)
  rest_rise p [] l h = tt
  rest_rise p (q ∷ ps) l h = (row_less p q l.0 h.0, rest_rise p ps l.1 h.1)

  pub rows_rise : (ps : List Post) → AllByRecursion HasWord ps → AreSorted ps → IsStrictlySortedBy by_row (rows_at ws ps)
  unfolding IsStrictlySortedBy
  rows_rise [] l h = tt
  rows_rise (p ∷ ps) l h = (rest_rise p ps l.1 h.0, rows_rise ps l.1 h.1)
