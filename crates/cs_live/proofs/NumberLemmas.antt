-- Numbers of words of the index among all words.
--
--   rank_is              a partition point is the rank
--   rank_at              the words of the index below a number are the first ones
--   rank_parted          so they are parted
--   rank_within, rank_up, rank_step    it isn't above their number, rises, and rises by one at most for the next number
--   own_numbers          as many words as the index has are its own, each with its own number
--   between_by           being between two numbers is being between their ranks
--   old_range, old_asked  the range or the span of words of the index
--   old_met_prefix, old_met_word    how many blocks hold them
use Rattle.std.proofs.Common.{◌≡◌, ℕ, zero, suc, ◌+◌, ◌<◌, ◌≤◌, ◌&&◌, Bool, true, false, cond, List, [], ◌∷◌, length, get_or}
use Rattle.std.proofs.Common.{refl, sym, ap, subst, ◌∙◌, arith, inl, inr}
use Rattle.std.specs.Prelude.{All, filter, nat_le, nat_lt}
use Rattle.std.specs.List.{AllByRecursion, list_any}
use Rattle.std.specs.List.Sorted.{IsPartitionPoint, IsPartitionedBy, IsStrictlySortedBy}
use Rattle.std.specs.Ordering.{nat_cmp}
use Rattle.std.specs.Str.{bytes_eq}
use Rattle.std.specs.declared.cmp.Ordering.TheVariants.{Less}
use Rattle.std.proofs.lemmas.Bool.{cases_lt}
use Rattle.std.proofs.lemmas.Bool.Decides.{nat_tests}
use Rattle.std.proofs.lemmas.List.Elements.{All-from_recursion, recursion_from_All}
use Rattle.std.proofs.lemmas.List.Folds.{list_any_at}
use Rattle.std.proofs.lemmas.Map.Keys.{Less-from_sorted}
use Rattle.cs_base.specs.content.Orders.{AreDocs}
use Rattle.cs_base.proofs.MembersLemmas.{all_then}
use Rattle.cs_base.proofs.NameMaps.{name_sym}
use Rattle.cs_rows.specs.IndexReading.{division, IsRangeOf}
use Rattle.cs_rows.proofs.AskedWords.{prefix_met, word_met}
use Rattle.cs_file.specs.Indexes.{IndexView, IsIndex, is_met}
use Rattle.cs_merge.specs.Vocabularies.{IsShift}
use Rattle.cs_model.specs.Answers.{begins}
use Rattle.cs_model_index.specs.Numbered.{word_at}
use Rattle.cs_model_kept.specs.Due.{met_prefix, met_word}
use Rattle.cs_vocab.specs.Ranges.{IsRange}
use Rattle.cs_live.specs.States.{AreOwnNumbers, rank}

-- ---- numbers
pub rank_is : (ns : List ℕ) (n k : ℕ) → k ≤ length ns → IsPartitionPoint (λ m. nat_lt m n ≡ true) (λ m. nat_lt m n ≡ false) ns k → k ≡ rank ns n
rank_is [] n k le p = omega (arith, le)
rank_is (m ∷ ns) n zero le p = let e : nat_lt m n ≡ false = p.1 0 0 (omega arith) (omega arith) in ap (λ b. cond b (rank ns n + 1) 0) (sym e)
rank_is (m ∷ ns) n (suc k) le p =
    let e : nat_lt m n ≡ true = p.0 0 0 (omega arith) (omega arith) in
    let rest : k ≡ rank ns n = rank_is ns n k (omega (arith, le))
    (λ j d a b. p.0 (suc j) d (omega (arith, a)) (omega (arith, b)), λ j d a b. p.1 (suc j) d (omega (arith, a)) (omega (arith, b))) in
    let one : suc k ≡ rank ns n + 1 = omega (arith, rest) in
    one ∙ ap (λ b. cond b (rank ns n + 1) 0) (sym e)

lt_trans : (a b n : ℕ) → nat_cmp a b ≡ Less → nat_lt a n ≡ false → nat_lt b n ≡ false
lt_trans a b n h e = grind (arith, nat_tests)

none_below : (m n : ℕ) (ns : List ℕ) → AllByRecursion (λ x. nat_cmp m x ≡ Less) ns → nat_lt m n ≡ false → All (λ x. nat_lt x n ≡ false) ns
none_below m n ns up e =
    All-from_recursion (λ x. nat_lt x n ≡ false) ns (all_then (λ x. nat_cmp m x ≡ Less) (λ x. nat_lt x n ≡ false) (λ x h. lt_trans m x n h e) ns up)

less_more : (j r : ℕ) → nat_lt (suc j) (r + 1) ≡ nat_lt j r
less_more j r = grind (arith, nat_tests)

first_less : (r : ℕ) → nat_lt 0 (r + 1) ≡ true
first_less r = grind (arith, nat_tests)

none_less : (i : ℕ) → false ≡ nat_lt i 0
none_less i = grind (arith, nat_tests)

-- the words of the index below a new number are the first ones
pub rank_at : (ns : List ℕ) → AreDocs ns → (n i d : ℕ) → i < length ns → nat_lt (get_or ns i d) n ≡ nat_lt i (rank ns n)
unfolding IsStrictlySortedBy
rank_at [] up n i d lt = absurd (omega (arith, lt))
rank_at (m ∷ ns) up n zero d lt =
    elim (nat_lt m n) as (λ b. nat_lt m n ≡ b → nat_lt m n ≡ nat_lt 0 (cond b (rank ns n + 1) 0)) [
      | true ↦ λ e. e ∙ sym (first_less (rank ns n))
      | false ↦ λ e. e ∙ none_less 0
    ] refl
rank_at (m ∷ ns) up n (suc j) d lt =
    let rest = rank_at ns up.1 n j d (omega (arith, lt)) in
    elim (nat_lt m n) as (λ b. nat_lt m n ≡ b → nat_lt (get_or ns j d) n ≡ nat_lt (suc j) (cond b (rank ns n + 1) 0)) [
      | true ↦ λ e. rest ∙ sym (less_more j (rank ns n))
      | false ↦ λ e. none_below m n ns up.0 e j d (omega (arith, lt)) ∙ none_less (suc j)
    ] refl

-- so they are parted
pub rank_parted : (ns : List ℕ) → AreDocs ns → (n : ℕ) → IsPartitionedBy (λ m. nat_lt m n) ns
rank_parted ns up n k l d le lt e =
    elim (cases_lt k l) [
      | inl on ↦ lower (get_or ns k d) (get_or ns l d) n (Less-from_sorted nat_cmp ns k l d up on lt) e
      | inr ge ↦ let same : l ≡ k = omega (arith, le, ge) in subst (λ x. nat_lt (get_or ns x d) n ≡ true) same e
    ]
  where
    lower : (a b n : ℕ) → nat_cmp a b ≡ Less → nat_lt b n ≡ true → nat_lt a n ≡ true
    lower a b n h e = grind (arith, nat_tests)

pub rank_within : (ns : List ℕ) (n : ℕ) → rank ns n ≤ length ns
rank_within [] n = omega arith
rank_within (m ∷ ns) n =
    let rest = rank_within ns n in
    elim (nat_lt m n) as (λ b. cond b (rank ns n + 1) 0 ≤ suc (length ns)) [
      | true ↦ omega (arith, rest)
      | false ↦ omega arith
    ]

still_less : (m lo hi : ℕ) → lo ≤ hi → nat_lt m lo ≡ true → nat_lt m hi ≡ true
still_less m lo hi le e = grind (arith, nat_tests)

pub rank_up : (ns : List ℕ) (lo hi : ℕ) → lo ≤ hi → rank ns lo ≤ rank ns hi
rank_up [] lo hi le = omega arith
rank_up (m ∷ ns) lo hi le =
    let rest = rank_up ns lo hi le in
    elim (nat_lt m lo) as (λ b. nat_lt m lo ≡ b → cond b (rank ns lo + 1) 0 ≤ cond (nat_lt m hi) (rank ns hi + 1) 0) [
      | true ↦ λ e. subst (λ c. rank ns lo + 1 ≤ cond c (rank ns hi + 1) 0) (sym (still_less m lo hi le e)) (omega (arith, rest))
      | false ↦ λ e. omega arith
    ] refl

not_less : (a b : ℕ) → nat_lt a b ≡ false → nat_le b a ≡ true
not_less a b e = grind (arith, nat_tests)

pub between_by : (w lo hi i rl rh : ℕ) → nat_lt w lo ≡ nat_lt i rl → nat_lt w hi ≡ nat_lt i rh → (nat_le lo w && nat_lt w hi) ≡ (nat_le rl i && nat_lt i rh)
between_by w lo hi i rl rh a b =
    let le : nat_le lo w ≡ nat_le rl i = grind (arith, nat_tests) in
    ap (λ x. x && nat_lt w hi) le ∙ ap (λ y. nat_le rl i && y) b

-- one number more has one word more at most
at_least : (lo x : ℕ) (ns : List ℕ) → lo ≤ x → AllByRecursion (λ y. nat_cmp x y ≡ Less) ns → rank ns (lo + 1) ≡ 0
at_least lo x [] le up = refl
at_least lo x (n ∷ ns) le up = (let e : nat_lt n (lo + 1) ≡ false = above lo x n le up.0 in ap (λ b. cond b (rank ns (lo + 1) + 1) 0) e)
  where
    above : (lo x n : ℕ) → lo ≤ x → nat_cmp x n ≡ Less → nat_lt n (lo + 1) ≡ false
    above lo x n le h = grind (arith, nat_tests)

pub rank_step : (ns : List ℕ) → AreDocs ns → (lo : ℕ) → rank ns (lo + 1) ≤ rank ns lo + 1
unfolding IsStrictlySortedBy
rank_step [] up lo = omega arith
rank_step (m ∷ ns) up lo =
    let rest = rank_step ns up.1 lo in
    elim (nat_lt m lo) as (λ b. nat_lt m lo ≡ b → cond (nat_lt m (lo + 1)) (rank ns (lo + 1) + 1) 0 ≤ cond b (rank ns lo + 1) 0 + 1) [
      | true ↦ λ e. subst (λ c. cond c (rank ns (lo + 1) + 1) 0 ≤ rank ns lo + 1 + 1) (sym (still_less m lo (lo + 1) (omega arith) e)) (omega (arith, rest))
      | false ↦ λ e.
          let none = at_least lo m ns (least m lo e) up.0 in
          elim (nat_lt m (lo + 1)) as (λ c. cond c (rank ns (lo + 1) + 1) 0 ≤ 0 + 1) [
            | true ↦ omega (arith, none)
            | false ↦ omega arith
          ]
    ] refl
  where
    least : (m lo : ℕ) → nat_lt m lo ≡ false → lo ≤ m
    least m lo e = grind (arith, nat_tests)

-- ---- numbers of as many words
-- numbers that ascend from one on
from_first : (ns : List ℕ) → AreDocs ns → (a n : ℕ) → AllByRecursion (λ m. a ≤ m) ns → n < length ns → a + n ≤ get_or ns n 0
unfolding IsStrictlySortedBy
from_first [] up a n h lt = absurd (omega (arith, lt))
from_first (m ∷ ns) up a zero h lt = (let le = h.0 in omega (arith, le))
from_first (m ∷ ns) up a (suc n) h lt =
    let le = h.0 in
    let rest = from_first ns up.1 (a + 1) n (all_then (λ x. nat_cmp m x ≡ Less) (λ x. a + 1 ≤ x) (λ x e. above a m x le e) ns up.0) (omega (arith, lt)) in
    omega (arith, rest)
  where
    above : (a m x : ℕ) → a ≤ m → nat_cmp m x ≡ Less → a + 1 ≤ x
    above a m x le e = grind (arith, nat_tests)

-- and stay below another
upto_last : (ns : List ℕ) → AreDocs ns → (a n : ℕ) → AllByRecursion (λ m. m < a) ns → n < length ns → get_or ns n 0 + length ns ≤ a + n
unfolding IsStrictlySortedBy
upto_last [] up a n h lt = absurd (omega (arith, lt))
upto_last (m ∷ []) up a zero h lt = (let less = h.0 in omega (arith, less))
upto_last (m ∷ x ∷ ns) up a zero h lt =
    let rest = upto_last (x ∷ ns) up.1 a 0 h.1 (omega arith) in
    let next = next_up m x up.0.0 in
    omega (arith, rest, next)
  where
    next_up : (m x : ℕ) → nat_cmp m x ≡ Less → m < x
    next_up m x e = grind (arith, nat_tests)
upto_last (m ∷ ns) up a (suc n) h lt = (let rest = upto_last ns up.1 a n h.1 (omega (arith, lt)) in omega (arith, rest))

pub own_numbers : (ws us : List (List ℕ)) (shift : List ℕ) → IsShift ws us shift → length us ≡ length shift → AreOwnNumbers shift
own_numbers ws us shift is same n lt =
    let low = from_first shift is.rises 0 n (recursion_from_All (λ m. 0 ≤ m) shift (λ k d l. omega arith)) lt in
    let high = upto_last shift is.rises (length us) n (recursion_from_All (λ m. m < length us) shift is.below) lt in
    omega (arith, low, high, same)

-- ---- words of the index
module _ (i : IndexView) (words : List (List ℕ)) (shift : List ℕ) (is : IsShift i.words words shift) where
  pub known_word : (n : ℕ) → n < length i.words → n < length shift
  known_word n lt = let long = is.long in omega (arith, lt, long)

  new_between : (lo hi n : ℕ) → n < length i.words → (nat_le lo (get_or shift n 0) && nat_lt (get_or shift n 0) hi) ≡ (nat_le (rank shift lo) n && nat_lt n (rank shift hi))
  new_between lo hi n lt =
      let known = known_word n lt in
      between_by (get_or shift n 0) lo hi n (rank shift lo) (rank shift hi) (rank_at shift is.rises lo n 0 known) (rank_at shift is.rises hi n 0 known)

  pub old_range : (p : List ℕ) (lo hi : ℕ) → IsRange words p lo hi → IsRange i.words p (rank shift lo) (rank shift hi)
  old_range p lo hi range =
      let long = is.long in
      let le = rank_within shift hi in
      record {
        ordered = rank_up shift lo hi range.ordered;
        within = omega (arith, le, long);
        holds = λ n lt.
            ap (begins p) (sym (is.same n lt)) ∙ range.holds (get_or shift n 0) (is.below n 0 (known_word n lt)) ∙ new_between lo hi n lt;
      }

  pub old_asked : (test : List ℕ → Bool) (lo hi : ℕ) → IsRangeOf words test lo hi → IsRangeOf i.words test (rank shift lo) (rank shift hi)
  old_asked test lo hi span =
      let long = is.long in
      let le = rank_within shift hi in
      record {
        ordered = rank_up shift lo hi span.ordered;
        within = omega (arith, le, long);
        holds = λ n lt.
            ap test (sym (is.same n lt)) ∙ span.holds (get_or shift n 0) (is.below n 0 (known_word n lt)) ∙ new_between lo hi n lt;
      }

  pub old_met_prefix : IsIndex i → (p : List ℕ) (lo hi : ℕ) → IsRange words p lo hi
      → length (filter (is_met (rank shift lo) (rank shift hi)) i.heads) ≤ met_prefix (division i) p
  old_met_prefix index p lo hi range = prefix_met i index p (rank shift lo) (rank shift hi) (old_range p lo hi range)

  -- a word that the index hasn't has no number there
  old_none : (w : List ℕ) (lo hi : ℕ) → IsRangeOf words (λ x. bytes_eq x w) lo hi → list_any (bytes_eq w) i.words ≡ false → rank shift lo ≡ rank shift hi
  old_none w lo hi span none =
      let up = rank_up shift lo hi span.ordered in
      elim (cases_lt (rank shift lo) (rank shift hi)) [
        | inl lt ↦
            let n = rank shift lo in
            let le = rank_within shift hi in
            let long = is.long in
            let here : n < length i.words = omega (arith, lt, le, long) in
            let own : bytes_eq (word_at i.words n) w ≡ true =
            ap (λ x. bytes_eq x w) (sym (is.same n here)) ∙ span.holds (get_or shift n 0) (is.below n 0 (known_word n here)) ∙ new_between lo hi n here
            ∙ first_of n (rank shift hi) lt in
            absurd (let e : true ≡ false = sym (list_any_at (bytes_eq w) i.words n [] here (name_sym w (word_at i.words n) ∙ own)) ∙ none in cc)
        | inr ge ↦ omega (arith, up, ge)
      ]
    where
      first_of : (n hi : ℕ) → n < hi → (nat_le n n && nat_lt n hi) ≡ true
      first_of n hi lt = grind (arith, nat_tests)

  pub old_met_word : IsIndex i → (w : List ℕ) (lo hi : ℕ) → IsRangeOf words (λ x. bytes_eq x w) lo hi → hi ≤ lo + 1
      → length (filter (is_met (rank shift lo) (rank shift hi)) i.heads) ≤ met_word (division i) w
  old_met_word index w lo hi span short =
      let up = rank_up shift hi (lo + 1) short in
      let step = rank_step shift is.rises lo in
      word_met i index w (rank shift lo) (rank shift hi) (omega (arith, up, step)) (old_none w lo hi span)
