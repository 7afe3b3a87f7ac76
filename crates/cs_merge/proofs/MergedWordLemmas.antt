-- Two vocabularies brought into one.
--
--   turned              which of two next words comes first
--   side_taken          a vocabulary whose next word is taken
--   side_left           and one whose next word isn't
--   stepped             one word more
--   merging_begins, merging_ends     before the first word and behind the last
use Rattle.std.proofs.Common.{◌≡◌, ℕ, zero, suc, ◌+◌, ◌-◌, ◌<◌, ◌≤◌, ◌||◌, Bool, true, false, List, [], ◌∷◌, ◌++◌, length, get_or, take, refl, sym, ap, ap₂, subst, ◌∙◌, arith, inl, inr}
use Rattle.std.proofs.Common.{length-append, append-nil}
use Rattle.std.specs.Prelude.{All, nat_le}
use Rattle.std.specs.List.{AllByRecursion, list_any}
use Rattle.std.specs.List.Sorted.{IsStrictlySortedBy}
use Rattle.std.specs.Ordering.{eq_by_cmp, nat_cmp, ordering_reverse}
use Rattle.std.specs.Cmp.Lexicographic.{slice_cmp}
use Rattle.std.specs.FinMap.{nat_cmp-IsAntisymmetric, slice_cmp-IsAntisymmetric}
use Rattle.std.specs.declared.cmp.Ordering.{Ordering}
use Rattle.std.specs.declared.cmp.Ordering.TheVariants.{Less, Equal, Greater}
use Rattle.std.proofs.lemmas.Bool.{and_parts, cases_eq, cases_lt, leb-true}
use Rattle.std.proofs.lemmas.Cmp.{nat_list_cmp_total}
use Rattle.std.proofs.lemmas.List.{get_or_append_left, get_or-append_right, take_all, take_more}
use Rattle.std.proofs.lemmas.List.Elements.{All-append, All-from_recursion, All-nil, All-weaker, recursion_from_All}
use Rattle.std.proofs.lemmas.List.Folds.{list_any-append}
use Rattle.std.proofs.lemmas.Map.Keys.{Less-from_sorted}
use Rattle.cs_base.specs.content.Orders.{AreDocs}
use Rattle.cs_base.proofs.MembersLemmas.{members_are}
use Rattle.cs_base.proofs.OrdersLemmas.{Less-from_lt}
use Rattle.cs_merge.specs.Vocabularies.{AreMerged, IsMerging, IsMore, IsShift, IsTurn, Side, nth_word, is_done, is_first, is_second, own_numbers, turn_word}
use Rattle.cs_merge.specs.declared.vocabulary.Merging.{Merging}

abbrev Words : Type 0
Words = List (List ℕ)

-- ---- a slice's word
pub below_by : (k n : ℕ) → k ≤ n → (k ≡ n → ⊥) → k < n
below_by k n le other = elim (cases_eq k n) [
  | inl same ↦ absurd (other same)
  | inr apart ↦ omega (arith, le, apart)
]

get_any : (ws : Words) (k : ℕ) (x y : List ℕ) → k < length ws → get_or ws k x ≡ get_or ws k y
get_any [] k x y lt = absurd (omega (arith, lt))
get_any (w ∷ ws) zero x y lt = refl
get_any (w ∷ ws) (suc k) x y lt = get_any ws k x y (omega (arith, lt))

pub same_at : (ws : Words) (k : ℕ) (x : List ℕ) → k < length ws → x ≡ get_or ws k x → x ≡ nth_word ws k
same_at ws k x lt is = is ∙ get_any ws k x [] lt

-- ---- turns
pub turned : (a b : Words) (i j : ℕ) → i < length a → j < length b → (r : Ordering) → r ≡ slice_cmp nat_cmp (nth_word a i) (nth_word b j) → IsTurn a b i j r
turned a b i j l m Less e = (l, λ _. sym e)
turned a b i j l m Equal e = (l, m, slice_cmp-IsAntisymmetric nat_cmp-IsAntisymmetric (nth_word a i) (nth_word b j) (sym e))
turned a b i j l m Greater e = (m, λ _. nat_list_cmp_total.antisymm (nth_word b j) (nth_word a i) ∙ ap ordering_reverse (sym e))

-- ---- one more
less_rest : (w x : List ℕ) (ws : Words) → AllByRecursion (λ v. slice_cmp nat_cmp w v ≡ Less) ws → slice_cmp nat_cmp w x ≡ Less
    → AllByRecursion (λ v. slice_cmp nat_cmp w v ≡ Less) (ws ++ x ∷ [])
less_rest w x [] h e = (e, tt)
less_rest w x (v ∷ ws) h e = (h.0, less_rest w x ws h.1 e)

sorted_more : (ws : Words) (x : List ℕ) → IsStrictlySortedBy (slice_cmp nat_cmp) ws → AllByRecursion (λ w. slice_cmp nat_cmp w x ≡ Less) ws
    → IsStrictlySortedBy (slice_cmp nat_cmp) (ws ++ x ∷ [])
unfolding IsStrictlySortedBy
sorted_more [] x up h = (tt, tt)
sorted_more (w ∷ ws) x up h = (less_rest w x ws up.0 h.0, sorted_more ws x up.1 h.1)

number_rest : (n x : ℕ) (ns : List ℕ) → AllByRecursion (λ v. nat_cmp n v ≡ Less) ns → nat_cmp n x ≡ Less → AllByRecursion (λ v. nat_cmp n v ≡ Less) (ns ++ x ∷ [])
number_rest n x [] h e = (e, tt)
number_rest n x (v ∷ ns) h e = (h.0, number_rest n x ns h.1 e)

numbers_more : (ns : List ℕ) (x : ℕ) → AreDocs ns → AllByRecursion (λ n. n < x) ns → AreDocs (ns ++ x ∷ [])
unfolding IsStrictlySortedBy
numbers_more [] x up h = (tt, tt)
numbers_more (n ∷ ns) x up h = (number_rest n x ns up.0 (Less-from_lt n x h.0), numbers_more ns x up.1 h.1)

-- ---- a list whose next word is taken
module _ (a ws : Words) (ns : List ℕ) (side : Side a ws ns) where
  more_small : (x : List ℕ) → All (λ n. n < length (ws ++ x ∷ [])) ns
  more_small x = let l = length-append ws (x ∷ []) in
      All-weaker (λ n. n < length ws) (λ n. n < length (ws ++ x ∷ [])) (λ n lt. omega (arith, lt, l)) ns side.small

  old_word : (x : List ℕ) (n : ℕ) → n < length ns → nth_word (ws ++ x ∷ []) (get_or ns n 0) ≡ nth_word a n
  old_word x n lt = get_or_append_left ws (x ∷ []) [] (get_or ns n 0) (side.small n 0 lt) ∙ side.same n lt

  pub side_taken : IsStrictlySortedBy (slice_cmp nat_cmp) a → length ns < length a → (x : List ℕ) → x ≡ nth_word a (length ns) → Side a (ws ++ x ∷ []) (ns ++ length ws ∷ [])
  side_taken up lt x is =
      let l = length-append ns (length ws ∷ []) in
      let lw = length-append ws (x ∷ []) in
      record {
        upto = omega (arith, l, lt);
        below = λ k from to.
            All-append (λ w. slice_cmp nat_cmp w (nth_word a k) ≡ Less) ws (x ∷ []) (side.below k (omega (arith, from, l)) to)
            (All-from_recursion (λ w. slice_cmp nat_cmp w (nth_word a k) ≡ Less) (x ∷ [])
            (ap (λ w. slice_cmp nat_cmp w (nth_word a k)) is ∙ Less-from_sorted (slice_cmp nat_cmp) a (length ns) k [] up (omega (arith, from, l)) to, tt));
        same = λ n to. elim (cases_lt n (length ns)) [
          | inl old ↦ ap (nth_word (ws ++ x ∷ [])) (get_or_append_left ns (length ws ∷ []) 0 n old) ∙ old_word x n old
          | inr from ↦
              let here : n ≡ length ns = omega (arith, from, to, l) in
              let none : length ns - length ns ≡ 0 = omega arith in
              let one : length ws - length ws ≡ 0 = omega arith in
              ap (λ m. nth_word (ws ++ x ∷ []) (get_or (ns ++ length ws ∷ []) m 0)) here
              ∙ ap (nth_word (ws ++ x ∷ [])) (get_or-append_right ns (length ws ∷ []) (length ns) (length ns) 0 refl (omega arith) ∙ ap (λ m. get_or (length ws ∷ []) m 0) none)
              ∙ get_or-append_right ws (x ∷ []) (length ws) (length ws) [] refl (omega arith) ∙ ap (λ m. get_or (x ∷ []) m []) one
              ∙ is ∙ ap (nth_word a) (sym here)
        ];
        small = All-append (λ n. n < length (ws ++ x ∷ [])) ns (length ws ∷ []) (more_small x)
            (All-from_recursion (λ n. n < length (ws ++ x ∷ [])) (length ws ∷ []) (omega (arith, lw), tt));
        rises = numbers_more ns (length ws) side.rises (recursion_from_All (λ n. n < length ws) ns side.small);
      }

  -- a list whose next word, if there is one, is greater
  pub side_left : IsStrictlySortedBy (slice_cmp nat_cmp) a → (x : List ℕ) → (length ns < length a → slice_cmp nat_cmp x (nth_word a (length ns)) ≡ Less) → Side a (ws ++ x ∷ []) ns
  side_left up x less = record {
    upto = side.upto;
    below = λ k from to.
        All-append (λ w. slice_cmp nat_cmp w (nth_word a k) ≡ Less) ws (x ∷ []) (side.below k from to)
        (All-from_recursion (λ w. slice_cmp nat_cmp w (nth_word a k) ≡ Less) (x ∷ []) (further k from to, tt));
    same = old_word x;
    small = more_small x;
    rises = side.rises;
  }
    where
      further : (k : ℕ) → length ns ≤ k → k < length a → slice_cmp nat_cmp x (nth_word a k) ≡ Less
      further k from to = elim (cases_eq k (length ns)) [
        | inl here ↦ ap (λ m. slice_cmp nat_cmp x (nth_word a m)) here ∙ less (omega (arith, here, to))
        | inr other ↦ nat_list_cmp_total.trans x (nth_word a (length ns)) (nth_word a k) (less (omega (arith, from, to)))
            (Less-from_sorted (slice_cmp nat_cmp) a (length ns) k [] up (omega (arith, from, other)) to)
      ]

-- ---- members
tied : List ℕ → List ℕ → Bool
tied q w = eq_by_cmp (slice_cmp nat_cmp) q w

any_more : (q : List ℕ) (ws : Words) (x : List ℕ) → list_any (eq_by_cmp (slice_cmp nat_cmp) q) (ws ++ x ∷ []) ≡ (list_any (eq_by_cmp (slice_cmp nat_cmp) q) ws || eq_by_cmp (slice_cmp nat_cmp) q x)
any_more q ws x = list_any-append (eq_by_cmp (slice_cmp nat_cmp) q) ws (x ∷ []) ∙ ap (λ b. list_any (eq_by_cmp (slice_cmp nat_cmp) q) ws || b) (or_false (eq_by_cmp (slice_cmp nat_cmp) q x))
  where
    or_false : (b : Bool) → (b || false) ≡ b
    or_false true = refl
    or_false false = refl

any_taken : (q : List ℕ) (a : Words) (i n : ℕ) (x : List ℕ) → i < length a → x ≡ nth_word a i → n ≡ i + 1
    → list_any (eq_by_cmp (slice_cmp nat_cmp) q) (take n a) ≡ (list_any (eq_by_cmp (slice_cmp nat_cmp) q) (take i a) || eq_by_cmp (slice_cmp nat_cmp) q x)
any_taken q a i n x lt is one =
    ap (λ m. list_any (eq_by_cmp (slice_cmp nat_cmp) q) (take m a)) one
    ∙ ap (list_any (eq_by_cmp (slice_cmp nat_cmp) q)) (take_more a i [] lt ∙ ap (λ w. take i a ++ w ∷ []) (sym is))
    ∙ any_more q (take i a) x

or_first : (a b x : Bool) → ((a || b) || x) ≡ ((a || x) || b)
or_first true b x = refl
or_first false true true = refl
or_first false true false = refl
or_first false false true = refl
or_first false false false = refl

or_second : (a b x : Bool) → ((a || b) || x) ≡ (a || (b || x))
or_second true b x = refl
or_second false b x = refl

or_both : (a b x : Bool) → ((a || b) || x) ≡ ((a || x) || (b || x))
or_both true b x = refl
or_both false true true = refl
or_both false true false = refl
or_both false false true = refl
or_both false false false = refl

-- ---- a step
module _ (a b : Words) (up_a : IsStrictlySortedBy (slice_cmp nat_cmp) a) (up_b : IsStrictlySortedBy (slice_cmp nat_cmp) b) (m next : Merging) (h : IsMerging a b m) where
  abbrev i : ℕ
  i = length m.first.items

  abbrev j : ℕ
  j = length m.second.items

  pub stepped : (turn : Ordering) (x : List ℕ) → IsTurn a b (length m.first.items) (length m.second.items) turn
      → x ≡ turn_word a b (length m.first.items) (length m.second.items) turn
      → next.words.items ≡ m.words.items ++ x ∷ []
      → next.first.items ≡ m.first.items ++ own_numbers (is_first turn) (length m.words.items)
      → next.second.items ≡ m.second.items ++ own_numbers (is_second turn) (length m.words.items)
      → IsMerging a b next × IsMore m next
  stepped Less x t is words first second =
      let ws = m.words.items in
      let same_second : next.second.items ≡ m.second.items = second ∙ append-nil m.second.items in
      let n1 : length next.first.items ≡ i + 1 = omega (arith, ap length first, length-append m.first.items (length ws ∷ [])) in
      let n2 : length next.second.items ≡ j = ap length same_second in
      let lw = length-append ws (x ∷ []) in
      let few = h.few in (
        record {
          first = subst (λ v. Side a v next.first.items) (sym words) (subst (Side a (ws ++ x ∷ [])) (sym first) (side_taken a ws m.first.items h.first up_a t.0 x is));
          second = subst (λ v. Side b v next.second.items) (sym words) (subst (Side b (ws ++ x ∷ [])) (sym same_second)
              (side_left b ws m.second.items h.second up_b x (λ l. ap (λ w. slice_cmp nat_cmp w (nth_word b j)) is ∙ t.1 l)));
          sorted = subst (IsStrictlySortedBy (slice_cmp nat_cmp)) (sym words) (sorted_more ws x h.sorted
              (recursion_from_All (λ w. slice_cmp nat_cmp w x ≡ Less) ws (subst (λ y. All (λ w. slice_cmp nat_cmp w y ≡ Less) ws) (sym is) (h.first.below i (omega arith) t.0))));
          members = λ q.
              ap (list_any (eq_by_cmp (slice_cmp nat_cmp) q)) words ∙ any_more q ws x ∙ ap (λ c. c || eq_by_cmp (slice_cmp nat_cmp) q x) (h.members q)
              ∙ or_first (list_any (eq_by_cmp (slice_cmp nat_cmp) q) (take i a)) (list_any (eq_by_cmp (slice_cmp nat_cmp) q) (take j b)) (eq_by_cmp (slice_cmp nat_cmp) q x)
              ∙ ap₂ (λ c d. c || d) (sym (any_taken q a i (length next.first.items) x t.0 is n1)) (ap (λ n. list_any (eq_by_cmp (slice_cmp nat_cmp) q) (take n b)) (sym n2));
          few = omega (arith, few, lw, n1, n2, ap length words);
        },
        omega (arith, n1, n2),
      )
  stepped Greater x t is words first second =
      let ws = m.words.items in
      let same_first : next.first.items ≡ m.first.items = first ∙ append-nil m.first.items in
      let n1 : length next.first.items ≡ i = ap length same_first in
      let n2 : length next.second.items ≡ j + 1 = omega (arith, ap length second, length-append m.second.items (length ws ∷ [])) in
      let lw = length-append ws (x ∷ []) in
      let few = h.few in (
        record {
          first = subst (λ v. Side a v next.first.items) (sym words) (subst (Side a (ws ++ x ∷ [])) (sym same_first)
              (side_left a ws m.first.items h.first up_a x (λ l. ap (λ w. slice_cmp nat_cmp w (nth_word a i)) is ∙ t.1 l)));
          second = subst (λ v. Side b v next.second.items) (sym words) (subst (Side b (ws ++ x ∷ [])) (sym second) (side_taken b ws m.second.items h.second up_b t.0 x is));
          sorted = subst (IsStrictlySortedBy (slice_cmp nat_cmp)) (sym words) (sorted_more ws x h.sorted
              (recursion_from_All (λ w. slice_cmp nat_cmp w x ≡ Less) ws (subst (λ y. All (λ w. slice_cmp nat_cmp w y ≡ Less) ws) (sym is) (h.second.below j (omega arith) t.0))));
          members = λ q.
              ap (list_any (eq_by_cmp (slice_cmp nat_cmp) q)) words ∙ any_more q ws x ∙ ap (λ c. c || eq_by_cmp (slice_cmp nat_cmp) q x) (h.members q)
              ∙ or_second (list_any (eq_by_cmp (slice_cmp nat_cmp) q) (take i a)) (list_any (eq_by_cmp (slice_cmp nat_cmp) q) (take j b)) (eq_by_cmp (slice_cmp nat_cmp) q x)
              ∙ ap₂ (λ c d. c || d) (ap (λ n. list_any (eq_by_cmp (slice_cmp nat_cmp) q) (take n a)) (sym n1)) (sym (any_taken q b j (length next.second.items) x t.0 is n2));
          few = omega (arith, few, lw, n1, n2, ap length words);
        },
        omega (arith, n1, n2),
      )
  stepped Equal x t is words first second =
      let ws = m.words.items in
      let n1 : length next.first.items ≡ i + 1 = omega (arith, ap length first, length-append m.first.items (length ws ∷ [])) in
      let n2 : length next.second.items ≡ j + 1 = omega (arith, ap length second, length-append m.second.items (length ws ∷ [])) in
      let lw = length-append ws (x ∷ []) in
      let few = h.few in
      let is_b : x ≡ nth_word b j = is ∙ t.2 in (
        record {
          first = subst (λ v. Side a v next.first.items) (sym words) (subst (Side a (ws ++ x ∷ [])) (sym first) (side_taken a ws m.first.items h.first up_a t.0 x is));
          second = subst (λ v. Side b v next.second.items) (sym words) (subst (Side b (ws ++ x ∷ [])) (sym second) (side_taken b ws m.second.items h.second up_b t.1 x is_b));
          sorted = subst (IsStrictlySortedBy (slice_cmp nat_cmp)) (sym words) (sorted_more ws x h.sorted
              (recursion_from_All (λ w. slice_cmp nat_cmp w x ≡ Less) ws (subst (λ y. All (λ w. slice_cmp nat_cmp w y ≡ Less) ws) (sym is) (h.first.below i (omega arith) t.0))));
          members = λ q.
              ap (list_any (eq_by_cmp (slice_cmp nat_cmp) q)) words ∙ any_more q ws x ∙ ap (λ c. c || eq_by_cmp (slice_cmp nat_cmp) q x) (h.members q)
              ∙ or_both (list_any (eq_by_cmp (slice_cmp nat_cmp) q) (take i a)) (list_any (eq_by_cmp (slice_cmp nat_cmp) q) (take j b)) (eq_by_cmp (slice_cmp nat_cmp) q x)
              ∙ ap₂ (λ c d. c || d) (sym (any_taken q a i (length next.first.items) x t.0 is n1)) (sym (any_taken q b j (length next.second.items) x t.1 is_b n2));
          few = omega (arith, few, lw, n1, n2, ap length words);
        },
        omega (arith, n1, n2),
      )

-- ---- all words
nil_sorted : IsStrictlySortedBy (slice_cmp nat_cmp) []
unfolding IsStrictlySortedBy
nil_sorted = tt

nil_numbers : AreDocs []
unfolding IsStrictlySortedBy
nil_numbers = tt

side_begins : (a ws : Words) (ns : List ℕ) → ws ≡ [] → ns ≡ [] → Side a ws ns
side_begins a ws ns no_words no_numbers =
    let l : length ns ≡ 0 = ap length no_numbers in record {
      upto = omega (arith, l);
      below = λ k from to. subst (All (λ w. slice_cmp nat_cmp w (nth_word a k) ≡ Less)) (sym no_words) (All-nil (λ w. slice_cmp nat_cmp w (nth_word a k) ≡ Less));
      same = λ n lt. absurd (omega (arith, lt, l));
      small = subst (All (λ n. n < length ws)) (sym no_numbers) (All-nil (λ n. n < length ws));
      rises = subst AreDocs (sym no_numbers) nil_numbers;
    }

pub merging_begins : (a b : Words) (m : Merging) → m.words.items ≡ [] → m.first.items ≡ [] → m.second.items ≡ [] → IsMerging a b m
merging_begins a b m words first second = record {
  first = side_begins a m.words.items m.first.items words first;
  second = side_begins b m.words.items m.second.items words second;
  sorted = subst (IsStrictlySortedBy (slice_cmp nat_cmp)) (sym words) nil_sorted;
  members = λ q. ap (list_any (eq_by_cmp (slice_cmp nat_cmp) q)) words
      ∙ sym (ap₂ (λ n k. list_any (eq_by_cmp (slice_cmp nat_cmp) q) (take n a) || list_any (eq_by_cmp (slice_cmp nat_cmp) q) (take k b)) (ap length first) (ap length second));
  few = (let l : length m.words.items ≡ 0 = ap length words in omega (arith, l));
}

shift_of : (a ws : Words) (ns : List ℕ) → Side a ws ns → length a ≤ length ns → IsShift a ws ns
shift_of a ws ns side le = let upto = side.upto in record {
  long = omega (arith, upto, le);
  rises = side.rises;
  below = side.small;
  same = λ n lt. side.same n (omega (arith, lt, le));
}

pub merging_ends : (a b : Words) (m : Merging) → IsMerging a b m → is_done a b m ≡ true → AreMerged a b m
merging_ends a b m h done =
    let both = and_parts (nat_le (length a) (length m.first.items)) (nat_le (length b) (length m.second.items)) done in
    let le_a = leb-true _ _ both.0 in
    let le_b = leb-true _ _ both.1 in
    let all_a : take (length m.first.items) a ≡ a = take_all (length m.first.items) a le_a in
    let all_b : take (length m.second.items) b ≡ b = take_all (length m.second.items) b le_b in
    record {
      words = members_are (slice_cmp nat_cmp) nat_list_cmp_total (slice_cmp-IsAntisymmetric nat_cmp-IsAntisymmetric) m.words.items (a ++ b) h.sorted
          (λ q. h.members q ∙ ap₂ (λ x y. list_any (eq_by_cmp (slice_cmp nat_cmp) q) x || list_any (eq_by_cmp (slice_cmp nat_cmp) q) y) all_a all_b
          ∙ sym (list_any-append (eq_by_cmp (slice_cmp nat_cmp) q) a b));
      rises = h.sorted;
      first = shift_of a m.words.items m.first.items h.first le_a;
      second = shift_of b m.words.items m.second.items h.second le_b;
    }
