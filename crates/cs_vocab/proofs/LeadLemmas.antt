-- The numbers of the first bytes of words, and the order of words.
--
--   fits             such a number, and one byte behind it, have room in 64 bits
--   less_by          a word whose number is less stands before the other one
--   greater_by       and the other one behind it
use Rattle.std.proofs.Common.{◌≡◌, ℕ, zero, suc, ◌+◌, ◌-◌, ◌*◌, ◌^◌, ◌<◌, ◌≤◌, List, [], ◌∷◌, slice_index_or, refl, sym, ap, subst, ◌∙◌, inl, inr, arith}
use Rattle.std.specs.Prelude.{◌⊎◌}
use Rattle.std.specs.Ordering.{nat_cmp, ordering_reverse, ordering_then}
use Rattle.std.specs.declared.cmp.Ordering.{Ordering}
use Rattle.std.specs.declared.cmp.Ordering.TheVariants.{Less, Equal, Greater}
use Rattle.std.specs.Cmp.{nat_cmp_is}
use Rattle.std.specs.Cmp.Lexicographic.{slice_cmp}
use Rattle.std.proofs.lemmas.Bool.{cases_order}
use Rattle.std.proofs.lemmas.Cmp.{nat_list_cmp_total}
use Rattle.cs_vocab.specs.Leads.{lead}

abbrev byte : List ℕ → ℕ → ℕ
byte w n = slice_index_or w n 0

-- as a slice has them
abbrev pub AreBytes : List ℕ → Type 0
AreBytes w = (k : ℕ) → slice_index_or w k 0 < 256

-- ---- room
abbrev room : ℕ → ℕ
room zero = 1
room (suc n) = room n * 256

small : (n : ℕ) (w : List ℕ) → AreBytes w → lead n w < room n
small zero w h = omega arith
small (suc n) w h = (let a = small n w h in let b = h n in omega (arith, a, b))

rises : (n k : ℕ) → room n ≤ room (k + n)
rises n zero = (let e : zero + n ≡ n = omega arith in subst (λ m. room n ≤ room m) (sym e) (omega arith))
rises n (suc k) = (let a = rises n k in let e : suc k + n ≡ suc (k + n) = omega arith in subst (λ m. room n ≤ room m) (sym e) (omega (arith, a)))

pub fits : (n : ℕ) (w : List ℕ) → AreBytes w → n < 8 → lead n w * 256 + 255 < 2 ^ 64
fits n w h l =
    let a = small n w h in
    let b : room n ≤ room 7 = subst (λ m. room n ≤ room m) (let m : (7 - n) + n ≡ 7 = omega (arith, l) in m) (rises n (7 - n)) in
    let c : room 7 ≡ 72057594037927936 = refl in
    omega (arith, a, b, c)

-- ---- the first byte that differs decides
first : (x y : ℕ) (r : Ordering) → x < y → ordering_then (nat_cmp x y) r ≡ Less
first x y r l = ap (λ o. ordering_then o r) (sym (nat_cmp_is x y Less l))

then_rest : (x y : ℕ) (r : Ordering) → x ≡ y → ordering_then (nat_cmp x y) r ≡ r
then_rest x y r e = ap (λ o. ordering_then o r) (sym (nat_cmp_is x y Equal e))

less_at : (n : ℕ) (a b : List ℕ) → ((k : ℕ) → k < n → byte a k ≡ byte b k) → byte a n < byte b n → slice_cmp nat_cmp a b ≡ Less
less_at n [] [] same l = absurd (omega (arith, l))
less_at n [] (y ∷ ys) same l = refl
less_at n (x ∷ xs) [] same l = absurd (omega (arith, l))
less_at zero (x ∷ xs) (y ∷ ys) same l = first x y (slice_cmp nat_cmp xs ys) l
less_at (suc n) (x ∷ xs) (y ∷ ys) same l =
    then_rest x y (slice_cmp nat_cmp xs ys) (same 0 (omega arith))
    ∙ less_at n xs ys (λ k lt. same (suc k) (omega (arith, lt))) l

-- ---- numbers
parts_same : (n : ℕ) (a b : List ℕ) → AreBytes a → AreBytes b → lead (suc n) a ≡ lead (suc n) b → (lead n a ≡ lead n b) × (byte a n ≡ byte b n)
parts_same n a b ha hb e =
    let p = ha n in
    let q = hb n in
    (omega (arith, p, q, e), omega (arith, p, q, e))

same_bytes : (n : ℕ) (a b : List ℕ) → AreBytes a → AreBytes b → lead n a ≡ lead n b → (k : ℕ) → k < n → byte a k ≡ byte b k
same_bytes zero a b ha hb e k l = absurd (omega (arith, l))
same_bytes (suc n) a b ha hb e k l =
    let both = parts_same n a b ha hb e in
    by both.1 (same_bytes n a b ha hb both.0) (cases_order k n)
  where
    by : byte a n ≡ byte b n → ((m : ℕ) → m < n → byte a m ≡ byte b m) → (k ≡ n) ⊎ ((k < n) ⊎ (n < k)) → byte a k ≡ byte b k
    by last before (inl is) = subst (λ m. byte a m ≡ byte b m) (sym is) last
    by last before (inr (inl lt)) = before k lt
    by last before (inr (inr gt)) = absurd (omega (arith, l, gt))

pub less_by : (n : ℕ) (a b : List ℕ) → AreBytes a → AreBytes b → lead n a < lead n b → slice_cmp nat_cmp a b ≡ Less
less_by zero a b ha hb l = absurd (omega (arith, l))
less_by (suc n) a b ha hb l = by (less_by n a b ha hb) (cases_order (lead n a) (lead n b))
  where
    by : (lead n a < lead n b → slice_cmp nat_cmp a b ≡ Less)
        → (lead n a ≡ lead n b) ⊎ ((lead n a < lead n b) ⊎ (lead n b < lead n a)) → slice_cmp nat_cmp a b ≡ Less
    by before (inl is) = less_at n a b (same_bytes n a b ha hb is) (omega (arith, is, l))
    by before (inr (inl lt)) = before lt
    by before (inr (inr gt)) = (let p = ha n in let q = hb n in absurd (omega (arith, l, gt, p, q)))

pub greater_by : (n : ℕ) (a b : List ℕ) → AreBytes a → AreBytes b → lead n b < lead n a → slice_cmp nat_cmp a b ≡ Greater
greater_by n a b ha hb l = nat_list_cmp_total.antisymm a b ∙ ap ordering_reverse (less_by n b a hb ha l)
