-- The first run that covers is the shortest one, and of those of one length the first.
--
--   shortest_first    the law
use Rattle.std.proofs.Common.{◌≡◌, ◌<◌, ◌≤◌, ◌+◌, ◌-◌, ℕ, zero, suc, List, [], ◌∷◌, ◌++◌, true, false, Bool, cond, map, Option, Some, None, refl, ap, ◌∙◌, arith, inl, inr}
use Rattle.std.proofs.lemmas.Bool.{cases_eq, cases_lt}
use Rattle.std.specs.List.{find, flat_map, range_with_len}
use Rattle.cs_model_excerpts.specs.Runs.{IsBest, covers, runs_of_length, shortest}

further : (a r : ℕ) → a ≤ r → (a ≡ r → ⊥) → a < r
further a r l f = elim (cases_lt a r) [
  | inl k ↦ k
  | inr k ↦ absurd (f (omega (arith, l, k)))
]

module _ {X : Type 0} (t : X → Bool) where
  find-past : (xs ys : List X) → find t xs ≡ None → find t (xs ++ ys) ≡ find t ys
  find-past [] ys h = refl
  find-past (x ∷ xs) ys h = (elim (t x) as (λ b. cond b (Some x) (find t xs) ≡ None → cond b (Some x) (find t (xs ++ ys)) ≡ find t ys) [
    | true ↦ λ k. cc
    | false ↦ λ k. find-past xs ys k
  ]) h

  find-front : (xs ys : List X) (r : X) → find t xs ≡ Some r → find t (xs ++ ys) ≡ Some r
  find-front [] ys r h = cc
  find-front (x ∷ xs) ys r h = (elim (t x) as (λ b. cond b (Some x) (find t xs) ≡ Some r → cond b (Some x) (find t (xs ++ ys)) ≡ Some r) [
    | true ↦ λ k. k
    | false ↦ λ k. find-front xs ys r k
  ]) h

  -- the first of f's values at n numbers from a
  map-none : (f : ℕ → X) (a n : ℕ) → ((k : ℕ) → a ≤ k → k < a + n → t (f k) ≡ false) → find t (map f (range_with_len a n)) ≡ None
  map-none f a zero h = refl
  map-none f a (suc n) h = rw (h a (omega arith) (omega arith)) (map-none f (a + 1) n (λ k l m. h k (omega (arith, l)) (omega (arith, m))))

  map-some : (f : ℕ → X) (a n r : ℕ) → a ≤ r → r < a + n → ((k : ℕ) → a ≤ k → k < r → t (f k) ≡ false) → t (f r) ≡ true → find t (map f (range_with_len a n)) ≡ Some (f r)
  map-some f a zero r l m h g = absurd (omega arith)
  map-some f a (suc n) r l m h g = elim (cases_eq a r) [
    | inl same ↦ rw (same, g) refl
    | inr other ↦
        let more : a < r = further a r l other in
        rw (h a (omega arith) more) (map-some f (a + 1) n r (omega arith) (omega arith) (λ k l2 m2. h k (omega (arith, l2)) m2) g)
  ]

  flat-none : (f : ℕ → List X) (a n : ℕ) → ((k : ℕ) → a ≤ k → k < a + n → find t (f k) ≡ None) → find t (flat_map f (range_with_len a n)) ≡ None
  flat-none f a zero h = refl
  flat-none f a (suc n) h = find-past (f a) (flat_map f (range_with_len (a + 1) n)) (h a (omega arith) (omega arith)) ∙ flat-none f (a + 1) n (λ k l m. h k (omega (arith, l)) (omega (arith, m)))

  flat-some : (f : ℕ → List X) (a n r : ℕ) (x : X) → a ≤ r → r < a + n → ((k : ℕ) → a ≤ k → k < r → find t (f k) ≡ None) → find t (f r) ≡ Some x → find t (flat_map f (range_with_len a n)) ≡ Some x
  flat-some f a zero r x l m h g = absurd (omega arith)
  flat-some f a (suc n) r x l m h g = elim (cases_eq a r) [
    | inl same ↦ find-front (f a) (flat_map f (range_with_len (a + 1) n)) x (rw same g)
    | inr other ↦
        let more : a < r = further a r l other in
        find-past (f a) (flat_map f (range_with_len (a + 1) n)) (h a (omega arith) more) ∙ flat-some f (a + 1) n r x (omega arith) (omega arith) (λ k l2 m2. h k (omega (arith, l2)) m2) g
  ]

fails : (b : Bool) → (b ≡ true → ⊥) → b ≡ false
fails true h = absurd (h refl)
fails false h = refl

pub shortest_first : (parts : List (List Bool)) (n : ℕ) (best : Option (ℕ × ℕ)) → IsBest parts n best → shortest parts n ≡ best
shortest_first parts n None h =
    let t = covers parts in
    flat-none t (runs_of_length n) 0 n (λ more l m. map-none t (λ a. (a, a + more)) 0 (n - more) (λ a l2 m2. h a (a + more) (omega arith) (omega (arith, m, m2))))
shortest_first parts n (Some r) h =
    let t = covers parts in
    let more = r.1 - r.0 in
    let same : r.0 + more ≡ r.1 = omega (arith, h.forward) in
    let here : t (r.0, r.0 + more) ≡ true = rw same h.passes in
    let earlier : (k : ℕ) → 0 ≤ k → k < more → find t (runs_of_length n k) ≡ None =
    λ k l m. map-none t (λ a. (a, a + k)) 0 (n - k) (λ a l2 m2. fails (t (a, a + k)) (λ p.
    let s = h.short a (a + k) (omega arith) (omega (arith, m2)) p in omega (arith, s, m))) in
    let found : find t (runs_of_length n more) ≡ Some (r.0, r.0 + more) =
    map-some t (λ a. (a, a + more)) 0 (n - more) r.0 (omega arith) (omega (arith, h.below, h.forward)) (λ a l m. fails (t (a, a + more)) (λ p.
    let f = h.first a (a + more) (omega arith) (omega (arith, h.below, h.forward, m)) p (omega arith) in omega (arith, f, m))) here in
    flat-some t (runs_of_length n) 0 n more (r.0, r.0 + more) (omega arith) (omega (arith, h.below)) earlier found ∙ ap (λ b. Some (r.0, b)) same
