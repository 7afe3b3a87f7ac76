-- A run covers where it begins before the least of what its parts reach.
use Rattle.std.proofs.Common.{◌≡◌, ◌<◌, ◌≤◌, ◌+◌, ◌-◌, ℕ, zero, suc, List, [], ◌∷◌, ◌++◌, true, false, Bool, cond, map, Option, Some, None, refl, sym, ap, ◌∙◌, arith, set, get_or, take, drop, length, replicate, inl, inr}
use Rattle.std.proofs.lemmas.Bool.{cases_eq, cases_order, false_from_ne_true, false≢true}
use Rattle.std.proofs.lemmas.List.Folds.{list_any-append}
use Rattle.std.specs.Prelude.{nat_lt, nat_le, min, fold, ◌||◌, ◌&&◌}
use Rattle.std.proofs.lemmas.Bool.Decides.{nat_tests}
use Rattle.std.specs.List.{list_any, list_all, range_with_len}
use Rattle.cs_model_excerpts.specs.Runs.{IsBest, IsShortest, covers, has_mark_at, has_mark_within}
use Rattle.cs_more.specs.RunSearch.{better_run, chosen_run, last_start, seen_run, reach}
use Rattle.cs_more.specs.declared.runs.WordRun.{WordRun}
use Rattle.std.specs.Option.{IfSome, option_map}

reach-within : (marks : List Bool) (i : ℕ) → reach marks i ≤ i
unfolding reach
reach-within marks zero = omega arith
reach-within marks (suc i) = elim (has_mark_at marks i) as (λ b. cond b (suc i) (reach marks i) ≤ suc i) [
  | true ↦ omega arith
  | false ↦ let l = reach-within marks i in omega (arith, l)
]

less : (n : ℕ) {a : ℕ} → a < n → nat_lt a n ≡ true
less n l = grind (arith, nat_tests)

less-min : (a m r : ℕ) → nat_lt a (min m r) ≡ (nat_lt a m && nat_lt a r)
less-min a m r = grind (arith, nat_tests)

below : (b n : ℕ) → b < suc n → (b ≡ n → ⊥) → b < n
below b n l f = elim (cases_order b n) [
  | inl e ↦ absurd (f e)
  | inr o ↦ elim o [
    | inl k ↦ k
    | inr k ↦ absurd (omega (arith, l, k))
  ]
]

least-within : (xs : List ℕ) (most : ℕ) → fold min most xs ≤ most
least-within [] most = omega arith
least-within (x ∷ xs) most = let l = least-within xs (min most x) in omega (arith, l)

or-true : (b : Bool) → (b || true) ≡ true
or-true true = refl
or-true false = refl

or-false : (b : Bool) → (b || false) ≡ b
or-false true = refl
or-false false = refl

and-true : (b : Bool) → (b && true) ≡ b
and-true true = refl
and-true false = refl

and-assoc : (a b c : Bool) → (a && (b && c)) ≡ ((a && b) && c)
and-assoc true b c = refl
and-assoc false b c = refl

range-more : (a n : ℕ) → range_with_len a (suc n) ≡ range_with_len a n ++ ((a + n) ∷ [])
range-more a zero = let same : a + 0 ≡ a = omega arith in rw same refl
range-more a (suc n) = let same : a + 1 + n ≡ a + suc n = omega arith in ap (λ xs. a ∷ xs) (range-more (a + 1) n ∙ ap (λ k. range_with_len (a + 1) n ++ (k ∷ [])) same)

-- one place more
one-more : (a n : ℕ) (x b : Bool) (r : ℕ) → a ≤ n → x ≡ nat_lt a r → (x || (b || false)) ≡ nat_lt a (cond b (suc n) r)
one-more a n x true r l e = or-true x ∙ sym (less (suc n) (omega (arith, l)))
one-more a n x false r l e = or-false x ∙ e

-- a mark at one of n places from a on, by the last one before their end
any-reach : (marks : List Bool) (a n : ℕ) → list_any (has_mark_at marks) (range_with_len a n) ≡ nat_lt a (reach marks (a + n))
unfolding reach
any-reach marks a zero = let l = reach-within marks (a + 0) in let f : nat_lt a (reach marks (a + 0)) ≡ false = grind (arith, nat_tests, l) in sym f
any-reach marks a (suc n) =
    let same : a + suc n ≡ suc (a + n) = omega arith in
    ap (list_any (has_mark_at marks)) (range-more a n) ∙ list_any-append (has_mark_at marks) (range_with_len a n) ((a + n) ∷ [])
    ∙ one-more a (a + n) (list_any (has_mark_at marks) (range_with_len a n)) (has_mark_at marks (a + n)) (reach marks (a + n)) (omega arith) (any-reach marks a n) ∙ ap (λ k. nat_lt a (reach marks k)) (sym same)

-- each part is reached from a where the least reach is
all-least : (parts : List (List Bool)) (i a most : ℕ) → (nat_lt a most && list_all (λ m. nat_lt a (reach m i)) parts) ≡ nat_lt a (fold min most (map (λ m. reach m i) parts))
all-least [] i a most = and-true (nat_lt a most)
all-least (m ∷ ms) i a most =
    and-assoc (nat_lt a most) (nat_lt a (reach m i)) (list_all (λ m. nat_lt a (reach m i)) ms) ∙ ap (λ b. b && list_all (λ m. nat_lt a (reach m i)) ms) (sym (less-min a most (reach m i))) ∙ all-least ms i a (min most (reach m i))

same-tests : {X : Type 0} (f g : X → Bool) → ((x : X) → f x ≡ g x) → (xs : List X) → list_all f xs ≡ list_all g xs
same-tests f g h [] = refl
same-tests f g h (x ∷ xs) = rw (h x, same-tests f g h xs) refl

-- a run covers exactly where it begins before the last_start that its end asks for
pub covers-start : (parts : List (List Bool)) (a b : ℕ) → a ≤ b → covers parts (a, b) ≡ nat_lt a (last_start parts (suc b))
unfolding covers
covers-start parts a b l =
    let same : a + (suc b - a) ≡ suc b = omega (arith, l) in
    same-tests (has_mark_within a b) (λ m. nat_lt a (reach m (suc b))) (λ m. any-reach m a (suc b - a) ∙ ap (λ k. nat_lt a (reach m k)) same) parts
    ∙ ap (λ t. t && list_all (λ m. nat_lt a (reach m (suc b))) parts) (sym (less (suc b) (omega (arith, l))))
    ∙ all-least parts (suc b) a (suc b)

pub start-within : (parts : List (List Bool)) (i : ℕ) → last_start parts i ≤ i
start-within parts i = least-within (map (λ m. reach m i) parts) i

-- ---- one word further
-- no run that ends at place n passes: what is best stays
stays : (parts : List (List Bool)) (n : ℕ) (best : Option (ℕ × ℕ)) → ((a : ℕ) → a ≤ n → covers parts (a, n) ≡ true → ⊥) → IsBest parts n best → IsBest parts (suc n) best
stays parts n None h w = λ a b l k. elim (cases_eq b n) [
  | inl e ↦ false_from_ne_true (covers parts (a, b)) (λ p. h a (omega (arith, l, e)) (rw e at p))
  | inr f ↦ w a b l (below b n k f)
]
stays parts n (Some r) h w = record {
  forward = w.forward;
  below = omega (arith, w.below);
  passes = w.passes;
  short = λ a b l k p. elim (cases_eq b n) [
    | inl e ↦ absurd (h a (omega (arith, l, e)) (rw e at p))
    | inr f ↦ w.short a b l (below b n k f) p
  ];
  first = λ a b l k p. elim (cases_eq b n) [
    | inl e ↦ absurd (h a (omega (arith, l, e)) (rw e at p))
    | inr f ↦ w.first a b l (below b n k f) p
  ];
}

-- the run from s is the best one of those that end at place n
record EndsBest (parts : List (List Bool)) (n s : ℕ) : Type 0 where
  within : s ≤ n
  passes : covers parts (s, n) ≡ true
  last : (a : ℕ) → a ≤ n → covers parts (a, n) ≡ true → a ≤ s

first_one : (parts : List (List Bool)) (n s : ℕ) → EndsBest parts n s → IsBest parts n None → IsShortest parts (suc n) (s, n)
first_one parts n s e w = record {
  forward = e.within;
  below = omega arith;
  passes = e.passes;
  short = λ a b l k p. elim (cases_eq b n) [
    | inl same ↦ let q = e.last a (omega (arith, l, same)) (rw same at p) in omega (arith, same, q)
    | inr f ↦ absurd (false≢true (sym (w a b l (below b n k f)) ∙ p))
  ];
  first = λ a b l k p long. elim (cases_eq b n) [
    | inl same ↦ omega (arith, same, long, l, e.within)
    | inr f ↦ absurd (false≢true (sym (w a b l (below b n k f)) ∙ p))
  ];
}

kept_one : (parts : List (List Bool)) (n s : ℕ) (r : ℕ × ℕ) → EndsBest parts n s → r.1 - r.0 ≤ n - s → IsShortest parts n r → IsShortest parts (suc n) r
kept_one parts n s r e less w = record {
  forward = w.forward;
  below = omega (arith, w.below);
  passes = w.passes;
  short = λ a b l k p. elim (cases_eq b n) [
    | inl same ↦ let q = e.last a (omega (arith, l, same)) (rw same at p) in omega (arith, same, q, less)
    | inr f ↦ w.short a b l (below b n k f) p
  ];
  first = λ a b l k p long. elim (cases_eq b n) [
    | inl same ↦ omega (arith, same, long, l, w.below, w.forward)
    | inr f ↦ w.first a b l (below b n k f) p long
  ];
}

new_one : (parts : List (List Bool)) (n s : ℕ) (r : ℕ × ℕ) → EndsBest parts n s → n - s < r.1 - r.0 → IsShortest parts n r → IsShortest parts (suc n) (s, n)
new_one parts n s r e less w = record {
  forward = e.within;
  below = omega arith;
  passes = e.passes;
  short = λ a b l k p. elim (cases_eq b n) [
    | inl same ↦ let q = e.last a (omega (arith, l, same)) (rw same at p) in omega (arith, same, q)
    | inr f ↦ let q = w.short a b l (below b n k f) p in omega (arith, q, less)
  ];
  first = λ a b l k p long. elim (cases_eq b n) [
    | inl same ↦ omega (arith, same, long, l, e.within)
    | inr f ↦ let q = w.short a b l (below b n k f) p in absurd (omega (arith, q, less, long))
  ];
}

shorter-best : (parts : List (List Bool)) (n s : ℕ) (best : Option (ℕ × ℕ)) → EndsBest parts n s → IsBest parts n best → IsBest parts (suc n) (Some (chosen_run best (s, n)))
shorter-best parts n s None e w = first_one parts n s e w
shorter-best parts n s (Some r) e w = by (nat_le (r.1 - r.0) (n - s)) refl
  where
    by : (c : Bool) → nat_le (r.1 - r.0) (n - s) ≡ c → IsShortest parts (suc n) (cond c r (s, n))
    by true is = kept_one parts n s r e (grind (arith, nat_tests)) w
    by false is = new_one parts n s r e (grind (arith, nat_tests)) w

pub better-best : (parts : List (List Bool)) (n s : ℕ) (best : Option (ℕ × ℕ)) → s ≤ suc n → ((a : ℕ) → a ≤ n → covers parts (a, n) ≡ nat_lt a s) → IsBest parts n best → IsBest parts (suc n) (better_run best s n)
better-best parts n zero best l h w = stays parts n best (λ a k p. let e = h a k in let no_start : nat_lt a 0 ≡ true = sym e ∙ p in absurd (grind (arith, nat_tests))) w
better-best parts n (suc s) best l h w = shorter-best parts n s best (record {
  within = omega (arith, l);
  passes = let e = h s (omega (arith, l)) in let begins : nat_lt s (suc s) ≡ true = grind (arith, nat_tests) in e ∙ begins;
  last = λ a k p. let e = h a k in let begins : nat_lt a (suc s) ≡ true = sym e ∙ p in grind (arith, nat_tests);
}) w

-- ---- a write of the next part's reach
pub reach_more : (f g : List Bool → ℕ) (parts : List (List Bool)) (i : ℕ) → i < length parts → set (map f (take i parts) ++ map g (drop i parts)) i (f (get_or parts i [])) ≡ map f (take (suc i) parts) ++ map g (drop (suc i) parts)
reach_more f g [] i l = absurd (omega arith)
reach_more f g (p ∷ ps) zero l = refl
reach_more f g (p ∷ ps) (suc i) l = ap (λ xs. f p ∷ xs) (reach_more f g ps i (omega (arith, l)))

any-default : {X : Type 0} (xs : List X) (i : ℕ) (d e : X) → i < length xs → get_or xs i d ≡ get_or xs i e
any-default [] i d e l = absurd (omega arith)
any-default (x ∷ xs) zero d e l = refl
any-default (x ∷ xs) (suc i) d e l = any-default xs i d e (omega (arith, l))

reach_before : (f g : List Bool → ℕ) (parts : List (List Bool)) (i d : ℕ) → i < length parts → get_or (map f (take i parts) ++ map g (drop i parts)) i d ≡ g (get_or parts i [])
reach_before f g [] i d l = absurd (omega arith)
reach_before f g (p ∷ ps) zero d l = refl
reach_before f g (p ∷ ps) (suc i) d l = reach_before f g ps i d (omega (arith, l))

reached : (marks : List Bool) (place before : ℕ) → before ≡ reach marks place → cond (has_mark_at marks place) (place + 1) before ≡ reach marks (place + 1)
unfolding reach
reached marks place before e = let next : place + 1 ≡ suc place = omega arith in rw (next, e) refl

pub reach_step : (parts : List (List Bool)) (since : List ℕ) (i place y before : ℕ) (marks : List Bool) → i < length parts
    → since ≡ map (λ m. reach m (place + 1)) (take i parts) ++ map (λ m. reach m place) (drop i parts)
    → marks ≡ get_or parts i marks → before ≡ get_or since i before → y ≡ cond (has_mark_at marks place) (place + 1) before
    → set since i y ≡ map (λ m. reach m (place + 1)) (take (i + 1) parts) ++ map (λ m. reach m place) (drop (i + 1) parts)
reach_step parts since i place y before marks l is m b e =
    let f : List Bool → ℕ = λ m. reach m (place + 1) in
    let g : List Bool → ℕ = λ m. reach m place in
    let next : i + 1 ≡ suc i = omega arith in
    let own : marks ≡ get_or parts i [] = m ∙ any-default parts i marks [] l in
    let was : before ≡ reach marks place = b ∙ ap (λ xs. get_or xs i before) is ∙ reach_before f g parts i before l ∙ ap g (sym own) in
    let now : y ≡ f (get_or parts i []) = e ∙ reached marks place before was ∙ ap f own in
    rw (is, now, next) (reach_more f g parts i l)

-- ---- the loop
pub none_reached : (parts : List (List Bool)) → replicate (length parts) 0 ≡ map (λ m. reach m 0) parts
unfolding reach
none_reached [] = refl
none_reached (p ∷ ps) = ap (λ xs. 0 ∷ xs) (none_reached ps)

pub least_is : (parts : List (List Bool)) (n s : ℕ) (xs ys : List ℕ) → xs ≡ map (λ m. reach m (n + 1)) parts → ys ≡ xs → s ≡ fold min (n + 1) ys → s ≡ last_start parts (suc n)
least_is parts n s xs ys x y e = let next : n + 1 ≡ suc n = omega arith in e ∙ ap (fold min (n + 1)) (y ∙ x) ∙ ap (last_start parts) next

pub start_fits : (parts : List (List Bool)) (n s : ℕ) → s ≡ last_start parts (suc n) → s ≤ n + 1
start_fits parts n s e = let l = start-within parts (suc n) in omega (arith, l, e)

pub one_further : (parts : List (List Bool)) (n s : ℕ) (best now : Option (ℕ × ℕ)) → s ≡ last_start parts (suc n) → now ≡ better_run best s n → IsBest parts n best → IsBest parts (n + 1) now
one_further parts n s best now e is w =
    let next : n + 1 ≡ suc n = omega arith in
    let fits = start_fits parts n s e in
    let found = better-best parts n s best (omega (arith, fits)) (λ a l. covers-start parts a n l ∙ ap (nat_lt a) (sym e)) w in
    rw (next, is) found

-- the best run is a run of these words
pub best-within : (parts : List (List Bool)) (n words : ℕ) (best : Option WordRun) → n ≤ words → IsBest parts n (option_map seen_run best) → IfSome best (λ r. (r.first ≤ r.last) × (r.last < words))
best-within parts n words None l h = tt
best-within parts n words (Some r) l h = (h.forward, omega (arith, h.below, l))
