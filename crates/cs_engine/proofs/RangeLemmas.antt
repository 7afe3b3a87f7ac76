-- Ranges of words that are held.
--
--   none_more, none_left, any_placed      which of them passes a test
--   bytes_more, range_bytes_both      the bytes of the first ones, and of some and others
--   range_taken          one that is found is taken out
--   less_held, was_held, others_go    what is left where one is taken out
--   still_held           what holds of all where some went
--   goes_by              what is left where one may have been taken out
--   held_more            what holds of all where one more is held
--   all_within           all of them have room together
--   held_if              what holds of all where all may have gone
use Rattle.std.proofs.Common.{◌≡◌, ℕ, zero, suc, ◌+◌, ◌<◌, ◌≤◌, ◌==◌, ◌&&◌, ◌||◌, inl, inr, Bool, true, false, if◌then◌else◌, List, [], ◌∷◌, ◌++◌, length, take, drop, get_or}
use Rattle.std.proofs.Common.{Option, Some, None, refl, sym, ap, ap₂, subst, ◌∙◌, arith}
use Rattle.std.specs.Prelude.{All, IfSome, is_some}
use Rattle.std.specs.List.{Contains, list_any, remove}
use Rattle.std.proofs.lemmas.Bool.{and_parts, eqb-true, or_right}
use Rattle.std.proofs.lemmas.List.{drop_all, take-append-drop, take_all}
use Rattle.std.proofs.lemmas.List.Elements.{All-append, All-cons, All-contains, All-contains_itself, All-nil, All-tail, All-take, All-weaker, Contains-append_left, Contains-append_right}
use Rattle.cs_meet.proofs.Passes.{next_is}
use Rattle.cs_engine.specs.HeldRanges.{HoldsMore, IsFirstOf, IsWithout, OnlyGoes, PassesAt, bytes_of_range, is_kind, is_range, range_bytes}
use Rattle.cs_engine.specs.declared.held.HeldKind.{HeldKind}
use Rattle.cs_engine.specs.declared.held.HeldRange.{HeldRange}
use Rattle.cs_engine.specs.declared.held.Holding.{Holding}
use Rattle.cs_engine.specs.declared.held.TheConstants.{MAX_HELD_BYTES}

-- ---- tests
pub none_more : {X : Type 0} (t : X → Bool) (xs : List X) (i : ℕ) (x : X) → i < length xs → x ≡ get_or xs i x → t x ≡ false
    → list_any t xs ≡ list_any t (drop i xs) → list_any t xs ≡ list_any t (drop (i + 1) xs)
none_more t xs i x l is fails so_far = so_far ∙ ap (list_any t) (next_is xs i x l is) ∙ ap (λ b. b || list_any t (drop (i + 1) xs)) fails

pub none_left : {X : Type 0} (t : X → Bool) (xs : List X) (n : ℕ) → length xs ≤ n → list_any t xs ≡ list_any t (drop n xs) → list_any t xs ≡ false
none_left t xs n le so_far = so_far ∙ ap (list_any t) (drop_all n xs le)

any_at : {X : Type 0} (t : X → Bool) (xs : List X) (k : ℕ) → PassesAt t xs k → list_any t xs ≡ true
any_at t [] k at = absurd (let l = at.0 in omega (arith, l))
any_at t (x ∷ xs) zero at = ap (λ b. b || list_any t xs) (at.1 x)
any_at t (x ∷ xs) (suc k) at = or_right (t x) (list_any t xs) (any_at t xs k ((let l = at.0 in omega (arith, l)), at.1))

pub any_placed : {X : Type 0} (t : X → Bool) (xs : List X) (o : Option ℕ) → (o ≡ None → list_any t xs ≡ false) → IfSome o (PassesAt t xs)
    → is_some o ≡ list_any t xs
any_placed t xs None none some = sym (none refl)
any_placed t xs (Some k) none some = sym (any_at t xs k some)

-- ---- bytes
pub bytes_more : (xs : List HeldRange) (i : ℕ) (x : HeldRange) → i < length xs → x ≡ get_or xs i x
    → range_bytes (take (i + 1) xs) ≡ range_bytes (take i xs) + bytes_of_range x
bytes_more [] i x l is = absurd (omega (arith, l))
bytes_more (y ∷ ys) zero x l is = let same = ap bytes_of_range is in omega (arith, same)
bytes_more (y ∷ ys) (suc i) x l is =
    let more : suc i + 1 ≡ suc (i + 1) = omega arith in
    let rest = bytes_more ys i x (omega (arith, l)) is in
    ap (λ n. range_bytes (take n (y ∷ ys))) more ∙ omega (arith, rest)

pub range_bytes_both : (xs ys : List HeldRange) → range_bytes (xs ++ ys) ≡ range_bytes xs + range_bytes ys
range_bytes_both [] ys = omega arith
range_bytes_both (x ∷ xs) ys = let rest = range_bytes_both xs ys in omega (arith, rest)

-- ---- one is taken out
pub range_taken : (old new : List HeldRange) (k lo hi : ℕ) (kind : HeldKind) (r : HeldRange) → PassesAt (is_range lo hi kind) old k → r ≡ get_or old k r → new ≡ remove old k
    → IsWithout (record { low = lo; high = hi; what = r.what }) old new × (is_kind kind r.what ≡ true)
range_taken old new k lo hi kind r at is left =
    let passes : is_range lo hi kind r ≡ true = ap (is_range lo hi kind) is ∙ at.1 r in
    let parts = and_parts (r.low == lo && r.high == hi) (is_kind kind r.what) passes in
    let ends = and_parts (r.low == lo) (r.high == hi) parts.0 in
    let same : r ≡ record { low = lo; high = hi; what = r.what } = ap₂ (λ l h. let x : HeldRange = record { low = l; high = h; what = r.what } in x)
    (eqb-true r.low lo ends.0) (eqb-true r.high hi ends.1) in (
      record {
        before = take k old;
        behind = drop (k + 1) old;
        was = sym (take-append-drop k old) ∙ ap (λ xs. take k old ++ xs) (next_is old k r at.0 is) ∙ ap (λ x. take k old ++ x ∷ drop (k + 1) old) same;
        now = left ∙ (let more : suc k ≡ k + 1 = omega arith in ap (λ n. take k old ++ drop n old) more);
      },
      parts.1,
    )

module _ {r : HeldRange} {old new : List HeldRange} (w : IsWithout r old new) where
  pub less_held : range_bytes new ≤ range_bytes old
  less_held =
      let a = range_bytes_both w.before w.behind in
      let b = range_bytes_both w.before (r ∷ w.behind) in
      let left = ap range_bytes w.now in
      let had = ap range_bytes w.was in
      omega (arith, a, b, left, had)

  in_old : Contains old r
  in_old = subst (λ xs. Contains xs r) (sym w.was) (Contains-append_right w.before (r ∷ w.behind) r (first w.behind))
    where
      first : (xs : List HeldRange) → Contains (r ∷ xs) r
      first xs = (0, omega arith, refl)

  pub was_held : (P : HeldRange → Type 0) → All P old → P r
  was_held P all = All-contains P old r all in_old

  pub others_go : OnlyGoes old new
  others_go =
      let itself = subst (λ xs. All (Contains xs) xs) w.was (All-contains_itself old) in
      let each : All (Contains (w.before ++ r ∷ w.behind)) (w.before ++ w.behind) = All-append (Contains (w.before ++ r ∷ w.behind)) w.before w.behind
      (front (Contains (w.before ++ r ∷ w.behind)) w.before (r ∷ w.behind) itself)
      (All-tail (Contains (w.before ++ r ∷ w.behind)) r w.behind (back (Contains (w.before ++ r ∷ w.behind)) w.before (r ∷ w.behind) itself)) in
      subst (λ xs. All (Contains old) xs) (sym w.now) (subst (λ xs. All (Contains xs) (w.before ++ w.behind)) (sym w.was) each)
    where
      front : (P : HeldRange → Type 0) (xs ys : List HeldRange) → All P (xs ++ ys) → All P xs
      front P xs ys all = All-weaker (Contains xs) P (λ x has. All-contains P (xs ++ ys) x all (Contains-append_left xs ys x has)) xs (All-contains_itself xs)

      back : (P : HeldRange → Type 0) (xs ys : List HeldRange) → All P (xs ++ ys) → All P ys
      back P xs ys all = All-weaker (Contains ys) P (λ x has. All-contains P (xs ++ ys) x all (Contains-append_right xs ys x has)) ys (All-contains_itself ys)

pub still_held : (P : HeldRange → Type 0) (old new : List HeldRange) → OnlyGoes old new → All P old → All P new
still_held P old new goes all = All-weaker (Contains old) P (λ x has. All-contains P old x all has) new goes

pub goes_by : (o : Option Holding) (lo hi : ℕ) (kind : HeldKind) {old new : List HeldRange}
    → (o ≡ None → (new ≡ old) × (list_any (is_range lo hi kind) old ≡ false))
    → IfSome o (λ w. IsWithout (record { low = lo; high = hi; what = w }) old new × (is_kind kind w ≡ true)) → OnlyGoes old new
goes_by None lo hi kind {old} none some = subst (OnlyGoes old) (sym (none refl).0) (All-contains_itself old)
goes_by (Some w) lo hi kind none some = others_go some.0

-- ---- one more is held
pub held_more : (P : HeldRange → Type 0) {r : HeldRange} {old new : List HeldRange} → HoldsMore r old new → P r → All P old → All P new
held_more P (inl same) one all = subst (All P) (sym same) all
held_more P {r} {old} (inr first) one all = subst (All P) (sym first.are) (All-take P first.many (r ∷ old) (All-cons P r old one all))

-- ---- as many as have room
pub all_within : (xs : List HeldRange) (n : ℕ) → length xs ≤ n → range_bytes (take n xs) ≤ MAX_HELD_BYTES → IsFirstOf xs (take (length xs) xs)
all_within xs n le few = record {
  many = length xs;
  within = omega arith;
  are = refl;
  room = subst (λ ys. range_bytes ys ≤ MAX_HELD_BYTES) (take_all n xs le ∙ sym (take_all (length xs) xs (omega arith))) few;
  full = λ lt. absurd (omega (arith, lt));
}

-- ---- all may go
pub held_if : (P : HeldRange → Type 0) (wanted : Bool) (old : List HeldRange) {new : List HeldRange} → new ≡ (if wanted then [] else old) → All P old → All P new
held_if P true old none all = subst (All P) (sym none) (All-nil P)
held_if P false old same all = subst (All P) (sym same) all
