-- Lefts by their numbers, how they follow a map, and what they weigh.
--
--   held_within, set_at, held_set, unset_at, none_there, padded_at     reading and setting a slot
--   length-slots_of, slots_at, kept_at, updated_at           the slots of a look-up by number
--   none_in, some_in                                         a map without entries, and one with some
--   removed, added, replaced, and what lies below then       the slots of a map that changed at one key
--   padded_weight, set_weight                                weighing
use Rattle.std.proofs.Common.{◌≡◌, ℕ, suc, ◌+◌, ◌-◌, ◌<◌, ◌≤◌, ◌==◌, true, false, cond, List, [], ◌∷◌, ◌++◌, length, length-append, slice_set, refl, sym, ◌∙◌, ap, arith}
use Prim.Native.Nat.{zero}
use Rattle.std.specs.Prelude.{Option, Some, None, is_some, replicate}
use Rattle.std.specs.BTreeMap.{BTreeMap, Updates, get, is_at}
use Rattle.std.specs.Cmp.{unsigned_tied}
use Rattle.std.specs.Map.{lookup}
use Rattle.std.specs.Ordering.{nat_cmp}
use Rattle.std.proofs.lemmas.List.{ext_get_or, get_or-set_same, get_or-set_other, length-replicate, length-set, set-get_or}
use Rattle.std.proofs.lemmas.List.Sums.{sum_by-set, sum_by-append}
use Rattle.std.proofs.lemmas.List.Folds.{sum_by-replicate}
use Rattle.cs_model_serving.specs.Connections.{Left}
use Rattle.cs_hub.specs.HubFollowing.{AreKeptBelow, Lefts, left_at, slots_of}
use Rattle.cs_hub.specs.Rounds.{IsAdded, weight, to_come}
use Rattle.cs_hub.proofs.SpeakLemmas.{itself, by_conn, differs, same_conn}

-- ---- reading
pub held_within : (xs : Lefts) (c : ℕ) → is_some (left_at xs c) ≡ true → c < length xs
held_within [] c h = absurd cc
held_within (x ∷ xs) zero h = omega arith
held_within (x ∷ xs) (suc c) h = let l = held_within xs c h in omega (arith, l)

pub set_at : (xs : Lefts) (c d : ℕ) (x : Option Left) → c < length xs → left_at (slice_set xs c x) d ≡ cond (d == c) x (left_at xs d)
set_at xs c d x h = by_conn (λ d. left_at (slice_set xs c x) d ≡ cond (d == c) x (left_at xs d)) c d
    (get_or-set_same xs c x None h ∙ sym (ap (λ b. cond b x (left_at xs c)) (itself c)))
    (λ other. get_or-set_other xs c d x None (differs d c other) ∙ sym (ap (λ b. cond b x (left_at xs d)) other))

pub held_set : (xs ys : Lefts) (c : ℕ) (l : Left) → is_some (left_at xs c) ≡ true → ys ≡ slice_set xs c (Some l) → is_some (left_at ys c) ≡ true
held_set xs ys c l h e =
    ap (λ k. is_some (left_at k c)) e ∙ ap is_some (set_at xs c c (Some l) (held_within xs c h))
    ∙ ap (λ b. is_some (cond b (Some l) (left_at xs c))) (itself c)

pub none_there : (core : Lefts) (c d : ℕ) → left_at core c ≡ None → left_at core d ≡ cond (d == c) None (left_at core d)
none_there core c d h =
    by_conn (λ d. left_at core d ≡ cond (d == c) None (left_at core d)) c d (h ∙ sym (ap (λ x. cond x None (left_at core c)) (itself c)))
    (λ other. sym (ap (λ x. cond x None (left_at core d)) other))

-- where nothing is, nothing is taken out
pub unset_at : (xs : Lefts) (c d : ℕ) → left_at (slice_set xs c None) d ≡ cond (d == c) None (left_at xs d)
unset_at xs c d =
    elim (left_at xs c) as (λ x. left_at xs c ≡ x → left_at (slice_set xs c None) d ≡ cond (d == c) None (left_at xs d)) [
      | None ↦ λ e. ap (λ k. left_at k d) (ap (slice_set xs c) (sym e) ∙ set-get_or xs c None) ∙ none_there xs c d e
      | Some l ↦ λ e. set_at xs c d None (held_within xs c (ap is_some e))
    ] refl

none_at : (n d : ℕ) → left_at (replicate n None) d ≡ None
none_at zero d = refl
none_at (suc n) zero = refl
none_at (suc n) (suc d) = none_at n d

pub padded_at : (xs : Lefts) (n d : ℕ) → left_at (xs ++ replicate n None) d ≡ left_at xs d
padded_at [] n d = none_at n d
padded_at (x ∷ xs) n zero = refl
padded_at (x ∷ xs) n (suc d) = padded_at xs n d

-- ---- a look-up by number
pub length-slots_of : (kept : ℕ → Option Left) (n : ℕ) → length (slots_of kept n) ≡ n
length-slots_of kept zero = refl
length-slots_of kept (suc n) = ap suc (length-slots_of (λ c. kept (suc c)) n)

pub slots_at : (kept : ℕ → Option Left) (n : ℕ) → AreKeptBelow kept n → (d : ℕ) → left_at (slots_of kept n) d ≡ kept d
slots_at kept zero below d = elim (kept d) as (λ x. kept d ≡ x → None ≡ x) [
  | None ↦ λ e. refl
  | Some l ↦ λ e. absurd (let h = below d (ap is_some e) in omega (arith, h))
] refl
slots_at kept (suc n) below zero = refl
slots_at kept (suc n) below (suc d) = slots_at (λ c. kept (suc c)) n (λ c h. let e = below (suc c) h in omega (arith, e)) d

pub kept_at : (m : BTreeMap ℕ Left) (n : ℕ) (xs : Lefts) (c : ℕ) → AreKeptBelow (get nat_cmp m) n → slots_of (get nat_cmp m) n ≡ xs → left_at xs c ≡ get nat_cmp m c
kept_at m n xs c below e = ap (λ k. left_at k c) (sym e) ∙ slots_at (get nat_cmp m) n below c

-- the entries of a map that has none, or some
pub none_in : (es : List (ℕ × Left)) → (0 < length es → ⊥) → (c : ℕ) → lookup (is_at (nat_cmp c)) es ≡ None
none_in [] h c = refl
none_in (e ∷ es) h c = absurd (h (omega arith))

pub some_in : (es : List (ℕ × Left)) → (length es ≡ 0 → ⊥) → (c : ℕ) × (is_some (lookup (is_at (nat_cmp c)) es) ≡ true)
some_in [] h = absurd (h refl)
some_in (e ∷ es) h = (e.0, ap (λ b. is_some (cond b (Some e.1) (lookup (is_at (nat_cmp e.0)) es))) (unsigned_tied e.0 e.0 ∙ itself e.0))

-- slots with the same at each number are the same
same_slots : (xs : Lefts) (kept : ℕ → Option Left) (n : ℕ) → AreKeptBelow kept n → length xs ≡ n → ((d : ℕ) → kept d ≡ left_at xs d) → slots_of kept n ≡ xs
same_slots xs kept n below h same =
    ext_get_or None (slots_of kept n) xs (length-slots_of kept n ∙ sym h) (λ d within. slots_at kept n below d ∙ same d)

flipped : (c d : ℕ) → (d == c) ≡ false → (c == d) ≡ false
flipped c d h =
    elim (c == d) as (λ b. (c == d) ≡ b → b ≡ false) [ true ↦ λ e. absurd (differs d c h (sym (same_conn c d e))) | false ↦ λ e. refl ] refl

-- what a map has behind a change at one key
pub updated_at : (m m' : BTreeMap ℕ Left) (c : ℕ) (x : Option Left) → Updates nat_cmp m m' c x → (d : ℕ)
    → get nat_cmp m' d ≡ cond (d == c) x (get nat_cmp m d)
updated_at m m' c x u d =
    by_conn (λ d. get nat_cmp m' d ≡ cond (d == c) x (get nat_cmp m d)) c d
    (u.1 ∙ sym (ap (λ b. cond b x (get nat_cmp m c)) (itself c)))
    (λ other. u.2 d (unsigned_tied c d ∙ flipped c d other) ∙ sym (ap (λ b. cond b x (get nat_cmp m d)) other))

-- a slot is set where the map changes at its number
at_slot : (kept kept' : ℕ → Option Left) (n c : ℕ) (x : Option Left) → AreKeptBelow kept n → ((d : ℕ) → kept' d ≡ cond (d == c) x (kept d)) → (d : ℕ)
    → kept' d ≡ cond (d == c) x (left_at (slots_of kept n) d)
at_slot kept kept' n c x below sets d = sets d ∙ ap (cond (d == c) x) (sym (slots_at kept n below d))

below_set : (kept kept' : ℕ → Option Left) (n n' c : ℕ) (x : Option Left) → AreKeptBelow kept n → ((d : ℕ) → kept' d ≡ cond (d == c) x (kept d)) → n ≤ n'
    → (is_some x ≡ true → c < n') → AreKeptBelow kept' n'
below_set kept kept' n n' c x below sets more within = λ d.
    by_conn (λ d. is_some (kept' d) ≡ true → d < n') c d
    (λ h. within (sym (ap is_some (sets c ∙ ap (λ b. cond b x (kept c)) (itself c))) ∙ h))
    (λ other h. let e = below d (sym (ap is_some (sets d ∙ ap (λ b. cond b x (kept d)) other)) ∙ h) in omega (arith, e, more))

pub removed_below : (m m' : BTreeMap ℕ Left) (n c : ℕ) → AreKeptBelow (get nat_cmp m) n → Updates nat_cmp m m' c None → AreKeptBelow (get nat_cmp m') n
removed_below m m' n c below u =
    below_set (get nat_cmp m) (get nat_cmp m') n n c None below (updated_at m m' c None u) (omega arith) (λ h. absurd cc)

pub removed : (m m' : BTreeMap ℕ Left) (n c : ℕ) → AreKeptBelow (get nat_cmp m) n → Updates nat_cmp m m' c None
    → slots_of (get nat_cmp m') n ≡ slice_set (slots_of (get nat_cmp m) n) c None
removed m m' n c below u =
    let xs : Lefts = slots_of (get nat_cmp m) n in
    same_slots (slice_set xs c None) (get nat_cmp m') n (removed_below m m' n c below u) (length-set xs c None ∙ length-slots_of (get nat_cmp m) n)
    (λ d. at_slot (get nat_cmp m) (get nat_cmp m') n c None below (updated_at m m' c None u) d ∙ sym (unset_at xs c d))

pub added_below : (m m' : BTreeMap ℕ Left) (n n' c : ℕ) (l : Left) → AreKeptBelow (get nat_cmp m) n → Updates nat_cmp m m' c (Some l) → n ≤ n' → c < n'
    → AreKeptBelow (get nat_cmp m') n'
added_below m m' n n' c l below u more within =
    below_set (get nat_cmp m) (get nat_cmp m') n n' c (Some l) below (updated_at m m' c (Some l) u) more (λ h. within)

pub added : (m m' : BTreeMap ℕ Left) (n n' c : ℕ) (l : Left) → AreKeptBelow (get nat_cmp m) n → Updates nat_cmp m m' c (Some l) → n ≤ n' → c < n'
    → IsAdded (slots_of (get nat_cmp m) n) c l (slots_of (get nat_cmp m') n')
added m m' n n' c l below u more within =
    let xs : Lefts = slots_of (get nat_cmp m) n in
    let ys : Lefts = xs ++ replicate (n' - n) None in
    let len : length ys ≡ n' = omega (
      arith,
      length-append xs (replicate (n' - n) None),
      length-replicate {A = Option Left} (n' - n) None,
      length-slots_of (get nat_cmp m) n,
      more,
    ) in
    let inside : c < length ys = omega (arith, len, within) in (
      n' - n,
      same_slots (slice_set ys c (Some l)) (get nat_cmp m') n' (added_below m m' n n' c l below u more within) (length-set ys c (Some l) ∙ len)
          (λ d. at_slot (get nat_cmp m) (get nat_cmp m') n c (Some l) below (updated_at m m' c (Some l) u) d
          ∙ ap (cond (d == c) (Some l)) (sym (padded_at xs (n' - n) d)) ∙ sym (set_at ys c d (Some l) inside)),
      inside,
    )

pub replaced : (m m' : BTreeMap ℕ Left) (n c : ℕ) (l : Left) → AreKeptBelow (get nat_cmp m) n → Updates nat_cmp m m' c (Some l)
    → is_some (left_at (slots_of (get nat_cmp m) n) c) ≡ true
    → slots_of (get nat_cmp m') n ≡ slice_set (slots_of (get nat_cmp m) n) c (Some l)
replaced m m' n c l below u held =
    let xs : Lefts = slots_of (get nat_cmp m) n in
    let inside : c < length xs = held_within xs c held in
    let within : c < n = omega (arith, inside, length-slots_of (get nat_cmp m) n) in
    same_slots (slice_set xs c (Some l)) (get nat_cmp m') n (added_below m m' n n c l below u (omega arith) within)
    (length-set xs c (Some l) ∙ length-slots_of (get nat_cmp m) n)
    (λ d. at_slot (get nat_cmp m) (get nat_cmp m') n c (Some l) below (updated_at m m' c (Some l) u) d ∙ sym (set_at xs c d (Some l) inside))

-- ---- weighing
pub padded_weight : (xs : Lefts) (n : ℕ) → weight (xs ++ replicate n None) ≡ weight xs
padded_weight xs n = omega (arith, sum_by-append to_come xs (replicate n None), sum_by-replicate to_come n None)

pub set_weight : (xs : Lefts) (c : ℕ) (x : Option Left) → c < length xs → weight (slice_set xs c x) + to_come (left_at xs c) ≡ weight xs + to_come x
set_weight xs c x h = sum_by-set to_come xs c x None h
