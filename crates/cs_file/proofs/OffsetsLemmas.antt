-- Offsets that go on, each from the one before, and the titles between them.
--
--   Onward at last os     offsets behind another one, or behind none, go on
--   onward_zero           the first is 0
--   onward_next           none is less than the one before
--   onward_far            nor than any before it
--   onward_end            none is greater than the last
--   title_at_index        a title lies between its offset and the next
use Rattle.std.proofs.Common.{◌≡◌, ℕ, zero, suc, ◌+◌, ◌-◌, ◌<◌, ◌≤◌, true, List, [], ◌∷◌, length, get_or, Option, Some, None, refl, ap, arith}
use Rattle.std.specs.List.{list_all}
use Rattle.std.specs.Option.{unwrap_or}
use Rattle.std.proofs.lemmas.Bool.{and_parts, leb-true, eqb-true}
use Rattle.std.proofs.lemmas.Option.{unwrap_or-slice_get}
use Rattle.cs_model_index.specs.FileRules.{laid, last_value, is_onward}
use Rattle.cs_model_index.specs.Sections.{title_between, titles_in}
use Rattle.cs_model_index.specs.declared.limits.TheConstants.{NUMBER_BYTES}
use Rattle.cs_file.specs.Indexes.{IndexView, IsIndex, titles_end}

abbrev pub Onward : ℕ → Option ℕ → List ℕ → Type 0
Onward at last os = list_all (λ p. is_onward p.last p.value) (laid (λ o. NUMBER_BYTES) at last os) ≡ true

onward_rest : (at : ℕ) (last : Option ℕ) (o : ℕ) (os : List ℕ) → Onward at last (o ∷ os) → Onward (at + NUMBER_BYTES) (Some o) os
unfolding laid
onward_rest at last o os h = (and_parts (is_onward last o)
    (list_all (λ p. is_onward p.last p.value) (laid (λ o. NUMBER_BYTES) (at + NUMBER_BYTES) (Some o) os)) h).1

onward_first : (at : ℕ) (p o : ℕ) (os : List ℕ) → Onward at (Some p) (o ∷ os) → p ≤ o
unfolding laid
onward_first at p o os h =
    let q = and_parts (is_onward (Some p) o) (list_all (λ p. is_onward p.last p.value) (laid (λ o. NUMBER_BYTES) (at + NUMBER_BYTES) (Some o) os)) h in
    leb-true _ _ (and_parts _ _ q.0).0

pub onward_zero : (at : ℕ) (os : List ℕ) → Onward at None os → 0 < length os → get_or os 0 0 ≡ 0
unfolding laid
onward_zero at [] h lt = absurd (omega arith)
onward_zero at (o ∷ os) h lt = eqb-true _ _ (and_parts (is_onward None o)
    (list_all (λ p. is_onward p.last p.value) (laid (λ o. NUMBER_BYTES) (at + NUMBER_BYTES) (Some o) os)) h).0

pub onward_next : (at : ℕ) (last : Option ℕ) (os : List ℕ) (k : ℕ) → Onward at last os → suc k < length os → get_or os k 0 ≤ get_or os (suc k) 0
onward_next at last [] k h lt = absurd (omega arith)
onward_next at last (o ∷ []) k h lt = absurd (omega arith)
onward_next at last (o ∷ p ∷ os) zero h lt = onward_first (at + NUMBER_BYTES) o p os (onward_rest at last o (p ∷ os) h)
onward_next at last (o ∷ p ∷ os) (suc k) h lt = onward_next (at + NUMBER_BYTES) (Some o) (p ∷ os) k (onward_rest at last o (p ∷ os) h) (omega arith)

pub onward_far : (at : ℕ) (last : Option ℕ) (os : List ℕ) (k m : ℕ) → Onward at last os → k + m < length os → get_or os k 0 ≤ get_or os (k + m) 0
onward_far at last os k zero h lt = let e : k + zero ≡ k = omega arith in rw e (omega arith)
onward_far at last os k (suc m) h lt =
    let far : get_or os k 0 ≤ get_or os (k + m) 0 = onward_far at last os k m h (omega arith) in
    let next : get_or os (k + m) 0 ≤ get_or os (suc (k + m)) 0 = onward_next at last os (k + m) h (omega arith) in
    let e : k + suc m ≡ suc (k + m) = omega arith in
    rw e (omega (arith, far, next))

pub onward_end : (at : ℕ) (last : Option ℕ) (os : List ℕ) (k : ℕ) → Onward at last os → k < length os → get_or os k 0 ≤ unwrap_or (last_value os) 0
onward_end at last os k h lt =
    let far = onward_far at last os k (length os - 1 - k) h (omega arith) in
    let e : k + (length os - 1 - k) ≡ length os - 1 = omega arith in
    let same : unwrap_or (last_value os) 0 ≡ get_or os (length os - 1) 0 = unwrap_or-slice_get os (length os - 1) 0 in
    let there : get_or os (k + (length os - 1 - k)) 0 ≡ get_or os (length os - 1) 0 = ap (λ (n : ℕ). get_or os n 0) e in
    omega (arith, far, there, same)

-- ---- titles
pub title_at_index : (os bytes : List ℕ) (d : ℕ) → suc d < length os
    → get_or (titles_in os bytes) d [] ≡ title_between bytes (get_or os d 0, get_or os (suc d) 0)
title_at_index [] bytes d lt = absurd (omega arith)
title_at_index (o ∷ []) bytes d lt = absurd (omega arith)
title_at_index (o ∷ p ∷ os) bytes zero lt = refl
title_at_index (o ∷ p ∷ os) bytes (suc d) lt = title_at_index (p ∷ os) bytes d (omega arith)

-- ---- those of an index
-- where one title begins and ends
pub record Spans (i : IndexView) (d : ℕ) : Type 0 where
  pub known : suc d < length i.offsets
  pub onward : get_or i.offsets d 0 ≤ get_or i.offsets (d + 1) 0
  pub within : get_or i.offsets (d + 1) 0 ≤ titles_end i
  pub blocks : i.titles_at + titles_end i ≤ i.blocks_at

pub spans : (i : IndexView) → IsIndex i → (d : ℕ) → d < i.docs → Spans i d
spans i is d lt =
    let count = is.offsets in
    let known : suc d < length i.offsets = omega (arith, count) in
    let one : d + 1 ≡ suc d = omega arith in
    let place = is.blocks_place.1 in
    record {
      known = known;
      onward = rw one (onward_next 0 None i.offsets d is.onward known);
      within = rw one (onward_end 0 None i.offsets (suc d) is.onward known);
      blocks = omega (arith, place);
    }
