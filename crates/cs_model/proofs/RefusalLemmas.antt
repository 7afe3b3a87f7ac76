-- The first refusal of a text, as a relation and as a value.
--
--   take_take              a prefix of a prefix
--   AcceptedTo cs n        each prefix of at most n characters is accepted
--   accepted_is_none       the accepted texts are those with no first refusal
--   refused_is_first       a text is refused at its first refusal alone
use Rattle.std.proofs.Common.{◌≡◌, ℕ, zero, suc, ◌<◌, ◌≤◌, ◌+◌, List, [], ◌∷◌, inl, inr, length, take, map, refl, ap, ◌∙◌, sym, arith, Option, Some, None}
use Rattle.std.specs.Prelude.{◌↔◌}
use Rattle.std.specs.List.{range_with_len}
use Rattle.std.specs.Option.{option_map, option_or}
use Rattle.std.proofs.lemmas.List.{length-take}
use Rattle.std.proofs.lemmas.Bool.{cases_lt}
use borrow.Author.Count.{below_more}
use Rattle.cs_model.specs.Tokens.{tokens}
use Rattle.cs_model.specs.Refusals.{QueryRefusal, verdict, place_of, IsAccepted, IsRefused}
use Rattle.cs_model.specs.First.{first_reason}
use Rattle.cs_model.specs.FirstRefusal.{with_place, refusal_at, first_refusal}
use Rattle.cs_model.proofs.FirstLemmas.{first-range}

pub take_take : (k n : ℕ) (s : List ℕ) → k ≤ n → take k (take n s) ≡ take k s
take_take zero n s h = refl
take_take (suc k) zero s h = absurd (omega arith)
take_take (suc k) (suc n) [] h = refl
take_take (suc k) (suc n) (x ∷ s) h = ap (λ l. x ∷ l) (take_take k n s (omega arith))

-- each prefix of at most n characters is accepted
abbrev pub AcceptedTo : List ℕ → ℕ → Type 0
AcceptedTo cs n = (k : ℕ) → k ≤ n → verdict (tokens (take k cs)) ≡ None

module _ {X : Type 0} where
  map_none : {Y : Type 0} (f : X → Y) (o : Option X) → option_map f o ≡ None → o ≡ None
  map_none f None h = refl
  map_none f (Some x) h = cc

  or_none_first : (a b : Option X) → option_or a b ≡ None → a ≡ None
  or_none_first None b h = refl
  or_none_first (Some x) b h = cc

  or_none_second : (a b : Option X) → option_or a b ≡ None → b ≡ None
  or_none_second None b h = h
  or_none_second (Some x) b h = cc

-- the first refusal among the first n characters
abbrev refusal_among : List ℕ → ℕ → Option (ℕ × QueryRefusal)
refusal_among cs n = first_reason (map (refusal_at cs) (range_with_len 0 n))

one_more : (cs : List ℕ) (n : ℕ) → refusal_among cs (suc n) ≡ option_or (refusal_among cs n) (refusal_at cs n)
one_more cs n = let last : 0 + n ≡ n = omega arith in first-range (refusal_at cs) 0 n ∙ ap (λ k. option_or (refusal_among cs n) (refusal_at cs k)) last

none_among : (cs : List ℕ) (n : ℕ) → AcceptedTo cs n → refusal_among cs n ≡ None
none_among cs zero h = refl
none_among cs (suc n) h =
    let next : verdict (tokens (take (n + 1) cs)) ≡ None = h (n + 1) (omega arith) in
    one_more cs n ∙ ap (λ o. option_or o (refusal_at cs n)) (none_among cs n (λ k le. h k (omega arith))) ∙ ap (option_map (with_place cs n)) next

among_none : (cs : List ℕ) (n : ℕ) → refusal_among cs n ≡ None → AcceptedTo cs n
among_none cs zero h k le = let none : k ≡ 0 = omega arith in rw none refl
among_none cs (suc n) h k le =
    let both : option_or (refusal_among cs n) (refusal_at cs n) ≡ None = sym (one_more cs n) ∙ h in
    let before = among_none cs n (or_none_first _ _ both) in
    let here : verdict (tokens (take (n + 1) cs)) ≡ None = map_none (with_place cs n) (verdict (tokens (take (n + 1) cs))) (or_none_second (refusal_among cs n) (refusal_at cs n) both) in
    let P : ℕ → Type 0 = λ j. verdict (tokens (take j cs)) ≡ None in
    below_more P (n + 1) (λ j lt. before j (omega arith)) here k (omega arith)

-- the first refusal among n characters is that of the character behind count
record Found (cs : List ℕ) (n at : ℕ) (f : QueryRefusal) : Type 0 where
  count : ℕ
  within : count < n
  place : at ≡ place_of cs count
  before : AcceptedTo cs count
  here : verdict (tokens (take (count + 1) cs)) ≡ Some f

found_here : (cs : List ℕ) (n at : ℕ) (f : QueryRefusal) (o : Option QueryRefusal) → verdict (tokens (take (n + 1) cs)) ≡ o → AcceptedTo cs n
    → option_map (with_place cs n) o ≡ Some (at, f) → Found cs (suc n) at f
found_here cs n at f None e before h = cc
found_here cs n at f (Some g) e before h = let same : with_place cs n g ≡ (at, f) = cc in
    record { count = n; within = omega arith; place = sym (ap (λ p. p.0) same); before = before; here = e ∙ ap (λ p. Some p.1) same }

found_first : (cs : List ℕ) (n at : ℕ) (f : QueryRefusal) (a : Option (ℕ × QueryRefusal)) → refusal_among cs n ≡ a → (a ≡ Some (at, f) → Found cs n at f)
    → option_or a (refusal_at cs n) ≡ Some (at, f) → Found cs (suc n) at f
found_first cs n at f None e g h = found_here cs n at f (verdict (tokens (take (n + 1) cs))) refl (among_none cs n e) h
found_first cs n at f (Some x) e g h = let r = g h in
    record { count = r.count; within = omega (arith, r.within); place = r.place; before = r.before; here = r.here }

found : (cs : List ℕ) (n at : ℕ) (f : QueryRefusal) → refusal_among cs n ≡ Some (at, f) → Found cs n at f
found cs zero at f h = cc
found cs (suc n) at f h = found_first cs n at f (refusal_among cs n) refl (found cs n at f) (sym (one_more cs n) ∙ h)

first_among : (cs : List ℕ) (n count : ℕ) (f : QueryRefusal) → count < n → AcceptedTo cs count → verdict (tokens (take (count + 1) cs)) ≡ Some f
    → refusal_among cs n ≡ Some (place_of cs count, f)
first_among cs zero count f lt before here = absurd (omega arith)
first_among cs (suc n) count f lt before here =
    one_more cs n ∙ elim (cases_lt count n) as (λ _. option_or (refusal_among cs n) (refusal_at cs n) ≡ Some (place_of cs count, f)) [
      | inl earlier ↦ ap (λ o. option_or o (refusal_at cs n)) (first_among cs n count f earlier before here)
      | inr later ↦ let last : count ≡ n = omega (arith, lt, later) in ap (λ o. option_or o (refusal_at cs n)) (none_among cs n (λ k le. before k (omega arith)))
          ∙ ap (refusal_at cs) (sym last) ∙ ap (option_map (with_place cs count)) here
    ]

pub accepted_is_none : (cs : List ℕ) → IsAccepted cs ↔ (first_refusal cs ≡ None)
accepted_is_none cs = (none_among cs (length cs), among_none cs (length cs))

first_of_refused : (cs : List ℕ) (at : ℕ) (f : QueryRefusal) → IsRefused cs at f → first_refusal cs ≡ Some (at, f)
first_of_refused cs at f r =
    let n : ℕ = r.count in
    let whole : length (take n cs) ≡ n = omega (arith, length-take n cs, r.within) in
    let before : AcceptedTo cs n = λ k le. ap (λ x. verdict (tokens x)) (sym (take_take k n cs le)) ∙ r.before k (omega (arith, whole)) in
    first_among cs (length cs) n f r.within before r.here ∙ ap (λ p. Some (p, f)) (sym r.place)

refused_of_first : (cs : List ℕ) (at : ℕ) (f : QueryRefusal) → first_refusal cs ≡ Some (at, f) → IsRefused cs at f
refused_of_first cs at f h =
    let r = found cs (length cs) at f h in
    record {
      count = r.count;
      within = r.within;
      place = r.place;
      before = λ k le. let short : k ≤ r.count = omega (arith, length-take r.count cs) in
          ap (λ x. verdict (tokens x)) (take_take k r.count cs short) ∙ r.before k short;
      here = r.here;
    }

pub refused_is_first : (cs : List ℕ) (at : ℕ) (f : QueryRefusal) → IsRefused cs at f ↔ (first_refusal cs ≡ Some (at, f))
refused_is_first cs at f = (first_of_refused cs at f, refused_of_first cs at f)
