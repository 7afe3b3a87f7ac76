-- Codes and what is read of them, both ways.
--
--   read_in k first bytes   what is read in at most k bytes, one byte at a time; first says whether none stands before them
--   read_looked, gap_read   what stands at the front is what is read so
--   IsBytes                 numbers below 256
--   gap_again, gap_takes    the code of a number is read as that number, and what is read as a number is its code
--   first_found, found_first, one_spelling    the laws
use Rattle.std.proofs.Common.{◌≡◌, ℕ, zero, suc, ◌+◌, ◌*◌, ◌/◌, ◌%◌, ◌^◌, ◌<◌, ◌≤◌, ◌⊎◌, Bool, true, false, not, ◌&&◌, ◌||◌, cond, eqb, ltb, List, [], ◌∷◌, ◌++◌, length, get_or, drop, Some, None, nat_eq, refl, sym, ap, subst, ◌∙◌, arith, inl, inr}
use Rattle.std.proofs.lemmas.Bool.{ltb-true, cases_lt, cases_Bool, lt-ltb, le-ltb, eqb-false, ne_eqb, and_right}
use Rattle.std.proofs.lemmas.List.{append_cancel_left, get_or-drop, length-append, length-drop}
use Rattle.std.proofs.lemmas.Nat.{div_below}
use Rattle.std.specs.List.{starts_with}
use Rattle.std.proofs.lemmas.Slice.Eq.{starts_is}
use Rattle.std.proofs.Math.Bool.{or-true}
use Rattle.std.proofs.Math.Nat.{pow-suc, one-le-pow}
use Rattle.std.proofs.lemmas.Bool.Decides.{nat_tests, Decides-eqb}
use Rattle.cs_base.specs.index.GapCode.{code_in, code, looked_at, value_of, first_code}
use Rattle.cs_gaps.specs.declared.gap.Gap.{Gap}
use Rattle.cs_gaps.specs.declared.gap.Gap.TheVariants.{Is, Cut, Long, Big}
use Rattle.cs_gaps.specs.Reading.{gap_at, moved, last_byte, StandsAt}

abbrev pub IsBytes : List ℕ → Type 0
IsBytes bytes = (i : ℕ) → get_or bytes i 0 < 256

pub IsBytes-rest : (b : ℕ) (bytes : List ℕ) → IsBytes (b ∷ bytes) → IsBytes bytes
IsBytes-rest b bytes h i = h (suc i)

-- ---- reading one byte at a time

-- one more byte in front of what was read
abbrev pub onto : ℕ → Gap → Gap
onto b (Is n next) = Is (b % 128 + 128 * n) (next + 1)
onto b Cut = Cut
onto b Long = Long
onto b Big = Big

-- a last byte
abbrev pub last : Bool → ℕ → Gap
last first b = cond (eqb b 0 && not first) Long (Is b 1)

unfoldable pub read_in : ℕ → Bool → List ℕ → Gap
read_in zero first bytes = Big
read_in (suc k) first [] = Cut
read_in (suc k) first (b ∷ bytes) = cond (ltb b 128) (last first b) (onto b (read_in k false bytes))

-- no number from 2^32 on
abbrev pub capped : Gap → Gap
capped (Is n next) = cond (ltb n (2 ^ 32)) (Is n next) Big
capped Cut = Cut
capped Long = Long
capped Big = Big

-- ---- what was looked at, and what is read

-- what the bytes that were looked at make, where no number is too big
abbrev looked_as : ℕ → Bool → List ℕ → Gap
looked_as k first looked = cond (ltb (last_byte looked) 128) (cond (eqb (last_byte looked) 0 && (not first || ltb 1 (length looked))) Long (Is (value_of looked) (length looked))) (cond (eqb (length looked) k) Big Cut)

as_one : (k : ℕ) (first : Bool) (b : ℕ) → b < 128 → last first b ≡ looked_as k first (b ∷ [])
unfolding value_of
as_one k true b lt = rw (lt-ltb b 128 lt) (ap (λ (x : ℕ). cond (eqb b 0 && false) Long (Is x 1)) (omega arith))
as_one k false b lt = rw (lt-ltb b 128 lt) (ap (λ (x : ℕ). cond (eqb b 0 && true) Long (Is x 1)) (omega arith))

through : (b : ℕ) (t z e : Bool) (v l : ℕ) → onto b (cond t (cond z Long (Is v l)) (cond e Big Cut)) ≡ cond t (cond z Long (Is (b % 128 + 128 * v) (suc l))) (cond e Big Cut)
through b true true e v l = refl
through b true false e v l = ap (λ (x : ℕ). Is (b % 128 + 128 * v) x) (omega arith)
through b false z true v l = refl
through b false z false v l = refl

one_less : (a b : ℕ) → eqb (suc a) (suc b) ≡ eqb a b
one_less a b = grind (arith, nat_tests)

as_more : (k : ℕ) (first : Bool) (b : ℕ) (looked : List ℕ) → 128 ≤ b → onto b (looked_as k false looked) ≡ looked_as (suc k) first (b ∷ looked)
unfolding value_of
as_more zero first b [] le = rw (le-ltb b 128 le) refl
as_more (suc k) first b [] le = rw (le-ltb b 128 le, ne_eqb 1 (suc (suc k)) (λ e. omega arith), ne_eqb 0 (suc k) (λ e. omega arith)) refl
as_more k first b (c ∷ looked) le =
    let more : ltb 1 (length (b ∷ c ∷ looked)) ≡ true = lt-ltb 1 (length (b ∷ c ∷ looked)) (omega arith) in
    rw (more, or-true (not first), one_less (length (c ∷ looked)) k) (through b (ltb (last_byte (c ∷ looked)) 128) (eqb (last_byte (c ∷ looked)) 0 && true) (eqb (length (c ∷ looked)) k) (value_of (c ∷ looked)) (length (c ∷ looked)))

pub read_looked : (k : ℕ) (first : Bool) (bytes : List ℕ) → read_in k first bytes ≡ looked_as k first (looked_at k bytes)
unfolding read_in looked_at
read_looked zero first bytes = refl
read_looked (suc k) first [] = rw (ne_eqb 0 (suc k) (λ e. omega arith)) refl
read_looked (suc k) first (b ∷ bytes) =
    elim (cases_lt b 128) [
      | inl lt ↦ rw (lt-ltb b 128 lt) (as_one (suc k) first b lt)
      | inr le ↦ rw (le-ltb b 128 le) (ap (onto b) (read_looked k false bytes) ∙ as_more k first b (looked_at k bytes) le)
    ]

capped_through : (t z e : Bool) (v l : ℕ) → capped (cond t (cond z Long (Is v l)) (cond e Big Cut)) ≡ cond t (cond z Long (cond (ltb v (2 ^ 32)) (Is v l) Big)) (cond e Big Cut)
capped_through true true e v l = refl
capped_through true false e v l = refl
capped_through false z true v l = refl
capped_through false z false v l = refl

pub gap_read : (bytes : List ℕ) → capped (read_in 5 true bytes) ≡ gap_at bytes
unfolding gap_at
gap_read bytes =
    let looked = looked_at 5 bytes in
    ap capped (read_looked 5 true bytes) ∙ capped_through (ltb (last_byte looked) 128) (eqb (last_byte looked) 0 && ltb 1 (length looked)) (eqb (length looked) 5) (value_of looked) (length looked)

abbrev pub May : Bool → ℕ → Type 0
May first n = (first ≡ true) ⊎ (0 < n)

last_is : (first : Bool) (n : ℕ) → May first n → last first n ≡ Is n 1
last_is first n (inl e) = rw e (grind (arith, nat_tests, and_right))
last_is first n (inr h) = rw (ne_eqb n 0 (λ e. omega arith)) refl

one_again : (k : ℕ) (first : Bool) (n : ℕ) (rest : List ℕ) → n < 128 → May first n → read_in (suc k) first (n ∷ rest) ≡ Is n 1
unfolding read_in
one_again k first n rest lt may = rw (lt-ltb n 128 lt) (last_is first n may)

pub code_again : (k : ℕ) (first : Bool) (n : ℕ) (rest : List ℕ) → n < 128 ^ (suc k) → May first n → read_in (suc k) first (code_in k n ++ rest) ≡ Is n (length (code_in k n))
unfolding code_in read_in
code_again zero first n rest lt may = one_again zero first n rest lt may
code_again (suc k) first n rest lt may =
    elim (cases_lt n 128) [
      | inl small ↦ rw (lt-ltb n 128 small) (one_again (suc k) first n rest small may)
      | inr large ↦
          let below : n / 128 < 128 ^ (suc k) = div_below n 128 (128 ^ (suc k)) (omega arith) (subst (λ x. n < x) (pow-suc 128 (suc k)) lt) in
          let positive : 0 < n / 128 = omega arith in
          let again = code_again k false (n / 128) rest below (inr positive) in
          rw (le-ltb n 128 large, le-ltb (n % 128 + 128) 128 (omega arith), again) (ap (λ (x : ℕ). Is x (length (code_in k (n / 128)) + 1)) (omega arith) ∙ ap (λ (x : ℕ). Is n x) (omega arith))
    ]

-- ---- back

-- how far a read goes at k more bytes
pub record IsRead (k : ℕ) (first : Bool) (bytes : List ℕ) (n next : ℕ) : Type 0 where
  pub rest : List ℕ
  pub parts : bytes ≡ code_in k n ++ rest
  pub len : next ≡ length (code_in k n)
  pub below : n < 128 ^ (suc k)
  pub may : May first n

same_number : (n m i j : ℕ) → Is n i ≡ Is m j → n ≡ m
same_number n m i j e = cc

same_place : (n m i j : ℕ) → Is n i ≡ Is m j → i ≡ j
same_place n m i j e = cc

big_not : (n next : ℕ) → Big ≡ Is n next → ⊥
big_not n next e = cc

long_not : (n next : ℕ) → Long ≡ Is n next → ⊥
long_not n next e = cc

last_true : (b n next : ℕ) (t : Bool) → cond (t && false) Long (Is b 1) ≡ Is n next → (b ≡ n) × (next ≡ 1) × May true n
last_true b n next true e = (same_number b n 1 next e, sym (same_place b n 1 next e), inl refl)
last_true b n next false e = (same_number b n 1 next e, sym (same_place b n 1 next e), inl refl)

last_false : (b n next : ℕ) → (eqb b 0 ≡ true) ⊎ (eqb b 0 ≡ false) → cond (eqb b 0 && true) Long (Is b 1) ≡ Is n next → (b ≡ n) × (next ≡ 1) × May false n
last_false b n next (inl t) e = absurd (long_not n next (rw t at e))
last_false b n next (inr f) e =
    let is = rw f at e in
    let same = same_number b n 1 next is in
    let ne = eqb-false b 0 f in
    (same, sym (same_place b n 1 next is), inr (omega arith))

last_read : (first : Bool) (b n next : ℕ) → last first b ≡ Is n next → (b ≡ n) × (next ≡ 1) × May first n
last_read true b n next e = last_true b n next (eqb b 0) e
last_read false b n next e = last_false b n next (cases_Bool (eqb b 0)) e

record Onto (b n next : ℕ) (r : Gap) : Type 0 where
  m : ℕ
  at : ℕ
  was : r ≡ Is m at
  number : n ≡ b % 128 + 128 * m
  place : next ≡ at + 1

onto_read : (b : ℕ) (r : Gap) (n next : ℕ) → onto b r ≡ Is n next → Onto b n next r
onto_read b (Is m at) n next e = record { m = m; at = at; was = refl; number = sym (same_number _ _ _ _ e); place = sym (same_place _ _ _ _ e) }
onto_read b Cut n next e = absurd cc
onto_read b Long n next e = absurd cc
onto_read b Big n next e = absurd cc

positive_from : (n : ℕ) → May false n → 0 < n
positive_from n (inl e) = absurd cc
positive_from n (inr h) = h

pow_at_least : (k : ℕ) → 1 ≤ 128 ^ k
pow_at_least k = one-le-pow k 128 (omega arith)

capped_read : (r : Gap) (n next : ℕ) → capped r ≡ Is n next → (r ≡ Is n next) × (n < 2 ^ 32)
capped_read (Is m at) n next e =
    elim (cases_lt m (2 ^ 32)) [
      | inl lt ↦ (let is = rw (lt-ltb m (2 ^ 32) lt) at e in (is, omega (arith, same_number m n at next is)))
      | inr le ↦ absurd (big_not n next (rw (le-ltb m (2 ^ 32) le) at e))
    ]
capped_read Cut n next e = absurd cc
capped_read Long n next e = absurd cc
capped_read Big n next e = absurd cc

pub takes : (k : ℕ) (first : Bool) (bytes : List ℕ) (n next : ℕ) → IsBytes bytes → read_in (suc k) first bytes ≡ Is n next → IsRead k first bytes n next
unfolding code_in read_in
takes k first [] n next fits e = absurd cc
takes zero first (b ∷ bytes) n next fits e =
    elim (cases_lt b 128) [
      | inl small ↦
          let p = last_read first b n next (rw (lt-ltb b 128 small) at e) in
          record { rest = bytes; parts = ap (λ (x : ℕ). x ∷ bytes) p.0; len = p.1; below = omega (arith, p.0); may = p.2 }
      | inr large ↦ absurd (big_not n next (rw (le-ltb b 128 large) at e))
    ]
takes (suc k) first (b ∷ bytes) n next fits e =
    elim (cases_lt b 128) [
      | inl small ↦
          let p = last_read first b n next (rw (lt-ltb b 128 small) at e) in
          let n_small : n < 128 = omega (arith, p.0) in
          let c : code_in (suc k) n ≡ n ∷ [] = rw (lt-ltb n 128 n_small) refl in
          record {
            rest = bytes;
            parts = rw c (ap (λ (x : ℕ). x ∷ bytes) p.0);
            len = rw c p.1;
            below = omega (arith, n_small, pow-suc 128 (suc k), pow_at_least (suc k));
            may = p.2;
          }
      | inr large ↦
          let o = onto_read b (read_in (suc k) false bytes) n next (rw (le-ltb b 128 large) at e) in
          let t = takes k false bytes o.m o.at (IsBytes-rest b bytes fits) o.was in
          let byte : b < 256 = fits 0 in
          let positive : 0 < o.m = positive_from o.m t.may in
          let number = o.number in
          let big : 128 ≤ n = omega arith in
          let quotient : n / 128 ≡ o.m = omega arith in
          let digit : n % 128 + 128 ≡ b = omega arith in
          let c : code_in (suc k) n ≡ b ∷ code_in k o.m = rw (le-ltb n 128 big, quotient, digit) refl in
          record {
            rest = t.rest;
            parts = rw c (ap (λ (x : List ℕ). b ∷ x) t.parts);
            len = rw c (o.place ∙ ap (λ (x : ℕ). x + 1) t.len ∙ omega arith);
            below = omega (arith, pow-suc 128 (suc k), t.below);
            may = inr (omega arith);
          }
    ]

-- ---- the laws

pub gap_again : (n : ℕ) (rest : List ℕ) → n < 2 ^ 32 → gap_at (code n ++ rest) ≡ Is n (length (code n))
unfolding code
gap_again n rest lt = sym (gap_read (code n ++ rest)) ∙ rw (code_again 4 true n rest (omega arith) (inl refl), lt-ltb n (2 ^ 32) lt) refl

pub record StandsAtFront (n next : ℕ) (bytes : List ℕ) : Type 0 where
  pub rest : List ℕ
  pub parts : bytes ≡ code n ++ rest
  pub len : next ≡ length (code n)
  pub below : n < 2 ^ 32

pub gap_takes : (bytes : List ℕ) (n next : ℕ) → IsBytes bytes → gap_at bytes ≡ Is n next → StandsAtFront n next bytes
unfolding code
gap_takes bytes n next fits e =
    let c = capped_read (read_in 5 true bytes) n next (gap_read bytes ∙ e) in
    let t = takes 4 true bytes n next fits c.0 in
    record { rest = t.rest; parts = t.parts; len = t.len; below = c.1 }

-- No code is a prefix of another: what follows two equal texts is equal, and so are the numbers.
pub one_spelling : (n m : ℕ) (x y : List ℕ) → n < 2 ^ 32 → m < 2 ^ 32 → code n ++ x ≡ code m ++ y → (n ≡ m) × (x ≡ y)
one_spelling n m x y p q e =
    let i : Is n (length (code n)) ≡ Is m (length (code m)) = sym (gap_again n x p) ∙ ap gap_at e ∙ gap_again m y q in
    let same = same_number n m _ _ i in
    (same, append_cancel_left (code m) x y (rw same at e))

pub unmoved : (at n next : ℕ) (r : Gap) → moved at r ≡ Is n next → (k : ℕ) × (r ≡ Is n k) × (next ≡ at + k)
unmoved at n next (Is m k) e = (k, ap (λ (x : ℕ). Is x k) (same_number m n _ _ e), sym (same_place m n _ _ e))
unmoved at n next Cut e = absurd cc
unmoved at n next Long e = absurd cc
unmoved at n next Big e = absurd cc

pub IsBytes-drop : (n : ℕ) (bytes : List ℕ) → IsBytes bytes → IsBytes (drop n bytes)
IsBytes-drop n bytes h i = rw get_or-drop (h (n + i))

code_in_length : (k n : ℕ) → 1 ≤ length (code_in k n)
unfolding code_in
code_in_length zero n = omega arith
code_in_length (suc k) n = elim (cases_lt n 128) [ inl small ↦ rw (lt-ltb n 128 small) (omega arith) | inr large ↦ rw (le-ltb n 128 large) (omega arith) ]

pub code_length : (n : ℕ) → 1 ≤ length (code n)
unfolding code
code_length n = code_in_length 4 n

pub stands : (bytes : List ℕ) (at : ℕ) (r : Gap) (n next : ℕ) → IsBytes bytes → at ≤ length bytes → r ≡ moved at (gap_at (drop at bytes)) → r ≡ Is n next → StandsAt n at next bytes
stands bytes at r n next fits le e is =
    let u = unmoved at n next (gap_at (drop at bytes)) (sym e ∙ is) in
    let t = gap_takes (drop at bytes) n u.0 (IsBytes-drop at bytes fits) u.1 in
    let behind : next ≡ at + length (code n) = u.2 ∙ ap (λ (x : ℕ). at + x) t.len in
    let l : length (drop at bytes) ≡ length (code n) + length t.rest = ap length t.parts ∙ length-append (code n) t.rest in
    let one = code_length n in
    let d = length-drop at bytes in
    record { rest = t.rest; parts = t.parts; behind = behind; below = t.below; onward = omega arith; within = omega arith }

-- ---- the first code of bytes

looked_code : (k n : ℕ) (rest : List ℕ) → n < 128 ^ (suc k) → looked_at (suc k) (code_in k n ++ rest) ≡ code_in k n
unfolding code_in looked_at
looked_code zero n rest lt = let small : n < 128 = omega arith in rw (lt-ltb n 128 small) refl
looked_code (suc k) n rest lt =
    elim (cases_lt n 128) [
      | inl small ↦ rw (lt-ltb n 128 small, lt-ltb n 128 small) refl
      | inr large ↦
          let below : n / 128 < 128 ^ (suc k) = div_below n 128 (128 ^ (suc k)) (omega arith) (subst (λ x. n < x) (pow-suc 128 (suc k)) lt) in
          rw (le-ltb n 128 large, le-ltb (n % 128 + 128) 128 (omega arith)) (ap (λ (x : List ℕ). (n % 128 + 128) ∷ x) (looked_code k (n / 128) rest below))
    ]

value_code : (k n : ℕ) → n < 128 ^ (suc k) → value_of (code_in k n) ≡ n
unfolding code_in value_of
value_code zero n lt = omega arith
value_code (suc k) n lt =
    elim (cases_lt n 128) [
      | inl small ↦ rw (lt-ltb n 128 small) (omega arith)
      | inr large ↦
          let below : n / 128 < 128 ^ (suc k) = div_below n 128 (128 ^ (suc k)) (omega arith) (subst (λ x. n < x) (pow-suc 128 (suc k)) lt) in
          let again = value_code k (n / 128) below in
          rw (le-ltb n 128 large, again) (omega arith)
    ]

begins : (p s : List ℕ) → (starts_with nat_eq s p ≡ true → s ≡ p ++ drop (length p) s) × ((rest : List ℕ) → s ≡ p ++ rest → starts_with nat_eq s p ≡ true)
begins p s = starts_is Decides-eqb s p (starts_with nat_eq s p) refl

pub first_found : (n : ℕ) (rest : List ℕ) → n < 2 ^ 32 → first_code (code n ++ rest) ≡ Some n
unfolding first_code code
first_found n rest lt =
    let wide : n < 128 ^ 5 = omega arith in
    let value : value_of (looked_at 5 (code_in 4 n ++ rest)) ≡ n = ap value_of (looked_code 4 n rest wide) ∙ value_code 4 n wide in
    rw (value, lt-ltb n (2 ^ 32) lt, (begins (code_in 4 n) (code_in 4 n ++ rest)).1 rest refl) refl

tests : (a b : Bool) (n m : ℕ) → cond (a && b) (Some n) None ≡ Some m → (a ≡ true) × (b ≡ true) × (n ≡ m)
tests true true n m e = (refl, refl, cc)
tests true false n m e = absurd cc
tests false b n m e = absurd cc

pub found_first : (n : ℕ) (bytes : List ℕ) → first_code bytes ≡ Some n → (n < 2 ^ 32) × (bytes ≡ code n ++ drop (length (code n)) bytes)
unfolding first_code
found_first n bytes e =
    let v = value_of (looked_at 5 bytes) in
    let p = tests (ltb v (2 ^ 32)) (starts_with nat_eq bytes (code v)) v n e in
    (omega (arith, ltb-true v (2 ^ 32) p.0, p.2), subst (λ (x : ℕ). bytes ≡ code x ++ drop (length (code x)) bytes) p.2 ((begins (code v) bytes).0 p.1))
