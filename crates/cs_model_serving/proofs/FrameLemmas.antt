-- What framing finds stays where more bytes come, and lies within the bytes.
--
--   take_both         the first bytes of bytes with more behind them
--   frame-head, frame-too_long    a head that is found, or is too long, stays so
--   frame-within      a head begins before its end, which lies within the bytes and the limit
--   frame-few         where more is to come, there are fewer bytes than a head may have
use Rattle.std.proofs.Common.{◌≡◌, ℕ, zero, suc, ◌+◌, ◌-◌, ◌<◌, ◌≤◌, ⊎_elim, Bool, true, false, cond, nat_lt, List, [], ◌∷◌, ◌++◌, length, take, Option, Some, None, refl, sym, ap, ◌∙◌, arith, length-append, length-take, append-nil}
use Rattle.std.proofs.lemmas.Bool.{cases_Bool}
use Rattle.std.proofs.lemmas.Bool.Decides.{nat_tests}
use Rattle.std.proofs.lemmas.List.Sums.{sum_by-cons}
use Rattle.cs_base.specs.declared.content.limits.TheConstants.{MAX_HEAD_BYTES}
use Rattle.cs_model_serving.specs.declared.framed.Framed.{Framed}
use Rattle.cs_model_serving.specs.declared.framed.Framed.TheVariants.{Head, More, TooLong}
use Rattle.cs_model_serving.specs.Framing.{ended_lines, is_empty_line, lines_len, place_in, framed_by, frame}
use Rattle.cs_model_serving.proofs.LineLemmas.{ended_more, ended_size, scan_text, scan_front, place-scan, place-more}

pub take_both : (n : ℕ) (x y : List ℕ) → take n (x ++ y) ≡ take n x ++ take (n - length x) y
take_both zero x y = sym (ap (λ i. take i y) (let e : 0 - length x ≡ 0 = omega arith in e))
take_both (suc n) [] y = let e : suc n ≡ suc n - 0 = omega arith in ap (λ i. take i y) e
take_both (suc n) (c ∷ x) y = ap (λ l. c ∷ l) (take_both n x y ∙ ap (λ i. take n x ++ take i y) (let e : n - length x ≡ suc n - suc (length x) = omega arith in e))

-- ---- by the place of a head
abbrev place : List ℕ → Option (ℕ × ℕ)
place b = place_in (ended_lines (take MAX_HEAD_BYTES b))

missing : (n : ℕ) (t : Bool) (skip end : ℕ) → nat_lt n MAX_HEAD_BYTES ≡ t → cond t More TooLong ≡ Head skip end → ⊥
missing n true skip end e h = (cc)
missing n false skip end e h = (cc)

head_place : (n : ℕ) (o : Option (ℕ × ℕ)) (skip end : ℕ) → framed_by n o ≡ Head skip end → o ≡ Some (skip, end)
head_place n None skip end h = absurd (missing n (nat_lt n MAX_HEAD_BYTES) skip end refl h)
head_place n (Some p) skip end h =
    let first : p.0 ≡ skip = (cc) in
    let second : p.1 ≡ end = (cc) in
    λ i. Some (first i, second i)

no_place : (n : ℕ) (o : Option (ℕ × ℕ)) (f : Framed) → framed_by n o ≡ f → f ≡ TooLong → o ≡ None
no_place n None f h e = refl
no_place n (Some p) f h e = absurd (cc)

few_or_many : (n : ℕ) (t : Bool) → nat_lt n MAX_HEAD_BYTES ≡ t → cond t More TooLong ≡ TooLong → MAX_HEAD_BYTES ≤ n
few_or_many n true e h = absurd (cc)
few_or_many n false e h = grind (arith, nat_tests, e)

many : (n : ℕ) (o : Option (ℕ × ℕ)) → framed_by n o ≡ TooLong → MAX_HEAD_BYTES ≤ n
many n None h = few_or_many n (nat_lt n MAX_HEAD_BYTES) refl h
many n (Some p) h = absurd (cc)

few : (n : ℕ) (t : Bool) → nat_lt n MAX_HEAD_BYTES ≡ t → cond t More TooLong ≡ More → n < MAX_HEAD_BYTES
few n true e h = grind (arith, nat_tests, e)
few n false e h = absurd (cc)

too_few : (n : ℕ) (o : Option (ℕ × ℕ)) → framed_by n o ≡ More → n < MAX_HEAD_BYTES
too_few n None h = few n (nat_lt n MAX_HEAD_BYTES) refl h
too_few n (Some p) h = absurd (cc)

-- ---- more bytes
place_stays : (b more : List ℕ) (p : ℕ × ℕ) → place b ≡ Some p → place (b ++ more) ≡ Some p
place_stays b more p h =
    let on = ended_more (take MAX_HEAD_BYTES b) (take (MAX_HEAD_BYTES - length b) more) in
    ap place_in (ap ended_lines (take_both MAX_HEAD_BYTES b more) ∙ on.is) ∙ place-more (ended_lines (take MAX_HEAD_BYTES b)) on.lines p h

pub frame-head : (b more : List ℕ) (skip end : ℕ) → frame b ≡ Head skip end → frame (b ++ more) ≡ Head skip end
unfolding frame
frame-head b more skip end h = ap (framed_by (length (b ++ more))) (place_stays b more (skip, end) (head_place (length b) (place b) skip end h))

at_least : (n : ℕ) → MAX_HEAD_BYTES ≤ n → nat_lt n MAX_HEAD_BYTES ≡ false
at_least n h = grind (arith, nat_tests)

take_full : (b more : List ℕ) → MAX_HEAD_BYTES ≤ length b → take MAX_HEAD_BYTES (b ++ more) ≡ take MAX_HEAD_BYTES b
take_full b more h =
    let none : MAX_HEAD_BYTES - length b ≡ 0 = omega (arith, h) in
    take_both MAX_HEAD_BYTES b more ∙ ap (λ n. take MAX_HEAD_BYTES b ++ take n more) none ∙ append-nil (take MAX_HEAD_BYTES b)

pub frame-too_long : (b more : List ℕ) → frame b ≡ TooLong → frame (b ++ more) ≡ TooLong
unfolding frame
frame-too_long b more h =
    let long = many (length b) (place b) h in
    let none : place (b ++ more) ≡ None = ap (λ l. place_in (ended_lines l)) (take_full b more long) ∙ no_place (length b) (place b) TooLong h refl in
    let longer : MAX_HEAD_BYTES ≤ length (b ++ more) = omega (arith, long, length-append b more) in
    ap (framed_by (length (b ++ more))) none ∙ ap (λ t. cond t More TooLong) (at_least (length (b ++ more)) longer)

-- ---- bounds
pub record IsWithin (skip end size : ℕ) : Type 0 where
  pub text : skip < end
  pub within : end ≤ size

scan_text-within : (lines : List (List ℕ)) (skip n : ℕ) (p : ℕ × ℕ) → skip ≤ n → scan_text skip n lines ≡ Some p → (p.0 < p.1) × (p.1 ≤ n + lines_len lines)
scan_text-within [] skip n p less h = absurd (cc)
scan_text-within (l ∷ lines) skip n p less h =
    let more = sum_by-cons (λ l. length l + 1) l lines in
    ⊎_elim
    (λ e.
    let is : Some (skip, n + (length l + 1)) ≡ Some p = (rw e at h) in
    let first : skip ≡ p.0 = (cc) in
    let second : n + (length l + 1) ≡ p.1 = (cc) in
    (omega (arith, first, second, less), omega (arith, second, more)))
    (λ e.
    let on = scan_text-within lines skip (n + (length l + 1)) p (omega (arith, less)) (rw e at h) in
    (on.0, omega (arith, on.1, more)))
    (cases_Bool (is_empty_line l))

scan_front-within : (lines : List (List ℕ)) (n : ℕ) (p : ℕ × ℕ) → scan_front n lines ≡ Some p → (p.0 < p.1) × (p.1 ≤ n + lines_len lines)
scan_front-within [] n p h = absurd (cc)
scan_front-within (l ∷ lines) n p h =
    let more = sum_by-cons (λ l. length l + 1) l lines in
    ⊎_elim
    (λ e. let on = scan_front-within lines (n + (length l + 1)) p (rw e at h) in (on.0, omega (arith, on.1, more)))
    (λ e. let on = scan_text-within lines n (n + (length l + 1)) p (omega arith) (rw e at h) in (on.0, omega (arith, on.1, more)))
    (cases_Bool (is_empty_line l))

pub frame-within : (b : List ℕ) (skip end : ℕ) → frame b ≡ Head skip end → IsWithin skip end (length b) × (end ≤ MAX_HEAD_BYTES)
unfolding frame
frame-within b skip end h =
    let lines = ended_lines (take MAX_HEAD_BYTES b) in
    let on = scan_front-within lines 0 (skip, end) (sym (place-scan lines) ∙ head_place (length b) (place b) skip end h) in
    let size = ended_size (take MAX_HEAD_BYTES b) in
    let cut = length-take MAX_HEAD_BYTES b in
    (record { text = on.0; within = omega (arith, on.1, size, cut) }, omega (arith, on.1, size, cut))

pub frame-few : (b : List ℕ) → frame b ≡ More → length b < MAX_HEAD_BYTES
unfolding frame
frame-few b h = too_few (length b) (place b) h

pub frame-nil : frame [] ≡ More
unfolding frame
frame-nil = refl
