-- The header's number of weights.
--
--   field_small, weights_fine, field_again     a field is one number, of weights in range, and is their number
--   field_is, weights_again                    weights in range have a field, and are its weights
use Rattle.std.proofs.Common.{◌≡◌, ℕ, ◌+◌, ◌*◌, ◌/◌, ◌%◌, ◌<◌, ◌≤◌, ◌^◌, ◌==◌, ◌&&◌, ◌||◌, Bool, true, false, not, refl, sym, ap, ◌∙◌, arith}
use Rattle.std.specs.Prelude.{nat_le, nat_lt}
use Rattle.std.proofs.Common.{if◌then◌else◌}
use Rattle.std.proofs.lemmas.Bool.{and_from, and_parts, eqb-true, le-leb, lt-ltb, leb-true, ltb-true}
use Rattle.cs_base.specs.declared.content.scores.TheConstants.{USUAL_WEIGHTS}
use Rattle.cs_base.specs.declared.content.scores.Weights.{Weights}
use Rattle.cs_model.specs.Weights.{AreWeights}
use Rattle.cs_model_index.specs.WeightsField.{field_of, is_field, three_bytes, usual, weights_of}

usual_fine : AreWeights USUAL_WEIGHTS
usual_fine = record { title_from = omega arith; title_to = omega arith; facet_from = omega arith; facet_to = omega arith; text_from = omega arith; text_to = omega arith }

pub field_small : (n : ℕ) → is_field n ≡ true → n < 2 ^ 32
unfolding is_field
field_small n h =
    elim (n == 0) as (λ b. n == 0 ≡ b → (b || (nat_lt n (2 ^ 24) && (nat_le 1 (n / 65536) && (nat_le 1 (n / 256 % 256) && (nat_le 1 (n % 256) && not (n == usual)))))) ≡ true → n < 2 ^ 32) [
      | true ↦ λ e f. let z = eqb-true n 0 e in omega (arith, z)
      | false ↦ λ e f. let p = and_parts (nat_lt n (2 ^ 24)) _ f in let l = ltb-true _ _ p.0 in omega (arith, l)
    ] refl h

pub weights_fine : (n : ℕ) → is_field n ≡ true → AreWeights (weights_of n)
unfolding is_field weights_of
weights_fine n h =
    elim (n == 0) as (λ b. (b || (nat_lt n (2 ^ 24) && (nat_le 1 (n / 65536) && (nat_le 1 (n / 256 % 256) && (nat_le 1 (n % 256) && not (n == usual)))))) ≡ true
    → AreWeights (if b then USUAL_WEIGHTS else record { title = n / 65536; facet = n / 256 % 256; text = n % 256 })) [
      | true ↦ λ f. usual_fine
      | false ↦ λ f.
          let p = and_parts (nat_lt n (2 ^ 24)) _ f in
          let q = and_parts (nat_le 1 (n / 65536)) _ p.1 in
          let r = and_parts (nat_le 1 (n / 256 % 256)) _ q.1 in
          let s = and_parts (nat_le 1 (n % 256)) _ r.1 in
          let l = ltb-true _ _ p.0 in
          record {
            title_from = leb-true _ _ q.0;
            title_to = omega (arith, l);
            facet_from = leb-true _ _ r.0;
            facet_to = omega arith;
            text_from = leb-true _ _ s.0;
            text_to = omega arith;
          }
    ] h

put_back : (n : ℕ) → n < 2 ^ 24 → n / 65536 * 65536 + n / 256 % 256 * 256 + n % 256 ≡ n
put_back n lt = omega (arith, lt)

not_true : (b : Bool) → not b ≡ true → b ≡ false
not_true true e = sym e
not_true false e = refl

pub field_again : (n : ℕ) → is_field n ≡ true → field_of (weights_of n) ≡ n
unfolding is_field weights_of field_of three_bytes
field_again n h =
    elim (n == 0) as (λ b. n == 0 ≡ b → (b || (nat_lt n (2 ^ 24) && (nat_le 1 (n / 65536) && (nat_le 1 (n / 256 % 256) && (nat_le 1 (n % 256) && not (n == usual)))))) ≡ true
    → (let s : Weights = if b then USUAL_WEIGHTS else record { title = n / 65536; facet = n / 256 % 256; text = n % 256 } in if s.title * 65536 + s.facet * 256 + s.text == usual then 0 else s.title * 65536 + s.facet * 256 + s.text) ≡ n) [
      | true ↦ λ e f. sym (eqb-true n 0 e)
      | false ↦ λ e f.
          let p = and_parts (nat_lt n (2 ^ 24)) _ f in
          let q = and_parts (nat_le 1 (n / 65536)) _ p.1 in
          let r = and_parts (nat_le 1 (n / 256 % 256)) _ q.1 in
          let s = and_parts (nat_le 1 (n % 256)) _ r.1 in
          let same = put_back n (ltb-true _ _ p.0) in
          ap (λ m. if m == usual then 0 else m) same ∙ ap (λ b. if b then 0 else n) (not_true (n == usual) s.1)
    ] refl h

front : (a b c : ℕ) → b ≤ 255 → c ≤ 255 → (a * 65536 + b * 256 + c) / 65536 ≡ a
front a b c l m = omega (arith, l, m)

middle : (a b c : ℕ) → b ≤ 255 → c ≤ 255 → (a * 65536 + b * 256 + c) / 256 % 256 ≡ b
middle a b c l m = omega (arith, l, m)

back : (a b c : ℕ) → c ≤ 255 → (a * 65536 + b * 256 + c) % 256 ≡ c
back a b c m = omega (arith, m)

some_bytes : (a b c : ℕ) → 1 ≤ a → (a * 65536 + b * 256 + c) == 0 ≡ false
some_bytes a b c l = not_zero (a * 65536 + b * 256 + c) (omega (arith, l))
  where
    not_zero : (n : ℕ) → 1 ≤ n → n == 0 ≡ false
    not_zero n l = elim (n == 0) as (λ x. n == 0 ≡ x → x ≡ false) [
      | true ↦ λ e. absurd (let z = eqb-true n 0 e in omega (arith, l, z))
      | false ↦ λ e. refl
    ] refl

same_weights : (s : Weights) (a b c : ℕ) → a ≡ s.title → b ≡ s.facet → c ≡ s.text → let x : Weights = record { title = a; facet = b; text = c } in x ≡ s
same_weights s a b c p q r = rw (p, q, r) refl

pub weights_again : (s : Weights) → AreWeights s → weights_of (field_of s) ≡ s
unfolding weights_of field_of three_bytes
weights_again s h =
    let n = s.title * 65536 + s.facet * 256 + s.text in
    let f = h.facet_to in
    let t = h.text_to in
    let own = same_weights s (n / 65536) (n / 256 % 256) (n % 256) (front s.title s.facet s.text f t) (middle s.title s.facet s.text f t) (back s.title s.facet s.text t) in
    elim (n == usual) as (λ b. n == usual ≡ b → (let m = if b then 0 else n in if m == 0 then USUAL_WEIGHTS else record { title = m / 65536; facet = m / 256 % 256; text = m % 256 }) ≡ s) [
      | true ↦ λ e. ap (λ m. let x : Weights = record { title = m / 65536; facet = m / 256 % 256; text = m % 256 } in x) (sym (eqb-true n usual e)) ∙ own
      | false ↦ λ e. ap (λ b. if b then USUAL_WEIGHTS else record { title = n / 65536; facet = n / 256 % 256; text = n % 256 }) (some_bytes s.title s.facet s.text h.title_from) ∙ own
    ] refl

pub field_is : (s : Weights) → AreWeights s → is_field (field_of s) ≡ true
unfolding is_field field_of three_bytes
field_is s h =
    let n = s.title * 65536 + s.facet * 256 + s.text in
    let a = h.title_to in
    let f = h.facet_to in
    let t = h.text_to in
    elim (n == usual) as (λ b. n == usual ≡ b → (let m = if b then 0 else n in (m == 0 || (nat_lt m (2 ^ 24) && (nat_le 1 (m / 65536) && (nat_le 1 (m / 256 % 256) && (nat_le 1 (m % 256) && not (m == usual))))))) ≡ true) [
      | true ↦ λ e. refl
      | false ↦ λ e.
          let inner : (nat_lt n (2 ^ 24) && (nat_le 1 (n / 65536) && (nat_le 1 (n / 256 % 256) && (nat_le 1 (n % 256) && not (n == usual))))) ≡ true =
          and_from _ _ (lt-ltb n (2 ^ 24) (omega (arith, a, f, t)))
          (and_from _ _ (ap (nat_le 1) (front s.title s.facet s.text f t) ∙ le-leb 1 s.title h.title_from)
          (and_from _ _ (ap (nat_le 1) (middle s.title s.facet s.text f t) ∙ le-leb 1 s.facet h.facet_from)
          (and_from _ _ (ap (nat_le 1) (back s.title s.facet s.text t) ∙ le-leb 1 s.text h.text_from) (ap not e)))) in
          ap (λ b. b || (nat_lt n (2 ^ 24) && (nat_le 1 (n / 65536) && (nat_le 1 (n / 256 % 256) && (nat_le 1 (n % 256) && not (n == usual))))))
          (some_bytes s.title s.facet s.text h.title_from) ∙ inner
    ] refl
