-- A key text is text: decomposing and folding characters gives characters.
--
--   norm-utf8        the key text of a text is UTF-8
--   norm-scalars     and its characters are characters that text may have
use Rattle.std.proofs.Common.{◌≡◌, ℕ, ◌+◌, ◌-◌, ◌/◌, ◌%◌, ◌<◌, Bool, true, false, cond, nat_le, nat_lt, List, [], ◌∷◌, ◌++◌, flat_map, refl, arith}
use Rattle.std.specs.Bool.{◌==◌}
use Rattle.std.specs.Str.{chars, IsUtf8}
use Rattle.std.proofs.Math.Utf8.{scalar, scalars, low_scalar}
use Rattle.std.proofs.lemmas.Bool.{and_parts, and_from}
use Rattle.std.proofs.lemmas.Bool.Decides.{nat_tests}
use Rattle.std.proofs.lemmas.Str.{scalars-chars}
use Rattle.caseless.specs.Caseless.{canonical_key, default_case_fold}
use Rattle.ucd_case.specs.CaseFolding.{full_fold, full_folding, or_itself as or_folded}
use Rattle.ucd_case.proofs.CaseFoldingLemmas.{full_folding_stepped}
use Rattle.ucd_normal.specs.Decomposition.{canonical_decomposition, or_itself}
use Rattle.ucd_normal.specs.declared.forms.Form.TheVariants.{Nfd}
use Rattle.ucd_normal.proofs.DecompositionLemmas.{canonical_decomposition_stepped}
use Rattle.ucd_table.proofs.Computing.{tables}
use Rattle.ucd_table.proofs.RangedFacts.{values_ok, Stepped-at_values}
use Rattle.unicode_normalization.specs.Decompose.{decompose}
use Rattle.unicode_normalization.specs.Forms.{nfd, normalize, decomposed}
use Rattle.unicode_normalization.specs.Hangul.{is_syllable, decompose_hangul}
use Rattle.unicode_normalization.specs.Order.{is_reorderable, sink, canonical_order}
use Rattle.cs_model.specs.KeyText.{norm}

-- these are characters that text may have
abbrev AreScalars : List ℕ → Type 0
AreScalars cs = scalars cs ≡ true

-- ---- the tables

folding_scalars : (c : ℕ) → AreScalars (full_folding c)
unfolding tables values_ok full_folding_stepped
folding_scalars c = Stepped-at_values full_folding full_folding_stepped scalars refl c

decomposition_scalars : (c : ℕ) → AreScalars (canonical_decomposition c)
unfolding tables values_ok canonical_decomposition_stepped
decomposition_scalars c = Stepped-at_values canonical_decomposition canonical_decomposition_stepped scalars refl c

-- ---- Hangul syllables

low : (c : ℕ) → c < 55296 → scalar c ≡ true
low c h = low_scalar c h

jamo_small : (s : ℕ) → is_syllable s ≡ true → (4352 + (s - 44032) / 588 < 55296) × (4449 + ((s - 44032) % 588) / 28 < 55296) × (4519 + (s - 44032) % 28 < 55296)
jamo_small s h =
    let from : nat_le 44032 s ≡ true = (and_parts (nat_le 44032 s) (nat_lt s (44032 + 11172)) h).0 in
    let to : nat_lt s (44032 + 11172) ≡ true = (and_parts (nat_le 44032 s) (nat_lt s (44032 + 11172)) h).1 in
    let few : s - 44032 < 11172 = bound s from to in
    (small_l (s - 44032) few, small_v (s - 44032), small_t (s - 44032))
  where
    bound : (s : ℕ) → nat_le 44032 s ≡ true → nat_lt s (44032 + 11172) ≡ true → s - 44032 < 11172
    bound s f t = grind (arith, nat_tests)

    small_l : (n : ℕ) → n < 11172 → 4352 + n / 588 < 55296
    small_l n h = omega arith

    small_v : (n : ℕ) → 4449 + (n % 588) / 28 < 55296
    small_v n = omega arith

    small_t : (n : ℕ) → 4519 + n % 28 < 55296
    small_t n = omega arith

jamo_at : (b : Bool) (l v t : ℕ) → scalar l ≡ true → scalar v ≡ true → scalar t ≡ true → AreScalars (cond b (l ∷ v ∷ []) (l ∷ v ∷ t ∷ []))
jamo_at true l v t p q r = and_from (scalar l) _ p (and_from (scalar v) true q refl)
jamo_at false l v t p q r = and_from (scalar l) _ p (and_from (scalar v) _ q (and_from (scalar t) true r refl))

hangul_scalars : (s : ℕ) → is_syllable s ≡ true → AreScalars (decompose_hangul s)
unfolding decompose_hangul
hangul_scalars s h =
    let small = jamo_small s h in
    jamo_at ((s - 44032) % 28 == 0) (4352 + (s - 44032) / 588) (4449 + (s - 44032) % 588 / 28) (4519 + (s - 44032) % 28) (low _ small.0) (low _ small.1) (low _ small.2)

-- ---- decomposing and folding

itself_scalars : (c : ℕ) (v : List ℕ) → scalar c ≡ true → AreScalars v → AreScalars (or_itself c v)
itself_scalars c [] s h = and_from (scalar c) true s refl
itself_scalars c (x ∷ xs) s h = h

folded_scalars : (c : ℕ) (v : List ℕ) → scalar c ≡ true → AreScalars v → AreScalars (or_folded c v)
folded_scalars c [] s h = and_from (scalar c) true s refl
folded_scalars c (x ∷ xs) s h = h

decompose_at : (b : Bool) (c : ℕ) → is_syllable c ≡ b → scalar c ≡ true → AreScalars (cond b (decompose_hangul c) (or_itself c (canonical_decomposition c)))
decompose_at true c e s = hangul_scalars c e
decompose_at false c e s = itself_scalars c (canonical_decomposition c) s (decomposition_scalars c)

decompose_scalars : (c : ℕ) → scalar c ≡ true → AreScalars (decompose Nfd c)
unfolding decompose
decompose_scalars c s = decompose_at (is_syllable c) c refl s

scalars-both : (xs ys : List ℕ) → AreScalars xs → AreScalars ys → AreScalars (xs ++ ys)
scalars-both [] ys h k = k
scalars-both (x ∷ xs) ys h k = and_from (scalar x) _ (and_parts (scalar x) (scalars xs) h).0 (scalars-both xs ys (and_parts (scalar x) (scalars xs) h).1 k)

scalars_of_each : (f : ℕ → List ℕ) → ((c : ℕ) → scalar c ≡ true → AreScalars (f c)) → (cs : List ℕ) → AreScalars cs → AreScalars (flat_map f cs)
scalars_of_each f each [] h = refl
scalars_of_each f each (c ∷ cs) h = scalars-both (f c) (flat_map f cs) (each c (and_parts (scalar c) (scalars cs) h).0) (scalars_of_each f each cs (and_parts (scalar c) (scalars cs) h).1)

-- ---- putting in order

sink_at : (b : Bool) (c d : ℕ) (ds : List ℕ) → scalar c ≡ true → AreScalars (d ∷ ds) → AreScalars (sink c ds) → AreScalars (cond b (d ∷ sink c ds) (c ∷ d ∷ ds))
sink_at true c d ds s h k = and_from (scalar d) _ (and_parts (scalar d) (scalars ds) h).0 k
sink_at false c d ds s h k = and_from (scalar c) _ s h

sink_scalars : (c : ℕ) (ds : List ℕ) → scalar c ≡ true → AreScalars ds → AreScalars (sink c ds)
unfolding sink
sink_scalars c [] s h = and_from (scalar c) true s refl
sink_scalars c (d ∷ ds) s h = sink_at (is_reorderable c d) c d ds s h (sink_scalars c ds s (and_parts (scalar d) (scalars ds) h).1)

order_scalars : (cs : List ℕ) → AreScalars cs → AreScalars (canonical_order cs)
unfolding canonical_order
order_scalars [] h = refl
order_scalars (c ∷ cs) h = sink_scalars c (canonical_order cs) (and_parts (scalar c) (scalars cs) h).0 (order_scalars cs (and_parts (scalar c) (scalars cs) h).1)

nfd_scalars : (cs : List ℕ) → AreScalars cs → AreScalars (nfd cs)
unfolding normalize decomposed
nfd_scalars cs h = order_scalars (flat_map (decompose Nfd) cs) (scalars_of_each (decompose Nfd) decompose_scalars cs h)

fold_scalars : (cs : List ℕ) → AreScalars cs → AreScalars (default_case_fold cs)
unfolding default_case_fold
fold_scalars cs h = scalars_of_each full_fold (λ c s. folded_scalars c (full_folding c) s (folding_scalars c)) cs h

-- ---- key texts

key_scalars : (cs : List ℕ) → AreScalars cs → AreScalars (canonical_key cs)
key_scalars cs h = nfd_scalars (default_case_fold (nfd cs)) (fold_scalars (nfd cs) (nfd_scalars cs h))

pub norm-utf8 : (s : List ℕ) → IsUtf8 s → IsUtf8 (norm s)
unfolding norm
norm-utf8 s h = (canonical_key (chars s), (key_scalars (chars s) (scalars-chars s h), refl))

pub norm-scalars : (s : List ℕ) → IsUtf8 s → scalars (chars (norm s)) ≡ true
norm-scalars s h = scalars-chars (norm s) (norm-utf8 s h)
