-- Bytes with spaces in the place of breaks, cut at the first one.
use Rattle.std.proofs.Common.{◌≡◌, ◌<◌, ◌+◌, ◌++◌, ℕ, zero, suc, List, [], ◌∷◌, true, false, Bool, take, drop, length, refl, sym, ap, ◌∙◌, arith, append_assoc, Some, None}
use Rattle.std.specs.Prelude.{◌==◌, ◌||◌, slice_index}
use Rattle.std.proofs.lemmas.Bool.{false_from_ne_true}
use Rattle.memchr.specs.Find.{IsFirstByte, Passes, is_byte3}
use Rattle.cs_model_sources.specs.Translated.{columns_of, flat, is_break, translated}
use Rattle.cs_base.specs.content.Bytes.{carriage_return, line_feed, space, tab}

-- bytes without a break stay
pub flat-none : (xs : List ℕ) → ((k : ℕ) → k < length xs → is_break (slice_index xs k) ≡ false) → flat xs ≡ xs
flat-none [] h = refl
flat-none (x ∷ xs) h =
    let first : is_break x ≡ false = h 0 (omega arith) in
    let rest = flat-none xs (λ k l. h (suc k) (omega arith)) in
    rw (first, rest) refl

-- up to the first break they stay, and it becomes a space
pub flat-cut : (xs : List ℕ) (at : ℕ) → at < length xs → ((k : ℕ) → k < at → is_break (slice_index xs k) ≡ false) → is_break (slice_index xs at) ≡ true
    → flat xs ≡ take at xs ++ (space ∷ flat (drop (suc at) xs))
flat-cut [] at l h b = absurd (omega arith)
flat-cut (x ∷ xs) zero l h b = rw b refl
flat-cut (x ∷ xs) (suc at) l h b =
    let first : is_break x ≡ false = h 0 (omega arith) in
    let rest = flat-cut xs at (omega arith) (λ k m. h (suc k) (omega arith)) b in
    rw (first, rest) refl

-- ---- by a search for the first break
or-assoc : (a b c : Bool) → ((a || b) || c) ≡ (a || (b || c))
or-assoc true b c = refl
or-assoc false b c = refl

breaks : (x : ℕ) → is_byte3 tab line_feed carriage_return x ≡ is_break x
breaks x = or-assoc (x == tab) (x == line_feed) (x == carriage_return)

no_break : (xs : List ℕ) (k : ℕ) → ¬ (Passes (is_byte3 tab line_feed carriage_return) xs k) → is_break (slice_index xs k) ≡ false
no_break xs k h = sym (breaks (slice_index xs k)) ∙ false_from_ne_true (is_byte3 tab line_feed carriage_return (slice_index xs k)) h

pub flat_from : (whole done rest left new : List ℕ) (at : ℕ) → IsFirstByte (is_byte3 tab line_feed carriage_return) rest (Some at) → done ++ flat rest ≡ whole → left ≡ drop (at + 1) rest → new ≡ (done ++ take at rest) ++ (space ∷ []) → new ++ flat left ≡ whole
flat_from whole done rest left new at h w l e =
    let cut = flat-cut rest at h.0.high (λ k l. no_break rest k (h.0.before k (omega arith) l)) (sym (breaks (slice_index rest at)) ∙ h.1) in
    let next : at + 1 ≡ suc at = omega arith in
    let same : left ≡ drop (suc at) rest = l ∙ ap (λ n. drop n rest) next in
    let one : ((done ++ take at rest) ++ (space ∷ [])) ++ flat left ≡ (done ++ take at rest) ++ (space ∷ flat left) = (append_assoc (done ++ take at rest) (space ∷ []) (flat left)) in
    let two : (done ++ take at rest) ++ (space ∷ flat left) ≡ done ++ (take at rest ++ (space ∷ flat left)) = (append_assoc done (take at rest) (space ∷ flat left)) in
    let three : (take at rest ++ (space ∷ flat left)) ≡ flat rest = ap (λ xs. take at rest ++ (space ∷ flat xs)) same ∙ sym cut in
    ap (λ xs. xs ++ flat left) e ∙ one ∙ two ∙ ap (λ xs. done ++ xs) three ∙ w

pub flat_left : (rest : List ℕ) → IsFirstByte (is_byte3 tab line_feed carriage_return) rest None → flat rest ≡ rest
flat_left rest h = flat-none rest (λ k l. no_break rest k (h k (omega arith) l))

-- ---- the columns of a line
pub joined_columns : (old a b c d e f : List ℕ) (title facets text : List ℕ) → a ≡ old ++ flat title → b ≡ a ++ (tab ∷ []) → c ≡ b ++ flat facets → d ≡ c ++ (tab ∷ []) → e ≡ d ++ flat text → f ≡ e ++ (line_feed ∷ []) → f ≡ old ++ translated title facets text
unfolding translated
joined_columns old a b c d e f title facets text p q r s t u =
    let third : e ≡ c ++ (tab ∷ flat text) = t ∙ ap (λ x. x ++ flat text) s ∙ append_assoc c (tab ∷ []) (flat text) in
    let second : e ≡ a ++ (tab ∷ (flat facets ++ (tab ∷ flat text))) =
    third ∙ ap (λ x. x ++ (tab ∷ flat text)) r ∙ append_assoc b (flat facets) (tab ∷ flat text)
    ∙ ap (λ x. x ++ (flat facets ++ (tab ∷ flat text))) q ∙ append_assoc a (tab ∷ []) (flat facets ++ (tab ∷ flat text)) in
    let first : e ≡ old ++ columns_of title facets text =
    second ∙ ap (λ x. x ++ (tab ∷ (flat facets ++ (tab ∷ flat text)))) p ∙ append_assoc old (flat title) (tab ∷ (flat facets ++ (tab ∷ flat text))) in
    u ∙ ap (λ x. x ++ (line_feed ∷ [])) first ∙ append_assoc old (columns_of title facets text) (line_feed ∷ [])
