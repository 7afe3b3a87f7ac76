-- Lines of a trial's collection, one after the other.
--
--   put_behind      one more word of a title or a text, behind another one
--   title_draws, facet_draw, text_draws      the draws of a line's title, of its facet and of its text
--   line_is         a line is its title, its facet and its text
--   behind_line     a line takes sixteen draws
--   flat_map_more   one more entry of numbers that count up
--   lines_more      one more line
use Rattle.std.proofs.Common.{◌≡◌, ℕ, zero, suc, ◌+◌, ◌*◌, ◌≤◌, false, cond, List, [], ◌∷◌, ◌++◌, refl, sym, ap, ◌∙◌, append_assoc, append-nil, add-one, arith}
use Rattle.std.specs.Prelude.{◌==◌, replicate, codes}
use Rattle.std.specs.List.{flat_map, range_with_len}
use Rattle.std.proofs.lemmas.Bool.Decides.{nat_tests}
use Rattle.cs_model_trial.specs.Generator.{next_state, behind, drawn, draws, word, spaced, syllable, line_bounds, line_draws, line_title, line_syllable, text_of, trial_line}
use Rattle.cs_model_trial.specs.declared.sizes.TheConstants.{WORDS}
use Rattle.cs_trial.proofs.DrawsLemmas.{draws_more, length_draws, behind_sum}
use Rattle.cs_trial.proofs.WordsLemmas.{spaced_more}

put_more : (old now : List ℕ) (i x w : ℕ) → now ≡ old ++ spaced (draws (replicate i WORDS) x) → w ≡ drawn WORDS (behind i x) → (now ++ cond (i == 0) [] (32 ∷ [])) ++ word w ≡ old ++ spaced (draws (replicate (i + 1) WORDS) x)
put_more old now i x w told is =
    let ds = draws (replicate i WORDS) x in
    let more : spaced (draws (replicate (i + 1) WORDS) x) ≡ (spaced ds ++ cond (i == 0) [] (32 ∷ [])) ++ word w =
    ap spaced (draws_more i WORDS x) ∙ ap (λ d. spaced (ds ++ d ∷ [])) (sym is) ∙ spaced_more ds i w (length_draws i WORDS x) in
    ap (λ b. (b ++ cond (i == 0) [] (32 ∷ [])) ++ word w) told ∙ (simp append_assoc) ∙ ap (λ s. old ++ s) (sym (more ∙ append_assoc (spaced ds) (cond (i == 0) [] (32 ∷ [])) (word w)))

pub put_behind : (old now : List ℕ) (i x w : ℕ) → 1 ≤ i → now ≡ old ++ spaced (draws (replicate i WORDS) x) → w ≡ drawn WORDS (behind i x) → (now ++ 32 ∷ []) ++ word w ≡ old ++ spaced (draws (replicate (i + 1) WORDS) x)
put_behind old now i x w some told is =
    let later : (i == 0) ≡ false = grind (arith, nat_tests) in
    rw later at (put_more old now i x w told is)

pub title_draws : (x : ℕ) → line_title (draws line_bounds x) ≡ draws (replicate 3 WORDS) x
unfolding draws behind
title_draws x = refl

pub facet_draw : (x : ℕ) → line_syllable (draws line_bounds x) ≡ drawn 16 (behind 3 x)
unfolding draws behind
facet_draw x = refl

pub text_draws : (x : ℕ) → text_of (draws line_bounds x) ≡ draws (replicate 12 WORDS) (next_state (behind 3 x))
unfolding draws behind
text_draws x = refl

pieces : (old title facet text : List ℕ) → (((((old ++ title) ++ codes "\tkind=") ++ facet) ++ 9 ∷ []) ++ text) ++ 10 ∷ [] ≡ old ++ (title ++ 9 ∷ codes "kind=" ++ facet ++ 9 ∷ text ++ 10 ∷ [])
pieces old title facet text = simp append_assoc

pub line_is : (old : List ℕ) (x : ℕ) → (((((old ++ spaced (draws (replicate 3 WORDS) x)) ++ codes "\tkind=") ++ syllable (drawn 16 (behind 3 x))) ++ 9 ∷ []) ++ spaced (draws (replicate 12 WORDS) (next_state (behind 3 x)))) ++ 10 ∷ [] ≡ old ++ trial_line (draws line_bounds x)
line_is old x =
    ap (λ t. (((((old ++ spaced t) ++ codes "\tkind=") ++ syllable (drawn 16 (behind 3 x))) ++ 9 ∷ []) ++ spaced (draws (replicate 12 WORDS) (next_state (behind 3 x)))) ++ 10 ∷ []) (sym (title_draws x))
    ∙ ap (λ s. (((((old ++ spaced (line_title (draws line_bounds x))) ++ codes "\tkind=") ++ syllable s) ++ 9 ∷ []) ++ spaced (draws (replicate 12 WORDS) (next_state (behind 3 x)))) ++ 10 ∷ []) (sym (facet_draw x))
    ∙ ap (λ t. (((((old ++ spaced (line_title (draws line_bounds x))) ++ codes "\tkind=") ++ syllable (line_syllable (draws line_bounds x))) ++ 9 ∷ []) ++ spaced t) ++ 10 ∷ []) (sym (text_draws x))
    ∙ pieces old (spaced (line_title (draws line_bounds x))) (syllable (line_syllable (draws line_bounds x))) (spaced (text_of (draws line_bounds x)))

pub behind_line : (x : ℕ) → behind 12 (next_state (behind 3 x)) ≡ behind 16 x
unfolding behind
behind_line x = refl

flat_map_from : {A : Type 0} (f : ℕ → List A) (a n : ℕ) → flat_map f (range_with_len a (suc n)) ≡ flat_map f (range_with_len a n) ++ f (a + n)
flat_map_from f a zero = append-nil (f a) ∙ (let e : a ≡ a + 0 = omega arith in ap f e)
flat_map_from f a (suc n) =
    let e : a + 1 + n ≡ a + suc n = omega arith in
    ap (λ b. f a ++ b) (flat_map_from f (a + 1) n) ∙ sym (append_assoc (f a) (flat_map f (range_with_len (a + 1) n)) (f (a + 1 + n)))
    ∙ ap (λ k. (f a ++ flat_map f (range_with_len (a + 1) n)) ++ f k) e

pub flat_map_more : {A : Type 0} (f : ℕ → List A) (n : ℕ) → flat_map f (range_with_len 0 (n + 1)) ≡ flat_map f (range_with_len 0 n) ++ f n
flat_map_more f n = (let e : 0 + n ≡ n = omega arith in rw add-one (flat_map_from f 0 n ∙ ap (λ k. flat_map f (range_with_len 0 n) ++ f k) e))

pub line_behind : (n i x : ℕ) → x ≡ behind (i * 16) n → behind 16 x ≡ behind ((i + 1) * 16) n
line_behind n i x is = (let e : i * 16 + 16 ≡ (i + 1) * 16 = omega arith in ap (behind 16) is ∙ sym (behind_sum (i * 16) 16 n) ∙ ap (λ k. behind k n) e)

pub lines_more : (n i x : ℕ) (old now : List ℕ) → x ≡ behind (i * 16) n → old ≡ flat_map (λ i. trial_line (line_draws n i)) (range_with_len 0 i) → now ≡ old ++ trial_line (draws line_bounds x) → now ≡ flat_map (λ i. trial_line (line_draws n i)) (range_with_len 0 (i + 1))
unfolding line_draws
lines_more n i x old now is told more =
    more ∙ ap (λ b. b ++ trial_line (draws line_bounds x)) told
    ∙ ap (λ y. flat_map (λ i. trial_line (draws line_bounds (behind (i * 16) n))) (range_with_len 0 i) ++ trial_line (draws line_bounds y)) is
    ∙ sym (flat_map_more (λ i. trial_line (draws line_bounds (behind (i * 16) n))) i)
