-- A trial's collection has no weights line, so its rows have the usual scores.
--
--   unmarked_trial   a trial's collection has no mark in front
--   no_weights       no line of it is one
--   usual_weights    its weights
use Rattle.std.proofs.Common.{◌≡◌, ℕ, zero, suc, ◌+◌, ◌-◌, ◌/◌, ◌%◌, ◌<◌, Bool, true, false, cond, ◌&&◌, nat_eq, List, [], ◌∷◌, ◌++◌, length, filter, take, get_or, refl, ap, ◌∙◌, arith}
use Rattle.std.specs.Bool.{◌==◌}
use Rattle.std.specs.List.{AllByRecursion, enumerate_from, flat_map, onto_first, range_with_len, slice_split}
use Rattle.std.specs.Prelude.{codes}
use Rattle.std.specs.Str.Lines.{lines, lines_of_parts, strip_carriage_return}
use Rattle.std.proofs.lemmas.Bool.Decides.{nat_tests}
use Rattle.cs_base.specs.declared.content.scores.TheConstants.{USUAL_WEIGHTS}
use Rattle.cs_model.specs.Collection.{is_weights_line, weights, weights_lines, weights_of_lines, without_mark}
use Rattle.cs_model.specs.Weights.{names_weights}
use Rattle.cs_model_trial.specs.Generator.{collection, line_count, line_draws, line_syllable, line_title, spaced, syllable, text_of, trial_line, word}

-- ---- bytes that begin neither with `#` nor with the mark in front of a collection
abbrev Begins : List ℕ → Type 0
Begins [] = Unit {0}
Begins (x ∷ bs) = (nat_eq x 35 ≡ false) × (nat_eq 35 x ≡ false) × (nat_eq 239 x ≡ false)

begins-append : (xs ys : List ℕ) → Begins xs → Begins ys → Begins (xs ++ ys)
begins-append [] ys h k = k
begins-append (x ∷ xs) ys h k = h

begins-take : (k : ℕ) (bs : List ℕ) → Begins bs → Begins (take k bs)
begins-take zero bs h = tt
begins-take (suc k) [] h = tt
begins-take (suc k) (x ∷ bs) h = h

begins-stripped : (b : Bool) (l : List ℕ) → Begins l → Begins (cond b (take (length l - 1) l) l)
begins-stripped true l h = begins-take (length l - 1) l h
begins-stripped false l h = h

-- ---- lines
unnamed : (l : List ℕ) → Begins l → names_weights l ≡ false
unnamed [] h = refl
unnamed (x ∷ l) h = rw (h.0, h.1) refl

none_later : (n : ℕ) (ls : List (List ℕ)) → 1 < n → filter is_weights_line (enumerate_from n ls) ≡ []
none_later n [] h = refl
none_later n (l ∷ ls) h =
    let later : (n == 1) ≡ false = grind (arith, nat_tests) in
    ap (λ b. cond (b && names_weights l) ((n, l) ∷ filter is_weights_line (enumerate_from (n + 1) ls)) (filter is_weights_line (enumerate_from (n + 1) ls))) later
    ∙ none_later (n + 1) ls (omega arith)

none_from : (l : List ℕ) (ls : List (List ℕ)) → Begins l → filter is_weights_line (enumerate_from 1 (l ∷ ls)) ≡ []
none_from l ls h =
    ap (λ b. cond b ((1, l) ∷ filter is_weights_line (enumerate_from 2 ls)) (filter is_weights_line (enumerate_from 2 ls))) (unnamed l h)
    ∙ none_later 2 ls (omega arith)

-- the first part begins so
abbrev FirstBegins : List (List ℕ) → Type 0
FirstBegins [] = Unit {0}
FirstBegins (part ∷ parts) = Begins part

first-parted : (b : Bool) (x : ℕ) (parts : List (List ℕ)) → Begins (x ∷ []) → FirstBegins (cond b ([] ∷ parts) (onto_first x parts))
first-parted true x parts h = tt
first-parted false x [] h = h
first-parted false x (part ∷ parts) h = h

first_part : (bs : List ℕ) → Begins bs → FirstBegins (slice_split (λ b. b == 10) bs)
first_part [] h = tt
first_part (x ∷ bs) h = first-parted (x == 10) x (slice_split (λ b. b == 10) bs) h

none_last : (b : Bool) (l : List ℕ) → Begins l → filter is_weights_line (enumerate_from 1 (cond b [] (l ∷ []))) ≡ []
none_last true l h = refl
none_last false l h = none_from l [] h

none_in_parts : (parts : List (List ℕ)) → FirstBegins parts → filter is_weights_line (enumerate_from 1 (lines_of_parts parts)) ≡ []
none_in_parts [] h = refl
none_in_parts (l ∷ []) h = none_last (length l == 0) l h
none_in_parts (l ∷ m ∷ parts) h = none_from (strip_carriage_return l) (lines_of_parts (m ∷ parts)) (begins-stripped (get_or l (length l - 1) 0 == 13) l h)

unmarked : (c : List ℕ) → Begins c → without_mark c ≡ c
unmarked [] h = refl
unmarked (x ∷ c) h = rw h.2 refl

none_there : (c : List ℕ) → Begins c → weights_lines c ≡ []
none_there c h = ap (λ bs. filter is_weights_line (enumerate_from 1 (lines bs))) (unmarked c h) ∙ none_in_parts (slice_split (λ b. b == 10) c) (first_part c h)

-- ---- trials
begins-get_or : (ls : List (List ℕ)) (k : ℕ) → AllByRecursion Begins ls → Begins (get_or ls k [])
begins-get_or [] k h = tt
begins-get_or (l ∷ ls) zero h = h.0
begins-get_or (l ∷ ls) (suc k) h = begins-get_or ls k h.1

begins-syllable : (n : ℕ) → Begins (syllable n)
begins-syllable n =
    let so : Begins (codes "ba") = (refl, refl, refl) in
    begins-get_or (
    codes "ba" ∷ codes "be" ∷ codes "bi" ∷ codes "bo"
    ∷ codes "da" ∷ codes "de" ∷ codes "di" ∷ codes "do"
    ∷ codes "ka" ∷ codes "ke" ∷ codes "ki" ∷ codes "ko"
    ∷ codes "ta" ∷ codes "te" ∷ codes "ti" ∷ codes "to" ∷ []
    ) n (so, (so, (so, (so, (so, (so, (so, (so, (so, (so, (so, (so, (so, (so, (so, (so, tt))))))))))))))))

begins-word : (w : ℕ) → Begins (word w)
unfolding word
begins-word w =
    begins-append (syllable (w / 256) ++ syllable (w / 16 % 16)) (syllable (w % 16))
    (begins-append (syllable (w / 256)) (syllable (w / 16 % 16)) (begins-syllable (w / 256)) (begins-syllable (w / 16 % 16))) (begins-syllable (w % 16))

begins-spaced : (ws : List ℕ) → Begins (spaced ws)
begins-spaced [] = tt
begins-spaced (w ∷ []) = begins-word w
begins-spaced (w ∷ v ∷ ws) = begins-append (word w) (32 ∷ spaced (v ∷ ws)) (begins-word w) (refl, refl, refl)

begins-line : (ds : List ℕ) → Begins (trial_line ds)
begins-line ds =
    let title = spaced (line_title ds) in
    let facet = syllable (line_syllable ds) in
    let text = spaced (text_of ds) in
    let front : Begins (title ++ 9 ∷ codes "kind=") = begins-append title (9 ∷ codes "kind=") (begins-spaced (line_title ds)) (refl, refl, refl) in
    begins-append (title ++ 9 ∷ codes "kind=" ++ facet ++ 9 ∷ text) (10 ∷ [])
    (begins-append (title ++ 9 ∷ codes "kind=" ++ facet) (9 ∷ text)
    (begins-append (title ++ 9 ∷ codes "kind=") facet front (begins-syllable (line_syllable ds))) (refl, refl, refl)) (refl, refl, refl)

begins-lines : (n : ℕ) (is : List ℕ) → Begins (flat_map (λ i. trial_line (line_draws n i)) is)
begins-lines n [] = tt
begins-lines n (i ∷ is) = begins-append (trial_line (line_draws n i)) (flat_map (λ i. trial_line (line_draws n i)) is) (begins-line (line_draws n i)) (begins-lines n is)

pub unmarked_trial : (n : ℕ) → without_mark (collection n) ≡ collection n
unfolding collection
unmarked_trial n = unmarked (collection n) (begins-lines n (range_with_len 0 (line_count n)))

pub no_weights : (n : ℕ) → weights_lines (collection n) ≡ []
unfolding collection
no_weights n = none_there (collection n) (begins-lines n (range_with_len 0 (line_count n)))

pub usual_weights : (n : ℕ) → weights (collection n) ≡ USUAL_WEIGHTS
usual_weights n = ap weights_of_lines (no_weights n)
