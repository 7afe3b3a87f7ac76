-- No text that is typed is refused.
--
--   letter_lower     a letter is a small one
--   typed_same       a typed text is its own key text
--   typed_passes     no character of it is refused
--   none_refused     so it has no refused character
use Rattle.std.proofs.Common.{◌≡◌, ℕ, ◌+◌, ◌≤◌, true, false, List, [], ◌∷◌, ◌++◌, length, take, map, refl, sym, ap, subst, ◌∙◌, arith, inl, inr, None, Some}
use Rattle.std.specs.Prelude.{nat_lt}
use Rattle.std.specs.List.{AllByRecursion, list_all}
use Rattle.std.specs.Char.{encode_utf8, to_ascii_lowercase}
use Rattle.std.specs.Str.{chars, IsAscii}
use Rattle.std.proofs.lemmas.Bool.Decides.{nat_tests}
use Rattle.std.proofs.lemmas.List.{map-append}
use Rattle.std.proofs.lemmas.Str.{chars-IsAscii, IsUtf8-from_ascii, IsAscii-append}
use Rattle.cs_model.specs.KeyText.{norm}
use Rattle.cs_model.specs.Words.{is_word_char}
use Rattle.cs_model.specs.Tokens.{Word, Gap, tokens_after, tokens, with_next}
use Rattle.cs_model.specs.Refusals.{QueryRefusal, verdict, IsRefused}
use Rattle.cs_model.proofs.AsciiLemmas.{IsAscii-from_AllAscii, norm-ascii}
use Rattle.cs_model.proofs.FineTokens.{Fine, fronts}
use Rattle.cs_model.proofs.PassedTokens.{Passes}
use Rattle.cs_model.proofs.PieceTokens.{after-append, word_put}
use Rattle.cs_model.proofs.Pieces.{IsWord}
use Rattle.cs_trial.specs.Typed.{IsLetter, AreLetters, IsTyped}
use Rattle.cs_trial.proofs.WordsLemmas.{letters_ascii}

-- ---- letters
pub letter_lower : (x : ℕ) → IsLetter x → to_ascii_lowercase x ≡ x
letter_lower x h =
    let above : nat_lt x 65 ≡ false = grind (arith, nat_tests) in
    let past : nat_lt x 91 ≡ false = grind (arith, nat_tests) in
    rw (above, past) refl

letters_lower : (w : List ℕ) → AllByRecursion IsLetter w → map to_ascii_lowercase w ≡ w
letters_lower [] h = refl
letters_lower (x ∷ w) h = rw (letter_lower x h.0, letters_lower w h.1) refl

letter_is : (x : ℕ) → IsLetter x → is_word_char x ≡ true
unfolding is_word_char
letter_is x h = grind (arith, nat_tests)

letters_are : (w : List ℕ) → AllByRecursion IsLetter w → list_all is_word_char w ≡ true
letters_are [] h = refl
letters_are (x ∷ w) h = rw (letter_is x h.0, letters_are w h.1) refl

ascii_of : (w : List ℕ) → AreLetters w → IsAscii w
ascii_of w h = IsAscii-from_AllAscii w (letters_ascii w h.letters)

space_ascii : IsAscii (32 ∷ [])
space_ascii = IsAscii-from_AllAscii (32 ∷ []) (omega arith, tt)

word_of : (w : List ℕ) → AreLetters w → IsWord w
word_of w h = record {
  utf8 = IsUtf8-from_ascii w (ascii_of w h);
  letters = subst (λ cs. list_all is_word_char cs ≡ true) (sym (chars-IsAscii w (ascii_of w h))) (letters_are w h.letters);
  some = h.some;
  short = omega (arith, h.few);
}

-- ---- tokens
pass_word : (w : List ℕ) → length w ≤ 6 → Passes (Word w ∷ [])
pass_word w h = record { fine = refl; small = omega (arith, h); short = omega (arith, h); parts = omega arith; atoms = omega arith; shallow = omega arith }

pass_gap : (w : List ℕ) → length w ≤ 6 → Passes (Gap 1 ∷ Word w ∷ [])
pass_gap w h = record { fine = refl; small = omega (arith, h); short = omega arith; parts = omega arith; atoms = omega arith; shallow = omega arith }

pass_two : (v w : List ℕ) → length v ≤ 6 → length w ≤ 6 → Passes (Word w ∷ Gap 1 ∷ Word v ∷ [])
pass_two v w g h = record { fine = refl; small = omega (arith, g, h); short = omega (arith, h); parts = omega arith; atoms = omega arith; shallow = omega arith }

one_word : (w : List ℕ) → AreLetters w → tokens w ≡ Word w ∷ []
one_word w h = ap (tokens_after []) (sym (chars-IsAscii w (ascii_of w h))) ∙ word_put w [] (word_of w h) refl

space_next : (w : List ℕ) → with_next 32 (Word w ∷ []) ≡ Gap 1 ∷ Word w ∷ []
unfolding is_word_char encode_utf8
space_next w = refl

two_words : (v w : List ℕ) → AreLetters v → AreLetters w → tokens (v ++ 32 ∷ w) ≡ Word w ∷ Gap 1 ∷ Word v ∷ []
two_words v w g h =
    after-append [] v (32 ∷ w) ∙ ap (λ ts. tokens_after ts (32 ∷ w)) (one_word v g) ∙ ap (λ ts. tokens_after ts w) (space_next v)
    ∙ ap (tokens_after (Gap 1 ∷ Word v ∷ [])) (sym (chars-IsAscii w (ascii_of w h))) ∙ word_put w (Gap 1 ∷ Word v ∷ []) (word_of w h) refl

-- ---- typed texts
two_ascii : (v w : List ℕ) → AreLetters v → AreLetters w → IsAscii (v ++ 32 ∷ w)
two_ascii v w g h = IsAscii-append v (32 ∷ w) (ascii_of v g) (IsAscii-append (32 ∷ []) w space_ascii (ascii_of w h))

typed_ascii : (text : List ℕ) → IsTyped text → IsAscii text
typed_ascii text (inl h) = ascii_of text h
typed_ascii text (inr h) = subst IsAscii (sym h.4) (two_ascii h.0 h.1 h.2 h.3)

typed_lower : (text : List ℕ) → IsTyped text → map to_ascii_lowercase text ≡ text
typed_lower text (inl h) = letters_lower text h.letters
typed_lower text (inr h) =
    subst (λ t. map to_ascii_lowercase t ≡ t) (sym h.4)
    (map-append to_ascii_lowercase h.0 (32 ∷ h.1) ∙ ap (λ a. a ++ 32 ∷ map to_ascii_lowercase h.1) (letters_lower h.0 h.2.letters) ∙ ap (λ b. h.0 ++ 32 ∷ b) (letters_lower h.1 h.3.letters))

pub typed_same : (text : List ℕ) → IsTyped text → chars (norm text) ≡ text
typed_same text h = ap chars (norm-ascii text (typed_ascii text h) ∙ typed_lower text h) ∙ chars-IsAscii text (typed_ascii text h)

typed_fine : (text : List ℕ) → IsTyped text → Fine (tokens text)
typed_fine text (inl h) = subst Fine (sym (one_word text h)) (pass_word text h.few, tt)
typed_fine text (inr h) =
    subst (λ t. Fine (tokens t)) (sym h.4)
    (subst Fine (sym (two_words h.0 h.1 h.2 h.3)) (pass_two h.0 h.1 h.2.few h.3.few, (pass_gap h.0 h.2.few, (pass_word h.0 h.2.few, tt))))

pub typed_passes : (text : List ℕ) → IsTyped text → (k : ℕ) → verdict (tokens (take k text)) ≡ None
typed_passes text h k = fronts text [] (typed_fine text h) k

pub none_refused : (text : List ℕ) → IsTyped text → (at : ℕ) (f : QueryRefusal) → IsRefused (chars (norm text)) at f → ⊥
none_refused text h at f r =
    let here : verdict (tokens (take (r.count + 1) text)) ≡ Some f = subst (λ cs. verdict (tokens (take (r.count + 1) cs)) ≡ Some f) (typed_same text h) r.here in
    let passes : verdict (tokens (take (r.count + 1) text)) ≡ None = typed_passes text h (r.count + 1) in
    cc
