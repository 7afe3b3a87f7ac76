-- The tokens of the canonical text of pieces, and their steps.
--
--   after-append        characters behind characters
--   tokens_told         the tokens of the text of pieces
--   steps_toks          their steps
use Rattle.std.proofs.Common.{◌≡◌, ℕ, ◌≤◌, List, [], ◌∷◌, ◌++◌, map, length, refl, ap, ◌∙◌, sym, subst, append_assoc, Bool, true, false, not, arith}
use Rattle.std.specs.Prelude.{◌||◌, ◌==◌, encode_utf8_all}
use Rattle.std.proofs.lemmas.Bool.{and_parts, eqb-true}
use Rattle.std.specs.Char.{encode_utf8}
use Rattle.std.specs.List.{list_all}
use Rattle.std.specs.Str.{chars}
use Rattle.std.proofs.lemmas.List.{append-nil}
use Rattle.std.proofs.lemmas.Str.{encodes-chars}
use Rattle.cs_base.specs.declared.content.query.Link.TheVariants.{Phrase, Near}
use Rattle.cs_model.specs.declared.kinds.Class.TheVariants as c
use Rattle.cs_model.specs.declared.kinds.Tie.{Tie}
use Rattle.cs_model.specs.declared.kinds.Tie.TheVariants.{Begins, Alternative, Linked as LinkedBy}
use Rattle.cs_model.specs.Words.{is_word_char}
use Rattle.cs_model.specs.Tokens.{Token, Word, Value, Dollar, Colon, Close, class_of, grown, with_next, tokens_after, tokens}
use Rattle.cs_model.specs.Grammar.{Step, steps, tie}
use Rattle.cs_model.specs.Refusals.{takes_bar}
use Rattle.cs_model.proofs.Pieces.{Piece, Plain, Whole, Valued, WholeValued, Opens, Closes, step_of, IsWord, IsValue, is_value_char, fresh, TieFits, Well, between, told, between_toks, toks}

-- ---- lists of characters
pub after-append : (ts : List Token) (xs ys : List ℕ) → tokens_after ts (xs ++ ys) ≡ tokens_after (tokens_after ts xs) ys
after-append ts [] ys = refl
after-append ts (x ∷ xs) ys = after-append (with_next x ts) xs ys

-- ---- words
-- a word begins behind these tokens: those behind which no bar may stand
abbrev pub opens : List Token → Bool
opens ts = not (takes_bar ts)

pub letter : (x : ℕ) → is_word_char x ≡ true → class_of x ≡ c.Letter
letter x h = rw h refl

grows : (w u : List ℕ) (ts : List Token) → list_all is_word_char w ≡ true → tokens_after (Word u ∷ ts) w ≡ Word (u ++ encode_utf8_all w) ∷ ts
grows [] u ts h = ap (λ v. Word v ∷ ts) (sym (append-nil u))
grows (x ∷ w) u ts h =
    ap (λ k. tokens_after (grown k (encode_utf8 x) (Word u ∷ ts)) w) (letter x ((and_parts (is_word_char x) (list_all is_word_char w) h).0))
    ∙ grows w (u ++ encode_utf8 x) ts ((and_parts (is_word_char x) (list_all is_word_char w) h).1)
    ∙ ap (λ v. Word v ∷ ts) (append_assoc u (encode_utf8 x) (encode_utf8_all w))

pub first_letter : (x : List ℕ) (ts : List Token) → opens ts ≡ true → grown c.Letter x ts ≡ Word x ∷ ts
first_letter x (Word w ∷ ts) h = cc
first_letter x (Value v ∷ ts) h = cc
first_letter x (Dollar ∷ ts) h = cc
first_letter x (Close ∷ ts) h = cc
first_letter x [] h = refl
first_letter x (t ∷ ts) h = refl

letters_put : (cs : List ℕ) (ts : List Token) → list_all is_word_char cs ≡ true → 1 ≤ length cs → opens ts ≡ true → tokens_after ts cs ≡ Word (encode_utf8_all cs) ∷ ts
letters_put [] ts h some o = absurd (omega (arith, some))
letters_put (x ∷ w) ts h some o =
    ap (λ k. tokens_after (grown k (encode_utf8 x) ts) w) (letter x ((and_parts (is_word_char x) (list_all is_word_char w) h).0))
    ∙ ap (λ us. tokens_after us w) (first_letter (encode_utf8 x) ts o)
    ∙ grows w (encode_utf8 x) ts ((and_parts (is_word_char x) (list_all is_word_char w) h).1)

-- bytes that aren't none have a character
pub chars_some : (cs : List ℕ) → 1 ≤ length (encode_utf8_all cs) → 1 ≤ length cs
chars_some [] h = absurd (omega (arith, h))
chars_some (x ∷ cs) h = omega arith

pub word_put : (w : List ℕ) (ts : List Token) → IsWord w → opens ts ≡ true → tokens_after ts (chars w) ≡ Word w ∷ ts
word_put w ts h o =
    let same : encode_utf8_all (chars w) ≡ w = encodes-chars w h.utf8 in
    letters_put (chars w) ts h.letters (chars_some (chars w) (omega (arith, h.some, ap length same))) o ∙ ap (λ v. Word v ∷ ts) same

-- ---- values
low_line : (v : List ℕ) (ts : List Token) → with_next 95 (Value v ∷ ts) ≡ Value (v ++ encode_utf8 95) ∷ ts
unfolding is_word_char encode_utf8
low_line v ts = refl

value_cases : (b : Bool) (x : ℕ) (v : List ℕ) (ts : List Token) → is_word_char x ≡ b → (b || x == 95) ≡ true → with_next x (Value v ∷ ts) ≡ Value (v ++ encode_utf8 x) ∷ ts
value_cases true x v ts e h = ap (λ k. grown k (encode_utf8 x) (Value v ∷ ts)) (letter x e)
value_cases false x v ts e h = subst (λ y. with_next y (Value v ∷ ts) ≡ Value (v ++ encode_utf8 y) ∷ ts) (sym (eqb-true x 95 h)) (low_line v ts)

value_char : (x : ℕ) (v : List ℕ) (ts : List Token) → is_value_char x ≡ true → with_next x (Value v ∷ ts) ≡ Value (v ++ encode_utf8 x) ∷ ts
value_char x v ts h = value_cases (is_word_char x) x v ts refl h

value_grows : (w v : List ℕ) (ts : List Token) → list_all is_value_char w ≡ true → tokens_after (Value v ∷ ts) w ≡ Value (v ++ encode_utf8_all w) ∷ ts
value_grows [] v ts h = ap (λ u. Value u ∷ ts) (sym (append-nil v))
value_grows (x ∷ w) v ts h =
    ap (λ us. tokens_after us w) (value_char x v ts ((and_parts (is_value_char x) (list_all is_value_char w) h).0))
    ∙ value_grows w (v ++ encode_utf8 x) ts ((and_parts (is_value_char x) (list_all is_value_char w) h).1)
    ∙ ap (λ u. Value u ∷ ts) (append_assoc v (encode_utf8 x) (encode_utf8_all w))

pub value_put : (v : List ℕ) (ts : List Token) → IsValue v → tokens_after (Value [] ∷ ts) (chars v) ≡ Value v ∷ ts
value_put v ts h = value_grows (chars v) [] ts h.letters ∙ ap (λ u. Value u ∷ ts) (encodes-chars v h.utf8)

-- ---- what stands between atoms
-- the signs of a tie give its tokens, and these tie so
abbrev IsPut : Tie → List Piece → Type 0
IsPut t ps = (tokens_after (toks ps) (between t (fresh ps)) ≡ between_toks t (fresh ps) (toks ps)) × (tie (between_toks t (fresh ps) (toks ps)) ≡ t)

is_put : (t : Tie) (ps : List Piece) → TieFits t ps → IsPut t ps
unfolding is_word_char encode_utf8
is_put (Begins true) [] h = (refl, refl)
is_put (Begins true) (Closes ∷ ps) h = (refl, refl)
is_put (Begins true) (p ∷ ps) h = (refl, refl)
is_put (Begins false) [] h = (refl, refl)
is_put (Begins false) (Closes ∷ ps) h = (refl, refl)
is_put (Begins false) (p ∷ ps) h = (refl, refl)
is_put Alternative ps h = (refl, refl)
is_put (LinkedBy Phrase) [] h = (cc, cc)
is_put (LinkedBy Phrase) (Valued u n v ∷ ps) h = (cc, cc)
is_put (LinkedBy Phrase) (Opens u n ∷ ps) h = (cc, cc)
is_put (LinkedBy Phrase) (p ∷ ps) h = (refl, refl)
is_put (LinkedBy Near) [] h = (cc, cc)
is_put (LinkedBy Near) (Valued u n v ∷ ps) h = (cc, cc)
is_put (LinkedBy Near) (Opens u n ∷ ps) h = (cc, cc)
is_put (LinkedBy Near) (p ∷ ps) h = (refl, refl)

pub between_opens : (t : Tie) (ps : List Piece) → opens (between_toks t (fresh ps) (toks ps)) ≡ true
between_opens (Begins true) ps = refl
between_opens (Begins false) [] = refl
between_opens (Begins false) (Closes ∷ ps) = refl
between_opens (Begins false) (p ∷ ps) = refl
between_opens Alternative ps = refl
between_opens (LinkedBy l) ps = refl

pub between_ties : (t : Tie) (ps : List Piece) → TieFits t ps → tie (between_toks t (fresh ps) (toks ps)) ≡ t
between_ties t ps h = (is_put t ps h).1

-- they are no step
pub between_steps : (t : Tie) (f : Bool) (ts : List Token) → steps (between_toks t f ts) ≡ steps ts
between_steps (Begins true) true ts = refl
between_steps (Begins true) false ts = refl
between_steps (Begins false) true ts = refl
between_steps (Begins false) false ts = refl
between_steps Alternative f ts = refl
between_steps (LinkedBy l) f ts = refl

-- ---- the text
colon_put : (n v : List ℕ) (ts : List Token) → IsWord n → IsValue v → opens ts ≡ true → tokens_after ts (chars n ++ 58 ∷ chars v) ≡ Value v ∷ Colon ∷ Word n ∷ ts
unfolding is_word_char
colon_put n v ts hn hv o =
    after-append ts (chars n) (58 ∷ chars v) ∙ ap (λ us. tokens_after us (58 ∷ chars v)) (word_put n ts hn o) ∙ value_put v (Colon ∷ Word n ∷ ts) hv

-- characters and a sign behind them
sign_put : (xs : List ℕ) (x : ℕ) (ts us : List Token) → tokens_after ts xs ≡ us → tokens_after ts (xs ++ x ∷ []) ≡ with_next x us
sign_put xs x ts us e = after-append ts xs (x ∷ []) ∙ ap (with_next x) e

-- an atom behind what stands before it
atom_put : (t : Tie) (ps : List Piece) (xs : List ℕ) (us : List Token) → TieFits t ps → tokens (told ps) ≡ toks ps
    → tokens_after (between_toks t (fresh ps) (toks ps)) xs ≡ us → tokens (told ps ++ (between t (fresh ps) ++ xs)) ≡ us
atom_put t ps xs us h e p =
    after-append [] (told ps) (between t (fresh ps) ++ xs)
    ∙ ap (λ vs. tokens_after vs (between t (fresh ps) ++ xs)) e
    ∙ after-append (toks ps) (between t (fresh ps)) xs
    ∙ ap (λ vs. tokens_after vs xs) ((is_put t ps h).0) ∙ p

pub tokens_told : (ps : List Piece) → Well ps → tokens (told ps) ≡ toks ps
unfolding is_word_char
tokens_told [] h = refl
tokens_told (Plain t w ∷ ps) h = atom_put t ps (chars w) _ h.0.0 (tokens_told ps h.1) (word_put w _ h.0.1 (between_opens t ps))
tokens_told (Whole t w ∷ ps) h = atom_put t ps (chars w ++ 36 ∷ []) _ h.0.0 (tokens_told ps h.1) (sign_put (chars w) 36 _ _ (word_put w _ h.0.1 (between_opens t ps)))
tokens_told (Valued t n v ∷ ps) h = atom_put t ps (chars n ++ 58 ∷ chars v) _ h.0.0 (tokens_told ps h.1) (colon_put n v _ h.0.1.word h.0.2 (between_opens t ps))
tokens_told (WholeValued t n v ∷ ps) h = atom_put t ps ((chars n ++ 58 ∷ chars v) ++ 36 ∷ []) _ h.0.0 (tokens_told ps h.1)
    (sign_put (chars n ++ 58 ∷ chars v) 36 _ _ (colon_put n v _ h.0.1.word h.0.2 (between_opens t ps)))
tokens_told (Opens t n ∷ ps) h = atom_put t ps (chars n ++ 91 ∷ []) _ h.0.0 (tokens_told ps h.1) (sign_put (chars n) 91 _ _ (word_put n _ h.0.1.word (between_opens t ps)))
tokens_told (Closes ∷ ps) h = sign_put (told ps) 93 [] (toks ps) (tokens_told ps h.1)

-- ---- the steps
step_behind : (t : Tie) (ps : List Piece) (f : Tie → Step) → TieFits t ps → steps (toks ps) ≡ map step_of ps
    → f (tie (between_toks t (fresh ps) (toks ps))) ∷ steps (between_toks t (fresh ps) (toks ps)) ≡ f t ∷ map step_of ps
step_behind t ps f h e = ap (λ u. f u ∷ steps (between_toks t (fresh ps) (toks ps))) (between_ties t ps h) ∙ ap (λ ss. f t ∷ ss) (between_steps t (fresh ps) (toks ps) ∙ e)

pub steps_toks : (ps : List Piece) → Well ps → steps (toks ps) ≡ map step_of ps
steps_toks [] h = refl
steps_toks (Plain t w ∷ ps) h = step_behind t ps (λ u. step_of (Plain u w)) h.0.0 (steps_toks ps h.1)
steps_toks (Whole t w ∷ ps) h = step_behind t ps (λ u. step_of (Whole u w)) h.0.0 (steps_toks ps h.1)
steps_toks (Valued t n v ∷ ps) h = step_behind t ps (λ u. step_of (Valued u n v)) h.0.0 (steps_toks ps h.1)
steps_toks (WholeValued t n v ∷ ps) h = step_behind t ps (λ u. step_of (WholeValued u n v)) h.0.0 (steps_toks ps h.1)
steps_toks (Opens t n ∷ ps) h = step_behind t ps (λ u. step_of (Opens u n)) h.0.0 (steps_toks ps h.1)
steps_toks (Closes ∷ ps) h = ap (λ ss. step_of Closes ∷ ss) (steps_toks ps h.1)
