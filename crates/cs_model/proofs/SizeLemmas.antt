-- The tokens of a text have its bytes.
--
--   size_next       one character more adds its bytes
--   place_more      the place behind one character more
use Rattle.std.proofs.Common.{◌≡◌, ℕ, ◌+◌, ◌<◌, Bool, true, false, List, [], ◌∷◌, ◌++◌, length, take, get_or, refl, ap, ◌∙◌, sym, append_assoc, length-append, arith}
use Rattle.std.specs.Prelude.{encode_utf8_all, ◌||◌, ◌==◌}
use Rattle.std.specs.Char.{encode_utf8}
use Rattle.std.proofs.lemmas.Bool.{eqb-true}
use Rattle.std.proofs.lemmas.List.{take_more}
use Rattle.cs_model.specs.declared.kinds.Class.{Class}
use Rattle.cs_model.specs.declared.kinds.Class.TheVariants as c
use Rattle.cs_model.specs.Tokens.{Token, Word, Value, Run, Gap, class_of, begun, grown, with_next, size}
use Rattle.cs_model.specs.Refusals.{place_of}
use Rattle.cs_model.proofs.ClassLemmas.{class_cases}

-- each sign, and each character of a run, is one byte
abbrev pub Fits : List ℕ → Class → Type 0
Fits x c.Letter = Unit {0}
Fits x c.Other = Unit {0}
Fits x k = length x ≡ 1

ascii : (x y : ℕ) → length (encode_utf8 y) ≡ 1 → (x == y) ≡ true → length (encode_utf8 x) ≡ 1
ascii x y one e = ap (λ z. length (encode_utf8 z)) (eqb-true x y e) ∙ one

ascii_or : (a b : Bool) (x : List ℕ) → (a ≡ true → length x ≡ 1) → (b ≡ true → length x ≡ 1) → (a || b) ≡ true → length x ≡ 1
ascii_or true b x h k e = h refl
ascii_or false b x h k e = k e

pub class_fits : (x : ℕ) → Fits (encode_utf8 x) (class_of x)
unfolding encode_utf8
class_fits x =
    class_cases (Fits (encode_utf8 x)) x (λ _. tt) (ascii x 46 refl)
    (ascii_or (x == 45) _ (encode_utf8 x) (ascii x 45 refl) (ascii_or (x == 95) _ (encode_utf8 x) (ascii x 95 refl) (ascii x 39 refl)))
    (ascii x 36 refl) (ascii x 124 refl) (ascii x 58 refl) (ascii x 91 refl) (ascii x 93 refl) tt

size_begun : (k : Class) (x : List ℕ) (ts : List Token) → Fits x k → size (begun k x ts) ≡ size ts + length x
size_begun c.Letter x ts h = refl
size_begun c.Dot x ts h = refl
size_begun c.Joiner x ts h = refl
size_begun c.Dollar x ts h = omega (arith, h)
size_begun c.Bar x ts h = omega (arith, h)
size_begun c.Colon x ts h = omega (arith, h)
size_begun c.Open x ts h = omega (arith, h)
size_begun c.Close x ts h = omega (arith, h)
size_begun c.Other x ts h = refl

size_grown : (k : Class) (x : List ℕ) (ts : List Token) → Fits x k → size (grown k x ts) ≡ size ts + length x
size_grown c.Letter x (Word w ∷ ts) h = omega (arith, length-append w x)
size_grown c.Letter x (Value v ∷ ts) h = omega (arith, length-append v x)
size_grown c.Dot x (Run r ∷ ts) h = omega (arith, length-append r x)
size_grown c.Joiner x (Value v ∷ ts) h = omega (arith, h, length-append v (95 ∷ []))
size_grown c.Joiner x (Run r ∷ ts) h = omega (arith, length-append r x)
size_grown c.Other x (Gap n ∷ ts) h = omega arith
size_grown k x ts h = size_begun k x ts h

pub size_next : (x : ℕ) (ts : List Token) → size (with_next x ts) ≡ size ts + length (encode_utf8 x)
size_next x ts = size_grown (class_of x) (encode_utf8 x) ts (class_fits x)

pub encodes-append : (xs ys : List ℕ) → encode_utf8_all (xs ++ ys) ≡ encode_utf8_all xs ++ encode_utf8_all ys
encodes-append [] ys = refl
encodes-append (x ∷ xs) ys = ap (λ l. encode_utf8 x ++ l) (encodes-append xs ys) ∙ sym (append_assoc (encode_utf8 x) (encode_utf8_all xs) (encode_utf8_all ys))

-- the place behind one character more
pub place_more : (cs : List ℕ) (k : ℕ) → k < length cs → place_of cs (k + 1) ≡ place_of cs k + length (encode_utf8 (get_or cs k 0))
place_more cs k h =
    let x : ℕ = get_or cs k 0 in
    let one : encode_utf8_all (take (k + 1) cs) ≡ encode_utf8_all (take k cs) ++ encode_utf8_all (x ∷ []) =
    ap encode_utf8_all (take_more cs k 0 h) ∙ encodes-append (take k cs) (x ∷ []) in
    omega (arith, ap length one, length-append (encode_utf8_all (take k cs)) (encode_utf8_all (x ∷ [])), length-append (encode_utf8 x) [])
