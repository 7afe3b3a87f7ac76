-- The tokens of a text have its bytes, and none ends before its characters do.
--
--   size_after       characters behind tokens add their bytes
--   apart_after        behind tokens that are apart the tokens are apart
--   all_bytes, maximal     the laws
use Rattle.std.proofs.Common.{◌≡◌, ℕ, ◌+◌, List, [], ◌∷◌, ◌++◌, length, refl, ap, arith, length-append, false}
use Rattle.std.specs.Prelude.{not, nat_eq, encode_utf8_all}
use Rattle.std.specs.Char.{encode_utf8}
use Rattle.std.specs.List.{starts_with}
use Rattle.std.proofs.lemmas.Bool.{eqb-true}
use Rattle.cs_model.specs.declared.kinds.Class.{Class}
use Rattle.cs_model.specs.declared.kinds.Class.TheVariants as c
use Rattle.cs_model.specs.Tokens.{Token, Word, Value, Run, Gap, class_of, grown, with_next, tokens_after, size}
use Rattle.cs_model.specs.GrammarLaws.{HaveAllBytes, belongs, AreApart, AreMaximal}
use Rattle.cs_model.proofs.ClassLemmas.{class_cases}
use Rattle.cs_model.proofs.SizeLemmas.{size_next}

-- ---- bytes
pub size_after : (cs : List ℕ) (ts : List Token) → size (tokens_after ts cs) ≡ size ts + length (encode_utf8_all cs)
size_after [] ts = omega arith
size_after (x ∷ cs) ts = omega (arith, size_after cs (with_next x ts), size_next x ts, length-append (encode_utf8 x) (encode_utf8_all cs))

pub all_bytes : HaveAllBytes
all_bytes cs = omega (arith, size_after cs [])

-- ---- maximal tokens
-- the bytes of a character of this class
abbrev Dotted : List ℕ → Class → Type 0
Dotted x c.Dot = x ≡ 46 ∷ []
Dotted x k = Unit {0}

class_dotted : (x : ℕ) → Dotted (encode_utf8 x) (class_of x)
unfolding encode_utf8
class_dotted x = class_cases (Dotted (encode_utf8 x)) x (λ e. tt) (λ e. ap encode_utf8 (eqb-true x 46 e)) (λ e. tt) (λ e. tt) (λ e. tt) (λ e. tt) (λ e. tt) (λ e. tt) tt

dot_stays : (r x : List ℕ) → not (starts_with nat_eq r (46 ∷ [])) ≡ false → not (starts_with nat_eq (r ++ x) (46 ∷ [])) ≡ false
dot_stays [] x h = absurd (cc)
dot_stays (y ∷ r) x h = h

run_grows : (r x : List ℕ) (ts : List Token) → belongs (Run r) ts ≡ false → belongs (Run (r ++ x)) ts ≡ false
run_grows r x (Value v ∷ ts) h = dot_stays r x h
run_grows r x ts h = h

apart_grown : (k : Class) (x : List ℕ) (ts : List Token) → Dotted x k → AreApart ts → AreApart (grown k x ts)
apart_grown c.Letter x (Word w ∷ ts) d h = h
apart_grown c.Letter x (Value v ∷ ts) d h = h
apart_grown c.Letter x ts d h = (refl, h)
apart_grown c.Dot x (Run r ∷ ts) d h = (run_grows r x ts h.0, h.1)
apart_grown c.Dot x (Value v ∷ ts) d h = (ap (λ r. belongs (Run r) (Value v ∷ ts)) d, h)
apart_grown c.Dot x ts d h = (refl, h)
apart_grown c.Joiner x (Value v ∷ ts) d h = h
apart_grown c.Joiner x (Run r ∷ ts) d h = (run_grows r x ts h.0, h.1)
apart_grown c.Joiner x ts d h = (refl, h)
apart_grown c.Dollar x ts d h = (refl, h)
apart_grown c.Bar x ts d h = (refl, h)
apart_grown c.Colon x ts d h = (refl, (refl, h))
apart_grown c.Open x ts d h = (refl, h)
apart_grown c.Close x ts d h = (refl, h)
apart_grown c.Other x (Gap n ∷ ts) d h = h
apart_grown c.Other x ts d h = (refl, h)

apart_after : (cs : List ℕ) (ts : List Token) → AreApart ts → AreApart (tokens_after ts cs)
apart_after [] ts h = h
apart_after (x ∷ cs) ts h = apart_after cs (with_next x ts) (apart_grown (class_of x) (encode_utf8 x) ts (class_dotted x) h)

pub maximal : AreMaximal
maximal cs = apart_after cs [] tt
