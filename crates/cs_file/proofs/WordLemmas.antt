-- The form of a word, by its parts.
--
--   named_is, plain_is, none_is     a facet word, a plain word, and bytes that are no text
use Rattle.std.proofs.Common.{◌≡◌, ◌≢◌, ℕ, Bool, true, false, cond, ◌&&◌, eqb, List, [], ◌∷◌, drop, refl, sym, ap, ◌∙◌}
use Rattle.std.specs.Str.{is_utf8}
use Rattle.std.proofs.lemmas.Bool.{eqb-true}
use Rattle.cs_model_index.specs.FileRules.{is_named_value, is_plain_word, is_word}
use Rattle.cs_model_index.specs.Partitions.{is_facet}

text_word : (w : List ℕ) → is_utf8 w ≡ true → is_word w ≡ cond (is_facet w) (is_named_value (drop 1 w)) (is_plain_word w)
text_word w e = ap (λ (b : Bool). b && cond (is_facet w) (is_named_value (drop 1 w)) (is_plain_word w)) e

pub named_is : (w rest : List ℕ) (named : Bool) → is_utf8 w ≡ true → w ≡ 58 ∷ rest → named ≡ is_named_value rest → named ≡ is_word w
named_is w rest named text is e = e ∙ ap (λ (x : List ℕ). cond (is_facet x) (is_named_value (drop 1 x)) (is_plain_word x)) (sym is) ∙ sym (text_word w text)

not_facet : (w : List ℕ) → ((rest : List ℕ) → w ≢ 58 ∷ rest) → is_facet w ≡ false
not_facet [] h = refl
not_facet (b ∷ w) h =
    elim (eqb b 58) as (λ x. eqb b 58 ≡ x → x ≡ false) [
      | true ↦ λ e. absurd (h w (ap (λ (n : ℕ). n ∷ w) (eqb-true b 58 e)))
      | false ↦ λ e. refl
    ] refl

pub plain_is : (w : List ℕ) (plain : Bool) → is_utf8 w ≡ true → ((rest : List ℕ) → w ≢ 58 ∷ rest) → plain ≡ is_plain_word w → plain ≡ is_word w
plain_is w plain text h e = e ∙ ap (λ (b : Bool). cond b (is_named_value (drop 1 w)) (is_plain_word w)) (sym (not_facet w h)) ∙ sym (text_word w text)

pub none_is : (w : List ℕ) → is_utf8 w ≡ false → false ≡ is_word w
none_is w e = ap (λ (b : Bool). b && cond (is_facet w) (is_named_value (drop 1 w)) (is_plain_word w)) (sym e)
