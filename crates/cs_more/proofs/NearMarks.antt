-- Marks of words near a place, and no marks.
use Rattle.std.proofs.Common.{◌≡◌, ◌<◌, ◌+◌, ◌-◌, ℕ, suc, List, [], ◌∷◌, length, map, replicate, Bool, true, false, refl, sym, ap, ◌∙◌, arith}
use Rattle.std.specs.Prelude.{◌||◌}
use Rattle.std.specs.List.{list_any, range_with_len}
use Rattle.cs_base.specs.declared.content.limits.TheConstants.{MAX_DISTANCE}
use Rattle.cs_model_excerpts.specs.OwnWords.{is_near_marked, is_neighbour}

pub near_from : (kept : List Bool) (place low : ℕ) → low ≡ place - MAX_DISTANCE → is_near_marked kept place ≡ list_any (is_neighbour kept place) (range_with_len low (low + 17 - low))
unfolding is_near_marked
near_from kept place low e = let len : low + 17 - low ≡ 17 = omega arith in rw (len, e) refl

range-first : (a b : ℕ) → a < b → range_with_len a (b - a) ≡ range_with_len a (suc (b - (a + 1)))
range-first a b l = let len : b - a ≡ suc (b - (a + 1)) = omega (arith, l) in ap (range_with_len a) len

pub near_on : (f : ℕ → Bool) (whole : Bool) (a b : ℕ) → a < b → f a ≡ false → whole ≡ list_any f (range_with_len a (b - a)) → whole ≡ list_any f (range_with_len (a + 1) (b - (a + 1)))
near_on f whole a b l e w = w ∙ ap (list_any f) (range-first a b l) ∙ ap (λ t. t || list_any f (range_with_len (a + 1) (b - (a + 1)))) e

pub near_found : (f : ℕ → Bool) (whole : Bool) (a b : ℕ) → a < b → f a ≡ true → whole ≡ list_any f (range_with_len a (b - a)) → true ≡ whole
near_found f whole a b l e w = sym (w ∙ ap (list_any f) (range-first a b l) ∙ ap (λ t. t || list_any f (range_with_len (a + 1) (b - (a + 1)))) e)

-- one for each word
pub no_marks_are : (ws : List (List ℕ)) → replicate (length ws) false ≡ map (λ x. false) ws
no_marks_are [] = refl
no_marks_are (w ∷ ws) = ap (λ ms. false ∷ ms) (no_marks_are ws)
