-- Words without their leading colon.
--
--   colon_rest      what follows the colon is text
use Rattle.std.proofs.Common.{◌≡◌, ◌<◌, ◌-◌, ◌==◌, ℕ, Bool, true, List, [], ◌∷◌, T, sym, ◌∙◌, subst, arith, length, drop, take}
use Rattle.std.specs.Prelude.{nat_eq}
use Rattle.std.specs.List.{starts_with}
use Rattle.std.specs.Str.{IsUtf8}
use Rattle.std.proofs.lemmas.Bool.Decides.{nat_tests}
use Rattle.std.proofs.lemmas.List.{take_all}
use Rattle.std.proofs.lemmas.Str.{IsUtf8-drop, IsCharBoundary-after_ascii}
use Rattle.cs_base.proofs.ListsLemmas.{and_true}

colon_first : (b : ℕ) (bs : List ℕ) (r : Bool) → starts_with nat_eq (b ∷ bs) (58 ∷ []) ≡ r → (b == 58) ≡ r
colon_first b bs r m = let turned : (b == 58) ≡ (58 == b) = grind (arith, nat_tests) in turned ∙ sym (and_true (58 == b)) ∙ m

without_first : (b : ℕ) (bs : List ℕ) → take (length (b ∷ bs) - 1) bs ≡ bs
without_first b bs = take_all (length (b ∷ bs) - 1) bs (omega arith)

pub colon_rest : (bs : List ℕ) → IsUtf8 bs → starts_with nat_eq bs (58 ∷ []) ≡ true → IsUtf8 (take (length bs - 1) (drop 1 bs))
colon_rest [] u m = absurd (subst T (sym m) tt)
colon_rest (b ∷ bs) u m =
    let one = colon_first b bs true m in
    let low : b < 128 = grind (arith, nat_tests) in
    subst IsUtf8 (sym (without_first b bs)) (IsUtf8-drop (b ∷ bs) 1 u (IsCharBoundary-after_ascii (b ∷ bs) 0 u (omega arith) low))
