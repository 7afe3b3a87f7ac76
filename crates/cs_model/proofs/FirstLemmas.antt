-- The first of some reasons.
--
--   first-one            of one reason it is that reason
--   first-cons           the first one where it stands, else the first of the others
--   first-range          of those at some numbers it is that of the first ones, else that of the last
--   first-append         where no reason of the first list stands, it is that of the second
--   first-append_some    a reason of the first list goes before the second
--   none_first, none_rest     where no reason stands, neither the first nor one behind it does
--   unless_none          a rule that gives no reason holds
use Rattle.std.proofs.Common.{◌≡◌, ℕ, zero, suc, ◌+◌, Bool, true, false, List, [], ◌∷◌, ◌++◌, map, refl, sym, ap, ◌∙◌, arith}
use Rattle.std.specs.Prelude.{Option, None, Some}
use Rattle.std.specs.List.{range_with_len}
use Rattle.std.specs.Option.{option_or}
use Rattle.cs_model.specs.First.{unless, first_reason}

module _ {R : Type 0} where
  pub first-one : (o : Option R) → first_reason (o ∷ []) ≡ o
  first-one None = refl
  first-one (Some r) = refl

  pub first-cons : (o : Option R) (rs : List (Option R)) → first_reason (o ∷ rs) ≡ option_or o (first_reason rs)
  first-cons None rs = refl
  first-cons (Some r) rs = refl

  or_assoc : (a b c : Option R) → option_or a (option_or b c) ≡ option_or (option_or a b) c
  or_assoc None b c = refl
  or_assoc (Some r) b c = refl

  pub first-range : (g : ℕ → Option R) (a n : ℕ) → first_reason (map g (range_with_len a (suc n))) ≡ option_or (first_reason (map g (range_with_len a n))) (g (a + n))
  first-range g a zero = let here : a ≡ a + 0 = omega arith in first-one (g a) ∙ ap g here
  first-range g a (suc n) =
      let last : a + 1 + n ≡ a + suc n = omega arith in
      first-cons (g a) (map g (range_with_len (a + 1) (suc n)))
      ∙ ap (λ o. option_or (g a) o) (first-range g (a + 1) n)
      ∙ or_assoc (g a) (first_reason (map g (range_with_len (a + 1) n))) (g (a + 1 + n))
      ∙ ap (λ o. option_or o (g (a + 1 + n))) (sym (first-cons (g a) (map g (range_with_len (a + 1) n))))
      ∙ ap (λ k. option_or (first_reason (map g (range_with_len a (suc n)))) (g k)) last

  pub first-append : (rs qs : List (Option R)) → first_reason rs ≡ None → first_reason (rs ++ qs) ≡ first_reason qs
  first-append [] qs h = refl
  first-append (None ∷ rs) qs h = first-append rs qs h
  first-append (Some r ∷ rs) qs h = absurd (cc)

  pub first-append_some : (rs qs : List (Option R)) (r : R) → first_reason rs ≡ Some r → first_reason (rs ++ qs) ≡ Some r
  first-append_some [] qs r h = absurd (cc)
  first-append_some (None ∷ rs) qs r h = first-append_some rs qs r h
  first-append_some (Some s ∷ rs) qs r h = h

  pub none_first : (o : Option R) (rs : List (Option R)) → first_reason (o ∷ rs) ≡ None → o ≡ None
  none_first None rs h = refl
  none_first (Some r) rs h = absurd (cc)

  pub none_rest : (o : Option R) (rs : List (Option R)) → first_reason (o ∷ rs) ≡ None → first_reason rs ≡ None
  none_rest None rs h = h
  none_rest (Some r) rs h = absurd (cc)

  pub unless_none : (b : Bool) (r : R) → unless b r ≡ None → b ≡ true
  unless_none true r h = refl
  unless_none false r h = absurd (cc)
