-- The last entry of a list.
--
--   on_last_at       a list whose last entry was changed
--   reverse_push     the reverse of a list with one entry more
use Rattle.std.proofs.Common.{◌≡◌, List, [], ◌∷◌, ◌++◌, reverse, ap, ◌∙◌, sym}
use Rattle.std.proofs.lemmas.List.{reverse-append}
use Rattle.cs_model.specs.Grammar.{on_last}
use Rattle.cs_model.proofs.KeyLemmas.{on_last-append}

-- in the form in which the search finds its arguments
pub on_last_at : {X : Type 0} (f : X → X) (ys xs zs : List X) (x : X) → ys ≡ xs ++ x ∷ [] → zs ≡ xs ++ f x ∷ [] → zs ≡ on_last f ys
on_last_at f ys xs zs x e h = h ∙ sym (on_last-append f xs x) ∙ ap (on_last f) (sym e)

pub reverse_push : {X : Type 0} (xs : List X) (x : X) → reverse (xs ++ x ∷ []) ≡ x ∷ reverse xs
reverse_push xs x = reverse-append xs (x ∷ [])
