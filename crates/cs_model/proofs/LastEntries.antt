-- The last entry of a list, and lists that are joined by a sign.
--
--   Last P xs           the list has a last entry, of which P holds
--   last_push, last_changed     the last entry of a longer list, and of one whose last entry was changed
--   join_push           one entry more
--   join_last           the last entry changed, so that its text is longer
use Rattle.std.proofs.Common.{◌≡◌, ℕ, List, [], ◌∷◌, ◌++◌, map, refl, ap, ◌∙◌, sym, append_assoc, Bool, true, false}
use Rattle.std.specs.List.{concat, join_with_byte}
use Rattle.std.proofs.lemmas.List.{append-nil}
use Rattle.cs_model.specs.Grammar.{on_last}

abbrev pub is_none : {X : Type 0} → List X → Bool
is_none [] = true
is_none (x ∷ xs) = false

abbrev pub Last : {X : Type 0} → (X → Type 0) → List X → Type 0
Last P [] = ⊥
Last P (x ∷ []) = P x
Last P (x ∷ y ∷ ys) = Last P (y ∷ ys)

pub last_push : {X : Type 0} (P : X → Type 0) (xs : List X) (x : X) → P x → Last P (xs ++ x ∷ [])
last_push P [] x p = p
last_push P (y ∷ []) x p = p
last_push P (y ∷ z ∷ ys) x p = last_push P (z ∷ ys) x p

pub last_changed : {X : Type 0} (P Q : X → Type 0) (f : X → X) → ((x : X) → P x → Q (f x)) → (xs : List X) → Last P xs → Last Q (on_last f xs)
last_changed P Q f g [] h = absurd h
last_changed P Q f g (x ∷ []) h = g x h
last_changed P Q f g (x ∷ y ∷ []) h = g y h
last_changed P Q f g (x ∷ y ∷ z ∷ zs) h = last_changed P Q f g (y ∷ z ∷ zs) h

pub last_some : {X : Type 0} (P : X → Type 0) (xs : List X) → Last P xs → is_none xs ≡ false
last_some P [] h = absurd h
last_some P (x ∷ xs) h = refl

pub none_map : {X Y : Type 0} (f : X → Y) (xs : List X) → is_none (map f xs) ≡ is_none xs
none_map f [] = refl
none_map f (x ∷ xs) = refl

-- the sign before an entry, the first one or another
abbrev pub sign_before : ℕ → Bool → List ℕ
sign_before c true = []
sign_before c false = c ∷ []

pub join_push : (c : ℕ) (xs : List (List ℕ)) (x : List ℕ) → join_with_byte c (xs ++ x ∷ []) ≡ join_with_byte c xs ++ (sign_before c (is_none xs) ++ x)
join_push c [] x = refl
join_push c (y ∷ []) x = refl
join_push c (y ∷ z ∷ zs) x = ap (λ t. y ++ (c ∷ t)) (join_push c (z ∷ zs) x) ∙ sym (append_assoc y (c ∷ join_with_byte c (z ∷ zs)) (sign_before c false ++ x))

pub join_last : {X : Type 0} (c : ℕ) (g : X → List ℕ) (f : X → X) (s : List ℕ) (P : X → Type 0) → ((x : X) → P x → g (f x) ≡ g x ++ s) → (xs : List X) → Last P xs
    → join_with_byte c (map g (on_last f xs)) ≡ join_with_byte c (map g xs) ++ s
join_last c g f s P e [] h = absurd h
join_last c g f s P e (x ∷ []) h = e x h
join_last c g f s P e (x ∷ y ∷ []) h = ap (λ t. g x ++ (c ∷ t)) (e y h) ∙ sym (append_assoc (g x) (c ∷ g y) s)
join_last c g f s P e (x ∷ y ∷ z ∷ zs) h =
    ap (λ t. g x ++ (c ∷ t)) (join_last c g f s P e (y ∷ z ∷ zs) h) ∙ sym (append_assoc (g x) (c ∷ join_with_byte c (map g (y ∷ z ∷ zs))) s)

pub concat_push : {X : Type 0} (g : X → List ℕ) (xs : List X) (x : X) → concat (map g (xs ++ x ∷ [])) ≡ concat (map g xs) ++ g x
concat_push g [] x = append-nil (g x)
concat_push g (y ∷ xs) x = ap (λ t. g y ++ t) (concat_push g xs x) ∙ sym (append_assoc (g y) (concat (map g xs)) (g x))
