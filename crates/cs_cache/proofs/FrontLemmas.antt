-- Lists of kept entries around one of them.
--
--   find-cons       what finds nothing passes over the first entry
--   front_none      where no entry has the key the list stays as it is
--   front_cut       the one entry of a key goes in front
--   take_first      a list with one entry more, cut
--   miss_more, hit  the looking for the first entry of a list that passes, step by step
--   held_found      a key is held exactly where an entry is found under it
use Rattle.std.proofs.Common.{◌≡◌, ℕ, zero, suc, ◌+◌, ◌-◌, ◌<◌, Bool, true, false, not, List, [], ◌∷◌, ◌++◌, take, drop, length, get_or, refl, sym, ap, ◌∙◌, arith, Option, Some, None, Bor, option_copied, option_map}
use Rattle.std.specs.Prelude.{filter, find, is_some}
use Rattle.std.specs.Cmp.Lexicographic.{nat_list_eq_equiv}
use Rattle.std.specs.List.{AllByRecursion, IsDistinct}
use Rattle.std.specs.Str.{bytes_eq}
use Rattle.std.proofs.Math.Seq.{split_at}
use Rattle.std.proofs.lemmas.List.{take_more}
use Rattle.std.proofs.lemmas.List.Elements.{filter-append}
use Rattle.std.proofs.lemmas.List.Folds.{find-append}
use Rattle.std.proofs.lemmas.Slice.Eq.{bytes_eq-Decides}
use Rattle.cs_model_kept.specs.KeptList.{KeptOf, found, is_held, to_front}
use Rattle.cs_model_kept.proofs.HeldLemmas.{found_any}
use Rattle.cs_model_kept.proofs.KeptListLemmas.{keys}

pub find-cons : {X : Type 0} (b : Bool) (test : X → Bool) (x : X) (xs : List X) → test x ≡ b → find test (x ∷ xs) ≡ None → (b ≡ false) × (find test xs ≡ None)
find-cons true test x xs is h = let h' = rw is at h in (cc)
find-cons false test x xs is h = (refl, rw is at h)

-- a filter by what finds nothing is empty, and one by the contrary keeps all
no_filter : {X : Type 0} (test : X → Bool) (xs : List X) → find test xs ≡ None → (filter test xs ≡ []) × (filter (λ x. not (test x)) xs ≡ xs)
no_filter test [] h = (refl, refl)
no_filter test (x ∷ xs) h =
    let on = find-cons _ test x xs refl h in
    let rest = no_filter test xs on.1 in
    (rw on.0 rest.0, rw on.0 (ap (λ l. x ∷ l) rest.1))

module _ {E : Type 0} where
  -- behind an entry no key is equal to its own
  behind : (xs : KeptOf E) (e : List ℕ × E) (ys : KeptOf E) → IsDistinct bytes_eq (keys (xs ++ e ∷ ys)) → AllByRecursion (λ y. bytes_eq e.0 y ≡ false) (keys ys)
  unfolding IsDistinct
  behind [] e ys h = h.0
  behind (x ∷ xs) e ys h = behind xs e ys h.1

  none_found : (key : List ℕ) (e : List ℕ × E) (ys : KeptOf E) → bytes_eq e.0 key ≡ true → AllByRecursion (λ y. bytes_eq e.0 y ≡ false) (keys ys) → found ys key ≡ None
  none_found key e [] same h = refl
  none_found key e (y ∷ ys) same h =
      let other : bytes_eq y.0 key ≡ false = ap (bytes_eq y.0) (sym ((bytes_eq-Decides e.0 key).0 same)) ∙ nat_list_eq_equiv.symm y.0 e.0 ∙ h.0 in
      rw other (none_found key e ys same h.1)

  pub front_none : (held : KeptOf E) (key : List ℕ) → found held key ≡ None → to_front held (Some key) ≡ held
  front_none held key h =
      let none = no_filter (λ e. bytes_eq e.0 key) held h in
      ap (λ l. l ++ filter (λ e. not (bytes_eq e.0 key)) held) none.0 ∙ none.1

  pub front_cut : (key : List ℕ) (xs : KeptOf E) (e : List ℕ × E) (ys : KeptOf E) → found xs key ≡ None → bytes_eq e.0 key ≡ true → IsDistinct bytes_eq (keys (xs ++ e ∷ ys))
      → to_front (xs ++ e ∷ ys) (Some key) ≡ e ∷ (xs ++ ys)
  front_cut key xs e ys before same different =
      let a : List ℕ × E → Bool = λ e. bytes_eq e.0 key in
      let before' = no_filter a xs before in
      let after' = no_filter a ys (none_found key e ys same (behind xs e ys different)) in
      let first : filter a (xs ++ e ∷ ys) ≡ e ∷ [] = filter-append a xs (e ∷ ys) ∙ rw (before'.0, same) (ap (λ l. e ∷ l) after'.0) in
      let others : filter (λ e. not (a e)) (xs ++ e ∷ ys) ≡ xs ++ ys = filter-append (λ e. not (a e)) xs (e ∷ ys) ∙ rw (before'.1, same) (ap (λ l. xs ++ l) after'.1) in
      ap (λ l. l ++ filter (λ e. not (a e)) (xs ++ e ∷ ys)) first ∙ ap (λ l. e ∷ l) others

pub take_first : {X : Type 0} (n : ℕ) (x : X) (xs : List X) → 0 < n → take n (x ∷ xs) ≡ x ∷ take (n - 1) xs
take_first zero x xs h = absurd (omega (arith, h))
take_first (suc n) x xs h = let e : suc n - 1 ≡ n = omega arith in ap (λ m. x ∷ take m xs) (sym e)

-- ---- the first that passes
module _ {X : Type 0} (test : X → Bool) (xs : List X) (i : ℕ) (x : X) (before : find test (take i xs) ≡ None) (less : i < length xs) (at : x ≡ get_or xs i x) where
  pub miss_more : test x ≡ false → find test (take (i + 1) xs) ≡ None
  miss_more miss =
      let miss' : test (get_or xs i x) ≡ false = ap test (sym at) ∙ miss in
      ap (find test) (take_more xs i x less) ∙ find-append test (take i xs) (get_or xs i x ∷ []) ∙ rw (before, miss') refl

  pub hit : test x ≡ true → find test xs ≡ Some x
  hit pass =
      let pass' : test (get_or xs i x) ≡ true = ap test (sym at) ∙ pass in
      ap (find test) (split_at xs i x less) ∙ find-append test (take i xs) (get_or xs i x ∷ drop (suc i) xs) ∙ rw (before, pass') (ap Some (sym at))

-- ---- what is found, lent
same_some : {X Y : Type 0} (r : Option (Bor X)) (f : Y → X) (o : Option Y) → option_copied r ≡ option_map f o → is_some r ≡ is_some o
same_some None f None e = refl
same_some None f (Some y) e = (cc)
same_some (Some x) f None e = (cc)
same_some (Some x) f (Some y) e = refl

pub held_found : {E : Type 0} (r : Option (Bor E)) (held : KeptOf E) (key : List ℕ) → option_copied r ≡ option_map (λ e. e.1) (found held key) → is_some r ≡ is_held held key
held_found r held key e = same_some r (λ e. e.1) (found held key) e ∙ found_any (λ e. bytes_eq e.0 key) held
