-- How far a pass over two sorted lists has come.
use Rattle.std.proofs.Common.{◌≡◌, ℕ, zero, suc, ◌+◌, ◌-◌, ◌<◌, ◌≤◌, Bool, true, false, List, [], ◌∷◌, ◌++◌, length, drop, get_or, cond, append_assoc, append-nil, refl, sym, ◌∙◌, ap, subst, arith}
use Rattle.std.specs.Prelude.{◌⊎◌, max}
use Rattle.std.specs.declared.cmp.Ordering.{Ordering}
use Rattle.std.specs.declared.cmp.Ordering.TheVariants.{Less}
use Rattle.std.specs.List.{list_any, filter}
use Rattle.std.specs.List.Sorted.{IsStrictlySortedBy}
use Rattle.std.proofs.lemmas.List.{drop_more, get_or_default, drop_all}
use Rattle.std.proofs.lemmas.List.Folds.{list_any_none}
use Rattle.std.proofs.lemmas.List.Kept.{IsStrictlySortedBy-filter}
use Rattle.std.proofs.lemmas.List.Elements.{All-from_get_or}
use Rattle.std.proofs.lemmas.Map.Keys.{Less-from_sorted}
use Rattle.std.proofs.lemmas.Bool.Decides.{nat_tests}
use Rattle.cs_base.specs.declared.content.doc.Post.{Post}
use Rattle.cs_base.specs.content.Orders.{by_place}
use Rattle.cs_base.specs.declared.content.limits.TheConstants.{MAX_DISTANCE}
use Rattle.cs_meet.specs.RowPlaces.{is_before, Splits, Ahead}

-- no place passes
pub none_at : {X : Type 0} (p : X → Bool) (xs : List X) (d : X) → ((k : ℕ) → k < length xs → p (get_or xs k d) ≡ false) → list_any p xs ≡ false
none_at p xs d none = list_any_none p xs (All-from_get_or (λ x. p x ≡ false) xs d none)

-- the entry at a place is the next of the rest
pub next_is : {X : Type 0} (b : List X) (j : ℕ) (x : X) → j < length b → x ≡ get_or b j x → drop j b ≡ x ∷ drop (j + 1) b
next_is b j x within is = drop_more b j x within ∙ ap (λ y. y ∷ drop (j + 1) b) (sym is)

settle : {X : Type 0} (t : Bool) (done rest : List X) (x : X) → done ++ cond t (x ∷ rest) rest ≡ cond t (done ++ x ∷ []) done ++ rest
settle true done rest x = sym (append_assoc done (x ∷ []) rest)
settle false done rest x = refl

-- one more entry is judged
pub filter_more : {X : Type 0} (p : X → Bool) (whole done b : List X) (j : ℕ) (x : X) (t : Bool) → whole ≡ done ++ filter p (drop j b) → j < length b → x ≡ get_or b j x → t ≡ p x → whole ≡ cond t (done ++ x ∷ []) done ++ filter p (drop (j + 1) b)
filter_more p whole done b j x t told l is same =
    let rest : filter p (drop j b) ≡ cond (p x) (x ∷ filter p (drop (j + 1) b)) (filter p (drop (j + 1) b)) = ap (filter p) (next_is b j x l is) in
    told ∙ ap (λ r. done ++ r) (rest ∙ ap (λ u. cond u (x ∷ filter p (drop (j + 1) b)) (filter p (drop (j + 1) b))) (sym same))
    ∙ settle t done (filter p (drop (j + 1) b)) x

-- an entry that doesn't pass is stepped over
with_first : {X : Type 0} (p : X → Bool) (x : X) (rest : List X) → p x ≡ false → filter p (x ∷ rest) ≡ filter p rest
with_first p x rest other = ap (λ t. cond t (x ∷ filter p rest) (filter p rest)) other

skip_one : {X : Type 0} (p : X → Bool) (b : List X) (j : ℕ) → j < length b → ((e : X) → p (get_or b j e) ≡ false) → filter p (drop j b) ≡ filter p (drop (j + 1) b)
skip_one p [] j within none = absurd (omega arith)
skip_one p (x ∷ b) j within none = ap (filter p) (drop_more (x ∷ b) j x within) ∙ with_first p (get_or (x ∷ b) j x) (drop (j + 1) (x ∷ b)) (none x)

-- entries that don't pass are stepped over
skip_some : {X : Type 0} (p : X → Bool) (b : List X) (j g : ℕ) → j + g ≤ length b → ((k : ℕ) (e : X) → j ≤ k → k < j + g → p (get_or b k e) ≡ false) → filter p (drop j b) ≡ filter p (drop (j + g) b)
skip_some p b j zero within none = ap (λ m. filter p (drop m b)) (omega arith)
skip_some {X} p b j (suc g) within none =
    let before = skip_some p b j g (omega arith) (λ k e from below. none k e from (omega arith)) in
    let next : j + g + 1 ≡ j + suc g = omega arith in
    before ∙ skip_one p b (j + g) (omega arith) (λ e. none (j + g) e (omega arith) (omega arith)) ∙ ap (λ m. filter p (drop m b)) next

pub filter_skip : {X : Type 0} (p : X → Bool) (whole done b : List X) (j n : ℕ) → whole ≡ done ++ filter p (drop j b) → j ≤ n → n ≤ length b → ((k : ℕ) (e : X) → j ≤ k → k < n → p (get_or b k e) ≡ false) → whole ≡ done ++ filter p (drop n b)
filter_skip p whole done b j n told on within none =
    let gap : j + (n - j) ≡ n = omega arith in
    told ∙ ap (λ r. done ++ r) (skip_some p b j (n - j) (omega arith) (λ k e from below. none k e from (omega arith)) ∙ ap (λ m. filter p (drop m b)) gap)

-- all are judged
pub filter_all : {X : Type 0} (p : X → Bool) (whole done b : List X) (j : ℕ) → whole ≡ done ++ filter p (drop j b) → length b ≤ j → done ≡ whole
filter_all p whole done b j told l = sym (told ∙ ap (λ r. done ++ filter p r) (drop_all j b l) ∙ append-nil done)

-- and what is left of a sorted list is sorted
pub filter_sorted : {X : Type 0} (R : X → X → Ordering) (p : X → Bool) (done b : List X) (j : ℕ)
    → IsStrictlySortedBy R b → filter p b ≡ done ++ filter p (drop j b) → length b ≤ j → IsStrictlySortedBy R done
filter_sorted R p done b j up told past = rw (filter_all p (filter p b) done b j told past) (IsStrictlySortedBy-filter R p b up)

-- x asks for an earlier place than y, or the same
abbrev pub IsUpTo : ℕ → ℕ → ℕ → ℕ → Type 0
IsUpTo d p e q = (d < e) ⊎ ((d ≡ e) × (p ≤ q))

pub before_stays : (x : Post) (d p e q : ℕ) → IsUpTo d p e q → is_before x d p ≡ true → is_before x e q ≡ true
before_stays x d p e q up h = grind (arith, nat_tests)

pub up_to : (x y : Post) → by_place x y ≡ Less → IsUpTo x.doc x.pos y.doc y.pos
up_to x y h = grind (arith, nat_tests)

-- what rows ask for rises with them: the place before a row, the first of its window, the place behind it
pub rises_behind : (x y : Post) → by_place x y ≡ Less → IsUpTo x.doc (x.pos - 1) y.doc (y.pos - 1)
rises_behind x y h = grind (arith, nat_tests)

pub rises_window : (x y : Post) → by_place x y ≡ Less → IsUpTo x.doc (max (x.pos - MAX_DISTANCE) 1) y.doc (max (y.pos - MAX_DISTANCE) 1)
rises_window x y h = grind (arith, nat_tests)

pub rises_past : (x y : Post) → by_place x y ≡ Less → IsUpTo x.doc (x.pos + 1) y.doc (y.pos + 1)
rises_past x y h = grind (arith, nat_tests)

module _ {B : Type 0} (R : B → B → Ordering) (doc pos : B → ℕ) (rises : (x y : B) → R x y ≡ Less → IsUpTo (doc x) (pos x) (doc y) (pos y)) (a : List Post) (b : List B) where
  pub ahead_more : (n j : ℕ) (x : B) → IsStrictlySortedBy R b → j < length b → x ≡ get_or b j x → Splits a n (doc x) (pos x) → Ahead doc pos a b n (j + 1)
  ahead_more n j x up l is split = record {
    within = split.within;
    before = λ m e from below k d h.
        let later : IsUpTo (doc x) (pos x) (doc (get_or b m e)) (pos (get_or b m e)) =
        subst (λ y. IsUpTo (doc y) (pos y) (doc (get_or b m e)) (pos (get_or b m e))) (sym (is ∙ get_or_default b j x e l)) (rises _ _ (Less-from_sorted R b j m e up (omega arith) below)) in
        before_stays (get_or a k d) (doc x) (pos x) (doc (get_or b m e)) (pos (get_or b m e)) later (split.before k d h);
  }

  -- what holds from j on holds from a later place on
  pub ahead_on : (i j n : ℕ) → j ≤ n → Ahead doc pos a b i j → Ahead doc pos a b i n
  ahead_on i j n on h = record { within = h.within; before = λ m e from below. h.before m e (omega arith) below }
