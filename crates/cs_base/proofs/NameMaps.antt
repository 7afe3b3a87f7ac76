-- Maps from names: what a write does, and when two writes may be swapped.
use Rattle.std.proofs.Common.{◌≡◌, ℕ, Bool, true, false, List, cond, refl, sym, ◌∙◌, ap, subst}
use Rattle.std.specs.Prelude.{Option, Some}
use Rattle.std.specs.Str.{bytes_eq}
use Rattle.std.specs.FinMap.{get, insert, same_map, get-insert, slice_cmp-IsAntisymmetric, nat_cmp-IsAntisymmetric}
use Rattle.std.proofs.lemmas.Cmp.{nat_list_cmp_total, nat_list_eq_equiv}
use Rattle.std.proofs.lemmas.Map.Text.{is_eq-slice_cmp}
use Rattle.std.proofs.lemmas.Slice.Eq.{bytes_eq-Decides}
use Rattle.cs_base.specs.outside.Outside.{NameMap}

-- names that the test joins are equal
pub same_name : (a b : List ℕ) → bytes_eq a b ≡ true → a ≡ b
same_name a b h = (bytes_eq-Decides a b).0 h

pub name_itself : (a : List ℕ) → bytes_eq a a ≡ true
name_itself a = (bytes_eq-Decides a a).1 refl

pub name_sym : (a b : List ℕ) → bytes_eq a b ≡ bytes_eq b a
name_sym a b = nat_list_eq_equiv.symm a b

-- what is one of two different names isn't the other
apart : (q k l : List ℕ) → bytes_eq k l ≡ false → bytes_eq q l ≡ true → bytes_eq q k ≡ false
apart q k l ne at_l = subst (λ x. bytes_eq x k ≡ false) (sym (same_name q l at_l)) (name_sym l k ∙ ne)

module _ {X : Type 0} where
  -- what is found after a write
  pub get_after : (m : NameMap X) (k : List ℕ) (v : X) (q : List ℕ) → get (insert m k v) q ≡ cond (bytes_eq q k) (Some v) (get m q)
  get_after m k v q = get-insert nat_list_cmp_total m k v q ∙ ap (λ b. cond b (Some v) (get m q)) (is_eq-slice_cmp q k)

  -- maps in which each name finds the same are equal
  pub same : (m n : NameMap X) → ((q : List ℕ) → get m q ≡ get n q) → m ≡ n
  same m n h = same_map nat_list_cmp_total (slice_cmp-IsAntisymmetric nat_cmp-IsAntisymmetric) m n h

  twice : (b : Bool) (x y z : Option X) → cond b x (cond b y z) ≡ cond b x z
  twice true x y z = refl
  twice false x y z = refl

  -- the later of two writes of one name stays
  pub overwritten : (m : NameMap X) (k : List ℕ) (v w : X) → insert (insert m k v) k w ≡ insert m k w
  overwritten m k v w = same _ _ (λ q. get_after (insert m k v) k w q ∙ ap (cond (bytes_eq q k) (Some w)) (get_after m k v q) ∙ twice (bytes_eq q k) (Some w) (Some v) (get m q) ∙ sym (get_after m k w q))

  swap_tests : (b c : Bool) (x y z : Option X) → (b ≡ true → c ≡ false) → cond b x (cond c y z) ≡ cond c y (cond b x z)
  swap_tests true true x y z h = absurd (cc (h refl))
  swap_tests true false x y z h = refl
  swap_tests false true x y z h = refl
  swap_tests false false x y z h = refl

  -- writes of two names may be swapped
  pub swapped : (m : NameMap X) (k l : List ℕ) (v w : X) → bytes_eq k l ≡ false → insert (insert m k v) l w ≡ insert (insert m l w) k v
  swapped m k l v w ne = same _ _ (λ q.
      get_after (insert m k v) l w q ∙ ap (cond (bytes_eq q l) (Some w)) (get_after m k v q)
      ∙ swap_tests (bytes_eq q l) (bytes_eq q k) (Some w) (Some v) (get m q) (apart q k l ne)
      ∙ sym (get_after (insert m l w) k v q ∙ ap (cond (bytes_eq q k) (Some v)) (get_after m l w q)))
