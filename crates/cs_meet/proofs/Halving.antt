-- In sorted posts what is before a place stands in front.
use Rattle.std.proofs.Common.{◌≡◌, ℕ, ◌+◌, ◌<◌, Bool, true, List, length, get_or, ◌∙◌, subst, arith}
use Rattle.std.proofs.lemmas.List.{get_or_default}
use Rattle.std.proofs.lemmas.Bool.Decides.{nat_tests}
use Rattle.cs_base.specs.declared.content.doc.Post.{Post}
use Rattle.cs_base.specs.content.Orders.{AreSorted}
use Rattle.cs_meet.specs.RowPlaces.{is_before, AllBefore}
use Rattle.cs_meet.proofs.Passes.{IsUpTo}
use Rattle.cs_meet.proofs.Judged.{in_turn}

earlier_too : (x y : Post) (d p : ℕ) → IsUpTo x.doc x.pos y.doc y.pos → is_before y d p ≡ true → is_before x d p ≡ true
earlier_too x y d p up h = grind (arith, nat_tests)

-- where the post at n is before the place, the first n + 1 are
pub all_through : (a : List Post) (n d p : ℕ) → AreSorted a → n < length a → ((e : Post) → is_before (get_or a n e) d p ≡ true) → (m : ℕ) → m ≡ n + 1 → AllBefore a m d p
all_through a n d p up within h m is k e below = earlier_too (get_or a k e) (get_or a n e) d p (in_turn a k n e up (omega arith) within) (h e)

-- what a read says, at any default
pub at_any : (a : List Post) (n d p : ℕ) (x : Post) → n < length a → x ≡ get_or a n x → (b : Bool) → is_before x d p ≡ b → (e : Post) → is_before (get_or a n e) d p ≡ b
at_any a n d p x within is b h e = subst (λ y. is_before y d p ≡ b) (is ∙ get_or_default a n x e within) h
