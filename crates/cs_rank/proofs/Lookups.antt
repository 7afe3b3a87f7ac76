-- A document among listed ones that ascend, by a place behind those that are below it.
--
--   found_at       it stands at the place
--   absent         it stands nowhere
--   passed_more    the place goes on for a later document
use Rattle.std.proofs.Common.{◌≡◌, ℕ, zero, suc, ◌<◌, true, false, cond, List, [], ◌∷◌, length, get_or, ◌==◌, refl, ◌∙◌, ap, arith}
use Rattle.std.specs.Prelude.{Some, None, find}
use Rattle.std.specs.List.{AllByRecursion}
use Rattle.std.specs.List.Sorted.{IsStrictlySortedBy}
use Rattle.std.specs.declared.cmp.Ordering.TheVariants.{Less}
use Rattle.std.proofs.lemmas.List.{get_or_default}
use Rattle.std.proofs.lemmas.Bool.Decides.{nat_tests}
use Rattle.std.proofs.lemmas.Map.Keys.{Less-from_sorted}
use Rattle.cs_base.specs.content.Orders.{AreByDoc, by_doc}
use Rattle.cs_base.specs.declared.content.doc.Scored.{Scored}
use Rattle.cs_base.proofs.OrdersLemmas.{lt-from_Less}
use Rattle.cs_rank.specs.DocScores.{PassedBelow}

is_not : (a d : ℕ) → a < d → a == d ≡ false
is_not a d lt = grind (arith, nat_tests)

is_not_over : (a d : ℕ) → d < a → a == d ≡ false
is_not_over a d lt = grind (arith, nat_tests)

first_passed : (n d : ℕ) (h : Scored) (listed : List Scored) → PassedBelow (h ∷ listed) (suc n) d → h.doc < d
first_passed n d h listed passed = passed.1 0 h (omega arith)

rest_passed : (n d : ℕ) (h : Scored) (listed : List Scored) → PassedBelow (h ∷ listed) (suc n) d → PassedBelow listed n d
rest_passed n d h listed passed = (let w = passed.0 in omega arith, λ k e lt. passed.1 (suc k) e (omega arith))

pub found_at : (n d : ℕ) (listed : List Scored) (e : Scored) → PassedBelow listed n d → n < length listed → (get_or listed n e).doc == d ≡ true → find (λ h. h.doc == d) listed ≡ Some (get_or listed n e)
found_at n d [] e passed lt is = absurd (omega arith)
found_at zero d (h ∷ listed) e passed lt is = ap (λ b. cond b (Some h) (find (λ h. h.doc == d) listed)) is
found_at (suc n) d (h ∷ listed) e passed lt is =
    ap (λ b. cond b (Some h) (find (λ h. h.doc == d) listed)) (is_not h.doc d (first_passed n d h listed passed))
    ∙ found_at n d listed e (rest_passed n d h listed passed) (omega arith) is

over_all : (d : ℕ) (h : Scored) (listed : List Scored) → d < h.doc → AllByRecursion (λ x. by_doc h x ≡ Less) listed → find (λ h. h.doc == d) listed ≡ None
over_all d h [] lt up = refl
over_all d h (x ∷ listed) lt up =
    let later : h.doc < x.doc = (let less = up.0 in grind (arith, nat_tests)) in
    ap (λ b. cond b (Some x) (find (λ h. h.doc == d) listed)) (is_not_over x.doc d (omega arith)) ∙ over_all d h listed lt up.1

pub absent : (n d : ℕ) (listed : List Scored) (e : Scored) → AreByDoc listed → PassedBelow listed n d → (n < length listed → d < (get_or listed n e).doc) → find (λ h. h.doc == d) listed ≡ None
unfolding IsStrictlySortedBy
absent n d [] e up passed stop = refl
absent zero d (h ∷ listed) e up passed stop =
    let lt : d < h.doc = stop (omega arith) in
    ap (λ b. cond b (Some h) (find (λ h. h.doc == d) listed)) (is_not_over h.doc d lt) ∙ over_all d h listed lt up.0
absent (suc n) d (h ∷ listed) e up passed stop =
    ap (λ b. cond b (Some h) (find (λ h. h.doc == d) listed)) (is_not h.doc d (first_passed n d h listed passed))
    ∙ absent n d listed e up.1 (rest_passed n d h listed passed) (λ lt. stop (omega arith))

pub passed_more : (n i k : ℕ) (listed best : List Scored) (d e : Scored) → AreByDoc best → i < k → k < length best → PassedBelow listed n (get_or best i d).doc → PassedBelow listed n (get_or best k e).doc
passed_more n i k listed best d e up before lt passed =
    let later : (get_or best i e).doc < (get_or best k e).doc = lt-from_Less _ _ (Less-from_sorted by_doc best i k e up before lt) in
    let same : (get_or best i d).doc ≡ (get_or best i e).doc = ap (λ (s : Scored). s.doc) (get_or_default best i d e (omega arith)) in
    (passed.0, λ m h below. let under : (get_or listed m h).doc < (get_or best i d).doc = passed.1 m h below in omega arith)
