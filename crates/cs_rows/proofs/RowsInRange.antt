-- The posts of a range of words, from the blocks that hold such words.
--
--   kept_within      posts that are cut are in order and in range
--   same_posts       posts in order with the same members are the same
--   met_count        how many blocks are met
use Rattle.std.proofs.Common.{◌≡◌, ℕ, zero, suc, ◌-◌, ◌<◌, ◌≤◌, ◌&&◌, Bool, true, false, cond, List, [], ◌∷◌, length, get_or, refl, sym, ap, subst}
use Rattle.std.proofs.Common.{◌∙◌, arith}
use Rattle.std.specs.Prelude.{filter, nat_le, nat_lt}
use Rattle.std.specs.List.{list_any}
use Rattle.std.specs.List.Sorted.{IsStrictlySortedBy}
use Rattle.std.proofs.lemmas.Bool.Decides.{nat_tests}
use Rattle.std.proofs.lemmas.List.Elements.{All-nil, All-filter}
use Rattle.std.proofs.lemmas.List.Kept.{IsStrictlySortedBy-filter}
use Rattle.std.specs.Ordering.{nat_cmp, eq_by_cmp, ordering_then}
use Rattle.std.specs.declared.cmp.Ordering.TheVariants.{Less}
use Rattle.cs_base.specs.content.Orders.{by_place, AreSorted}
use Rattle.cs_base.specs.declared.content.doc.Post.{Post}
use Rattle.cs_base.specs.declared.index.block.BlockHead.{BlockHead}
use Rattle.cs_base.proofs.MembersLemmas.{all_then, members_are}
use Rattle.cs_file.specs.Indexes.{IndexView, AreMet, is_met}
use Rattle.cs_rows.specs.IndexReading.{by_post, IsWithin, AreWithin}
use Rattle.cs_rows.proofs.StockLemmas.{by_post_total, by_post_exact}

-- ---- what always holds
pub kept_within : (i : IndexView) (t : Post → Bool) (posts : List Post) → AreWithin i posts → AreWithin i (filter t posts)
kept_within i t posts h = record {
  sorted = IsStrictlySortedBy-filter by_place t posts h.sorted;
  within = All-filter t (IsWithin i.docs (length i.words)) posts h.within;
}

none_sorted : AreSorted []
unfolding IsStrictlySortedBy
none_sorted = tt

pub none_within : (i : IndexView) → AreWithin i []
none_within i = record { sorted = none_sorted; within = All-nil (IsWithin i.docs (length i.words)) }

-- ---- posts in order
pub sooner : (x y : Post) → by_place x y ≡ Less → by_post x y ≡ Less
sooner x y h = ap (λ o. ordering_then o (nat_cmp x.score y.score)) h

pub still_rise : (xs : List Post) → AreSorted xs → IsStrictlySortedBy by_post xs
unfolding IsStrictlySortedBy
still_rise [] h = tt
still_rise (x ∷ xs) h = (all_then _ _ (sooner x) xs h.0, still_rise xs h.1)

pub same_posts : (xs ys : List Post) → AreSorted xs → AreSorted ys → ((t : Post → Bool) → list_any t xs ≡ list_any t ys) → xs ≡ ys
same_posts xs ys up_x up_y alike =
    members_are by_post by_post_total by_post_exact xs ys (still_rise xs up_x) (λ q. alike (eq_by_cmp by_post q))
    ∙ sym (members_are by_post by_post_total by_post_exact ys ys (still_rise ys up_y) (λ q. refl))

-- ---- how many blocks are met
count_from : {X : Type 0} (p : X → Bool) (xs : List X) (first last : ℕ) → first ≤ last → last ≤ length xs
    → ((k : ℕ) (d : X) → first ≤ k → k < last → p (get_or xs k d) ≡ true) → last - first ≤ length (filter p xs)
count_from p [] first last up within h = omega (arith, within)
count_from p (x ∷ xs) first zero up within h = omega arith
count_from p (x ∷ xs) zero (suc last) up within h =
    let rest = count_from p xs 0 last (omega arith) (omega (arith, within)) (λ k d a b. h (suc k) d (omega arith) (omega (arith, b))) in
    let here : p x ≡ true = h 0 x (omega arith) (omega arith) in
    subst (λ b. suc last - 0 ≤ length (cond b (x ∷ filter p xs) (filter p xs))) (sym here) (omega (arith, rest))
count_from p (x ∷ xs) (suc first) (suc last) up within h =
    let rest = count_from p xs first last (omega (arith, up)) (omega (arith, within)) (λ k d a b. h (suc k) d (omega (arith, a)) (omega (arith, b))) in
    elim (p x) as (λ b. suc last - suc first ≤ length (cond b (x ∷ filter p xs) (filter p xs))) [
      | true ↦ omega (arith, rest)
      | false ↦ omega (arith, rest)
    ]

in_turn : (first k last : ℕ) → first ≤ k → k < last → (nat_le first k && nat_lt k last) ≡ true
in_turn first k last a b = grind (arith, nat_tests)

pub met_count : (heads : List BlockHead) (lo hi first last : ℕ) → AreMet heads lo hi first last → last - first ≤ length (filter (is_met lo hi) heads)
met_count heads lo hi first last met =
    count_from (is_met lo hi) heads first last met.ordered met.within
    (λ k d a b. (let w = met.within in met.met k d (omega (arith, b, w))) ∙ in_turn first k last a b)
