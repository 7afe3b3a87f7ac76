-- The order of posts, and blocks that are in it.
--
--   by_numbers_total, by_numbers_exact  the order is total, and ties only equals
--   post_less        a post that comes before another by document, position and word comes before it by all four
--   posts_up         so posts in order by those three are in order by all four
--   in_their_order   posts in order are their own listing
--   place_of         the place of a post
use Rattle.std.proofs.Common.{◌≡◌, ℕ, true, List, [], ◌∷◌, is_lt, ap}
use Rattle.std.specs.List.Sorted.{IsStrictlySortedBy}
use Rattle.std.specs.Cmp.{IsTotalOrder}
use Rattle.std.specs.FinMap.{IsAntisymmetric}
use Rattle.std.specs.Ordering.{nat_cmp}
use Rattle.std.specs.declared.cmp.Ordering.TheVariants.{Less}
use Rattle.std.proofs.lemmas.Cmp.{nat_cmp_total, on_total, then_total}
use Rattle.std.proofs.lemmas.Map.Lookups.{exact_pairs, exact_unsigned}
use Rattle.cs_base.specs.content.Members.{members_in}
use Rattle.cs_base.specs.content.Orders.{AreSorted, by_place}
use Rattle.cs_base.specs.declared.content.doc.Post.{Post}
use Rattle.cs_base.proofs.MembersLemmas.{all_then, listed_itself}
use Rattle.cs_build.specs.Joining.{by_numbers}
use Rattle.cs_build.specs.declared.block_order.Place.{Place}
use Rattle.cs_build.proofs.OrderLemmas.{decided}

pub by_numbers_total : IsTotalOrder by_numbers
by_numbers_total = then_total (on_total (λ p. p.doc) nat_cmp_total) (then_total (on_total (λ p. p.pos) nat_cmp_total) (then_total (on_total (λ p. p.word) nat_cmp_total) (on_total (λ p. p.score) nat_cmp_total)))

pub by_numbers_exact : IsAntisymmetric by_numbers
by_numbers_exact a b h =
    let words = exact_pairs nat_cmp nat_cmp exact_unsigned exact_unsigned in
    let places = exact_pairs nat_cmp _ exact_unsigned words in
    ap (λ (p : ℕ × (ℕ × (ℕ × ℕ))). let r : Post = record { doc = p.0; pos = p.1.0; word = p.1.1.0; score = p.1.1.1 } in r)
    (exact_pairs nat_cmp _ exact_unsigned places (a.doc, (a.pos, (a.word, a.score))) (b.doc, (b.pos, (b.word, b.score))) h)

-- ---- posts in order
pub post_less : (p q : Post) → is_lt (by_place p q) ≡ true → by_numbers p q ≡ Less
post_less p q h = decided (nat_cmp p.doc q.doc) (nat_cmp p.pos q.pos) (nat_cmp p.word q.word) (nat_cmp p.score q.score) h

pub posts_up : (posts : List Post) → AreSorted posts → IsStrictlySortedBy by_numbers posts
unfolding IsStrictlySortedBy
posts_up [] h = tt
posts_up (p ∷ posts) h = (all_then (λ q. by_place p q ≡ Less) (λ q. by_numbers p q ≡ Less) (λ q e. post_less p q (ap is_lt e)) posts h.0, posts_up posts h.1)

pub in_their_order : (posts : List Post) → IsStrictlySortedBy by_numbers posts → posts ≡ members_in by_numbers posts
in_their_order posts up = listed_itself by_numbers by_numbers_total by_numbers_exact posts up

abbrev pub place_of : Post → Place
place_of p = record { doc = p.doc; pos = p.pos; word = p.word; score = p.score }
