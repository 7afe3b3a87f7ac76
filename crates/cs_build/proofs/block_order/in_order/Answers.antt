use Rattle.std.proofs.Common.{◌≡◌, map, ap, ◌∙◌}
use Rattle.std.proofs.lemmas.Result.{IfOk-weaker}
use Rattle.cs_base.specs.content.Members.{members_in}
use Rattle.cs_build.proofs.SortedRefs.{listed_refs}
use Rattle.cs_build.specs.Joining.{by_numbers, place_post}
use Rattle.cs_build.specs.contracts.block_order.PlaceOrd.TheImpl.Laws.{matches_eq-law}
use Rattle.cs_build.proofs.BlockOrder.{by_numbers_exact, by_numbers_total, in_their_order, place_of}
use Rattle.cs_build.proofs.block_order.in_order.Goals as goal

pub returns-then-are_sorted : goal.returns-then-are_sorted
returns-then-are_sorted c = in_their_order c.args.block.posts (c.are_sorted.ensures c.if-are_sorted.true)

pub returns : goal.returns
returns c =
    let listed : map place_post c.dedup.new.self.items ≡ members_in by_numbers (map place_post c.in_ok-places.places.items) =
    listed_refs place_post by_numbers_total by_numbers_exact _ (λ x y. matches_eq-law (place_of x) (place_of y)) c.in_ok-places.places.items c.sort.new.self.items c.dedup.new.self.items c.in_ok-sort.ensures.permutation c.in_ok-sort.ensures.sorted c.dedup.ensures.filtered in
    IfOk-weaker c.posts_at.result _ _ (λ block e. e ∙ ap (map place_post) c.deref.ensures.value ∙ listed ∙ ap (members_in by_numbers) c.in_ok-places.ensures) c.posts_at.ensures
