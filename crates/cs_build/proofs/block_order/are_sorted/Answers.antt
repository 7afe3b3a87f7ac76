use Rattle.std.proofs.Common.{◌≡◌, ◌+◌, ◌-◌, true, get_or, is_lt, sym, ◌∙◌, arith}
use Rattle.std.proofs.lemmas.List.Elements.{pair_read}
use Rattle.std.proofs.lemmas.List.Sorted.{all_adjacent_more}
use Rattle.std.proofs.lemmas.Map.Keys.{sorted_from_all_adjacent}
use Rattle.cs_base.specs.content.Orders.{by_place}
use Rattle.cs_base.specs.declared.content.doc.Post.{Post}
use Rattle.cs_build.proofs.BlockOrder.{by_numbers_total, post_less}
use Rattle.cs_build.proofs.block_order.are_sorted.Goals as goal

pub loop-i-preserved : goal.loop-i-preserved
loop-i-preserved c =
    let posts = c.args.block.now.posts in
    all_adjacent_more posts (λ (p q : Post). is_lt (by_place p q) ≡ true) c.loop-i.i c.loop-i.auto.i c.loop-i.invariant
    (pair_read posts (λ (p q : Post). is_lt (by_place p q) ≡ true) (c.loop-i.i - 1) c.loop-i.i c.get.result c.get-in-loop-i.result (omega (arith, c.loop-i-test.true, c.len-i-end.ensures.value)) (omega (arith, c.loop-i-test.true, c.len-i-end.ensures.value)) c.get.ensures c.get-in-loop-i.ensures (sym c.is_before.ensures ∙ c.if-not-is_before.false))

pub returns : goal.returns
returns c = λ e.
    let posts = c.args.block.now.posts in
    let d : Post = record { doc = 0; word = 0; pos = 0; score = 0 } in
    sorted_from_all_adjacent by_numbers_total posts d (λ k l. post_less (get_or posts k d) (get_or posts (k + 1) d) (c.loop-i.invariant k d (omega (arith, l, c.loop-i-test.false, c.len-i-end.ensures.value))))
