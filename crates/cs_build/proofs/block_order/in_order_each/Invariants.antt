use Rattle.std.proofs.Common.{◌≡◌, ◌++◌, map, length}
use Rattle.std.specs.Vec.Iter.{into_iter_items, into_iter_len}
use Rattle.cs_base.specs.content.Members.{members_in}
use Rattle.cs_build.specs.Joining.{by_numbers}
use Rattle.cs_build.proofs.block_order.in_order_each.Given as goal

abbrev pub invariant-loop-block : goal.invariant-loop-block
invariant-loop-block l = record {
  told : map (λ b. members_in by_numbers b.posts) l.fn.blocks.items ≡ map (λ b. b.posts) l.ordered.items ++ map (λ b. members_in by_numbers b.posts) (into_iter_items l.block-iterator);
  left : into_iter_len l.block-iterator ≡ length (into_iter_items l.block-iterator);
}
