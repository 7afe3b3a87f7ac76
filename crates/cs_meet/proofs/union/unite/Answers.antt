use Rattle.std.proofs.Common.{◌∙◌, ◌%◌, ◌≤◌, ap, arith, length, subst, sym}
use Rattle.std.proofs.lemmas.Bool.Decides.{nat_tests}
use Rattle.std.proofs.lemmas.Grind.{get_or_default_zero}
use Rattle.cs_base.specs.content.Orders.{AreSorted}
use Rattle.cs_meet.specs.declared.fronts.TheConstants.{ROOM}
use Rattle.cs_meet.proofs.Merged.{head_small, head_within, left_next, merged_end, merged_first, merged_next, nothing_sorted, posts_in, room_first}
use Rattle.cs_meet.proofs.union.unite.Goals as goal

pub returns-then-is_empty-clause-sorted : goal.returns-then-is_empty-clause-sorted
returns-then-is_empty-clause-sorted c = subst AreSorted (sym c.new.ensures) nothing_sorted

pub loop-number-init : goal.loop-number-init
loop-number-init c =
    let lists = c.args.lists.now in
    let some : 1 ≤ length lists = grind (arith, nat_tests, c.is_empty.ensures, c.if-is_empty.false) in
    let tree = c.in_ok-tree.ensures.tree in
    let len = tree.len in
    record {
      merged = merged_first (length lists) (posts_in lists) c.in_ok-heads.heads.items c.in_ok-tree.tree.items c.in_ok-found.found.posts (c.in_ok-heads.ensures.items_if_clones_equal (λ y e. e))
          (omega (arith, c.in_ok-heads.ensures.len, c.in_ok-heads.heads.ok.0)) tree c.in_ok-tree.ensures.fronts c.in_ok-found.ensures.none;
      number = c.list_of_front-number.ensures ∙ ap (λ r. r % ROOM) (c.index.ensures ∙ get_or_default_zero c.in_ok-tree.tree.items 1 c.index.result.now (omega (arith, len, some)));
      room = room_first lists c.in_ok-heads.heads.items c.in_ok-rows.rows c.in_ok-found.found.room (c.in_ok-heads.ensures.items_if_clones_equal (λ y e. e)) c.in_ok-rows.ensures c.in_ok-found.ensures.room;
    }

pub get-requires : goal.get-requires
get-requires c = head_within c.args.lists.now c.loop-number.heads.items c.loop-number.tree.items c.loop-number.found.posts c.loop-number.next c.loop-number.invariant.merged
    c.if-lists-gt-MOST_LISTS.false c.loop-number.number c.loop-number.invariant.number c.loop-number-test.true c.index-lists-number.result c.index-lists-number.is
    c.index-head.result.now c.index-head.ensures

pub add_where-requires : goal.add_where-requires
add_where-requires c =
    let less = left_next c.args.lists.now c.loop-number.heads.items c.loop-number.tree.items c.loop-number.found.posts c.loop-number.next c.loop-number.invariant.merged
    c.if-lists-gt-MOST_LISTS.false c.loop-number.number c.loop-number.invariant.number c.loop-number-test.true c.index-lists-number.result c.index-lists-number.is
    c.index-head.result.now c.index-head.ensures in
    let room = c.loop-number.invariant.room in
    omega (arith, less, room)

pub overflow_add-head : goal.overflow_add-head
overflow_add-head c =
    let small = head_small c.args.lists.now c.loop-number.heads.items c.loop-number.tree.items c.loop-number.found.posts c.loop-number.next c.loop-number.invariant.merged
    c.if-lists-gt-MOST_LISTS.false c.loop-number.number c.loop-number.invariant.number c.loop-number-test.true c.index-lists-number.result c.index-lists-number.is
    c.index-head.result.now c.index-head.ensures in
    omega (arith, small)

pub overflow_add-head-in-loop-number : goal.overflow_add-head-in-loop-number
overflow_add-head-in-loop-number c =
    let small = head_small c.args.lists.now c.loop-number.heads.items c.loop-number.tree.items c.loop-number.found.posts c.loop-number.next c.loop-number.invariant.merged
    c.if-lists-gt-MOST_LISTS.false c.loop-number.number c.loop-number.invariant.number c.loop-number-test.true c.index-lists-number.result c.index-lists-number.is
    c.index-head.result.now c.index-head.ensures in
    omega (arith, small)

pub loop-number-preserved : goal.loop-number-preserved
loop-number-preserved c =
    let lists = c.args.lists.now in
    let put = c.put_front.ensures in
    let len = put.tree.len in
    let less = left_next lists c.loop-number.heads.items c.loop-number.tree.items c.loop-number.found.posts c.loop-number.next c.loop-number.invariant.merged
    c.if-lists-gt-MOST_LISTS.false c.loop-number.number c.loop-number.invariant.number c.loop-number-test.true c.index-lists-number.result c.index-lists-number.is
    c.index-head.result.now c.index-head.ensures in
    let room = c.loop-number.invariant.room in
    let added = c.add_where.ensures.room in
    record {
      merged = rw c.add_where.ensures.posts
          (merged_next lists c.loop-number.heads.items c.loop-number.tree.items c.loop-number.found.posts c.loop-number.next c.loop-number.invariant.merged
          c.if-lists-gt-MOST_LISTS.false c.loop-number.number c.loop-number.invariant.number c.loop-number-test.true c.index-lists-number.result c.index-lists-number.is
          c.index-head.result.now c.index-head.ensures c.requires c.get.result c.get.ensures c.index-in-loop-number.result.now c.place_of_front-place.result
          c.index-in-loop-number.ensures c.place_of_front-place.ensures c.index-lists-number-in-loop-number.result c.index-lists-number-in-loop-number.is
          c.put_front.new.tree.items c.front_at-front.result put.tree c.front_at-front.ensures put.put put.others);
      number = c.list_of_front-number-in-loop-number.ensures ∙ ap (λ r. r % ROOM)
          (c.index-in-loop-number-2.ensures
          ∙ get_or_default_zero c.put_front.new.tree.items 1 c.index-in-loop-number-2.result.now (omega (arith, len, c.loop-number-test.true)));
      room = omega (arith, less, room, added);
    }

pub loop-number-smaller : goal.loop-number-smaller
loop-number-smaller c =
    let less = left_next c.args.lists.now c.loop-number.heads.items c.loop-number.tree.items c.loop-number.found.posts c.loop-number.next c.loop-number.invariant.merged
    c.if-lists-gt-MOST_LISTS.false c.loop-number.number c.loop-number.invariant.number c.loop-number-test.true c.index-lists-number.result c.index-lists-number.is
    c.index-head.result.now c.index-head.ensures in
    omega (arith, less)

pub returns-clause-ok : goal.returns-clause-ok
returns-clause-ok c =
    let some : 1 ≤ length c.args.lists.now = grind (arith, nat_tests, c.is_empty.ensures, c.if-is_empty.false) in
    merged_end c.args.lists.now c.loop-number.heads.items c.loop-number.tree.items c.loop-number.found.posts c.loop-number.next c.loop-number.invariant.merged
    c.if-lists-gt-MOST_LISTS.false c.loop-number.number c.loop-number.invariant.number some c.loop-number-test.false
