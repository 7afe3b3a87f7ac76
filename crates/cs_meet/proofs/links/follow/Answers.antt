use Rattle.std.proofs.Common.{◌≡◌, ◌+◌, ◌-◌, arith, subst}
use Rattle.std.specs.List.{list_any}
use Rattle.cs_base.specs.content.Orders.{by_place}
use Rattle.cs_meet.specs.Filters.{stands_behind}
use Rattle.cs_meet.specs.RowPlaces.{Splits}
use Rattle.cs_meet.proofs.Passes.{filter_more, filter_skip, filter_sorted, ahead_more, ahead_on, rises_behind}
use Rattle.cs_meet.proofs.links.follow.Goals as goal

pub next_behind-j-requires-clause-ahead : goal.next_behind-j-requires-clause-ahead
next_behind-j-requires-clause-ahead c =
    let a = c.args.a.now.posts in
    let b = c.args.b.now.posts in
    let row = c.get-row.result in
    let at : c.saturating_sub.result ≡ row.pos - 1 = omega arith in
    let split = subst (λ p. Splits a c.skip_to-i.result row.doc p) at c.skip_to-i.ensures.splits in
    ahead_more by_place (λ r. r.doc) (λ r. r.pos - 1) rises_behind a b c.skip_to-i.result c.loop-j.j row c.requires.b_sorted (omega arith) c.get-row.ensures split

pub loop-j-preserved : goal.loop-j-preserved
loop-j-preserved c =
    let a = c.args.a.now.posts in
    let b = c.args.b.now.posts in
    let row = c.get-row.result in
    let at : c.saturating_sub.result ≡ row.pos - 1 = omega arith in
    let split = subst (λ p. Splits a c.skip_to-i.result row.doc p) at c.skip_to-i.ensures.splits in
    let next = c.next_behind-j.ensures in
    let more = filter_more (λ r. list_any (stands_behind r) a) _ c.loop-j.found.posts b c.loop-j.j row c.is_followed.result c.loop-j.invariant.told (omega arith) c.get-row.ensures c.is_followed.ensures in
    record {
      told = rw c.add_where.ensures.posts
          (filter_skip (λ r. list_any (stands_behind r) a) _ _ b (c.loop-j.j + 1) c.next_behind-j.result more next.onward next.within next.none);
      ahead = ahead_on by_place (λ r. r.doc) (λ r. r.pos - 1) rises_behind a b c.skip_to-i.result (c.loop-j.j + 1) c.next_behind-j.result next.onward
          (ahead_more by_place (λ r. r.doc) (λ r. r.pos - 1) rises_behind a b c.skip_to-i.result c.loop-j.j row c.requires.b_sorted (omega arith) c.get-row.ensures split);
      room = omega arith;
    }

pub returns-clause-sorted : goal.returns-clause-sorted
returns-clause-sorted c =
    filter_sorted by_place (λ r. list_any (stands_behind r) c.args.a.now.posts) c.loop-j.found.posts c.args.b.now.posts c.loop-j.j
    c.requires.b_sorted c.loop-j.invariant.told (omega arith)
