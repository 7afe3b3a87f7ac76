use Rattle.std.proofs.Common.{◌≡◌, ◌+◌, ◌-◌, arith, subst}
use Rattle.std.specs.Prelude.{max}
use Rattle.std.specs.List.{list_any}
use Rattle.cs_base.specs.content.Orders.{by_place}
use Rattle.cs_base.specs.declared.content.limits.TheConstants.{MAX_DISTANCE}
use Rattle.cs_meet.specs.Filters.{is_near}
use Rattle.cs_meet.specs.RowPlaces.{Splits}
use Rattle.cs_meet.proofs.Passes.{filter_more, filter_skip, filter_sorted, ahead_more, ahead_on, rises_window, rises_past}
use Rattle.cs_meet.proofs.links.near.Goals as goal

pub next_near-j-requires-clause-ahead : goal.next_near-j-requires-clause-ahead
next_near-j-requires-clause-ahead c =
    let a = c.args.a.now.posts in
    let b = c.args.b.now.posts in
    let row = c.get-row.result in
    let first : c.max.result ≡ max (row.pos - MAX_DISTANCE) 1 = omega arith in
    let window = subst (λ p. Splits a c.skip_to-lo.result row.doc p) first c.skip_to-lo.ensures.splits in
    ahead_more by_place (λ r. r.doc) (λ r. max (r.pos - MAX_DISTANCE) 1) rises_window a b c.skip_to-lo.result c.loop-j.j row c.requires.b_sorted (omega arith) c.get-row.ensures window

pub loop-j-preserved : goal.loop-j-preserved
loop-j-preserved c =
    let a = c.args.a.now.posts in
    let b = c.args.b.now.posts in
    let row = c.get-row.result in
    let first : c.max.result ≡ max (row.pos - MAX_DISTANCE) 1 = omega arith in
    let behind : c.from-pos.result + 1 ≡ row.pos + 1 = omega arith in
    let window = subst (λ p. Splits a c.skip_to-lo.result row.doc p) first c.skip_to-lo.ensures.splits in
    let past = subst (λ p. Splits a c.skip_to-hi.result row.doc p) behind c.skip_to-hi.ensures.splits in
    let j = c.loop-j.j in
    let next = c.next_near-j.ensures in
    let more = filter_more (λ r. list_any (is_near r) a) _ c.loop-j.found.posts b j row c.has_neighbour.result c.loop-j.invariant.told (omega arith) c.get-row.ensures c.has_neighbour.ensures in
    record {
      told = rw c.add_where.ensures.posts
          (filter_skip (λ r. list_any (is_near r) a) _ _ b (j + 1) c.next_near-j.result more next.onward next.within next.none);
      first = ahead_on by_place (λ r. r.doc) (λ r. max (r.pos - MAX_DISTANCE) 1) rises_window a b c.skip_to-lo.result (j + 1) c.next_near-j.result next.onward
          (ahead_more by_place (λ r. r.doc) (λ r. max (r.pos - MAX_DISTANCE) 1) rises_window a b c.skip_to-lo.result j row c.requires.b_sorted (omega arith) c.get-row.ensures window);
      behind = ahead_on by_place (λ r. r.doc) (λ r. r.pos + 1) rises_past a b c.skip_to-hi.result (j + 1) c.next_near-j.result next.onward
          (ahead_more by_place (λ r. r.doc) (λ r. r.pos + 1) rises_past a b c.skip_to-hi.result j row c.requires.b_sorted (omega arith) c.get-row.ensures past);
      room = omega arith;
    }

pub returns-clause-sorted : goal.returns-clause-sorted
returns-clause-sorted c =
    filter_sorted by_place (λ r. list_any (is_near r) c.args.a.now.posts) c.loop-j.found.posts c.args.b.now.posts c.loop-j.j
    c.requires.b_sorted c.loop-j.invariant.told (omega arith)
