use Rattle.std.proofs.Common.{◌≡◌, ◌≤◌, length, map, ap, subst, ◌∙◌, arith}
use Rattle.std.specs.List.Sorted.{IsStrictlySortedBy}
use Rattle.std.proofs.lemmas.List.{length-map}
use Rattle.std.proofs.lemmas.Result.{IfOk-weaker}
use Rattle.cs_base.specs.content.Members.{members_in}
use Rattle.cs_base.specs.content.Orders.{by_row}
use Rattle.cs_base.proofs.OrdersLemmas.{by_row_total, by_row_exact}
use Rattle.cs_build.proofs.SortedRefs.{listed_refs}
use Rattle.cs_build.specs.Ordering.{row_of_spot}
use Rattle.cs_build.specs.contracts.ordering.SpotOrd.TheImpl.Laws.{matches_eq-law}
use Rattle.cs_build.proofs.OrderLemmas.{in_their_order, spot_of}
use Rattle.cs_build.proofs.ordering.rows_in_order.Goals as goal

pub returns-then-are_sorted-clause-ok : goal.returns-then-are_sorted-clause-ok
returns-then-are_sorted-clause-ok c = in_their_order c.args.rows (subst (IsStrictlySortedBy by_row) c.as_slice.ensures (c.are_sorted.ensures c.if-are_sorted.true))

pub returns : goal.returns
returns c =
    let listed : map row_of_spot c.dedup.new.self.items ≡ members_in by_row (map row_of_spot c.in_ok-spots.spots.items) =
    listed_refs row_of_spot by_row_total by_row_exact _ (λ x y. matches_eq-law (spot_of x) (spot_of y)) c.in_ok-spots.spots.items c.sort.new.self.items c.dedup.new.self.items c.in_ok-sort.ensures.permutation c.in_ok-sort.ensures.sorted c.dedup.ensures.filtered in
    let many : length (map row_of_spot c.dedup.new.self.items) ≤ length c.args.rows = omega (
      arith,
      length-map c.dedup.new.self.items row_of_spot,
      ap length c.in_ok-spots.ensures,
      length-map c.in_ok-spots.spots.items row_of_spot,
      c.in_ok-sort.ensures.len,
      c.dedup.ensures.bound,
      c.dedup.new.self.ok,
      c.sort.new.self.ok,
      c.in_ok-spots.spots.ok,
    ) in
    record {
      ok = IfOk-weaker c.rows_at.result _ _ (λ rows e. e ∙ listed ∙ ap (members_in by_row) c.in_ok-spots.ensures) c.rows_at.ensures;
      few = IfOk-weaker c.rows_at.result _ _ (λ rows e. omega (arith, ap length e, many)) c.rows_at.ensures;
    }
