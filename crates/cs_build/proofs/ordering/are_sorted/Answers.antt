use Rattle.std.proofs.Common.{◌≡◌, ◌+◌, ◌-◌, [], true, get_or, is_lt, sym, arith}
use Rattle.std.proofs.lemmas.List.Elements.{pair_read}
use Rattle.std.proofs.lemmas.List.Sorted.{all_adjacent_more}
use Rattle.std.proofs.lemmas.Map.Keys.{sorted_from_all_adjacent}
use Rattle.cs_base.specs.content.Orders.{by_spot}
use Rattle.cs_base.specs.declared.content.doc.Row.{Row}
use Rattle.cs_base.proofs.OrdersLemmas.{by_row_total}
use Rattle.cs_build.proofs.OrderLemmas.{row_less}
use Rattle.cs_build.proofs.ordering.are_sorted.Goals as goal

pub loop-i-preserved : goal.loop-i-preserved
loop-i-preserved c =
    let rows = c.args.rows.now in
    all_adjacent_more rows (λ (r s : Row). is_lt (by_spot r s) ≡ true) c.loop-i.i c.loop-i.auto.i c.loop-i.invariant
    (pair_read rows (λ (r s : Row). is_lt (by_spot r s) ≡ true) (c.loop-i.i - 1) c.loop-i.i c.index-rows-i.result c.index-rows-i-in-loop-i.result (omega (arith, c.loop-i-test.true)) c.loop-i-test.true c.index-rows-i.is c.index-rows-i-in-loop-i.is (sym c.if-not-comes_before.ensures))

pub returns : goal.returns
returns c = λ e.
    let rows = c.args.rows.now in
    let d : Row = record { doc = 0; word = []; pos = 0; score = 0 } in
    sorted_from_all_adjacent by_row_total rows d (λ k l. row_less (get_or rows k d) (get_or rows (k + 1) d) (c.loop-i.invariant k d (omega (arith, l, c.loop-i-test.false))))
