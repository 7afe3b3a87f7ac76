use Rattle.std.proofs.Common.{◌+◌, ◌≤◌, ◌^◌, get_or, arith}
use Rattle.std.proofs.lemmas.Cmp.{on_total, nat_cmp_total}
use Rattle.std.proofs.lemmas.List.Elements.{All-from_get_or}
use Rattle.std.proofs.lemmas.Map.Keys.{sorted_from_all_adjacent}
use Rattle.cs_base.specs.declared.content.doc.Scored.{Scored}
use Rattle.cs_base.proofs.OrdersLemmas.{Less-from_lt}
use Rattle.timed.proofs.input.are_listed.Goals as goal

abbrev blank : Scored
blank = record { doc = 0; score = 0 }

pub returns : goal.returns
returns c = λ done. record {
  sorted = sorted_from_all_adjacent (on_total (λ h. h.doc) nat_cmp_total) c.args.listed.now blank (λ k h. Less-from_lt (get_or c.args.listed.now k blank).doc (get_or c.args.listed.now (k + 1) blank).doc (c.loop-i.invariant.sorted k blank (omega arith)));
  low = All-from_get_or (λ h. h.score ≤ 2 ^ 20) c.args.listed.now blank (λ k h. c.loop-i.invariant.low k blank (omega arith));
}
