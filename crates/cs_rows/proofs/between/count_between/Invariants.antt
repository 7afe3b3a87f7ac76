use Rattle.std.proofs.Common.{◌≡◌, ◌≤◌, ◌&&◌, take, length}
use Rattle.std.specs.Prelude.{filter, nat_le, nat_lt}
use Rattle.cs_rows.proofs.between.count_between.Given as goal

abbrev pub invariant-loop-word : goal.invariant-loop-word
invariant-loop-word l = record {
  counted : l.count ≡ length (filter (λ w. nat_le l.lo w && nat_lt w l.hi) (take l.word-index l.words));
  small : l.count ≤ l.word-index;
}
