use Rattle.std.proofs.Common.{◌≡◌, ◌-◌, ◌<◌, ◌++◌, length, drop, take, get_or}
use Rattle.std.specs.Prelude.{nat_eq}
use Rattle.std.specs.List.{dedup, dedup_from}
use Rattle.cs_meet.proofs.documents.docs_of.Given as goal

abbrev pub invariant-loop-i : goal.invariant-loop-i
invariant-loop-i l = record {
  told : dedup nat_eq l.all ≡ take l.last l.docs.items ++ dedup_from nat_eq (get_or l.all (l.i - 1) 0) (drop l.i l.all);
  current : get_or l.docs.items l.last 0 ≡ get_or l.all (l.i - 1) 0;
  near : l.last < l.i;
  within : l.last < length l.all;
  even : length l.docs.items ≡ length l.all;
}
