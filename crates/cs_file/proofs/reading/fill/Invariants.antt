use Rattle.std.proofs.Common.{◌≡◌, ◌-◌, ◌≤◌, length}
use Rattle.cs_file.proofs.FilledPieces.{HasRead}
use Rattle.cs_file.proofs.reading.fill.Given as goal

abbrev pub invariant-loop-done : goal.invariant-loop-done
invariant-loop-done g l = record {
  told : HasRead (g.S.Store.bytes l.initial.store) l.at l.out l.done;
  within : l.done ≤ length l.out;
  same : g.S.Store.bytes l.store ≡ g.S.Store.bytes l.initial.store;
  lent : g.S.Store.lent l.store ≡ g.S.Store.lent l.initial.store;
  quiet : g.S.Store.faults l.store ≡ g.S.Store.faults l.initial.store;
}

abbrev pub decreases-loop-done : goal.decreases-loop-done
decreases-loop-done g l = length l.out - l.done
