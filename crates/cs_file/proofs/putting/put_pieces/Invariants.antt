use Rattle.std.proofs.Common.{◌≡◌, ◌++◌, List, ℕ, length}
use Rattle.cs_base.specs.outside.Outside.{Grew}
use Rattle.cs_file.proofs.putting.put_pieces.Given as goal

abbrev pub invariant-loop-rest : goal.invariant-loop-rest
invariant-loop-rest g l = record {
  so_far : (put : List ℕ) × Grew (g.S.Sink.written l.initial.out) put (g.S.Sink.written l.out) × (put ++ l.rest ≡ l.initial.rest);
  quiet : g.S.Sink.faults l.out ≡ g.S.Sink.faults l.initial.out;
  lent : g.S.Sink.lent l.out ≡ g.S.Sink.lent l.initial.out;
}

abbrev pub decreases-loop-rest : goal.decreases-loop-rest
decreases-loop-rest g l = length l.rest
