use Rattle.std.proofs.Common.{◌≡◌, take}
use Rattle.std.specs.List.{flat_map}
use Rattle.cs_base.specs.outside.Outside.{Grew}
use Rattle.cs_indexing.proofs.said.put_all.Given as goal

abbrev pub invariant-loop-piece : goal.invariant-loop-piece
invariant-loop-piece g l = record {
  so_far : Grew (g.E.Sink.written l.initial.err) (flat_map (λ p. p.now) (take l.piece-index l.pieces)) (g.E.Sink.written l.err);
  quiet : g.E.Sink.faults l.err ≡ g.E.Sink.faults l.initial.err;
}
