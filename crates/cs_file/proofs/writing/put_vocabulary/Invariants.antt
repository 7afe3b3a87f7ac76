use Rattle.std.proofs.Common.{◌≡◌, ◌∷◌, length, take}
use Rattle.std.specs.List.{flat_map}
use Rattle.cs_file.specs.Putting.{HasPut}
use Rattle.cs_file.proofs.writing.put_vocabulary.Given as goal

abbrev pub invariant-loop-n : goal.invariant-loop-n
invariant-loop-n g l = record {
  told : HasPut (g.S.Sink.written l.initial.out) l.initial.held.items (flat_map (λ w. length w ∷ w) (take l.n l.words)) (g.S.Sink.written l.out) l.held.items;
  quiet : g.S.Sink.faults l.out ≡ g.S.Sink.faults l.initial.out;
  lent : g.S.Sink.lent l.out ≡ g.S.Sink.lent l.initial.out;
}
