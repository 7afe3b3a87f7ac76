use Rattle.std.proofs.Common.{◌≡◌, take}
use Rattle.std.specs.List.{flat_map}
use Rattle.cs_file.specs.Putting.{HasPut}
use Rattle.cs_file.proofs.writing.put_titles.Given as goal

abbrev pub invariant-loop-title : goal.invariant-loop-title
invariant-loop-title g l = record {
  told : HasPut (g.S.Sink.written l.initial.out) l.initial.held.items (flat_map (λ t. t) (take l.title-index l.titles)) (g.S.Sink.written l.out) l.held.items;
  quiet : g.S.Sink.faults l.out ≡ g.S.Sink.faults l.initial.out;
  lent : g.S.Sink.lent l.out ≡ g.S.Sink.lent l.initial.out;
}
