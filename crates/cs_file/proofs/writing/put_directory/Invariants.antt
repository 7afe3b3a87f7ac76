use Rattle.std.proofs.Common.{◌≡◌, true, take}
use Rattle.std.specs.List.{flat_map}
use Rattle.cs_model_index.specs.Layout.{entry_bytes}
use Rattle.cs_file.specs.Putting.{HasPut}
use Rattle.cs_file.proofs.writing.put_directory.Given as goal

abbrev pub invariant-loop-head : goal.invariant-loop-head
invariant-loop-head g l = record {
  told : HasPut (g.S.Sink.written l.initial.out) l.initial.held.items (flat_map (entry_bytes true) (take l.head-index l.heads)) (g.S.Sink.written l.out) l.held.items;
  quiet : g.S.Sink.faults l.out ≡ g.S.Sink.faults l.initial.out;
  lent : g.S.Sink.lent l.out ≡ g.S.Sink.lent l.initial.out;
}
