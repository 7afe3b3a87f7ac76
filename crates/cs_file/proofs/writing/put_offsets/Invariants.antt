use Rattle.std.proofs.Common.{◌≡◌, length, take}
use Rattle.std.specs.List.{flat_map}
use Rattle.cs_model_index.specs.Layout.{number_bytes, offsets_from}
use Rattle.cs_file.specs.Putting.{HasPut}
use Rattle.cs_file.proofs.writing.put_offsets.Given as goal

abbrev pub invariant-loop-title : goal.invariant-loop-title
invariant-loop-title g l = record {
  told : HasPut (g.S.Sink.written l.fn.out) l.fn.held.items (flat_map number_bytes (offsets_from 0 (take l.title-index l.titles))) (g.S.Sink.written l.out)
      l.held.items;
  at : l.at ≡ length (flat_map (λ t. t) (take l.title-index l.titles));
  quiet : g.S.Sink.faults l.out ≡ g.S.Sink.faults l.fn.out;
  lent : g.S.Sink.lent l.out ≡ g.S.Sink.lent l.fn.out;
}
