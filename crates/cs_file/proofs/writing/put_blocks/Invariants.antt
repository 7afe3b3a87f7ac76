use Rattle.std.proofs.Common.{◌≡◌, map, take}
use Rattle.std.specs.List.{flat_map, zip}
use Rattle.cs_model_index.specs.Blocks.{block_bytes}
use Rattle.cs_file.specs.Putting.{HasPut}
use Rattle.cs_file.proofs.writing.put_blocks.Given as goal

abbrev pub invariant-loop-i : goal.invariant-loop-i
invariant-loop-i g l = record {
  told : HasPut (g.S.Sink.written l.initial.out) l.initial.held.items
      (flat_map (λ p. block_bytes p.1 p.0.lo) (take l.i (zip l.heads (map (λ c. c.posts) l.blocks)))) (g.S.Sink.written l.out) l.held.items;
  quiet : g.S.Sink.faults l.out ≡ g.S.Sink.faults l.initial.out;
  lent : g.S.Sink.lent l.out ≡ g.S.Sink.lent l.initial.out;
}
