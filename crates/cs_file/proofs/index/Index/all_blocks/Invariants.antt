use Rattle.std.proofs.Common.{◌≡◌, map}
use Rattle.cs_file.specs.ImageSteps.{AreBlocksRead}
use Rattle.cs_file.proofs.index.Index.all_blocks.Given as goal

abbrev pub invariant-loop-k : goal.invariant-loop-k
invariant-loop-k g l = record {
  read : AreBlocksRead l.self (g.S.Store.bytes l.initial.store) (map (λ c. c.posts) l.blocks) l.k;
  same : g.S.Store.bytes l.store ≡ g.S.Store.bytes l.initial.store;
  lent : g.S.Store.lent l.store ≡ g.S.Store.lent l.initial.store;
  quiet : g.S.Store.faults l.store ≡ g.S.Store.faults l.initial.store;
}
