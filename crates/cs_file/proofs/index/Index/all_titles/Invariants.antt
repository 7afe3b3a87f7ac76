use Rattle.std.proofs.Common.{◌≡◌}
use Rattle.cs_file.specs.ImageSteps.{AreTitlesRead}
use Rattle.cs_file.proofs.index.Index.all_titles.Given as goal

abbrev pub invariant-loop-doc : goal.invariant-loop-doc
invariant-loop-doc g l = record {
  read : AreTitlesRead l.self (g.S.Store.bytes l.initial.store) l.titles l.doc;
  same : g.S.Store.bytes l.store ≡ g.S.Store.bytes l.initial.store;
  lent : g.S.Store.lent l.store ≡ g.S.Store.lent l.initial.store;
  quiet : g.S.Store.faults l.store ≡ g.S.Store.faults l.initial.store;
}
