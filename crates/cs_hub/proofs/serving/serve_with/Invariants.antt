use Rattle.std.specs.Option.{ForSome}
use Rattle.cs_engine.specs.Keeping.{AreGood}
use Rattle.cs_file.specs.Indexes.{HasAllBlocks, StandsFor}
use Rattle.cs_model_index.specs.Sections.{file_corpus}
use Rattle.cs_hub.specs.Asked.{LeavesIndex}
use Rattle.cs_hub.specs.Rounds.{StaysBeside, still}
use Rattle.cs_hub.specs.Totals.{AsksSoFar}
use Rattle.cs_hub.proofs.RoundLemmas.{CountsRounds, ServedBy}
use Rattle.cs_hub.proofs.serving.serve_with.Given as goal

abbrev pub invariant-loop-alloc : goal.invariant-loop-alloc
invariant-loop-alloc g l = record {
  fits : HasAllBlocks (g.S.Store.bytes l.store) l.engine.index;
  served : ForSome (g.S.Store.bytes l.initial.store) (λ b. StandsFor b l.initial.engine.index → AreGood b l.initial.engine
      → ServedBy (file_corpus b) l.core (g.H.Hub.state l.hub) (g.H.Hub.talk l.hub) (g.S.Store.faults l.initial.store) (g.S.Store.faults l.store));
  good : ForSome (g.S.Store.bytes l.initial.store) (λ b. StandsFor b l.initial.engine.index → AreGood b l.initial.engine → AreGood b l.engine);
  asked : AsksSoFar (g.S.Store.bytes l.initial.store) l.core l.initial.engine l.engine (g.S.Store.reads l.initial.store) (g.S.Store.reads l.store)
      (g.S.Store.faults l.initial.store) (g.S.Store.faults l.store) (g.H.Hub.talk l.hub);
  beside : StaysBeside g.H.Hub.state g.H.Hub.talk g.H.Hub.send_faults l.conns l.core l.initial.hub l.hub;
  counts : CountsRounds g.H.Hub.state g.H.Hub.talk g.H.Hub.faults l.conns l.opened l.core l.initial.hub l.hub;
  leaves : LeavesIndex g.S.Store.bytes g.S.Store.lent g.S.Store.faults l.initial.engine l.engine l.initial.store l.store;
}

abbrev pub decreases-loop-alloc : goal.decreases-loop-alloc
decreases-loop-alloc g l = still l.conns l.opened l.core
