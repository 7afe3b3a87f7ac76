use Rattle.std.proofs.Common.{sym, ◌∙◌, subst}
use Rattle.cs_file.specs.Indexes.{HasAllBlocks, StandsFor}
use Rattle.cs_model_index.specs.Sections.{file_corpus}
use Rattle.cs_hub.proofs.PieceTurns.{leaves_none, leaves_both}
use Rattle.cs_hub.proofs.RoundLemmas.{at_start, beside_both, beside_start, counts_next, counts_start, goes_on, served_by}
use Rattle.cs_hub.proofs.TotalLemmas.{asks_round, asks_start}
use Rattle.cs_hub.proofs.serving.serve_with.Goals as goal

pub loop-alloc-init : goal.loop-alloc-init
loop-alloc-init g c =
    let port = c.requires.listens.0 in
    let listens = c.requires.listens.1 in
    let none = c.new-core.ensures in
    record {
      fits = c.requires.fits;
      served = λ b told stands good. at_start (file_corpus b) c.new-core.result (g.H.Hub.state c.args.hub.now) (g.H.Hub.talk c.args.hub.now) port
          c.args.conns (g.S.Store.faults c.args.store.now) none listens c.requires.orderly;
      good = λ b told stands good. good;
      asked = asks_start (g.S.Store.bytes c.args.store.now) c.new-core.result c.args.engine.now (g.S.Store.reads c.args.store.now)
          (g.S.Store.faults c.args.store.now) (g.H.Hub.state c.args.hub.now) (g.H.Hub.talk c.args.hub.now) port c.args.conns none listens
          c.requires.orderly;
      beside = beside_start c.new-core.result port c.args.hub.now none listens c.requires.orderly;
      counts = counts_start c.new-core.result port c.args.hub.now none listens;
      leaves = leaves_none c.args.engine.now c.args.store.now;
    }

pub loop-alloc-preserved : goal.loop-alloc-preserved
loop-alloc-preserved g c =
    let i = c.loop-alloc.invariant in
    let r = c.in-Goes.ensures in
    record {
      fits = subst (λ x. HasAllBlocks x c.take_turn.new.engine.index) (sym r.leaves.bytes)
          (subst (HasAllBlocks (g.S.Store.bytes c.loop-alloc.store)) (sym r.leaves.index) i.fits);
      served = λ b told stands good.
          goes_on (file_corpus b) c.loop-alloc.core c.take_turn.new.core (g.H.Hub.state c.loop-alloc.hub) (g.H.Hub.state c.take_turn.new.hub)
          (g.H.Hub.talk c.loop-alloc.hub) (g.H.Hub.talk c.take_turn.new.hub) (g.S.Store.faults c.args.store.now)
          (g.S.Store.faults c.loop-alloc.store) (g.S.Store.faults c.take_turn.new.store) (i.served b told stands good)
          (r.served b (i.leaves.bytes ∙ told) (subst (StandsFor b) (sym i.leaves.index) stands) (i.good b told stands good));
      good = λ b told stands good.
          r.good b (i.leaves.bytes ∙ told) (subst (StandsFor b) (sym i.leaves.index) stands) (i.good b told stands good);
      asked = asks_round i.leaves.bytes i.asked r.asked;
      beside = beside_both i.beside r.beside;
      counts = counts_next c.loop-alloc.hub c.take_turn.new.hub i.counts i.beside.room r.went;
      leaves = leaves_both i.leaves r.leaves;
    }

pub returns-in-Over-clause-served : goal.returns-in-Over-clause-served
returns-in-Over-clause-served g c = λ b told stands good.
    let i = c.loop-alloc.invariant in
    let s = g.H.Hub.state c.loop-alloc.hub in
    let r = c.in-Over.ensures in
    served_by (file_corpus b) c.take_turn.new.core (g.H.Hub.state c.take_turn.new.hub) (g.H.Hub.talk c.take_turn.new.hub) (g.S.Store.faults c.args.store.now)
    (g.S.Store.faults c.take_turn.new.store)
    (goes_on (file_corpus b) c.loop-alloc.core c.take_turn.new.core s (g.H.Hub.state c.take_turn.new.hub) (g.H.Hub.talk c.loop-alloc.hub)
    (g.H.Hub.talk c.take_turn.new.hub) (g.S.Store.faults c.args.store.now) (g.S.Store.faults c.loop-alloc.store) (g.S.Store.faults c.take_turn.new.store)
    (i.served b told stands good)
    (r.served b (i.leaves.bytes ∙ told) (subst (StandsFor b) (sym i.leaves.index) stands) (i.good b told stands good)))

pub returns-in-Over-clause-good : goal.returns-in-Over-clause-good
returns-in-Over-clause-good g c = λ b told stands good.
    let i = c.loop-alloc.invariant in
    c.in-Over.ensures.good b (i.leaves.bytes ∙ told) (subst (StandsFor b) (sym i.leaves.index) stands) (i.good b told stands good)

pub returns-in-Over-clause-asked : goal.returns-in-Over-clause-asked
returns-in-Over-clause-asked g c =
    let i = c.loop-alloc.invariant in
    (asks_round i.leaves.bytes i.asked c.in-Over.ensures.asked).all

pub returns-in-Over-clause-leaves : goal.returns-in-Over-clause-leaves
returns-in-Over-clause-leaves g c = leaves_both c.loop-alloc.invariant.leaves c.in-Over.ensures.leaves

pub returns-in-Failed-clause-good : goal.returns-in-Failed-clause-good
returns-in-Failed-clause-good g c = λ b told stands good.
    let i = c.loop-alloc.invariant in
    c.in-Failed.ensures.good b (i.leaves.bytes ∙ told) (subst (StandsFor b) (sym i.leaves.index) stands) (i.good b told stands good)

pub returns-in-Failed-clause-asked : goal.returns-in-Failed-clause-asked
returns-in-Failed-clause-asked g c =
    let i = c.loop-alloc.invariant in
    (asks_round i.leaves.bytes i.asked c.in-Failed.ensures.asked).all

pub returns-in-Failed-clause-leaves : goal.returns-in-Failed-clause-leaves
returns-in-Failed-clause-leaves g c = leaves_both c.loop-alloc.invariant.leaves c.in-Failed.ensures.leaves

pub returns-in-Failed-clause-served : goal.returns-in-Failed-clause-served
returns-in-Failed-clause-served g c = λ b told stands good.
    let i = c.loop-alloc.invariant in
    let s = g.H.Hub.state c.loop-alloc.hub in
    let r = c.in-Failed.ensures in
    served_by (file_corpus b) c.take_turn.new.core (g.H.Hub.state c.take_turn.new.hub) (g.H.Hub.talk c.take_turn.new.hub) (g.S.Store.faults c.args.store.now)
    (g.S.Store.faults c.take_turn.new.store)
    (goes_on (file_corpus b) c.loop-alloc.core c.take_turn.new.core s (g.H.Hub.state c.take_turn.new.hub) (g.H.Hub.talk c.loop-alloc.hub)
    (g.H.Hub.talk c.take_turn.new.hub) (g.S.Store.faults c.args.store.now) (g.S.Store.faults c.loop-alloc.store) (g.S.Store.faults c.take_turn.new.store)
    (i.served b told stands good)
    (r.served b (i.leaves.bytes ∙ told) (subst (StandsFor b) (sym i.leaves.index) stands) (i.good b told stands good)))

pub returns-clause-served : goal.returns-clause-served
returns-clause-served g c = λ b told stands good.
    served_by (file_corpus b) c.loop-alloc.core (g.H.Hub.state c.loop-alloc.hub) (g.H.Hub.talk c.loop-alloc.hub) (g.S.Store.faults c.args.store.now)
    (g.S.Store.faults c.loop-alloc.store) (c.loop-alloc.invariant.served b told stands good)

pub returns-clause-asked : goal.returns-clause-asked
returns-clause-asked g c = c.loop-alloc.invariant.asked.all
