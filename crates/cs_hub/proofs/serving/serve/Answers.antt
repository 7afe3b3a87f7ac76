use Rattle.cs_model_index.specs.Sections.{file_corpus}
use Rattle.cs_hub.proofs.FollowLemmas.{served_none}
use Rattle.cs_hub.proofs.TotalLemmas.{asks_none}
use Rattle.cs_hub.proofs.serving.serve.Goals as goal

pub returns-in_default-clause-served : goal.returns-in_default-clause-served
returns-in_default-clause-served g c =
    λ b told stands good. served_none (file_corpus b) (g.H.Hub.state c.args.hub.now) (g.H.Hub.talk c.args.hub.now) c.requires.listens.0 c.args.conns
    (g.S.Store.faults c.args.store.now) c.requires.listens.1 c.requires.orderly

pub returns-in_default-clause-asked : goal.returns-in_default-clause-asked
returns-in_default-clause-asked g c =
    asks_none (g.S.Store.bytes c.args.store.now) c.args.engine.now (g.S.Store.reads c.args.store.now) (g.S.Store.faults c.args.store.now)
    (g.H.Hub.state c.args.hub.now) (g.H.Hub.talk c.args.hub.now) c.requires.listens.0 c.args.conns c.requires.listens.1 c.requires.orderly
