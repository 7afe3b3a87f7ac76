use Rattle.cs_system.proofs.AppendsLemmas.{appends_all}
use Rattle.cs_system.proofs.standard.hand_on.Goals as goal

pub returns-clause-begun : goal.returns-clause-begun
returns-clause-begun g c =
    appends_all c.flush.result (g.W.Write.contents c.args.writer.now) (g.W.Write.contents c.write_whole.new.writer) (g.W.Write.contents c.flush.new.self) c.args.bytes.now
    c.in_ok-write_whole.ensures.ok c.flush.ensures.bytes
