use Rattle.std.proofs.Common.{ap}
use Rattle.std.proofs.lemmas.Result.{on_ok_weaker, on_err_weaker}
use Rattle.cs_base.proofs.FileLemmas.{held_appended, open_appended, others_appended, grew}
use Rattle.cs_base.proofs.outside.file_sink.FileSinkSink.put.Goals as goal

pub invariant_of-self : goal.invariant_of-self
invariant_of-self g c = record {
  holds = held_appended _ _ _ _ c.append.result c.append.ensures.ok c.append.ensures.err;
  unfinished = open_appended _ _ _ _ c.append.result c.append.ensures.ok c.append.ensures.err;
}

pub returns-clause-ok : goal.returns-clause-ok
returns-clause-ok g c = on_ok_weaker c.append.result (grew _ _ _ _) c.append.ensures.ok

pub returns-clause-err : goal.returns-clause-err
returns-clause-err g c = on_err_weaker c.append.result (λ p. (p.0, grew _ _ _ _ p.1)) c.append.ensures.err

pub returns-clause-lent : goal.returns-clause-lent
returns-clause-lent g c = ap (λ r. (c.args.self.now.files.ghost_name, (c.args.self.now.name.now, r))) (others_appended _ _ _ _ c.append.result c.append.ensures.ok c.append.ensures.err)
