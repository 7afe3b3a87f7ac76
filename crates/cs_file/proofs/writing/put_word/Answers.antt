use Rattle.std.proofs.Common.{◌∷◌, []}
use Rattle.cs_base.proofs.GrewLemmas.{on_err}
use Rattle.cs_file.proofs.SinkPuts.{then_ok, then_err, put_on, fails_first, fails_on}
use Rattle.cs_file.proofs.writing.put_word.Goals as goal

pub returns-in_err-put_bytes-clause-err : goal.returns-in_err-put_bytes-clause-err
returns-in_err-put_bytes-clause-err g c = on_err c.from_residual.result _ (fails_first _ _ (c.args.len ∷ []) c.args.word.now _ c.in_err-put_bytes.ensures.err)

pub returns-clause-ok : goal.returns-clause-ok
returns-clause-ok g c = then_ok c.put_bytes-2.result _ _ (put_on _ _ (c.args.len ∷ []) c.args.word.now _ _ _ _ c.in_ok-put_bytes.ensures.ok)
    c.put_bytes-2.ensures.ok

pub returns-clause-err : goal.returns-clause-err
returns-clause-err g c = then_err c.put_bytes-2.result _ _ (fails_on _ _ (c.args.len ∷ []) c.args.word.now _ _ _ c.in_ok-put_bytes.ensures.ok)
    c.put_bytes-2.ensures.err
