use Rattle.std.proofs.Common.{◌++◌, subst}
use Rattle.cs_base.specs.outside.Outside.{GrewByPrefix}
use Rattle.cs_model_index.specs.Layout.{file}
use Rattle.cs_file.proofs.SinkPuts.{then_err, put_begun}
use Rattle.cs_file.proofs.writing.write_index.Goals as goal

pub returns-clause-err : goal.returns-clause-err
returns-clause-err g c =
    then_err c.put_pieces.result _ _ (λ q. subst (λ h. GrewByPrefix (g.S.Sink.written c.args.out.now) (h ++ file c.args.image.now)
    (g.S.Sink.written c.put_pieces.new.out)) c.new-held.ensures.items
    (put_begun _ _ (file c.args.image.now) _ _ _ c.in_ok-put_sections.ensures.ok (rw c.deref.ensures.value at q))) c.put_pieces.ensures.err
