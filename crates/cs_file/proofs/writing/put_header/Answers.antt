use Rattle.std.specs.Prelude.{true, flat_map}
use Rattle.cs_base.proofs.GrewLemmas.{on_err}
use Rattle.cs_model_index.specs.Layout.{MAGIC2, number_bytes, header_numbers, header_of_image, header_bytes}
use Rattle.cs_file.proofs.SinkPuts.{then_ok, then_err, put_on, fails_first, fails_on}
use Rattle.cs_file.proofs.writing.put_header.Goals as goal

pub returns-in_err-put_bytes-clause-err : goal.returns-in_err-put_bytes-clause-err
unfolding header_bytes
returns-in_err-put_bytes-clause-err g c = on_err c.from_residual.result _
    (fails_first _ _ MAGIC2 (flat_map number_bytes (header_numbers (header_of_image true c.args.image.now))) _ c.in_err-put_bytes.ensures.err)

pub returns-clause-ok : goal.returns-clause-ok
unfolding header_bytes
returns-clause-ok g c =
    then_ok c.put_numbers.result _ _ (λ q. put_on _ _ MAGIC2 (flat_map number_bytes (header_numbers (header_of_image true c.args.image.now))) _ _ _ _
    c.in_ok-put_bytes.ensures.ok (rw c.numbers_of.ensures at q)) c.put_numbers.ensures.ok

pub returns-clause-err : goal.returns-clause-err
unfolding header_bytes
returns-clause-err g c =
    then_err c.put_numbers.result _ _ (λ q. fails_on _ _ MAGIC2 (flat_map number_bytes (header_numbers (header_of_image true c.args.image.now))) _ _ _
    c.in_ok-put_bytes.ensures.ok (rw c.numbers_of.ensures at q)) c.put_numbers.ensures.err
