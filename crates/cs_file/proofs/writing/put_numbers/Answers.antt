use Rattle.std.proofs.Common.{refl, arith, ◌∙◌}
use Rattle.cs_base.proofs.GrewLemmas.{on_err}
use Rattle.cs_model_index.specs.Layout.{number_bytes}
use Rattle.cs_file.proofs.SinkPuts.{item_put, item_fails, items_put}
use Rattle.cs_file.proofs.writing.put_numbers.Goals as goal

pub loop-number-preserved : goal.loop-number-preserved
loop-number-preserved g c =
    record {
      told = item_put _ _ number_bytes c.args.numbers.now c.loop-number.number-index 0 _ _ _ _ _ c.loop-number-test.true c.to_be_bytes.ensures
          c.loop-number.invariant.told c.in_ok-put_bytes.ensures.ok;
      quiet = c.in_ok-put_bytes.ensures.caused.quiet refl ∙ c.loop-number.invariant.quiet;
      lent = c.in_ok-put_bytes.ensures.lent ∙ c.loop-number.invariant.lent;
    }

pub returns-in_err-put_bytes-clause-err : goal.returns-in_err-put_bytes-clause-err
returns-in_err-put_bytes-clause-err g c =
    on_err c.from_residual.result _ (item_fails _ _ number_bytes c.args.numbers.now c.loop-number.number-index 0 _ _ _ _ c.loop-number-test.true
    c.to_be_bytes.ensures c.loop-number.invariant.told c.in_err-put_bytes.ensures.err)

pub returns-clause-ok : goal.returns-clause-ok
returns-clause-ok g c = items_put _ _ number_bytes c.args.numbers.now c.loop-number.number-index 0 _ _ (omega arith) c.loop-number.invariant.told
