use Rattle.std.proofs.Common.{refl, arith, ◌∙◌}
use Rattle.std.specs.Prelude.{true, false}
use Rattle.cs_base.proofs.GrewLemmas.{on_err}
use Rattle.cs_model_index.specs.Layout.{entry_bytes, directory_bytes}
use Rattle.cs_file.proofs.SinkPuts.{item_put, item_fails, items_put}
use Rattle.cs_file.proofs.writing.put_directory.Goals as goal

pub loop-head-preserved : goal.loop-head-preserved
loop-head-preserved g c =
    record {
      told = item_put _ _ (entry_bytes true) c.args.heads.now c.loop-head.head-index (record { lo = 0; words = 0; rows = 0; len = 0; facet = false; least = 0; greatest = 0 }) _ _ _ _ _
          c.loop-head-test.true refl c.loop-head.invariant.told c.in_ok-put_numbers.ensures.ok;
      quiet = c.in_ok-put_numbers.ensures.caused.quiet refl ∙ c.loop-head.invariant.quiet;
      lent = c.in_ok-put_numbers.ensures.lent ∙ c.loop-head.invariant.lent;
    }

pub returns-in_err-put_numbers-clause-err : goal.returns-in_err-put_numbers-clause-err
unfolding directory_bytes
returns-in_err-put_numbers-clause-err g c =
    on_err c.from_residual.result _ (item_fails _ _ (entry_bytes true) c.args.heads.now c.loop-head.head-index
    (record { lo = 0; words = 0; rows = 0; len = 0; facet = false; least = 0; greatest = 0 }) _ _ _ _ c.loop-head-test.true refl c.loop-head.invariant.told
    c.in_err-put_numbers.ensures.err)

pub returns-clause-ok : goal.returns-clause-ok
unfolding directory_bytes
returns-clause-ok g c = items_put _ _ (entry_bytes true) c.args.heads.now c.loop-head.head-index (record { lo = 0; words = 0; rows = 0; len = 0; facet = false; least = 0; greatest = 0 }) _
    _ (omega arith) c.loop-head.invariant.told
