use Rattle.std.proofs.Common.{refl, arith, ◌∙◌, []}
use Rattle.cs_base.proofs.GrewLemmas.{on_err}
use Rattle.cs_file.proofs.SinkPuts.{item_put, item_fails, items_put, as_titles, titles_fail}
use Rattle.cs_file.proofs.writing.put_titles.Goals as goal

pub loop-title-preserved : goal.loop-title-preserved
loop-title-preserved g c =
    record {
      told = item_put _ _ (λ t. t) c.args.titles.now c.loop-title.title-index c.title-item.result _ _ _ _ _ c.loop-title-test.true
          (c.as_bytes.ensures.value ∙ c.as_str.ensures ∙ c.title-item.is) c.loop-title.invariant.told c.in_ok-put_bytes.ensures.ok;
      quiet = c.in_ok-put_bytes.ensures.caused.quiet refl ∙ c.loop-title.invariant.quiet;
      lent = c.in_ok-put_bytes.ensures.lent ∙ c.loop-title.invariant.lent;
    }

pub returns-in_err-put_bytes-clause-err : goal.returns-in_err-put_bytes-clause-err
returns-in_err-put_bytes-clause-err g c =
    on_err c.from_residual.result _ (titles_fail c.args.titles.now _ _ _
    (item_fails _ _ (λ t. t) c.args.titles.now c.loop-title.title-index c.title-item.result _ _ _ _ c.loop-title-test.true
    (c.as_bytes.ensures.value ∙ c.as_str.ensures ∙ c.title-item.is) c.loop-title.invariant.told c.in_err-put_bytes.ensures.err))

pub returns-clause-ok : goal.returns-clause-ok
returns-clause-ok g c = as_titles c.args.titles.now _ _ _ _
    (items_put _ _ (λ t. t) c.args.titles.now c.loop-title.title-index [] _ _ (omega arith) c.loop-title.invariant.told)
