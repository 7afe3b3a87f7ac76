use Rattle.std.proofs.Common.{◌+◌, length, refl, ap, ◌∙◌, arith}
use Rattle.cs_base.proofs.GrewLemmas.{on_err}
use Rattle.cs_file.proofs.OffsetLemmas.{first_number, first_fails, offset_put, offset_fails, all_offsets}
use Rattle.cs_file.proofs.SectionSizes.{longer, titles_joined}
use Rattle.cs_file.proofs.writing.put_offsets.Goals as goal

pub returns-in_err-put_bytes-clause-err : goal.returns-in_err-put_bytes-clause-err
returns-in_err-put_bytes-clause-err g c = on_err c.from_residual.result _
    (first_fails _ _ c.args.titles.now _ (rw c.to_be_bytes.ensures at c.in_err-put_bytes.ensures.err))

pub loop-title-init : goal.loop-title-init
loop-title-init g c = record {
  told = rw (c.to_be_bytes.ensures, ← first_number) at c.in_ok-put_bytes.ensures.ok;
  at = refl;
  quiet = c.in_ok-put_bytes.ensures.caused.quiet refl;
  lent = c.in_ok-put_bytes.ensures.lent;
}

pub overflow_cast-at : goal.overflow_cast-at
overflow_cast-at g c =
    let k = longer (λ t. t) c.args.titles.now c.loop-title.title-index c.title-item.result c.loop-title-test.true in
    omega (arith, k.within, ap length c.title-item.is, c.loop-title.invariant.at, c.len.ensures, ap length (titles_joined c.args.titles.now), c.requires)

pub overflow_add-at : goal.overflow_add-at
overflow_add-at g c =
    let k = longer (λ t. t) c.args.titles.now c.loop-title.title-index c.title-item.result c.loop-title-test.true in
    omega (arith, k.within, ap length c.title-item.is, c.loop-title.invariant.at, c.len.ensures, ap length (titles_joined c.args.titles.now), c.requires)

pub loop-title-preserved : goal.loop-title-preserved
loop-title-preserved g c =
    let k = longer (λ t. t) c.args.titles.now c.loop-title.title-index c.title-item.result c.loop-title-test.true in
    record {
      told = offset_put _ _ c.args.titles.now c.loop-title.title-index c.title-item.result _ _ _ (c.loop-title.at + c.len.result) c.loop-title-test.true
          (omega (arith, c.loop-title.invariant.at, c.len.ensures, ap length c.title-item.is)) c.loop-title.invariant.told _
          (rw c.to_be_bytes-in-loop-title.ensures at c.in_ok-put_bytes-2.ensures.ok);
      at = omega (arith, k.now, ap length c.title-item.is, c.loop-title.invariant.at, c.len.ensures);
      quiet = c.in_ok-put_bytes-2.ensures.caused.quiet refl ∙ c.loop-title.invariant.quiet;
      lent = c.in_ok-put_bytes-2.ensures.lent ∙ c.loop-title.invariant.lent;
    }

pub returns-in_err-put_bytes-2-clause-err : goal.returns-in_err-put_bytes-2-clause-err
returns-in_err-put_bytes-2-clause-err g c =
    on_err c.from_residual-in_err-put_bytes-2.result _
    (offset_fails _ _ c.args.titles.now c.loop-title.title-index c.title-item.result _ _ _ (c.loop-title.at + c.len.result) c.loop-title-test.true
    (omega (arith, c.loop-title.invariant.at, c.len.ensures, ap length c.title-item.is)) c.loop-title.invariant.told
    (rw c.to_be_bytes-in-loop-title.ensures at c.in_err-put_bytes-2.ensures.err))

pub returns-clause-ok : goal.returns-clause-ok
returns-clause-ok g c = all_offsets c.args.titles.now c.loop-title.title-index _ _ _ _ (omega arith) c.loop-title.invariant.told
