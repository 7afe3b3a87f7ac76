use Rattle.std.proofs.Common.{length, ap, arith}
use Rattle.cs_file.proofs.SectionSizes.{longer, titles_joined}
use Rattle.cs_file.proofs.sizes.titles_len.Goals as goal

pub overflow_cast-bytes : goal.overflow_cast-bytes
overflow_cast-bytes c =
    let k = longer (λ t. t) c.args.titles.now c.loop-title.title-index c.title-item.result c.loop-title-test.true in
    omega (arith, k.within, ap length c.title-item.is, c.loop-title.invariant, c.len.ensures, ap length (titles_joined c.args.titles.now), c.requires)

pub overflow_add-bytes : goal.overflow_add-bytes
overflow_add-bytes c =
    let k = longer (λ t. t) c.args.titles.now c.loop-title.title-index c.title-item.result c.loop-title-test.true in
    omega (arith, k.within, ap length c.title-item.is, c.loop-title.invariant, c.len.ensures, ap length (titles_joined c.args.titles.now), c.requires)

pub loop-title-preserved : goal.loop-title-preserved
loop-title-preserved c =
    let k = longer (λ t. t) c.args.titles.now c.loop-title.title-index c.title-item.result c.loop-title-test.true in
    omega (arith, k.now, ap length c.title-item.is, c.loop-title.invariant, c.len.ensures)
