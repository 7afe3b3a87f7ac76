use Rattle.std.proofs.Common.{◌+◌, ◌∷◌, ap, arith, drop, length, length-append, sym, ◌∙◌}
use Rattle.std.proofs.lemmas.List.{drop_all, drop_more}
use Rattle.cs_model_index.specs.Layout.{title_bytes}
use Rattle.cs_merge.proofs.merging.bytes_in.Goals as goal

pub loop-title-preserved : goal.loop-title-preserved
loop-title-preserved c =
    let ts = c.args.titles.now in
    let i = c.loop-title.title-index in
    let e = ap (λ x. length (title_bytes x)) (drop_more ts i c.title-item.result c.loop-title-test.true ∙ ap (λ t. t ∷ drop (i + 1) ts) (sym c.title-item.is)) in
    let l = length-append c.title-item.result (title_bytes (drop (i + 1) ts)) in
    let was = c.loop-title.invariant.sum in
    let now = c.saturating_add-bytes.ensures in
    let len = c.len.ensures in
    record {
      sum = omega (arith, e, l, was, now, len);
      fits = omega (arith, now);
    }

pub returns : goal.returns
returns c =
    let end = ap (λ x. length (title_bytes x)) (drop_all c.loop-title.title-index c.args.titles.now c.loop-title-test.false) in
    let was = c.loop-title.invariant.sum in
    let fits = c.loop-title.invariant.fits in
    omega (arith, end, was, fits)
