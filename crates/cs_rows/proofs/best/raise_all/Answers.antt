use Rattle.std.proofs.Common.{◌≡◌, ◌<◌, ◌∙◌, ap, length, arith, length-set}
use Rattle.std.specs.Prelude.{max, slice_index}
use Rattle.cs_base.specs.declared.content.doc.Post.{Post}
use Rattle.cs_rows.proofs.BestLemmas.{raised_all, raised_more}
use Rattle.cs_rows.proofs.best.raise_all.Goals as goal

pub loop-key-preserved : goal.loop-key-preserved
loop-key-preserved c =
    let row = c.post_of_key-row.result in
    let below = c.requires c.loop-key.key-index 0 c.loop-key-test.true in
    let inside : row.doc < length c.loop-key.best = omega (arith, below, ap (λ (x : Post). x.doc) c.post_of_key-row.ensures, c.loop-key.invariant.len) in
    let is : c.max.result ≡ max (slice_index c.loop-key.best row.doc) row.score = omega (arith, c.max.ensures) in
    record {
      best = λ seen has. raised_more c.args.weights seen c.args.keys.now c.loop-key.best c.loop-key.key-index row c.max.result c.loop-key-test.true c.post_of_key-row.ensures
          inside is (c.loop-key.invariant.best seen has);
      len = length-set c.loop-key.best row.doc c.max.result ∙ c.loop-key.invariant.len;
    }

pub returns-clause-best : goal.returns-clause-best
returns-clause-best c = λ seen has. raised_all c.args.weights seen c.args.keys.now c.loop-key.best c.loop-key.key-index (omega (arith, c.loop-key-test.false))
    (c.loop-key.invariant.best seen has)
