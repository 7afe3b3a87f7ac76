use Rattle.std.proofs.Common.{◌≡◌, ◌≤◌, ◌∙◌, ap, length, replicate, true, subst, arith}
use Rattle.std.proofs.lemmas.Bool.{ltb-true}
use Rattle.cs_file.specs.Indexes.{IndexView}
use Rattle.cs_model_index.specs.Sections.{image_of}
use Rattle.cs_rows.specs.Counting.{counted_rows}
use Rattle.cs_rows.proofs.BlockwiseLemmas.{many_all, many_more}
use Rattle.cs_rows.proofs.blockwise.are_many.Goals as goal

pub loop-k-preserved : goal.loop-k-preserved
loop-k-preserved c =
    let inv = c.loop-k.invariant in
    let within = c.blocks-first.ensures.within in
    let few = c.rows_within-rows.ensures.few in
    let heads = c.as_slice-heads.ensures ∙ ap (λ (x : IndexView). x.heads) c.index.view_is in
    record {
      rows = λ b stands.
          many_more b c.args.index.now stands c.requires.index c.args.words.0 c.args.words.1 c.blocks-first.result.0 c.loop-k.k c.loop-k.rows
          c.rows_within-rows.result c.as_slice-heads.result.now _ heads inv.from
          (omega (arith, within, c.loop-k-test.true)) c.rows_within-rows.ensures.rows (inv.rows b stands);
      small = (let small = inv.small in omega (arith, few, small));
      from = omega (arith, inv.from);
    }

pub returns : goal.returns
returns c = λ yes b stands.
    let met = c.blocks-first.ensures in
    let up = met.ordered in
    let done : c.loop-k.k ≡ c.blocks-first.result.1 = omega (arith, c.loop-k-test.false, c.loop-k.auto.k-end, up) in
    let many = subst (λ k. c.loop-k.rows ≤ length
    (counted_rows (image_of b).blocks c.blocks-first.result.0 k c.args.words.0 c.args.words.1 (replicate c.args.index.now.docs true))) done
    (c.loop-k.invariant.rows b stands) in
    many_all b c.args.index.now stands c.requires.index c.args.words.0 c.args.words.1 c.blocks-first.result.0 c.blocks-first.result.1 c.loop-k.rows met
    (ltb-true _ _ yes) many
