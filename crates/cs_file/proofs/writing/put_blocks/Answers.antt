use Rattle.std.proofs.Common.{List, map, refl, sym, ap, subst, ◌∙◌, arith, []}
use Rattle.std.specs.Prelude.{false}
use Rattle.std.specs.List.{zip}
use Rattle.std.proofs.lemmas.List.Elements.{All-get_or}
use Rattle.cs_base.specs.declared.index.block.BlockHead.{BlockHead}
use Rattle.cs_base.specs.declared.content.doc.Post.{Post}
use Rattle.cs_base.proofs.GrewLemmas.{on_err}
use Rattle.cs_model_index.specs.Blocks.{block_bytes}
use Rattle.cs_model_index.specs.Layout.{blocks_bytes}
use Rattle.cs_file.specs.Writable.{BlockFits}
use Rattle.cs_file.proofs.SinkPuts.{item_put, item_fails, items_put}
use Rattle.cs_file.proofs.SectionSizes.{pair_at, pairs_many}
use Rattle.cs_file.proofs.writing.put_blocks.Goals as goal

pub put_block-requires : goal.put_block-requires
put_block-requires g c =
    let p = pair_at c.args.heads.now c.args.blocks.now c.loop-i.i (record { lo = 0; words = 0; rows = 0; len = 0; facet = false; least = 0; greatest = 0 }) c.index-blocks-i.result
    c.requires.one_each c.loop-i-test.true c.index-blocks-i.is in
    (subst BlockFits p.at (All-get_or BlockFits (zip c.args.heads.now (map (λ c. c.posts) c.args.blocks.now)) c.loop-i.i
    (record { lo = 0; words = 0; rows = 0; len = 0; facet = false; least = 0; greatest = 0 }, c.index-blocks-i.result.posts) p.inside c.requires.fit)).writable

pub loop-i-preserved : goal.loop-i-preserved
loop-i-preserved g c =
    let p = pair_at c.args.heads.now c.args.blocks.now c.loop-i.i (record { lo = 0; words = 0; rows = 0; len = 0; facet = false; least = 0; greatest = 0 }) c.index-blocks-i.result
    c.requires.one_each c.loop-i-test.true c.index-blocks-i.is in
    record {
      told = item_put _ _ (λ p. block_bytes p.1 p.0.lo) (zip c.args.heads.now (map (λ c. c.posts) c.args.blocks.now)) c.loop-i.i
          (record { lo = 0; words = 0; rows = 0; len = 0; facet = false; least = 0; greatest = 0 }, c.index-blocks-i.result.posts) _ _ _ _ _ p.inside
          (sym (ap (λ (p : BlockHead × List Post). block_bytes p.1 p.0.lo) p.at)) c.loop-i.invariant.told c.in_ok-put_block.ensures.ok;
      quiet = c.in_ok-put_block.ensures.caused.quiet refl ∙ c.loop-i.invariant.quiet;
      lent = c.in_ok-put_block.ensures.lent ∙ c.loop-i.invariant.lent;
    }

pub returns-in_err-put_block-clause-err : goal.returns-in_err-put_block-clause-err
unfolding blocks_bytes
returns-in_err-put_block-clause-err g c =
    let p = pair_at c.args.heads.now c.args.blocks.now c.loop-i.i (record { lo = 0; words = 0; rows = 0; len = 0; facet = false; least = 0; greatest = 0 }) c.index-blocks-i.result
    c.requires.one_each c.loop-i-test.true c.index-blocks-i.is in
    on_err c.from_residual.result _ (item_fails _ _ (λ p. block_bytes p.1 p.0.lo) (zip c.args.heads.now (map (λ c. c.posts) c.args.blocks.now)) c.loop-i.i
    (record { lo = 0; words = 0; rows = 0; len = 0; facet = false; least = 0; greatest = 0 }, c.index-blocks-i.result.posts) _ _ _ _ p.inside
    (sym (ap (λ (p : BlockHead × List Post). block_bytes p.1 p.0.lo) p.at)) c.loop-i.invariant.told c.in_err-put_block.ensures.err)

pub returns-clause-ok : goal.returns-clause-ok
unfolding blocks_bytes
returns-clause-ok g c =
    items_put _ _ (λ p. block_bytes p.1 p.0.lo) (zip c.args.heads.now (map (λ c. c.posts) c.args.blocks.now)) c.loop-i.i
    (record { lo = 0; words = 0; rows = 0; len = 0; facet = false; least = 0; greatest = 0 }, []) _ _
    (omega (arith, c.loop-i-test.false, pairs_many c.args.heads.now (map (λ c. c.posts) c.args.blocks.now))) c.loop-i.invariant.told
