use Rattle.std.proofs.Common.{◌++◌, ◌∷◌, [], map, refl, sym, ap, ◌∙◌, arith, get_or, take, List}
use Rattle.std.specs.List.{zip}
use Rattle.std.proofs.lemmas.List.{take_all}
use Rattle.cs_base.specs.declared.index.block.BlockHead.{BlockHead}
use Rattle.cs_cols.specs.declared.cols.Cols.{Cols}
use Rattle.cs_model_index.specs.Partitions.{is_facet}
use Rattle.cs_build.specs.WordRuns.{run_head}
use Rattle.cs_build.proofs.RunHeads.{head_is, head_more, pairs_many}
use Rattle.cs_build.proofs.heads.run_heads.Goals as goal

pub loop-i-preserved : goal.loop-i-preserved
loop-i-preserved c =
    let run = get_or c.args.runs.now c.loop-i.i (record { lo = 0; words = 0; rows = 0 }) in
    let head : BlockHead = record { lo = run.lo; words = run.words; rows = run.rows; len = c.bytes_of.result; facet = c.begins_as_facet.result; least = c.bounds_of-least.result.0; greatest = c.bounds_of-least.result.1 } in
    let is = head_is c.args.words.now run c.index-blocks-i.result.posts run.lo run.words run.rows c.bytes_of.result c.begins_as_facet.result c.bounds_of-least.result.0 c.bounds_of-least.result.1 refl refl refl (c.bytes_of.ensures run.lo) (c.begins_as_facet.ensures ∙ ap is_facet (sym c.word.ensures.1)) c.bounds_of-least.ensures.least c.bounds_of-least.ensures.greatest in
    let so_far : List BlockHead = map (run_head c.args.words.now) (take c.loop-i.i (zip c.args.runs.now (map (λ (b : Cols). b.posts) c.args.blocks.now))) in
    c.in_ok-push.ensures.items ∙ ap (λ (hs : List BlockHead). hs ++ head ∷ []) c.loop-i.invariant ∙ ap (λ (h : BlockHead). so_far ++ h ∷ []) is
    ∙ sym (head_more c.args.words.now c.args.runs.now c.args.blocks.now c.loop-i.i (record { lo = 0; words = 0; rows = 0 }) c.index-blocks-i.result c.requires.each c.loop-i-test.true c.index-blocks-i.is)

pub returns : goal.returns
returns c = c.loop-i.invariant ∙ ap (map (run_head c.args.words.now)) (take_all c.loop-i.i (zip c.args.runs.now (map (λ (b : Cols). b.posts) c.args.blocks.now)) (omega (arith, c.loop-i-test.false, pairs_many c.args.runs.now (map (λ (b : Cols). b.posts) c.args.blocks.now))))
