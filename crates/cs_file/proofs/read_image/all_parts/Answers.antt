use Rattle.std.proofs.Common.{◌+◌, ◌<◌, ◌≤◌, length, map, get_or, sym, ap, subst, ◌∙◌, arith}
use Rattle.std.specs.Prelude.{All}
use Rattle.std.specs.List.{zip}
use Rattle.std.proofs.lemmas.List.{length-map, take_all}
use Rattle.std.proofs.lemmas.List.Elements.{All-map}
use Rattle.cs_base.specs.declared.content.doc.Post.{Post}
use Rattle.cs_cols.specs.declared.cols.Cols.{Cols}
use Rattle.cs_file.specs.ImageSteps.{block_parts}
use Rattle.cs_file.proofs.FetchLemmas.{nothing}
use Rattle.cs_file.proofs.ImageParts.{filled_at, part_at, parts_more}
use Rattle.cs_file.proofs.SectionSizes.{pair_at, pairs_many}
use Rattle.cs_file.proofs.read_image.all_parts.Goals as goal

pub block_part-requires-clause-few : goal.block_part-requires-clause-few
block_part-requires-clause-few c =
    let block = c.index-blocks-k.result in
    let f = filled_at c.args.heads.now c.args.blocks.now c.loop-k.k block c.requires.one_each c.loop-k-test.true c.index-blocks-k.is c.requires.filled in
    let count = f.count in
    let few = f.few in
    omega (arith, ap length c.words.ensures, length-map block.posts (λ (r : Post). r.word), count, few)

pub block_part-requires-clause-within : goal.block_part-requires-clause-within
block_part-requires-clause-within c =
    let block = c.index-blocks-k.result in
    let h = get_or c.args.heads.now c.loop-k.k nothing in
    let f = filled_at c.args.heads.now c.args.blocks.now c.loop-k.k block c.requires.one_each c.loop-k-test.true c.index-blocks-k.is c.requires.filled in
    subst (All (λ w. (h.lo ≤ w) × (w < h.lo + h.words))) (sym c.words.ensures) (All-map (λ w. (h.lo ≤ w) × (w < h.lo + h.words)) (λ r. r.word) block.posts f.words)

pub loop-k-preserved : goal.loop-k-preserved
loop-k-preserved c =
    let hs = c.args.heads.now in
    let bs = c.args.blocks.now in
    let block = c.index-blocks-k.result in
    let pairs = zip hs (map (λ (x : Cols). x.posts) bs) in
    let pair = pair_at hs bs c.loop-k.k nothing block (sym c.requires.one_each) c.loop-k-test.true c.index-blocks-k.is in
    let part = c.in_ok-block_part.ensures in
    parts_more pairs c.loop-k.k (nothing, block.posts) c.in_ok-block_part.field-0 c.loop-k.parts.items c.push.new.self.items pair.inside
    (part_at pair.at c.docs.ensures c.words.ensures part.head part.whole part.first) c.in_ok-push.ensures.items c.loop-k.invariant

pub returns : goal.returns
returns c =
    let hs = c.args.heads.now in
    let posts = map (λ (x : Cols). x.posts) c.args.blocks.now in
    c.loop-k.invariant ∙ ap block_parts (take_all c.loop-k.k (zip hs posts) (omega (arith, pairs_many hs posts, c.loop-k-test.false)))
