use Rattle.std.proofs.Common.{arith, ap, ◌∙◌}
use Rattle.cs_file.specs.Parting.{bare}
use Rattle.cs_file.proofs.PostingsLemmas.{bounded_docs, decoded, decoded_few, decoded_within, part_is}
use Rattle.cs_file.proofs.postings.judge_block.Goals as goal

pub block_part-requires-clause-few : goal.block_part-requires-clause-few
block_part-requires-clause-few c =
    let read = decoded c.args.weights c.args.head.now c.args.docs c.args.bytes.now c.in-Ok.ensures.ok.0 c.new-rows.result.posts c.decode.new.into.posts c.words.result.now
    c.new-rows.ensures c.in-Ok.ensures.ok.1 c.in-Ok.ensures.ok.2 c.words.ensures in
    let few = decoded_few c.args.weights c.args.head.now c.args.docs c.args.bytes.now c.decode.new.into.posts c.words.result.now read in
    omega (arith, few, c.requires.rows)

pub block_part-requires-clause-within : goal.block_part-requires-clause-within
block_part-requires-clause-within c =
    let read = decoded c.args.weights c.args.head.now c.args.docs c.args.bytes.now c.in-Ok.ensures.ok.0 c.new-rows.result.posts c.decode.new.into.posts c.words.result.now
    c.new-rows.ensures c.in-Ok.ensures.ok.1 c.in-Ok.ensures.ok.2 c.words.ensures in
    decoded_within c.args.weights c.args.head.now c.args.docs c.args.bytes.now c.decode.new.into.posts c.words.result.now read

pub returns-in-Ok-clause-part : goal.returns-in-Ok-clause-part
returns-in-Ok-clause-part c =
    let read = decoded c.args.weights c.args.head.now c.args.docs c.args.bytes.now c.in-Ok.ensures.ok.0 c.new-rows.result.posts c.decode.new.into.posts c.words.result.now
    c.new-rows.ensures c.in-Ok.ensures.ok.1 c.in-Ok.ensures.ok.2 c.words.ensures in
    part_is c.args.weights c.requires.weights c.args.head.now c.args.docs c.args.bytes.now c.decode.new.into.posts c.words.result.now c.in_ok-part-in-Ok.part (omega arith) c.requires.shaped
    read (c.in_ok-part-in-Ok.ensures.head ∙ bounded_docs c.args.head.now c.decode.new.into.posts c.docs.result.now c.docs.ensures)
    c.in_ok-part-in-Ok.ensures.whole c.in_ok-part-in-Ok.ensures.first

pub returns-in-Ok-clause-bare : goal.returns-in-Ok-clause-bare
returns-in-Ok-clause-bare c = ap bare c.in_ok-part-in-Ok.ensures.head
