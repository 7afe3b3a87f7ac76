use Rattle.std.proofs.Common.{arith}
use Rattle.cs_file.proofs.DirectoryLemmas.{entry_long, head_here}
use Rattle.cs_file.proofs.directory.head_at.Goals as goal

pub number_at-lo-requires : goal.number_at-lo-requires
number_at-lo-requires c = let long = entry_long c.args.two in let within = c.requires in omega (arith, long, within)

pub number_at-requires : goal.number_at-requires
number_at-requires c = let long = entry_long c.args.two in let within = c.requires in omega (arith, long, within)

pub number_at-requires-2 : goal.number_at-requires-2
number_at-requires-2 c = let long = entry_long c.args.two in let within = c.requires in omega (arith, long, within)

pub number_at-requires-3 : goal.number_at-requires-3
number_at-requires-3 c = let long = entry_long c.args.two in let within = c.requires in omega (arith, long, within)

pub returns : goal.returns
returns c = head_here c.args.two c.args.words.now c.args.bytes.now c.args.at c.number_at-lo.result c.number_at.result c.number_at-2.result c.number_at-3.result
    c.has_facet.result c.bounds_at-least.result.0 c.bounds_at-least.result.1 c.number_at-lo.ensures c.number_at.ensures c.number_at-2.ensures c.number_at-3.ensures
    c.has_facet.ensures c.bounds_at-least.ensures.least c.bounds_at-least.ensures.greatest
