use Rattle.std.proofs.Common.{◌+◌, ◌<◌, ◌∙◌, length, true, arith, sym}
use Rattle.cs_meet.proofs.Halving.{all_through, at_any}
use Rattle.cs_meet.proofs.skip.pass_over.Goals as goal

pub skip_to-requires-clause-before : goal.skip_to-requires-clause-before
skip_to-requires-clause-before c =
    let a = c.args.posts.now.posts in
    let within : c.args.from < length a = omega arith in
    let yes = at_any a c.args.from c.args.doc c.args.pos c.get.result within c.get.ensures true (sym c.comes_before.ensures ∙ c.if-comes_before.true) in
    all_through a c.args.from c.args.doc c.args.pos c.requires.sorted within yes (c.args.from + 1) (omega arith)
