use Rattle.std.proofs.Common.{◌∙◌, ap₂, sym}
use Rattle.std.specs.Ordering.{nat_cmp}
use Rattle.std.specs.Cmp.Lexicographic.{slice_cmp}
use Rattle.cs_merge.proofs.MergedWordLemmas.{turned}
use Rattle.cs_merge.proofs.vocabulary.turn_at.Goals as goal

pub returns : goal.returns
returns c =
    let a = c.args.a.now in
    let b = c.args.b.now in
    turned a b c.args.i c.args.j c.word.ensures.0 c.word-2.ensures.0 c.cmp.result (c.cmp.ensures ∙ ap₂ (slice_cmp nat_cmp) (sym c.word.ensures.1) (sym c.word-2.ensures.1))
