use Rattle.std.proofs.Common.{◌≡◌, ◌+◌, [], take, get_or, sym, subst, ◌∙◌}
use Rattle.std.proofs.lemmas.List.{get_or_default}
use Rattle.cs_vocab.specs.Ranges.{AreNumbers}
use Rattle.cs_vocab.proofs.WordNumberLemmas.{is_listed, numbers_more}
use Rattle.cs_vocab.proofs.numbered.numbers_of.Goals as goal

pub number_of-requires : goal.number_of-requires
number_of-requires c =
    let i = c.loop-i.i in
    let w = c.index-gathered-i.result in
    let all = c.args.gathered.now in
    is_listed c.args.words.now all i w c.requires c.loop-i-test.true (c.index-gathered-i.is ∙ sym (get_or_default all i [] w c.loop-i-test.true))

pub loop-i-preserved : goal.loop-i-preserved
loop-i-preserved c =
    let i = c.loop-i.i in
    let w = c.index-gathered-i.result in
    let all = c.args.gathered.now in
    let here : w ≡ get_or all i [] = c.index-gathered-i.is ∙ sym (get_or_default all i [] w c.loop-i-test.true) in
    subst (λ ns. AreNumbers c.args.words.now ns (take (i + 1) all)) (sym c.in_ok-push.ensures.items)
    (numbers_more c.args.words.now c.loop-i.numbers.items c.number_of.result all i w c.loop-i-test.true here c.loop-i.invariant c.number_of.ensures)
