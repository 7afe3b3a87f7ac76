use Rattle.std.proofs.Common.{slice_index_or, sym, ap, ◌∙◌}
use Rattle.cs_file.specs.Parting.{keeps_part, no_part}
use Rattle.cs_file.proofs.LaidLemmas.{even_start, even_on, even_broken, even_end}
use Rattle.cs_file.proofs.BlockParts.{next_is}
use Rattle.cs_file.proofs.parts.bad_part.Goals as goal

pub loop-i-init : goal.loop-i-init
loop-i-init c = even_start (λ i. keeps_part c.args.target c.args.words.now i.value i.next) c.args.entries.size c.args.entries.first c.args.parts.now

pub returns-then-not-keeps_part : goal.returns-then-not-keeps_part
returns-then-not-keeps_part c =
    let ps = c.args.parts.now in
    let x = slice_index_or ps c.loop-i.i no_part in
    even_broken (λ i. keeps_part c.args.target c.args.words.now i.value i.next) c.args.entries.size c.args.entries.first ps c.loop-i.i c.place.result no_part
    c.keeps_part.result c.loop-i-test.true c.place.ensures
    (c.keeps_part.ensures ∙ ap (keeps_part c.args.target c.args.words.now x) (sym (next_is ps c.loop-i.i))) c.if-not-keeps_part.true c.loop-i.invariant

pub loop-i-preserved : goal.loop-i-preserved
loop-i-preserved c =
    let ps = c.args.parts.now in
    let x = slice_index_or ps c.loop-i.i no_part in
    even_on (λ i. keeps_part c.args.target c.args.words.now i.value i.next) c.args.entries.size c.args.entries.first ps c.loop-i.i no_part
    c.keeps_part.result c.loop-i-test.true
    (c.keeps_part.ensures ∙ ap (keeps_part c.args.target c.args.words.now x) (sym (next_is ps c.loop-i.i))) c.if-not-keeps_part.false c.loop-i.invariant

pub returns : goal.returns
returns c = even_end (λ i. keeps_part c.args.target c.args.words.now i.value i.next) c.args.entries.size c.args.entries.first c.args.parts.now c.loop-i.i
    c.loop-i-test.false c.loop-i.invariant
