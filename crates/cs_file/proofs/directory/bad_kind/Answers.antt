use Rattle.cs_model_index.specs.FileRules.{is_of_one_kind}
use Rattle.cs_file.proofs.FetchLemmas.{nothing}
use Rattle.cs_file.proofs.LaidLemmas.{even_start, even_on, even_broken, even_end}
use Rattle.cs_file.proofs.directory.bad_kind.Goals as goal

pub loop-i-init : goal.loop-i-init
loop-i-init c = even_start (λ i. is_of_one_kind c.args.words.now i.value) c.args.entries.size c.args.entries.first c.args.heads.now

pub returns-then-not-is_of_one_kind : goal.returns-then-not-is_of_one_kind
returns-then-not-is_of_one_kind c = even_broken (λ i. is_of_one_kind c.args.words.now i.value) c.args.entries.size c.args.entries.first c.args.heads.now c.loop-i.i
    c.place.result nothing c.is_of_one_kind.result c.loop-i-test.true c.place.ensures c.is_of_one_kind.ensures c.if-not-is_of_one_kind.true c.loop-i.invariant

pub loop-i-preserved : goal.loop-i-preserved
loop-i-preserved c = even_on (λ i. is_of_one_kind c.args.words.now i.value) c.args.entries.size c.args.entries.first c.args.heads.now c.loop-i.i nothing
    c.is_of_one_kind.result c.loop-i-test.true c.is_of_one_kind.ensures c.if-not-is_of_one_kind.false c.loop-i.invariant

pub returns : goal.returns
returns c = even_end (λ i. is_of_one_kind c.args.words.now i.value) c.args.entries.size c.args.entries.first c.args.heads.now c.loop-i.i c.loop-i-test.false c.loop-i.invariant
