use Rattle.std.proofs.Common.{sym, ap, subst, ◌∙◌}
use Rattle.cs_model_index.specs.FileRules.{tried}
use Rattle.cs_file.specs.Opening.{Refuses}
use Rattle.cs_file.proofs.VocabularyCuts.{cuts_on, cut_short, cut_over, cut_all}
use Rattle.cs_file.proofs.vocabulary.cut_words.Goals as goal

pub returns-in_default-clause-exact : goal.returns-in_default-clause-exact
returns-in_default-clause-exact c =
    subst (Refuses _) (sym c.no_length.ensures) (ap (tried 5)
    (cut_short c.args.bytes.now c.args.count c.loop.counter c.loop.at c.loop.words.items c.loop-test.true c.in_default.ensures.value c.loop.invariant))

pub loop-preserved : goal.loop-preserved
loop-preserved c =
    cuts_on c.args.bytes.now c.args.count c.loop.counter c.loop.at c.in-Some.end c.loop.words.items c.push_word.new.words.items c.loop-test.true
    c.in-Some.ensures.value c.in-Some.ensures.within.0 c.in-Some.ensures.within.2 c.in_ok-push_word.ensures c.loop.invariant

pub returns-then-at-bytes-clause-exact : goal.returns-then-at-bytes-clause-exact
returns-then-at-bytes-clause-exact c =
    subst (Refuses _) (sym c.no_length-then-at-bytes.ensures)
    (ap (tried 5) (cut_over c.args.bytes.now c.args.count c.loop.counter c.loop.at c.loop.words.items c.loop-test.false c.if-at-bytes.true
    c.loop.invariant))

pub returns-clause-exact : goal.returns-clause-exact
returns-clause-exact c = ap (tried 5) (cut_all c.args.bytes.now c.args.count c.loop.counter c.loop.at c.loop.words.items c.loop-test.false
    c.if-at-bytes.false c.loop.invariant).0

pub returns-clause-words : goal.returns-clause-words
returns-clause-words c = c.from_vec.ensures ∙ (cut_all c.args.bytes.now c.args.count c.loop.counter c.loop.at c.loop.words.items c.loop-test.false
    c.if-at-bytes.false c.loop.invariant).1
