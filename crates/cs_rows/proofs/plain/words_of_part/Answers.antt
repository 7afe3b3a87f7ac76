use Rattle.std.proofs.Common.{arith}
use Rattle.cs_rows.proofs.JoinedWords.{sharp_end, words_begin, words_end, words_go_on}
use Rattle.cs_rows.proofs.plain.words_of_part.Goals as goal

pub loop-chain-init : goal.loop-chain-init
loop-chain-init g c = words_begin (g.I.Source.view c.args.index.now) c.requires.index c.as_slice-chain-items.result.now

pub loop-chain-preserved : goal.loop-chain-preserved
loop-chain-preserved g c =
    words_go_on (g.I.Source.view c.args.index.now) c.requires.index c.as_slice-chain-items.result.now c.loop-chain.chain-index c.chain-item.result
    c.loop-chain-test.true c.chain-item.is c.loop-chain.words c.in_ok-more.more c.in_ok-words.words c.loop-chain.invariant
    c.in_ok-more.ensures.words c.in_ok-more.ensures.sharp c.in_ok-words.ensures

pub returns-clause-words : goal.returns-clause-words
returns-clause-words g c =
    words_end (g.I.Source.view c.args.index.now) c.requires.index c.as_slice-chain-items.result.now c.args.part.now c.as_slice-chain-items.ensures
    c.loop-chain.chain-index (omega (arith, c.loop-chain-test.false)) c.loop-chain.words c.loop-chain.invariant

pub returns-clause-sharp : goal.returns-clause-sharp
returns-clause-sharp g c =
    sharp_end (g.I.Source.view c.args.index.now) c.requires.index c.as_slice-chain-items.result.now c.args.part.now c.as_slice-chain-items.ensures
    c.loop-chain.chain-index (omega (arith, c.loop-chain-test.false)) c.loop-chain.words c.loop-chain.invariant
