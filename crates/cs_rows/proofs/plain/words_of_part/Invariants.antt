use Rattle.cs_rows.proofs.JoinedWords.{WordsSoFar}
use Rattle.cs_rows.proofs.plain.words_of_part.Given as goal

abbrev pub invariant-loop-chain : goal.invariant-loop-chain
invariant-loop-chain g l = WordsSoFar (g.I.Source.view l.index) l.chain-items l.chain-index l.words
