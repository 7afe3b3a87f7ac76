use Rattle.cs_file.proofs.VocabularyCuts.{HasCut}
use Rattle.cs_file.proofs.vocabulary.cut_words.Given as goal

abbrev pub invariant-loop : goal.invariant-loop
invariant-loop l = HasCut l.bytes l.count l.counter l.at l.words.items
