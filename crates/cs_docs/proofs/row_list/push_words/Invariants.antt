use Rattle.std.proofs.Common.{◌≡◌, ◌+◌, ◌++◌, map, length}
use Rattle.std.specs.List.{enumerate_from}
use Rattle.std.specs.Vec.Iter.{into_iter_items, into_iter_len}
use Rattle.cs_model.specs.Corpus.{placed}
use Rattle.cs_model.specs.Words.{words}
use Rattle.cs_docs.proofs.row_list.push_words.Given as goal

abbrev pub invariant-loop-word : goal.invariant-loop-word
invariant-loop-word l = record {
  told : l.rows.items ++ map (placed l.doc l.score) (enumerate_from l.at (into_iter_items l.word-iterator)) ≡ l.initial.rows.items ++ map (placed l.doc l.score) (enumerate_from l.pos (words l.column));
  left : into_iter_len l.word-iterator ≡ length (into_iter_items l.word-iterator);
  place : l.at + length (into_iter_items l.word-iterator) ≡ l.pos + length (words l.column);
}
