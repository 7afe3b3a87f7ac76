use Rattle.std.proofs.Common.{◌≡◌, ◌++◌, map, length}
use Rattle.std.specs.Vec.Iter.{into_iter_items, into_iter_len}
use Rattle.cs_model.specs.Corpus.{placed}
use Rattle.cs_docs.specs.Listing.{listed_facets}
use Rattle.cs_docs.proofs.row_list.push_facets.Given as goal

abbrev pub invariant-loop-word : goal.invariant-loop-word
invariant-loop-word l = record {
  told : l.rows.items ++ map (λ w. placed l.doc l.score (0, w)) (into_iter_items l.word-iterator) ≡ l.initial.rows.items ++ map (λ w. placed l.doc l.score (0, w)) (listed_facets l.column);
  left : into_iter_len l.word-iterator ≡ length (into_iter_items l.word-iterator);
}
