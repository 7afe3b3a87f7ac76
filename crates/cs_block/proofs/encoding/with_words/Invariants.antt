use Rattle.std.proofs.Common.{◌≡◌, ◌++◌, ◌+◌, ◌*◌, drop}
use Rattle.std.specs.Vec.{vec_len, vec_capacity}
use Rattle.cs_model_index.specs.Blocks.{word_column}
use Rattle.cs_block.specs.BlockSpelling.{HasWords}
use Rattle.cs_block.proofs.PutLemmas.{IsPutting}
use Rattle.cs_block.proofs.encoding.with_words.Given as goal

abbrev pub invariant-loop-word : goal.invariant-loop-word
invariant-loop-word l = record {
  put : IsPutting (l.fn.out.items ++ word_column l.lo l.rows.posts) l.fn.out.items l.out.items (word_column l.lo (drop l.word-index l.rows.posts));
  fit : HasWords l.lo (drop l.word-index l.rows.posts);
  len : vec_len l.out ≡ vec_len l.fn.out + 2 * l.word-index;
  capacity : vec_capacity l.out ≡ vec_capacity l.fn.out;
}
