use Rattle.std.proofs.Common.{◌-◌, ◌∙◌, arith, append_assoc}
use Rattle.std.specs.Prelude.{slice_index_or}
use Rattle.std.specs.Int.{w16, to_be_bytes}
use Rattle.cs_block.proofs.PutLemmas.{puts_on, put_all, word_piece, words_end, rows_gone}
use Rattle.cs_block.proofs.encoding.with_words.Goals as goal

pub overflow_sub-word : goal.overflow_sub-word
overflow_sub-word c = (word_piece c.args.lo _ _ _ c.words-word-items.ensures c.loop-word-test.true c.loop-word.invariant.fit).1

pub overflow_cast-word : goal.overflow_cast-word
overflow_cast-word c =
    let s = word_piece c.args.lo _ _ _ c.words-word-items.ensures c.loop-word-test.true c.loop-word.invariant.fit in
    omega (arith, s.1, s.2)

pub loop-word-preserved : goal.loop-word-preserved
loop-word-preserved c =
    let s = word_piece c.args.lo _ _ _ c.words-word-items.ensures c.loop-word-test.true c.loop-word.invariant.fit in
    record {
      put = rw (c.push_reserved-in-loop-word.ensures.items, c.push_reserved.ensures.items, c.to_be_bytes.ensures, append_assoc)
          (puts_on _ _ _ (to_be_bytes w16 (slice_index_or c.words-word-items.result.now c.loop-word.word-index 0 - c.args.lo)) _ _ s.0 c.loop-word.invariant.put);
      fit = s.3;
      len = omega (arith, c.push_reserved-in-loop-word.ensures.len, c.push_reserved.ensures.len, c.loop-word.invariant.len);
      capacity = c.push_reserved-in-loop-word.ensures.capacity ∙ c.push_reserved.ensures.capacity ∙ c.loop-word.invariant.capacity;
    }

pub returns-clause-items : goal.returns-clause-items
returns-clause-items c = put_all _ _ _ _ (words_end c.args.lo _ (rows_gone _ _ _ _ c.words-word-items.ensures (omega arith))) c.loop-word.invariant.put
