use Rattle.std.proofs.Common.{refl, sym, ap, arith, ◌∙◌, length, get_or, [], ◌∷◌}
use Rattle.cs_base.proofs.GrewLemmas.{on_err}
use Rattle.cs_model_index.specs.Layout.{vocabulary_bytes}
use Rattle.cs_file.proofs.SinkPuts.{item_put, item_fails, items_put}
use Rattle.cs_file.proofs.writing.put_vocabulary.Goals as goal

pub loop-n-preserved : goal.loop-n-preserved
loop-n-preserved g c =
    record {
      told = item_put _ _ (λ w. length w ∷ w) c.args.words.now c.loop-n.n [] _ _ _ _ _ c.word.ensures.0
          (ap (λ n. n ∷ c.word.result.now) c.word_len.ensures ∙ ap (λ w. length (get_or c.args.words.now c.loop-n.n []) ∷ w) (sym c.word.ensures.1))
          c.loop-n.invariant.told c.in_ok-put_word.ensures.ok;
      quiet = c.in_ok-put_word.ensures.caused.quiet refl ∙ c.loop-n.invariant.quiet;
      lent = c.in_ok-put_word.ensures.lent ∙ c.loop-n.invariant.lent;
    }

pub returns-in_err-put_word-clause-err : goal.returns-in_err-put_word-clause-err
unfolding vocabulary_bytes
returns-in_err-put_word-clause-err g c =
    on_err c.from_residual.result _ (item_fails _ _ (λ w. length w ∷ w) c.args.words.now c.loop-n.n [] _ _ _ _ c.word.ensures.0
    (ap (λ n. n ∷ c.word.result.now) c.word_len.ensures ∙ ap (λ w. length (get_or c.args.words.now c.loop-n.n []) ∷ w) (sym c.word.ensures.1))
    c.loop-n.invariant.told c.in_err-put_word.ensures.err)

pub returns-clause-ok : goal.returns-clause-ok
unfolding vocabulary_bytes
returns-clause-ok g c = items_put _ _ (λ w. length w ∷ w) c.args.words.now c.loop-n.n [] _ _ (omega (arith, c.loop-n-test.false, c.len-n-end.ensures.value))
    c.loop-n.invariant.told
