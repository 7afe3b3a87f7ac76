-- The documents and the words of a block's rows, read from their columns alone.
--
--   doc_words_all    they are those of all rows, where each is in range
use Rattle.std.proofs.Common.{◌≡◌, ℕ, ◌+◌, ◌*◌, ◌<◌, List, length, get_or, map, take, drop, refl, sym, ap, subst, ◌∙◌, arith}
use Rattle.std.specs.Prelude.{All}
use Rattle.std.specs.Int.{w16, from_be_bytes}
use Rattle.std.specs.List.{range_with_len}
use Rattle.std.proofs.lemmas.List.Elements.{All-map}
use Rattle.std.proofs.lemmas.List.FromFn.{fill_by_all, get_or-range_with_len, length-range_with_len}
use Rattle.std.proofs.lemmas.Simd.{map-map}
use Rattle.cs_base.specs.declared.index.block.BlockHead.{BlockHead}
use Rattle.cs_base.specs.declared.content.doc.Post.{Post}
use Rattle.cs_model_index.specs.BlockRules.{BlockColumns, block_columns, rows_read}
use Rattle.cs_block.specs.DocWords.{HasDocWords, IsListable}
use Rattle.cs_block.specs.RowRuns.{AreWords, HasDocs}
use Rattle.cs_block.specs.Sought.{row_with, rows_with}
use Rattle.cs_block.proofs.KnownRows.{rows_known}

from_none : (k : ℕ) → 0 + k ≡ k
from_none k = omega arith

pub doc_words_all : (head : BlockHead) (docs : ℕ) (bytes : List ℕ) (c : BlockColumns) (ds ws : List ℕ) (next : ℕ) → c ≡ block_columns head bytes
    → length ds ≡ head.rows → length ws ≡ head.rows → HasDocs c.gaps 0 0 docs ds next → AreWords head.lo head.words c.words 0 ws
    → HasDocWords head docs bytes ds ws
doc_words_all head docs bytes c ds ws next is long even has words =
    let n = length ds in
    let row = row_with head c ds in
    let numbers = range_with_len 0 n in
    let all : rows_read head bytes ≡ rows_with head c ds = rows_known head docs bytes c ds next is long has in
    let word_is : (k : ℕ) → k < n → get_or ws k 0 ≡ (row k).word
    = λ k lt. (words k (omega (arith, lt, long, even))).0 ∙ ap (λ (i : ℕ). head.lo + from_be_bytes w16 (take 2 (drop (2 * i) c.words))) (from_none k) in
    let listable : (k : ℕ) → k < n → IsListable head docs (row k)
    = λ k lt.
    (let below = (words k (omega (arith, lt, long, even))).1 in
    let is = word_is k lt in
    record { doc = (has.are k lt).1; from = omega arith; word = omega (arith, below, is) }) in
    let in_range : All (λ k. IsListable head docs (row k)) numbers
    = λ j d lt.
    (let here : get_or numbers j d ≡ j = get_or-range_with_len 0 n j d (omega (arith, lt, length-range_with_len 0 n)) ∙ from_none j in
    subst (λ k. IsListable head docs (row k)) (sym here) (listable j (omega (arith, lt, length-range_with_len 0 n)))) in
    record {
      docs_are = fill_by_all (λ k. (row k).doc) ds n 0 refl (λ k lt. refl) ∙ sym (map-map (λ (p : Post). p.doc) row numbers)
          ∙ ap (map (λ (p : Post). p.doc)) (sym all);
      words_are = fill_by_all (λ k. (row k).word) ws n 0 (even ∙ sym long) word_is ∙ sym (map-map (λ (p : Post). p.word) row numbers)
          ∙ ap (map (λ (p : Post). p.word)) (sym all);
      listable = subst (All (IsListable head docs)) (sym all) (All-map (IsListable head docs) row numbers in_range);
    }
