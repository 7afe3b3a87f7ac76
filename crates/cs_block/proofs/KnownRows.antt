-- The rows of a block whose documents are known.
--
--   rows_known      they are those of its columns, each with its document
use Rattle.std.proofs.Common.{◌≡◌, ℕ, zero, suc, ◌+◌, ◌*◌, ◌≤◌, List, [], ◌∷◌, ◌++◌, length, get_or, map, drop, Option, Some, None, refl, sym, ap, ◌∙◌}
use Rattle.std.proofs.Common.{append_assoc, arith}
use Rattle.std.specs.List.{range_with_len}
use Rattle.std.proofs.lemmas.List.{append-nil}
use Rattle.std.proofs.lemmas.List.FromFn.{map-range_with_len_more}
use Rattle.cs_base.specs.declared.index.block.BlockHead.{BlockHead}
use Rattle.cs_base.specs.declared.content.doc.Post.{Post}
use Rattle.cs_model_index.specs.BlockRules.{BlockColumns, Item, block_columns, block_items, doc_before, item_row, row_at, rows_read}
use Rattle.cs_block.specs.Pass.{items_from}
use Rattle.cs_block.specs.RowRuns.{HasDocs, HaveDocs, doc_after, place_after}
use Rattle.cs_block.specs.Sought.{row_with, rows_with}
use Rattle.cs_block.proofs.ItemsLemmas.{items_end, items_on, items_start, rows_cut}
use Rattle.cs_block.proofs.RunsLemmas.{doc_on}

abbrev first : BlockHead → BlockColumns → List ℕ → ℕ → List Post
first head c ds k = map (row_with head c ds) (range_with_len 0 k)

-- the first k rows; `last` is the row behind which the next one stands
record FirstRows (head : BlockHead) (c : BlockColumns) (ds : List ℕ) (k : ℕ) : Type 0 where
  last : Option Post
  before : doc_after c.gaps 0 0 k ≡ doc_before last
  rows : map item_row (block_items head c) ≡ first head c ds k ++ map item_row (items_from head c k (place_after c.gaps 0 k) last)

first_rows : (head : BlockHead) (docs : ℕ) (c : BlockColumns) (ds : List ℕ) (k : ℕ) → k ≤ length ds → length ds ≤ head.rows → HaveDocs c.gaps 0 0 docs ds
    → FirstRows head c ds k
unfolding place_after doc_after
first_rows head docs c ds zero le within are = record { last = None; before = refl; rows = ap (map item_row) (sym (items_start head c)) }
first_rows head docs c ds (suc j) le within are =
    let h = first_rows head docs c ds j (omega (arith, le)) within are in
    let d = are j (omega (arith, le)) in
    let n = d.0.0 in
    let gap = d.0.1 in
    let at = place_after c.gaps 0 j in
    let next = place_after c.gaps 0 (suc j) in
    let row = row_at head.lo (doc_before h.last + n) (drop (2 * j) c.words) (drop (4 * j) c.positions) (drop j c.scores) in
    let item : Item = record { row = row; last = h.last; index = j; gap_at = at } in
    let rest = items_from head c (j + 1) next (Some row) in
    let split : items_from head c j at h.last ≡ item ∷ rest = items_on head c j at n next h.last row (omega (arith, le, within)) gap refl in
    let doc_is : get_or ds j 0 ≡ row.doc = d.0.2 ∙ ap (λ (x : ℕ). x + n) h.before in
    let is : row ≡ row_with head c ds j = ap (λ (x : ℕ). row_at head.lo x (drop (2 * j) c.words) (drop (4 * j) c.positions) (drop j c.scores)) (sym doc_is) in
    let one : j + 1 ≡ suc j = omega arith in
    let more = map-range_with_len_more (row_with head c ds) 0 j j (omega arith) in
    let from_next : ℕ → List Item = λ i. items_from head c i next (Some row) in
    record {
      last = Some row;
      before = doc_on c.gaps 0 0 j n next gap ∙ ap (λ (x : ℕ). x + n) h.before;
      rows = h.rows ∙ ap (λ (x : List Item). first head c ds j ++ map item_row x) split ∙ sym (append_assoc (first head c ds j) (row ∷ []) (map item_row rest))
          ∙ ap (λ (x : Post). (first head c ds j ++ x ∷ []) ++ map item_row rest) is ∙ ap (λ (xs : List Post). xs ++ map item_row rest) (sym more)
          ∙ ap (λ (i : ℕ). first head c ds i ++ map item_row (from_next i)) one;
    }

pub rows_known : (head : BlockHead) (docs : ℕ) (bytes : List ℕ) (c : BlockColumns) (ds : List ℕ) (next : ℕ) → c ≡ block_columns head bytes
    → length ds ≡ head.rows → HasDocs c.gaps 0 0 docs ds next → rows_read head bytes ≡ rows_with head c ds
rows_known head docs bytes c ds next is long has =
    let n = length ds in
    let h = first_rows head docs c ds n (omega arith) (omega (arith, long)) has.are in
    let ended = items_end head c n (place_after c.gaps 0 n) h.last (omega (arith, long)) in
    let whole = h.rows ∙ ap (λ (x : List Item). first head c ds n ++ map item_row x) ended ∙ append-nil (first head c ds n) in
    sym (rows_cut head bytes c is) ∙ whole
