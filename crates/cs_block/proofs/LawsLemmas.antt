-- Where no rule is broken the bytes are the block of rows that meet the rules, and such a block breaks no rule.
--
--   holds_on, unbroken   a rule that no item breaks is kept by the rows, and the other way
--   accepted, unique     the laws of whole blocks
--   have_bytes             weights of a collection have a byte each
--   accepted_are_blocks    the same, as it is said of the crate
use Rattle.std.proofs.Common.{◌≡◌, ℕ, zero, suc, ◌+◌, ◌-◌, ◌*◌, ◌^◌, ◌<◌, true, List, [], ◌∷◌, ◌++◌, length, map, take, drop, Option, Some, None, refl, sym}
use Rattle.std.proofs.Common.{ap, subst, ◌∙◌, arith, inl, inr}
use Rattle.std.specs.Prelude.{◌↔◌, All}
use Rattle.std.specs.Int.{w16, w32, to_be_bytes}
use Rattle.std.proofs.lemmas.Bool.{and_parts, and_from, cases_lt}
use Rattle.std.proofs.lemmas.List.{drop_at, take_at, take-append-drop, length-append, length-take, length-drop, get_or_past}
use Rattle.std.proofs.lemmas.List.Elements.{All-get_or}
use Rattle.cs_base.specs.declared.index.block.BlockHead.{BlockHead}
use Rattle.cs_base.specs.declared.index.block.Broken.{Broken}
use Rattle.cs_base.specs.declared.content.doc.Post.{Post}
use Rattle.cs_base.specs.declared.content.scores.Weights.{Weights}
use Rattle.cs_gaps.proofs.CodesLemmas.{IsBytes}
use Rattle.cs_model.specs.Weights.{AreWeights}
use Rattle.cs_model_index.specs.Blocks.{gap_column, word_column, position_column, score_column, block_bytes, IsShaped}
use Rattle.cs_model_index.specs.BlockRules.{gap_number, gap_len, codes_break, item_row, doc_before, row_at, items_in, gap_bytes, Item, Rule, rules}
use Rattle.cs_model_index.specs.BlockRules.{first_break, first_broken, BlockColumns, block_columns, columns_behind, block_items, judged_columns, judged}
use Rattle.cs_model_index.specs.BlockRules.{rows_read, keeps, MeetAll, IsBlock}
use Rattle.cs_gaps.proofs.CodesLemmas.{IsBytes-drop}
use Rattle.cs_block.proofs.ColumnsLemmas.{IsBytes-take, guard_none, AreSized, reads, again}
use Rattle.cs_block.proofs.ItemsLemmas.{break_cons, or_broken, in_front}
use Rattle.cs_block.proofs.RowsLemmas.{HaveBytes, writable_from, spelling_from}

-- ---- a rule over items is a rule over rows

holds_on : (rule : Rule) (k lo : ℕ) (last : Option Post) (index at : ℕ) (gaps words positions scores : List ℕ)
    → first_break rule (items_in lo k last index at gaps words positions scores) ≡ None
    → keeps rule.holds last (map item_row (items_in lo k last index at gaps words positions scores)) ≡ true
unfolding items_in keeps
holds_on rule zero lo last index at gaps words positions scores e = refl
holds_on rule (suc k) lo last index at gaps words positions scores e =
    let row = row_at lo (doc_before last + gap_number gaps) words positions scores in
    let len = gap_len gaps in
    let items = items_in lo k (Some row) (index + 1) (at + len) (drop len gaps) (drop 2 words) (drop 4 positions) (drop 1 scores) in
    let item : Item = record { row = row; last = last; index = index; gap_at = at } in
    let p = guard_none (rule.holds last row) (first_break rule items) (rule.at item) (sym (break_cons rule item items) ∙ e) in
    and_from (rule.holds last row) (keeps rule.holds (Some row) (map item_row items)) p.0
    (holds_on rule k lo (Some row) (index + 1) (at + len) (drop len gaps) (drop 2 words) (drop 4 positions) (drop 1 scores) p.1)

unbroken : (rule : Rule) (k lo : ℕ) (last : Option Post) (index at : ℕ) (gaps words positions scores : List ℕ)
    → keeps rule.holds last (map item_row (items_in lo k last index at gaps words positions scores)) ≡ true
    → first_break rule (items_in lo k last index at gaps words positions scores) ≡ None
unfolding items_in first_break keeps
unbroken rule zero lo last index at gaps words positions scores e = refl
unbroken rule (suc k) lo last index at gaps words positions scores e =
    let row = row_at lo (doc_before last + gap_number gaps) words positions scores in
    let len = gap_len gaps in
    let items = items_in lo k (Some row) (index + 1) (at + len) (drop len gaps) (drop 2 words) (drop 4 positions) (drop 1 scores) in
    let p = and_parts (rule.holds last row) (keeps rule.holds (Some row) (map item_row items)) e in
    break_cons rule (record { row = row; last = last; index = index; gap_at = at }) items
    ∙ rw (p.0) (unbroken rule k lo (Some row) (index + 1) (at + len) (drop len gaps) (drop 2 words) (drop 4 positions) (drop 1 scores) p.1)

pub none_of : (n : ℕ) (o : Option ℕ) (other : Option Broken) → or_broken n o other ≡ None → (o ≡ None) × (other ≡ None)
none_of n None other e = (refl, e)
none_of n (Some at) other e = absurd cc

none_from : (n : ℕ) (o : Option ℕ) (other : Option Broken) → o ≡ None → other ≡ None → or_broken n o other ≡ None
none_from n o other p q = rw (p, q) refl

all_met : (rs : List Rule) (head : BlockHead) (c : BlockColumns) → first_broken rs (block_items head c) ≡ None → MeetAll rs (map item_row (block_items head c))
all_met [] head c e = tt
all_met (rule ∷ rest) head c e =
    let items = block_items head c in
    let p = none_of rule.number (first_break rule items) (first_broken rest items) (sym (in_front rule rest items) ∙ e) in
    (holds_on rule head.rows head.lo None 0 0 c.gaps c.words c.positions c.scores p.0, all_met rest head c p.1)

none_broken : (rs : List Rule) (head : BlockHead) (c : BlockColumns) → MeetAll rs (map item_row (block_items head c))
    → first_broken rs (block_items head c) ≡ None
none_broken [] head c m = refl
none_broken (rule ∷ rest) head c m = in_front rule rest (block_items head c)
    ∙ none_from rule.number _ _ (unbroken rule head.rows head.lo None 0 0 c.gaps c.words c.positions c.scores m.0) (none_broken rest head c m.1)

-- ---- the whole block

pub sized : (head : BlockHead) (bytes : List ℕ) → IsBytes bytes → IsShaped head (length bytes)
    → let c = block_columns head bytes in AreSized head.rows c.gaps c.words c.positions c.scores
sized head bytes fits shaped =
    let g = gap_bytes head in
    let rest = drop g bytes in
    let size = shaped.size_is in
    let least = shaped.least in
    let a = length-drop g bytes in
    let b = length-drop (2 * head.rows) rest in
    let c = length-drop (4 * head.rows) (drop (2 * head.rows) rest) in
    let d = length-take (2 * head.rows) rest in
    let e = length-take (4 * head.rows) (drop (2 * head.rows) rest) in
    record {
      words_len = omega arith;
      positions_len = omega arith;
      scores_len = omega arith;
      words_fit = IsBytes-take (2 * head.rows) rest (IsBytes-drop g bytes fits);
      positions_fit = IsBytes-take (4 * head.rows) (drop (2 * head.rows) rest) (IsBytes-drop (2 * head.rows) rest (IsBytes-drop g bytes fits));
      scores_fit = IsBytes-drop (4 * head.rows) (drop (2 * head.rows) rest) (IsBytes-drop (2 * head.rows) rest (IsBytes-drop g bytes fits));
    }

joined : (head : BlockHead) (bytes : List ℕ) → let c = block_columns head bytes in bytes ≡ c.gaps ++ (c.words ++ (c.positions ++ c.scores))
joined head bytes =
    let g = gap_bytes head in
    let rest = drop g bytes in
    let rest2 = drop (2 * head.rows) rest in
    sym (take-append-drop g bytes)
    ∙ ap (λ (x : List ℕ). take g bytes ++ x) (sym (take-append-drop (2 * head.rows) rest)
    ∙ ap (λ (x : List ℕ). take (2 * head.rows) rest ++ x) (sym (take-append-drop (4 * head.rows) rest2)))

four : (a b c d p q r s : List ℕ) → a ≡ p → b ≡ q → c ≡ r → d ≡ s → a ++ (b ++ (c ++ d)) ≡ p ++ (q ++ (r ++ s))
four a b c d p q r s e f g h = rw (e, f, g, h) refl

pub accepted : (w : Weights) (head : BlockHead) (docs : ℕ) (bytes : List ℕ) → IsBytes bytes → IsShaped head (length bytes) → judged w head docs bytes ≡ None
    → IsBlock w head docs (rows_read head bytes) bytes
unfolding judged rows_read block_bytes
accepted w head docs bytes fits shaped e =
    let c = block_columns head bytes in
    let p = none_of 13 (codes_break head.rows 0 c.gaps) (first_broken (rules w head docs) (block_items head c)) e in
    let back = reads head.rows head.lo None 0 0 c.gaps c.words c.positions c.scores (sized head bytes fits shaped) p.0 in
    let met = all_met (rules w head docs) head c p.1 in
    record {
      count = back.count;
      written = joined head bytes ∙ four _ _ _ _ _ _ _ _ back.gaps_are back.words_are back.positions_are back.scores_are;
      writable = writable_from head.lo 0 _ back.fits met.1.1.1.0;
      meets = met;
    }

-- ---- and back

word_len : (lo : ℕ) (rs : List Post) → length (word_column lo rs) ≡ 2 * length rs
unfolding word_column
word_len lo [] = refl
word_len lo (r ∷ rs) = omega (arith, length-append (to_be_bytes w16 (r.word - lo)) (word_column lo rs), word_len lo rs)

position_len : (rs : List Post) → length (position_column rs) ≡ 4 * length rs
unfolding position_column
position_len [] = refl
position_len (r ∷ rs) = omega (arith, length-append (to_be_bytes w32 r.pos) (position_column rs), position_len rs)

score_len : (rs : List Post) → length (score_column rs) ≡ length rs
unfolding score_column
score_len [] = refl
score_len (r ∷ rs) = ap suc (score_len rs)

abbrev spelled_columns : ℕ → List Post → BlockColumns
spelled_columns lo rs = record { gaps = gap_column 0 rs; words = word_column lo rs; positions = position_column rs; scores = score_column rs }

cut_behind : (head : BlockHead) (gaps words positions scores : List ℕ) → length words ≡ 2 * head.rows → length positions ≡ 4 * head.rows
    → columns_behind head gaps (words ++ (positions ++ scores)) ≡ record { gaps = gaps; words = words; positions = positions; scores = scores }
cut_behind head gaps words positions scores w p =
    rw (
      take_at words (positions ++ scores) (2 * head.rows) w,
      drop_at words (positions ++ scores) (2 * head.rows) w,
      take_at positions scores (4 * head.rows) p,
      drop_at positions scores (4 * head.rows) p,
    ) refl

columns_of : (w : Weights) (head : BlockHead) (docs : ℕ) (rs : List Post) (bytes : List ℕ) → IsShaped head (length bytes) → IsBlock w head docs rs bytes
    → block_columns head bytes ≡ spelled_columns head.lo rs
unfolding block_bytes
columns_of w head docs rs bytes shaped b =
    let behind = word_column head.lo rs ++ (position_column rs ++ score_column rs) in
    let spelled : bytes ≡ gap_column 0 rs ++ behind = b.written in
    let count = b.count in
    let size = shaped.size_is in
    let wl = word_len head.lo rs in
    let pl = position_len rs in
    let sl = score_len rs in
    let total = ap length spelled in
    let gaps_len : length (gap_column 0 rs) ≡ gap_bytes head =
    omega (
      arith,
      length-append (gap_column 0 rs) behind,
      length-append (word_column head.lo rs) (position_column rs ++ score_column rs),
      length-append (position_column rs) (score_column rs),
    ) in
    ap (block_columns head) spelled
    ∙ rw (take_at (gap_column 0 rs) behind (gap_bytes head) gaps_len, drop_at (gap_column 0 rs) behind (gap_bytes head) gaps_len)
    (cut_behind head (gap_column 0 rs) (word_column head.lo rs) (position_column rs) (score_column rs) (omega arith) (omega arith))

pub unique : (w : Weights) → HaveBytes w → (head : BlockHead) (docs : ℕ) (rs : List Post) (bytes : List ℕ) → docs < 2 ^ 32 → IsShaped head (length bytes)
    → IsBlock w head docs rs bytes → (judged w head docs bytes ≡ None) × (rows_read head bytes ≡ rs)
unfolding judged rows_read
unique w fits head docs rs bytes few shaped b =
    let s = spelled_columns head.lo rs in
    let a = again head.lo None 0 0 rs (spelling_from w head docs rs fits few b.writable.words b.meets.0 b.meets.1.1.0 b.meets.1.1.1.0) in
    let cols = columns_of w head docs rs bytes shaped b in
    let no_gap : codes_break head.rows 0 s.gaps ≡ None = ap (λ (n : ℕ). codes_break n 0 s.gaps) (sym b.count) ∙ a.0 in
    let same : map item_row (block_items head s) ≡ rs =
    ap (λ (n : ℕ). map item_row (items_in head.lo n None 0 0 s.gaps s.words s.positions s.scores)) (sym b.count) ∙ a.1 in
    let met : MeetAll (rules w head docs) (map item_row (block_items head s)) = subst (MeetAll (rules w head docs)) (sym same) b.meets in (
      ap (judged_columns w head docs) cols ∙ none_from 13 _ _ no_gap (none_broken (rules w head docs) head s met),
      ap (λ (c : BlockColumns). map item_row (block_items head c)) cols ∙ same,
    )

-- ---- the law

bytes_by : (bytes : List ℕ) → All (λ b. b < 256) bytes → IsBytes bytes
bytes_by bytes h i =
    elim (cases_lt i (length bytes)) [
      | inl lt ↦ All-get_or (λ b. b < 256) bytes i 0 lt h
      | inr le ↦ rw (get_or_past bytes i 0 le) (omega arith)
    ]

pub have_bytes : (w : Weights) → AreWeights w → HaveBytes w
have_bytes w are =
    let title = are.title_to in
    let facet = are.facet_to in
    let text = are.text_to in
    record { title = omega arith; facet = omega arith; text = omega arith }

pub accepted_are_blocks : (w : Weights) → HaveBytes w → (head : BlockHead) (docs : ℕ) (bytes : List ℕ) → docs < 2 ^ 32 → All (λ b. b < 256) bytes → IsShaped head (length bytes)
    → (judged w head docs bytes ≡ None) ↔ ((rs : List Post) × IsBlock w head docs rs bytes)
accepted_are_blocks w fits head docs bytes few small shaped = (
  λ e. (rows_read head bytes, accepted w head docs bytes (bytes_by bytes small) shaped e),
  λ b. (unique w fits head docs b.0 bytes few shaped b.1).0,
)
