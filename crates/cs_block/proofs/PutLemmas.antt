-- The steps of writing a column.
--
--   IsPutting              what stands there and what is still to be put make all that is to stand there
--   gap_piece and so on    the next row's piece of a column
--   block_put              the four columns make the block
use Rattle.std.proofs.Common.{◌≡◌, ℕ, ◌+◌, ◌-◌, ◌^◌, ◌<◌, ◌≤◌, List, [], ◌∷◌, ◌++◌, length, map, take, drop, sym, ap, subst, ◌∙◌, append_assoc, arith}
use Rattle.std.specs.Prelude.{slice_index_or}
use Rattle.std.specs.Int.{w16, w32, to_be_bytes}
use Rattle.std.proofs.lemmas.List.{append-nil, take-append-le, length-take, take-take, drop_all, drop_more, get_or-map, length-map}
use Rattle.cs_base.specs.index.GapCode.{code}
use Rattle.cs_gaps.proofs.PassLemmas.{short_code}
use Rattle.cs_base.specs.declared.content.doc.Post.{Post}
use Rattle.cs_model_index.specs.Blocks.{gap_column, word_column, position_column, score_column, block_bytes}
use Rattle.cs_block.specs.BlockSpelling.{HasWords, IsAscending}

-- all that is to stand there is what stands there and a rest; and what stood there first still does
pub record IsPutting (all first now rest : List ℕ) : Type 0 where
  pub told : all ≡ now ++ rest
  pub kept : take (length first) now ≡ first

pub puts_on : (all first now piece rest left : List ℕ) → rest ≡ piece ++ left → IsPutting all first now rest → IsPutting all first (now ++ piece) left
puts_on all first now piece rest left e h =
    let len : length first ≤ length now = omega (arith, ap length h.kept, length-take (length first) now) in
    record {
      told = h.told ∙ ap (λ (x : List ℕ). now ++ x) e ∙ sym (append_assoc now piece left);
      kept = take-append-le (length first) now piece len ∙ h.kept;
    }

pub put_all : (all first now rest : List ℕ) → rest ≡ [] → IsPutting all first now rest → now ≡ all
put_all all first now rest e h = sym (h.told ∙ ap (λ (x : List ℕ). now ++ x) e ∙ append-nil now)

-- ---- each column's next piece

-- the row at a place, whose number in a column is x
record IsRowAt (number : Post → ℕ) (rs : List Post) (i x : ℕ) : Type 0 where
  row : Post
  split : drop i rs ≡ row ∷ drop (i + 1) rs
  is : number row ≡ x

no_row : Post
no_row = record { doc = 0; word = 0; pos = 0; score = 0 }

row_in_column : (number : Post → ℕ) (rs : List Post) (column : List ℕ) (i : ℕ) → column ≡ map number rs → i < length column → IsRowAt number rs i (slice_index_or column i 0)
row_in_column number rs column i e lt =
    let len : length column ≡ length rs = ap length e ∙ length-map rs number in
    let within : i < length rs = omega (arith, len, lt) in
    record {
      row = slice_index_or rs i no_row;
      split = drop_more rs i no_row within;
      is = sym (get_or-map number rs i no_row 0 within) ∙ ap (λ (c : List ℕ). slice_index_or c i 0) (sym e);
    }

gaps_split : (before : ℕ) (r : Post) (here left : List Post) → here ≡ r ∷ left → IsAscending before here
    → (gap_column before here ≡ code (r.doc - before) ++ gap_column r.doc left) × (before ≤ r.doc) × IsAscending r.doc left
unfolding gap_column IsAscending
gaps_split before r here left e h =
    let p : (before ≤ r.doc) × IsAscending r.doc left = subst (IsAscending before) e h in
    (ap (gap_column before) e, p.0, p.1)

words_split : (lo : ℕ) (r : Post) (here left : List Post) → here ≡ r ∷ left → HasWords lo here
    → (word_column lo here ≡ to_be_bytes w16 (r.word - lo) ++ word_column lo left) × (lo ≤ r.word) × (r.word < lo + 2 ^ 16) × HasWords lo left
unfolding word_column HasWords
words_split lo r here left e h =
    let p : (lo ≤ r.word) × (r.word < lo + 2 ^ 16) × HasWords lo left = subst (HasWords lo) e h in
    (ap (word_column lo) e, p.0, p.1, p.2)

pub gaps_end : (before : ℕ) (here : List Post) → here ≡ [] → gap_column before here ≡ []
unfolding gap_column
gaps_end before here e = ap (gap_column before) e

pub words_end : (lo : ℕ) (here : List Post) → here ≡ [] → word_column lo here ≡ []
unfolding word_column
words_end lo here e = ap (word_column lo) e

positions_split : (r : Post) (here left : List Post) → here ≡ r ∷ left → position_column here ≡ to_be_bytes w32 r.pos ++ position_column left
unfolding position_column
positions_split r here left e = ap position_column e

pub positions_end : (here : List Post) → here ≡ [] → position_column here ≡ []
unfolding position_column
positions_end here e = ap position_column e

-- the same by the number that stands in the rows' own column

pub gap_piece : (before : ℕ) (rs : List Post) (column : List ℕ) (i : ℕ) → column ≡ map (λ r. r.doc) rs → i < length column → IsAscending before (drop i rs)
    → (gap_column before (drop i rs) ≡ code (slice_index_or column i 0 - before) ++ gap_column (slice_index_or column i 0) (drop (i + 1) rs))
    × (before ≤ slice_index_or column i 0) × IsAscending (slice_index_or column i 0) (drop (i + 1) rs)
gap_piece before rs column i e lt h =
    let r = row_in_column (λ r. r.doc) rs column i e lt in
    subst (λ (x : ℕ). (gap_column before (drop i rs) ≡ code (x - before) ++ gap_column x (drop (i + 1) rs)) × (before ≤ x) × IsAscending x (drop (i + 1) rs)) r.is
    (gaps_split before r.row (drop i rs) (drop (i + 1) rs) r.split h)

-- four pieces at a time, where these are the documents of the next four rows
pub record HasFourGaps (before : ℕ) (rs : List Post) (i a b c d : ℕ) : Type 0 where
  pub put : gap_column before (drop i rs) ≡ (code (a - before) ++ (code (b - a) ++ (code (c - b) ++ code (d - c)))) ++ gap_column d (drop (i + 4) rs)
  pub sorted : (before ≤ a) × (a ≤ b) × (b ≤ c) × (c ≤ d)
  pub up : IsAscending d (drop (i + 4) rs)

pub four_gaps : (before : ℕ) (rs : List Post) (column : List ℕ) (i : ℕ) → column ≡ map (λ r. r.doc) rs → i + 3 < length column → IsAscending before (drop i rs)
    → HasFourGaps before rs i (slice_index_or column i 0) (slice_index_or column (i + 1) 0) (slice_index_or column (i + 2) 0) (slice_index_or column (i + 3) 0)
four_gaps before rs column i e lt h =
    let two : i + 1 + 1 ≡ i + 2 = omega arith in
    let three : i + 2 + 1 ≡ i + 3 = omega arith in
    let four : i + 3 + 1 ≡ i + 4 = omega arith in
    let p = gap_piece before rs column i e (omega arith) h in
    let q = rw two at (gap_piece (slice_index_or column i 0) rs column (i + 1) e (omega arith) p.2) in
    let s = rw three at (gap_piece (slice_index_or column (i + 1) 0) rs column (i + 2) e (omega arith) q.2) in
    let t = rw four at (gap_piece (slice_index_or column (i + 2) 0) rs column (i + 3) e (omega arith) s.2) in
    record {
      put = rw (p.0, q.0, s.0, t.0) (simp append_assoc);
      sorted = (p.1, q.1, s.1, t.1);
      up = t.2;
    }

-- four codes of one byte, byte by byte
pub four_short : (first a b c d : List ℕ) (p q r s : ℕ) → (p < 128) × (q < 128) × (r < 128) × (s < 128) → a ≡ first ++ p ∷ [] → b ≡ a ++ q ∷ [] → c ≡ b ++ r ∷ [] → d ≡ c ++ s ∷ []
    → d ≡ first ++ (code p ++ (code q ++ (code r ++ code s)))
four_short first a b c d p q r s lt e f g h = rw (h, g, f, e, short_code p lt.0, short_code q lt.1, short_code r lt.2, short_code s lt.3) (simp append_assoc)

pub word_piece : (lo : ℕ) (rs : List Post) (column : List ℕ) (i : ℕ) → column ≡ map (λ r. r.word) rs → i < length column → HasWords lo (drop i rs)
    → (word_column lo (drop i rs) ≡ to_be_bytes w16 (slice_index_or column i 0 - lo) ++ word_column lo (drop (i + 1) rs))
    × (lo ≤ slice_index_or column i 0) × (slice_index_or column i 0 < lo + 2 ^ 16) × HasWords lo (drop (i + 1) rs)
word_piece lo rs column i e lt h =
    let r = row_in_column (λ r. r.word) rs column i e lt in
    subst (λ (x : ℕ). (word_column lo (drop i rs) ≡ to_be_bytes w16 (x - lo) ++ word_column lo (drop (i + 1) rs)) × (lo ≤ x) × (x < lo + 2 ^ 16) × HasWords lo (drop (i + 1) rs)) r.is
    (words_split lo r.row (drop i rs) (drop (i + 1) rs) r.split h)

pub position_piece : (rs : List Post) (column : List ℕ) (i : ℕ) → column ≡ map (λ r. r.pos) rs → i < length column
    → position_column (drop i rs) ≡ to_be_bytes w32 (slice_index_or column i 0) ++ position_column (drop (i + 1) rs)
position_piece rs column i e lt =
    let r = row_in_column (λ r. r.pos) rs column i e lt in
    subst (λ (x : ℕ). position_column (drop i rs) ≡ to_be_bytes w32 x ++ position_column (drop (i + 1) rs)) r.is
    (positions_split r.row (drop i rs) (drop (i + 1) rs) r.split)

-- what is left behind as many rows as the column has

pub rows_gone : (number : Post → ℕ) (rs : List Post) (column : List ℕ) (i : ℕ) → column ≡ map number rs → length column ≤ i → drop i rs ≡ []
rows_gone number rs column i e le =
    let len : length column ≡ length rs = ap length e ∙ length-map rs number in
    drop_all i rs (omega (arith, len, le))

-- what stood first still stands after one more call that keeps what it finds
pub kept_twice : (a b c : List ℕ) → take (length a) b ≡ a → take (length b) c ≡ b → take (length a) c ≡ a
kept_twice a b c p q =
    let le : length a ≤ length b = omega (arith, ap length p, length-take (length a) b) in
    sym (take-take (length a) (length b) c le) ∙ ap (take (length a)) q ∙ p

pub block_put : (first a b c : List ℕ) (rs : List Post) (lo : ℕ) → a ≡ first ++ gap_column 0 rs → b ≡ (a ++ word_column lo rs) ++ position_column rs
    → c ≡ b ++ score_column rs → c ≡ first ++ block_bytes rs lo
unfolding block_bytes
block_put first a b c rs lo p q r = r ∙ rw (q, p) (simp append_assoc)
