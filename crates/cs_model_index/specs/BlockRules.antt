-- The rules that the bytes of a block keep, and the first one that some bytes break.
--
-- Bytes are read whatever they are, as rows: a gap code that isn't there counts as 0, a byte that isn't there as 0. The first rule
-- says that the codes are there; each other one is a test of a row and the row before it. The rules have numbers, since these are
-- printed: 13 is the first, and a rule is tried where those of lower numbers hold. `docs/INDEX_FILE.md` lists them.
--
--   gap_number gaps, gap_len gaps    the number whose code stands at the front, and the bytes of that code
--   codes_break k at gaps    where k gap codes and no more ought to stand, the first place where that fails; None where it holds
--   Item                     a row that was read, the row before it, its number and the place of its gap code
--   doc_before, row_at, item_row     the document of the row before, a row of its four columns, the row of an item
--   items_in                 the items of the columns from a place on
--   BlockColumns, block_columns head bytes    the four columns, and bytes cut into them by gap_bytes and columns_behind
--   block_items head c       the items of four columns
--   Rule                     a rule on rows: its number, its test, and the place where an item breaks it
--   in_docs, in_words, in_kind, in_order    rules 14 to 17, by the tests is_scored and is_after
--   rules w head docs   these in their order, for a collection of these weights
--   first_break rule items   where the first item that breaks a rule breaks it; None where none does
--   broken_at n at           the rule of a number, broken at a place
--   first_broken rs items    the first rule of some that some item breaks, with its first place; None where all hold
--   judged_columns w head docs c, judged w head docs bytes    the first broken rule of columns and of the bytes of a block, and its place
--                            in the bytes; None where all rules hold
--   rows_read head bytes     the rows that are read of any bytes
--   keeps holds last rs, MeetAll rules rs    rows keep a rule behind some row, and rows keep each of some rules
--   IsBlock w head docs rs bytes    bytes are those of so many rows as the head says, which a block can hold and which meet rules 14 to 17
use Rattle.std.specs.Prelude.{◌≡◌, ℕ, zero, suc, ◌+◌, ◌-◌, ◌*◌, Bool, true, ◌&&◌, ◌||◌, nat_lt, nat_le, ◌==◌, List, [], ◌∷◌, length, map, take, drop, get_or, find, not, Option, Some, None, if◌then◌else◌}
use Rattle.std.specs.Int.{w16, w32, from_be_bytes}
use Rattle.std.specs.Option.{is_some, option_map, option_or, unwrap_or}
use Rattle.std.specs.Ordering.{is_lt}
use Rattle.cs_base.specs.index.GapCode.{code, first_code}
use Rattle.cs_base.specs.content.Orders.{by_place}
use Rattle.cs_base.specs.declared.index.block.BlockHead.{BlockHead}
use Rattle.cs_base.specs.declared.index.block.Broken.{Broken}
use Rattle.cs_base.specs.declared.content.doc.Post.{Post}
use Rattle.cs_base.specs.declared.content.limits.TheConstants.{MAX_POSITION}
use Rattle.cs_base.specs.declared.content.scores.Weights.{Weights}
use Rattle.cs_model_index.specs.Blocks.{AreWritable, block_bytes}
use Rattle.cs_model.specs.First.{first_reason}

-- ---- gap codes whole and shortest

-- the number whose code stands at the front; 0 where none does
abbrev pub gap_number : List ℕ → ℕ
gap_number gaps = unwrap_or (first_code gaps) 0

-- how many bytes that code has; 1 where none stands there, as for 0
abbrev pub gap_len : List ℕ → ℕ
gap_len gaps = length (code (gap_number gaps))

-- the first place where no code stands or a byte is left over; of no codes and no bytes None, and where no byte is left for a code the end
unfoldable pub codes_break : ℕ → ℕ → List ℕ → Option ℕ
codes_break zero at [] = None
codes_break zero at (b ∷ gaps) = Some at
codes_break (suc k) at gaps = if is_some (first_code gaps) then codes_break k (at + gap_len gaps) (drop (gap_len gaps) gaps) else Some at

-- ---- the rows that are read

-- a row with what the rules ask of its place; the first row has none before it
pub record Item : Type 0 where
  pub row : Post
  pub last : Option Post
  pub index : ℕ
  pub gap_at : ℕ

-- the document of the row before; 0 before the first row
abbrev pub doc_before : Option Post → ℕ
doc_before None = 0
doc_before (Some r) = r.doc

-- the row of a document and of what stands at the front of the other columns; of no bytes the word lo, position 0 and score 0
abbrev pub row_at : ℕ → ℕ → List ℕ → List ℕ → List ℕ → Post
row_at lo doc words positions scores = record {
  doc = doc;
  word = lo + from_be_bytes w16 (take 2 words);
  pos = from_be_bytes w32 (take 4 positions);
  score = get_or scores 0 0;
}

-- the next k items, where the one after `last` has this index, and its gap code this place; as many even of no bytes
unfoldable pub items_in : ℕ → ℕ → Option Post → ℕ → ℕ → List ℕ → List ℕ → List ℕ → List ℕ → List Item
items_in lo zero last index at gaps words positions scores = []
items_in lo (suc k) last index at gaps words positions scores =
    let row = row_at lo (doc_before last + gap_number gaps) words positions scores in
    record { row = row; last = last; index = index; gap_at = at }
    ∷ items_in lo k (Some row) (index + 1) (at + gap_len gaps) (drop (gap_len gaps) gaps) (drop 2 words) (drop 4 positions) (drop 1 scores)

-- the four columns of a block, one behind the other in its bytes
pub record BlockColumns : Type 0 where
  pub gaps : List ℕ
  pub words : List ℕ
  pub positions : List ℕ
  pub scores : List ℕ

-- how many bytes the other three columns leave to the gaps: a row has seven in them; 0 where they leave none
abbrev pub gap_bytes : BlockHead → ℕ
gap_bytes head = head.len - 7 * head.rows

-- the gaps, and the rest cut into the other three; a column past the rest's end has fewer bytes
abbrev pub columns_behind : BlockHead → List ℕ → List ℕ → BlockColumns
columns_behind head gaps rest = record {
  gaps = gaps;
  words = take (2 * head.rows) rest;
  positions = take (4 * head.rows) (drop (2 * head.rows) rest);
  scores = drop (4 * head.rows) (drop (2 * head.rows) rest);
}

-- bytes cut into the columns; of no bytes four empty ones
abbrev pub block_columns : BlockHead → List ℕ → BlockColumns
block_columns head bytes = columns_behind head (take (gap_bytes head) bytes) (drop (gap_bytes head) bytes)

-- the items of columns, as many as the head says
abbrev pub block_items : BlockHead → BlockColumns → List Item
block_items head c = items_in head.lo head.rows None 0 0 c.gaps c.words c.positions c.scores

-- an item's row
abbrev pub item_row : Item → Post
item_row i = i.row

-- the rows that are read, of any bytes as many as the head says
unfoldable pub rows_read : BlockHead → List ℕ → List Post
rows_read head bytes = map item_row (block_items head (block_columns head bytes))

-- ---- the rules on rows

-- a rule's number, whether a row behind another, or behind none, keeps it, and where an item breaks it
pub record Rule : Type 0 where
  pub number : ℕ
  pub holds : Option Post → Post → Bool
  pub at : Item → ℕ

-- documents in range, below docs; the place is the row's gap code
abbrev pub in_docs : ℕ → Rule
in_docs docs = record { number = 14; holds = λ last r. nat_lt r.doc docs; at = λ i. i.gap_at }

-- words in range: none behind the block's last; the place is the row's local number
abbrev pub in_words : BlockHead → Rule
in_words head = record { number = 15; holds = λ last r. nat_lt r.word (head.lo + head.words); at = λ i. gap_bytes head + 2 * i.index }

-- a facet word stands at 0 with the score of a facet; any other from 1 to MAX_POSITION with the score of a title or of a text word
abbrev pub is_scored : Weights → Bool → Post → Bool
is_scored w facet r = if facet then r.pos == 0 && r.score == w.facet else (nat_le 1 r.pos && nat_le r.pos MAX_POSITION && (r.score == w.title || r.score == w.text))

-- positions and scores by kind, a facet's or any other; the place is the row's position
abbrev pub in_kind : Weights → BlockHead → Rule
in_kind w head = record { number = 16; holds = λ last r. is_scored w head.facet r; at = λ i. gap_bytes head + 2 * head.rows + 4 * i.index }

-- greater than the row before; so is the first row, which has none
abbrev pub is_after : Option Post → Post → Bool
is_after None r = true
is_after (Some p) r = is_lt (by_place p r)

-- ascending, no row twice; the place is the row's gap code
abbrev pub in_order : Rule
in_order = record { number = 17; holds = is_after; at = λ i. i.gap_at }

-- rules 14 to 17 in the order in which they are tried; the codes, rule 13, go before them
abbrev pub rules : Weights → BlockHead → ℕ → List Rule
rules w head docs = in_docs docs ∷ in_words head ∷ in_kind w head ∷ in_order ∷ []

-- ---- the first broken rule

-- where the first item that breaks a rule breaks it; of no items None
unfoldable pub first_break : Rule → List Item → Option ℕ
first_break rule items = option_map rule.at (find (λ i. not (rule.holds i.last i.row)) items)

-- the rule of a number, broken at a place
abbrev pub broken_at : ℕ → ℕ → Broken
broken_at n at = record { n = n; at = at }

-- the first rule of some that some item breaks, with its first place; of no rules None
abbrev pub first_broken : List Rule → List Item → Option Broken
first_broken rs items = first_reason (map (λ rule. option_map (broken_at rule.number) (first_break rule items)) rs)

-- the codes go before the rules on rows
abbrev pub judged_columns : Weights → BlockHead → ℕ → BlockColumns → Option Broken
judged_columns w head docs c = option_or (option_map (broken_at 13) (codes_break head.rows 0 c.gaps)) (first_broken (rules w head docs) (block_items head c))

-- the first broken rule of bytes and its place; None where all rules hold. It speaks of heads that go with so many bytes (`IsShaped`)
unfoldable pub judged : Weights → BlockHead → ℕ → List ℕ → Option Broken
judged w head docs bytes = judged_columns w head docs (block_columns head bytes)

-- ---- the other side: rows and their bytes

-- each row, behind the row before it, keeps a rule; so do no rows
unfoldable pub keeps : (Option Post → Post → Bool) → Option Post → List Post → Bool
keeps holds last [] = true
keeps holds last (r ∷ rs) = holds last r && keeps holds (Some r) rs

-- rows keep each of some rules; of no rules any rows do
abbrev pub MeetAll : List Rule → List Post → Type 0
MeetAll [] rs = Unit {0}
MeetAll (rule ∷ rest) rs = (keeps rule.holds None rs ≡ true) × MeetAll rest rs

-- the bytes of as many rows as the head says, which a block can hold and which meet the rules; of no rows no bytes
pub record IsBlock (w : Weights) (head : BlockHead) (docs : ℕ) (rs : List Post) (bytes : List ℕ) : Type 0 where
  pub count : length rs ≡ head.rows
  pub written : bytes ≡ block_bytes rs head.lo
  pub writable : AreWritable head.lo rs
  pub meets : MeetAll (rules w head docs) rs
