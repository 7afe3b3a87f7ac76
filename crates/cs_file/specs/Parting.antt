-- What rules 18 and 19 ask of blocks, without their posts.
--
-- Source: this engine's own.
--
--   bounds_of h               the bounds of a head
--   bare h                    a head without its bounds
--   bounded_by h docs         a head with the bounds of rows of some documents
--   part_by h posts           what the rules ask of a block: its head, whether each word has a row, and how many rows the first has
--   part_read h bytes         the same of a block whose posts are read of these bytes, with their bounds
--   parts_by hs blocks        the same of blocks
--   no_part                   a block of nothing
--   is_closed_by target words p next       a block that the next one follows has no room for that one's first word
--   keeps_part target words p next   a block keeps rule 18
--   HasMarks words lo count marks    a mark for each number from lo on, 1 where it is one of these
use Rattle.std.specs.Prelude.{◌≡◌, ℕ, ◌+◌, ◌<◌, Bool, true, false, ◌&&◌, ◌||◌, not, ◌==◌, List, [], ◌∷◌, length, count_by, slice_index_or, Option, Some, None}
use Rattle.std.specs.List.{list_all, list_any, range_with_len, slice_get}
use Rattle.std.specs.Option.{unwrap_or}
use Rattle.cs_base.specs.declared.index.block.BlockHead.{BlockHead}
use Rattle.cs_base.specs.declared.content.doc.Post.{Post}
use Rattle.cs_model_index.specs.BlockBounds.{bounded}
use Rattle.cs_model_index.specs.BlockRules.{rows_read}
use Rattle.cs_model_index.specs.FileRules.{last_value}
use Rattle.cs_model_index.specs.Numbered.{word_at}
use Rattle.cs_model_index.specs.Partitions.{is_alike, is_full, is_light}
use Rattle.cs_file.specs.declared.part.BlockPart.{BlockPart}

-- least and greatest document
abbrev pub bounds_of : BlockHead → ℕ × ℕ
bounds_of h = (h.least, h.greatest)

-- both are 0
abbrev pub bare : BlockHead → BlockHead
bare h = record { lo = h.lo; words = h.words; rows = h.rows; len = h.len; facet = h.facet; least = 0; greatest = 0 }

-- the first and the last of them; of no documents 0 and 0
abbrev pub bounded_by : BlockHead → List ℕ → BlockHead
bounded_by h docs = record { lo = h.lo; words = h.words; rows = h.rows; len = h.len; facet = h.facet; least = unwrap_or (slice_get docs 0) 0; greatest = unwrap_or (last_value docs) 0 }

-- of a block of no words each word has a row, and the first has none
abbrev pub part_by : BlockHead → List Post → BlockPart
part_by h posts = record {
  head = h;
  whole = list_all (λ n. list_any (λ post. post.word == n) posts) (range_with_len h.lo h.words);
  first = count_by (λ post. post.word == h.lo) posts;
}

-- of bytes that break a rule whatever is read of them
abbrev pub part_read : BlockHead → List ℕ → BlockPart
part_read h bytes = part_by (bounded h (rows_read h bytes)) (rows_read h bytes)

-- one for each head that has a block
unfoldable pub parts_by : List BlockHead → List (List Post) → List BlockPart
parts_by [] blocks = []
parts_by (h ∷ hs) [] = []
parts_by (h ∷ hs) (posts ∷ blocks) = part_by h posts ∷ parts_by hs blocks

-- of a head of zeros
abbrev pub no_part : BlockPart
no_part = record { head = record { lo = 0; words = 0; rows = 0; len = 0; facet = false; least = 0; greatest = 0 }; whole = false; first = 0 }

-- the last block may have room
abbrev pub is_closed_by : ℕ → List (List ℕ) → BlockPart → Option BlockPart → Bool
is_closed_by target words p None = true
is_closed_by target words p (Some q) = not (is_alike (word_at words p.head.lo) (word_at words q.head.lo)) || is_full target p.head.words (p.head.rows + q.first)

-- each word has a row, several words have few, and there are as many words as there may be
abbrev pub keeps_part : ℕ → List (List ℕ) → BlockPart → Option BlockPart → Bool
keeps_part target words p next = p.whole && (is_light target p.head.words p.head.rows && is_closed_by target words p next)

-- as many marks as numbers; of no words no mark is 1
pub record HasMarks (words : List ℕ) (lo count : ℕ) (marks : List ℕ) : Type 0 where
  pub len : length marks ≡ count
  pub told : (k : ℕ) → k < count → (slice_index_or marks k 0 == 1) ≡ list_any (λ w. w == lo + k) words
