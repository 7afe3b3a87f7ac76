-- What is known of a block where a loop has gone over its first rows.
--
--   items_from head c i at last    the items from row i on, whose gap code stands at a place, behind the row `last`
--   Keeps rule all found rest      a rule's first place among all items is what was found so far, else that among the rest
--   HasJudged       of the loop that looks for the first broken rule
--   HasPushed       of the loops that add rows, run by run or one by one
use Rattle.std.specs.Prelude.{◌≡◌, ℕ, ◌-◌, ◌*◌, ◌≤◌, List, ◌++◌, length, map, take, drop, Option, None}
use Rattle.std.specs.Option.{option_or}
use Rattle.cs_base.specs.declared.index.block.BlockHead.{BlockHead}
use Rattle.cs_base.specs.declared.content.doc.Post.{Post}
use Rattle.cs_base.specs.declared.content.scores.Weights.{Weights}
use Rattle.cs_model_index.specs.BlockRules.{codes_break, Item, item_row, doc_before, items_in, Rule, in_docs, in_words, in_kind, in_order, first_break}
use Rattle.cs_model_index.specs.BlockRules.{BlockColumns, block_items}

-- behind the last row none
unfoldable pub items_from : BlockHead → BlockColumns → ℕ → ℕ → Option Post → List Item
items_from head c i at last = items_in head.lo (head.rows - i) last i at (drop at c.gaps) (drop (2 * i) c.words) (drop (4 * i) c.positions) (drop i c.scores)

-- where nothing is left, all that there is was found
unfoldable pub Keeps : Rule → List Item → Option ℕ → List Item → Type 0
Keeps rule all found rest = option_or found (first_break rule rest) ≡ first_break rule all

-- the first i rows; `word`, `score` and `order` are the first places where those three rules are broken in them
pub record HasJudged (w : Weights) (head : BlockHead) (docs : ℕ) (c : BlockColumns) (i at : ℕ) (last : Option Post) (before : ℕ) (word score order : Option ℕ) : Type 0 where
  pub codes : codes_break (head.rows - i) at (drop at c.gaps) ≡ codes_break head.rows 0 c.gaps
  pub within : at ≤ length c.gaps
  pub before_is : before ≡ doc_before last
  pub before_below : before ≤ docs
  pub docs_kept : Keeps (in_docs docs) (block_items head c) None (items_from head c i at last)
  pub words_kept : Keeps (in_words head) (block_items head c) word (items_from head c i at last)
  pub scores_kept : Keeps (in_kind w head) (block_items head c) score (items_from head c i at last)
  pub order_kept : Keeps in_order (block_items head c) order (items_from head c i at last)

-- the first i rows, each of which keeps the rules; what was added to `first` and what is left make all rows
pub record HasPushed (w : Weights) (head : BlockHead) (docs : ℕ) (c : BlockColumns) (i at : ℕ) (last : Option Post) (before : ℕ) (first now : List Post) (room : ℕ) : Type
    0 where
  pub judged : HasJudged w head docs c i at last before None None None
  pub told : first ++ map item_row (block_items head c) ≡ now ++ map item_row (items_from head c i at last)
  pub kept : take (length first) now ≡ first
  pub room_left : head.rows - i ≤ room
