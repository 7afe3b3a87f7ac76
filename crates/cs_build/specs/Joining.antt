-- The posts of two images by one vocabulary, and their order.
--
-- Source: this engine's own.
--
--   by_numbers                     posts: document, position, number of the word and score, each ascending
--   place_post s                   the post at a place
--   held_posts blocks              the posts of blocks
--   moved_post shift n p           a post with its word's new number, and with n added to its document's number
--   joined_posts a first b second  the posts of the image a with the new numbers `first` of its words, and behind them those of b with
--                                  `second`, the documents of b numbered behind those of a
--   joined_rows words a first b second    the rows that these stand for, each once, by document, position and word
use Rattle.std.specs.Prelude.{ℕ, ◌+◌, List, ◌++◌, flat_map, length, map, slice_index_or}
use Rattle.std.specs.Ordering.{nat_cmp, on, then_cmp}
use Rattle.std.specs.declared.cmp.Ordering.{Ordering}
use Rattle.cs_base.specs.content.Members.{members_in}
use Rattle.cs_base.specs.content.Orders.{by_row}
use Rattle.cs_base.specs.declared.content.doc.Post.{Post}
use Rattle.cs_base.specs.declared.content.doc.Row.{Row}
use Rattle.cs_cols.specs.declared.cols.Cols.{Cols}
use Rattle.cs_model_index.specs.Images.{Image, image_posts}
use Rattle.cs_model_index.specs.Numbered.{rows_at}
use Rattle.cs_build.specs.declared.block_order.Place.{Place}

-- by document, position, number of the word, and score; equal are those with all four the same
abbrev pub by_numbers : Post → Post → Ordering
by_numbers = then_cmp (on (λ p. p.doc) nat_cmp) (then_cmp (on (λ p. p.pos) nat_cmp) (then_cmp (on (λ p. p.word) nat_cmp) (on (λ p. p.score) nat_cmp)))

-- the same document, word, position and score
abbrev pub place_post : Place → Post
place_post s = record { doc = s.doc; word = s.word; pos = s.pos; score = s.score }

-- block by block; of no blocks none
abbrev pub held_posts : List Cols → List Post
held_posts blocks = flat_map (λ block. block) (map (λ b. b.posts) blocks)

-- at the same position and with the same score; a word without a new number gets 0
abbrev pub moved_post : List ℕ → ℕ → Post → Post
moved_post shift n p = record { doc = p.doc + n; word = slice_index_or shift p.word 0; pos = p.pos; score = p.score }

-- block by block; of images without blocks none
abbrev pub joined_posts : Image → List ℕ → Image → List ℕ → List Post
joined_posts a first b second = map (moved_post first 0) (image_posts a) ++ map (moved_post second (length a.titles)) (image_posts b)

-- whatever the blocks they stood in; of images without blocks none
abbrev pub joined_rows : List (List ℕ) → Image → List ℕ → Image → List ℕ → List Row
joined_rows words a first b second = members_in by_row (rows_at words (joined_posts a first b second))
