-- The definitions on the two blocks of the worked index file: that of a facet word with one row, and that of three plain words with
-- a row each. Both are in document 0.
use Rattle.std.proofs.Common.{◌≡◌, List, ℕ, [], ◌∷◌, set, true, false, Some, None, refl}
use Rattle.cs_base.specs.index.GapCode.{code_in, code, looked_at, value_of, first_code}
use Rattle.cs_base.specs.declared.index.block.BlockHead.{BlockHead}
use Rattle.cs_base.specs.declared.content.doc.Post.{Post}
use Rattle.cs_base.specs.declared.content.scores.TheConstants.{USUAL_WEIGHTS}
use Rattle.cs_base.specs.declared.content.scores.Weights.{Weights}
use Rattle.cs_model_index.specs.Blocks.{gap_column, word_column, position_column, score_column, block_bytes}
use Rattle.cs_model_index.specs.BlockRules.{codes_break, items_in, first_break, judged, rows_read}

-- ---- the block of the facet word

abbrev facet_rows : List Post
facet_rows = record { doc = 0; word = 0; pos = 0; score = 2 } ∷ []

-- of so many rows and bytes
abbrev facet_head : ℕ → ℕ → BlockHead
facet_head rows len = record { lo = 0; words = 1; rows = rows; len = len; facet = true; least = 0; greatest = 0 }

abbrev facet_bytes : List ℕ
facet_bytes = 0 ∷ 0 ∷ 0 ∷ 0 ∷ 0 ∷ 0 ∷ 0 ∷ 2 ∷ []

block_bytes-facet : block_bytes facet_rows 0 ≡ facet_bytes
unfolding block_bytes gap_column word_column position_column score_column code code_in
block_bytes-facet = refl

rows_read-facet : rows_read (facet_head 1 8) facet_bytes ≡ facet_rows
unfolding rows_read items_in first_code looked_at value_of code code_in
rows_read-facet = refl

judged-facet : judged USUAL_WEIGHTS (facet_head 1 8) 1 facet_bytes ≡ None
unfolding judged codes_break items_in first_break first_code looked_at value_of code code_in
judged-facet = refl

-- ---- the block of the plain words

abbrev plain_rows : List Post
plain_rows =
    record { doc = 0; word = 2; pos = 1; score = 4 }
    ∷ record { doc = 0; word = 3; pos = 10; score = 1 }
    ∷ record { doc = 0; word = 1; pos = 11; score = 1 }
    ∷ []

abbrev plain_head : BlockHead
plain_head = record { lo = 1; words = 3; rows = 3; len = 24; facet = false; least = 0; greatest = 0 }

abbrev plain_bytes : List ℕ
plain_bytes = 0 ∷ 0 ∷ 0 ∷ 0 ∷ 1 ∷ 0 ∷ 2 ∷ 0 ∷ 0 ∷ 0 ∷ 0 ∷ 0 ∷ 1 ∷ 0 ∷ 0 ∷ 0 ∷ 10 ∷ 0 ∷ 0 ∷ 0 ∷ 11 ∷ 4 ∷ 1 ∷ 1 ∷ []

block_bytes-plain : block_bytes plain_rows 1 ≡ plain_bytes
unfolding block_bytes gap_column word_column position_column score_column code code_in
block_bytes-plain = refl

rows_read-plain : rows_read plain_head plain_bytes ≡ plain_rows
unfolding rows_read items_in first_code looked_at value_of code code_in
rows_read-plain = refl

judged-plain : judged USUAL_WEIGHTS plain_head 1 plain_bytes ≡ None
unfolding judged codes_break items_in first_break first_code looked_at value_of code code_in
judged-plain = refl

-- ---- each rule and its place

-- the first rule that the bytes of a block break, in a collection of so many documents, and where
abbrev Breaks : BlockHead → ℕ → List ℕ → ℕ → ℕ → Type 0
Breaks head docs bytes n at = judged USUAL_WEIGHTS head docs bytes ≡ Some (record { n = n; at = at })

-- the first of two rows has both bytes of the gaps
abbrev no_gap_left : List ℕ
no_gap_left = 128 ∷ 1 ∷ 0 ∷ 0 ∷ 0 ∷ 0 ∷ 0 ∷ 0 ∷ 0 ∷ 0 ∷ 0 ∷ 0 ∷ 0 ∷ 0 ∷ 2 ∷ 2 ∷ []

judged-broken :
    -- the last gap code is cut
    Breaks plain_head 1 (set plain_bytes 2 128) 13 2
    -- 0 in two bytes
    × Breaks plain_head 1 (set plain_bytes 0 128) 13 0
    -- a byte behind the last gap code
    × Breaks (facet_head 1 9) 1 (0 ∷ facet_bytes) 13 1
    -- the second row finds the column's end
    × Breaks (facet_head 2 16) 129 no_gap_left 13 2
    -- the last row is in document 1, of a collection of one document
    × Breaks plain_head 1 (set plain_bytes 2 1) 14 2
    -- the first row has the word 4
    × Breaks plain_head 1 (set plain_bytes 4 3) 15 3
    -- the last row has the score 3; the place is that of its position
    × Breaks plain_head 1 (set plain_bytes 23 3) 16 17
    -- the last row stands before the one before it
    × Breaks plain_head 1 (set plain_bytes 20 9) 17 2
    -- the rule of the lower number goes first, though its place is behind
    × Breaks plain_head 1 (set (set plain_bytes 20 9) 23 3) 16 17
unfolding judged codes_break items_in first_break first_code looked_at value_of code code_in
judged-broken = (refl, refl, refl, refl, refl, refl, refl, refl, refl)

-- ---- other weights

abbrev other_weights : Weights
other_weights = record { title = 9; facet = 3; text = 2 }

-- the plain rows with the scores of these weights
abbrev other_bytes : List ℕ
other_bytes = set (set (set plain_bytes 21 9) 22 2) 23 2

judged-other_weights :
    -- a facet word's row has the facet's weight
    (judged other_weights (facet_head 1 8) 1 (set facet_bytes 7 3) ≡ None)
    -- not the usual one
    × (judged other_weights (facet_head 1 8) 1 facet_bytes ≡ Some (record { n = 16; at = 3 }))
    -- any other row has the title's or the text's
    × (judged other_weights plain_head 1 other_bytes ≡ None)
    -- not the facet's
    × (judged other_weights plain_head 1 (set other_bytes 22 3) ≡ Some (record { n = 16; at = 13 }))
    -- where the three weights are equal each row has that one
    × (judged (record { title = 2; facet = 2; text = 2 }) (facet_head 1 8) 1 facet_bytes ≡ None)
unfolding judged codes_break items_in first_break first_code looked_at value_of code code_in
judged-other_weights = (refl, refl, refl, refl, refl)
