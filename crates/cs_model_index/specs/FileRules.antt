-- The rules that an index file keeps, and the first one that some bytes break, with its place.
--
-- Source: this engine's own.
--
-- The rules have numbers, since these are printed. Those from 1 to 12 are tried in order, each only where those before it hold. Then 13
-- to 17 are tried block by block: the first block that breaks one counts, by `judged`. Rule 18 is tried behind them, and rule 19 last, in
-- version 2 alone. The place of a rule is that of the first item, in the order of the file, that breaks it; places count from the file's first byte.
--
--   Placed X                     a value of a section, the one before it, the one behind it, and its place
--   laid size at last xs         values that lie one behind the other from a place on
--   last_value xs                   the last value of some
--   break_of holds items         the place of the first item that breaks a rule; None where none does
--   tried n place                the rule of a number, broken where there is a place
--   field_breaks h               the places of the header's numbers that are out of their range
--   words_break k at bytes       where k words and no more ought to stand, the first place where that fails; None where it holds
--   is_word w                    a plain word or a facet word of the form that collections have
--   follows last w, is_onward last o     a word and an offset behind the one before it
--   words_end last, is_joined last h     where the words of the block before end, and a block that begins there
--   is_of_one_kind words h       a block's words are few and of one kind
--   is_sized h                   its rows and bytes are as many as they may be
--   has_rows, is_closed, is_parted       each word of a block has a row, and the block has as many words as it may have
--   is_bound p                   a head has these bounds
--   header_rules .. parting_rules, bound_rules      the rules of each section, in their order
--   blocks_break w docs at heads bytes    the first rule of 13 to 17 that a block breaks, the blocks in their order
--   file_rules b r               all rules, in the order in which they are tried
--   damage b                     the first broken rule and its place; None where all rules hold
--   IsIndexFile b                they all hold
use Rattle.std.specs.Prelude.{◌≡◌, ℕ, zero, suc, ◌+◌, ◌-◌, ◌*◌, Bool, true, ◌&&◌, ◌||◌, not, ◌==◌, nat_le, List, [], ◌∷◌, ◌++◌, length, take, drop, find, chars, Option, Some, None, if◌then◌else◌}
use Rattle.std.specs.List.{list_all, list_any, range_with_len, slice_get, sum_by, count_by, zip, before_first, after_first}
use Rattle.std.specs.Option.{option_map, option_or, unwrap_or}
use Rattle.std.specs.Ordering.{nat_cmp, is_lt}
use Rattle.std.specs.Cmp.Lexicographic.{slice_cmp}
use Rattle.std.specs.Str.{bytes_eq, is_utf8}
use Rattle.cs_base.specs.declared.index.block.BlockHead.{BlockHead}
use Rattle.cs_base.specs.declared.index.block.Broken.{Broken}
use Rattle.cs_base.specs.declared.content.doc.Post.{Post}
use Rattle.cs_base.specs.declared.content.scores.Weights.{Weights}
use Rattle.cs_base.specs.declared.content.limits.TheConstants.{MAX_DOCS, MAX_WORDS, MAX_ROWS, MAX_WORD_BYTES, MAX_PLAIN_WORD_BYTES, MAX_LINE_BYTES}
use Rattle.cs_model.specs.Collection.{has_name_form, is_colon}
use Rattle.cs_model.specs.First.{unless, first_reason}
use Rattle.cs_model_index.specs.WeightsField.{is_field, weights_of}
use Rattle.cs_model.specs.Words.{is_filled, is_word_char}
use Rattle.cs_model_index.specs.BlockRules.{broken_at, judged}
use Rattle.cs_model_index.specs.Layout.{Header, MAGIC, MAGIC2, entry_size}
use Rattle.cs_model_index.specs.Numbered.{word_at}
use Rattle.cs_model_index.specs.Partitions.{is_facet, is_alike, is_one_kind, is_light, is_full}
use Rattle.cs_model_index.specs.Sections.{Contents, contents_of, size_by, vocabulary_at, offsets_at, titles_at, directory_at, blocks_at}
use Rattle.cs_model_index.specs.declared.limits.TheConstants.{HEADER_BYTES, NUMBER_BYTES, MAX_BLOCK_WORDS, MAX_TARGET}

-- ---- items of a section
-- the first value has none before it, and the last none behind it
pub record Placed (X : Type 0) : Type 0 where
  pub value : X
  pub last : Option X
  pub next : Option X
  pub at : ℕ

-- each value has a size, and the first lies at `at`; of no values there are no items
unfoldable pub laid : {X : Type 0} → (X → ℕ) → ℕ → Option X → List X → List (Placed X)
laid size at last [] = []
laid size at last (x ∷ xs) = record { value = x; last = last; next = slice_get xs 0; at = at } ∷ laid size (at + size x) (Some x) xs

-- the last value of some; of no values None
abbrev pub last_value : {X : Type 0} → List X → Option X
last_value xs = slice_get xs (length xs - 1)

-- the place of an item
abbrev pub place_of_item : {X : Type 0} → Placed X → ℕ
place_of_item i = i.at

-- of no items None
unfoldable pub break_of : {X : Type 0} → (Placed X → Bool) → List (Placed X) → Option ℕ
break_of holds items = option_map place_of_item (find (λ i. not (holds i)) items)

-- the rule is broken at the place; None where it holds
abbrev pub tried : ℕ → Option ℕ → Option Broken
tried n place = option_map (broken_at n) place

-- ---- rules 1 to 4: the header
-- documents, words and rows within their limits, at most as many blocks as words, a target within its range, and weights that a number stands for
abbrev pub field_breaks : Header → List (Option ℕ)
field_breaks h =
    unless (nat_le h.docs MAX_DOCS) 8
    ∷ unless (nat_le h.words MAX_WORDS) 12
    ∷ unless (nat_le h.rows MAX_ROWS) 16
    ∷ unless (nat_le h.blocks h.words) 20
    ∷ unless (nat_le 1 h.target && nat_le h.target MAX_TARGET) 24
    ∷ unless (is_field h.weights) 40
    ∷ []

-- the header is whole, it begins as one of the two versions does, its numbers are in range, and the file is as long as they say
abbrev pub header_rules : List ℕ → Header → List (Option Broken)
header_rules b h =
    tried 1 (unless (nat_le HEADER_BYTES (length b)) (length b))
    ∷ tried 2 (unless (bytes_eq (take 8 b) MAGIC || bytes_eq (take 8 b) MAGIC2) 0)
    ∷ tried 3 (first_reason (field_breaks h))
    ∷ tried 4 (unless (length b == size_by h) (length b))
    ∷ []

-- ---- rules 5 to 7: the vocabulary
-- a length byte is from 1 to MAX_WORD_BYTES, and so many bytes stand behind it
abbrev pub is_length : ℕ → List ℕ → Bool
is_length n bytes = nat_le 1 n && (nat_le n MAX_WORD_BYTES && nat_le n (length bytes))

-- the first length byte that is none or isn't there, or the first byte left over; of no words and no bytes None
unfoldable pub words_break : ℕ → ℕ → List ℕ → Option ℕ
words_break zero at [] = None
words_break zero at (b ∷ bytes) = Some at
words_break (suc k) at [] = Some at
words_break (suc k) at (n ∷ bytes) = if is_length n bytes then words_break k (at + 1 + n) (drop n bytes) else Some at

-- a character of a facet word's value
abbrev pub is_value_char : ℕ → Bool
is_value_char c = is_word_char c || c == 95

-- word characters alone, in at least one and at most MAX_PLAIN_WORD_BYTES bytes
abbrev pub is_plain_word : List ℕ → Bool
is_plain_word w = is_filled w && (nat_le (length w) MAX_PLAIN_WORD_BYTES && list_all is_word_char (chars w))

-- what stands behind a facet word's first colon: a name, a colon, and at least one and at most MAX_PLAIN_WORD_BYTES bytes of a value
abbrev pub is_named_value : List ℕ → Bool
is_named_value text =
    let value = after_first is_colon text in
    has_name_form (before_first is_colon text) && (is_filled value && (nat_le (length value) MAX_PLAIN_WORD_BYTES && list_all is_value_char (chars value)))

-- UTF-8, and a plain word or a facet word
abbrev pub is_word : List ℕ → Bool
is_word w = is_utf8 w && (if is_facet w then is_named_value (drop 1 w) else is_plain_word w)

-- greater by bytes than the word before; so is the first word, which has none
abbrev pub follows : Option (List ℕ) → List ℕ → Bool
follows None w = true
follows (Some v) w = is_lt (slice_cmp nat_cmp v w)

-- a word's bytes and its length byte
abbrev pub word_size : List ℕ → ℕ
word_size w = 1 + length w

-- the words lie one behind the other, are words, and ascend; a place is that of a length byte
abbrev pub vocabulary_rules : Contents → List (Option Broken)
vocabulary_rules r =
    let items = laid word_size vocabulary_at None r.words in
    tried 5 (words_break r.header.words vocabulary_at r.bytes.vocabulary)
    ∷ tried 6 (break_of (λ i. is_word i.value) items)
    ∷ tried 7 (break_of (λ i. follows i.last i.value) items)
    ∷ []

-- ---- rules 8 and 9: the titles
-- the first offset is 0, and each other from the one before up to MAX_LINE_BYTES above it
abbrev pub is_onward : Option ℕ → ℕ → Bool
is_onward None o = o == 0
is_onward (Some p) o = nat_le p o && nat_le o (p + MAX_LINE_BYTES)

-- the place of the last offset
abbrev pub last_offset_at : Header → ℕ
last_offset_at h = offsets_at h + NUMBER_BYTES * h.docs

-- the offsets go on, the last one is at the end of the titles, and titles are UTF-8; a place is that of an offset or of a title's first
-- byte
abbrev pub title_rules : Contents → List (Option Broken)
title_rules r =
    tried 8 (option_or (break_of (λ i. is_onward i.last i.value) (laid (λ o. NUMBER_BYTES) (offsets_at r.header) None r.offsets)) (unless (unwrap_or (last_value r.offsets) 0 == r.header.titles_len) (last_offset_at r.header)))
    ∷ tried 9 (break_of (λ i. is_utf8 i.value) (laid (λ t. length t) (titles_at r.header) None r.titles))
    ∷ []

-- ---- rules 10 to 12: the directory
-- where a block's words end, 0 before the first block
abbrev pub words_end : Option BlockHead → ℕ
words_end None = 0
words_end (Some h) = h.lo + h.words

-- begins where the block before ends, the first at word 0, and has a word
abbrev pub is_joined : Option BlockHead → BlockHead → Bool
is_joined last h = h.lo == words_end last && nat_le 1 h.words

-- at most MAX_BLOCK_WORDS words, all of the kind of the first
abbrev pub is_of_one_kind : List (List ℕ) → BlockHead → Bool
is_of_one_kind words h = nat_le h.words MAX_BLOCK_WORDS && is_one_kind (take h.words (drop h.lo words))

-- at least as many rows as words, and from 8 to 12 bytes a row
abbrev pub is_sized : BlockHead → Bool
is_sized h = nat_le h.words h.rows && (nat_le (8 * h.rows) h.len && nat_le h.len (12 * h.rows))

-- the blocks have all words, one behind the other; each has few and of one kind; and rows and bytes are as many as they may be. A place
-- is that of an entry, or the directory's end where an end or a sum is wrong
abbrev pub directory_rules : Contents → List (Option Broken)
directory_rules r =
    let items = laid (λ h. entry_size r.header.two) (directory_at r.header) None r.heads in
    let end = blocks_at r.header in
    tried 10 (option_or (break_of (λ i. is_joined i.last i.value) items) (unless (words_end (last_value r.heads) == r.header.words) end))
    ∷ tried 11 (break_of (λ i. is_of_one_kind r.words i.value) items)
    ∷ tried 12 (option_or (break_of (λ i. is_sized i.value) items) (unless (sum_by (λ h. h.rows) r.heads == r.header.rows && sum_by (λ h. h.len) r.heads == r.header.blocks_len) end))
    ∷ []

-- ---- rules 13 to 17: the blocks
-- a place in a block as one in the file
abbrev pub in_file : ℕ → Broken → Broken
in_file at broken = record { n = broken.n; at = at + broken.at }

-- the first block of some that breaks a rule counts; of no blocks None
unfoldable pub blocks_break : Weights → ℕ → ℕ → List BlockHead → List ℕ → Option Broken
blocks_break w docs at [] bytes = None
blocks_break w docs at (h ∷ hs) bytes = option_or (option_map (in_file at) (judged w h docs (take h.len bytes))) (blocks_break w docs (at + h.len) hs (drop h.len bytes))

-- ---- rule 18: the parts of the words
-- a block: its head and its posts
abbrev pub Block : Type 0
Block = BlockHead × List Post

-- each of the block's words is that of some post
abbrev pub has_rows : Block → Bool
has_rows p = list_all (λ n. list_any (λ post. post.word == n) p.1) (range_with_len p.0.lo p.0.words)

-- a block that one of the same kind follows has no room for that one's first word; the last block may have room
abbrev pub is_closed : ℕ → List (List ℕ) → Block → Option Block → Bool
is_closed target words p None = true
is_closed target words p (Some q) =
    not (is_alike (word_at words p.0.lo) (word_at words q.0.lo)) || is_full target p.0.words (length p.1 + count_by (λ post. post.word == q.0.lo) q.1)

-- each word has a row, several words have few, and the block has as many words as it may have
abbrev pub is_parted : ℕ → List (List ℕ) → Placed Block → Bool
is_parted target words i = has_rows i.value && (is_light target i.value.0.words (length i.value.1) && is_closed target words i.value i.next)

-- a place is that of an entry
abbrev pub parting_rules : Contents → List (Option Broken)
parting_rules r = tried 18 (break_of (is_parted r.header.target r.words) (laid (λ p. entry_size r.header.two) (directory_at r.header) None (zip r.heads r.blocks))) ∷ []

-- ---- rule 19: the bounds of the blocks
-- the head's bounds are these
abbrev pub is_bound : BlockHead × (ℕ × ℕ) → Bool
is_bound p = p.0.least == p.1.0 && p.0.greatest == p.1.1

-- each entry names the bounds of its block's rows, which the heads that are read have; in version 2 alone, and a place is that of an entry
abbrev pub bound_rules : Contents → List (Option Broken)
bound_rules r = (if r.header.two then tried 19 (break_of (λ i. is_bound i.value) (laid (λ p. entry_size r.header.two) (directory_at r.header) None (zip r.heads r.bounds))) else None) ∷ []

-- ---- the first broken rule
-- the rules in the order in which they are tried, each as it is broken
abbrev pub file_rules : List ℕ → Contents → List (Option Broken)
file_rules b r =
    header_rules b r.header
    ++ (vocabulary_rules r
    ++ (title_rules r
    ++ (directory_rules r
    ++ (blocks_break (weights_of r.header.weights) r.header.docs (blocks_at r.header) r.heads r.bytes.blocks
    ∷ (parting_rules r
    ++ bound_rules r)))))

-- the first rule that bytes break, with its place; None where they break none
unfoldable pub damage : List ℕ → Option Broken
damage b = first_reason (file_rules b (contents_of b))

-- bytes that break no rule; no bytes aren't an index file, since they have no header
abbrev pub IsIndexFile : List ℕ → Type 0
IsIndexFile b = damage b ≡ None
