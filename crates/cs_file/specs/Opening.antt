-- What the functions say that opening is made of: a stage for each section of the file, which tries the rules of that section.
--
-- Source: this engine's own.
--
--   Refuses o e               the fault, if it is damage, is this broken rule with its place
--   Judges o r                the answer of a stage whose first broken rule this is, if there is one
--   AreBytes b at n           n of the bytes from a place on are bytes, as all are that were read
--   IsHeader h                numbers of a header that are in their ranges
--   IsHeaderOf b h            the bytes have this header and its size
--   HasHeader told h          the same of the bytes that a store tells
--   header_stage b, vocabulary_stage b, titles_stage b, directory_stage b, blocks_stage b, parts_stage b
--                             the first broken rule of each stage: 1 to 4, 5 to 7, 8 and 9, 10 to 12, 13 to 17, 18 and 19
--   before xs i               the value before another one
--   front_word bytes          where the word at the front of bytes ends
--   HasVocabulary h ws        words by the rules, as the header says
--   HasOffsets h os           offsets by the rules, as the header says
--   HasHeads h ws hs          heads by the rules, over words, as the header says
--   words_judged ws           rules 6 and 7 of words
--   bad_joint h hs, bad_size h hs, directory_judged h ws hs       rules 10 to 12 of heads
--   bad_offset h os, bad_title b     where rules 8 and 9 are broken
--   first_offset os, last_offset os, AreOnwardOffsets os     the first and the last of some offsets, of which none is less than one before it
--   piece_in b first os, titles_cut os bytes       the bytes between such offsets, which count from a place, and the titles in them
--   bad_title_in first os bytes      where rule 9 is broken by these titles
--   header_judged bytes size         rules 2 to 4 of the header's bytes
--   block_broken w at head docs bytes     the first of rules 13 to 17 that the bytes of a block at a place break, with its place in the file
--   file_words b, offsets_of b, file_titles b, heads_of b, blocks_of b       what is read of the bytes
--   named_head two words entry, named_in two words k bytes, named_heads b       the heads as the entries of the directory name them
--   entries_of h              where these entries lie
--   bounds_judged h named parts, parts_judged h ws named parts       rule 19 of blocks, and rules 18 and 19
use Rattle.std.specs.Prelude.{◌≡◌, ℕ, zero, suc, ◌+◌, ◌-◌, true, All, not, map, slice_index_or, drop, if◌then◌else◌, ◌<◌, ◌≤◌, ◌^◌, ◌==◌, ◌&&◌, ◌||◌, Bool, List, [], ◌∷◌, ◌++◌, length, take, Option, None, Some}
use Rattle.std.specs.Prelude.{Result, MatchResult}
use Rattle.std.specs.List.{list_all, position, slice_get, sum_by, zip}
use Rattle.std.specs.List.Sorted.{IsStrictlySortedBy}
use Rattle.std.specs.Option.{ForSome, option_map, option_or, unwrap_or}
use Rattle.std.specs.Ordering.{nat_cmp}
use Rattle.std.specs.Cmp.Lexicographic.{slice_cmp}
use Rattle.std.specs.Str.{bytes_eq, is_utf8}
use Rattle.cs_base.specs.declared.index.block.BlockHead.{BlockHead}
use Rattle.cs_base.specs.declared.index.block.Broken.{Broken}
use Rattle.cs_base.specs.declared.content.doc.Post.{Post}
use Rattle.cs_base.specs.declared.content.scores.Weights.{Weights}
use Rattle.cs_base.specs.outside.Outside.{part}
use Rattle.cs_base.specs.declared.content.limits.TheConstants.{MAX_DOCS, MAX_WORDS, MAX_ROWS}
use Rattle.cs_model.specs.First.{unless, first_reason}
use Rattle.cs_model_index.specs.BlockRules.{broken_at, judged}
use Rattle.cs_model_index.specs.FileRules.{laid, last_value, words_end, is_joined, is_of_one_kind, is_sized, break_of, is_onward, last_offset_at, tried}
use Rattle.cs_model_index.specs.FileRules.{field_breaks, is_length, is_word, word_size, follows, header_rules, vocabulary_rules, title_rules, directory_rules}
use Rattle.cs_model_index.specs.FileRules.{blocks_break, bound_rules, in_file, is_bound, parting_rules}
use Rattle.cs_model_index.specs.Layout.{Header, MAGIC, MAGIC2, entry_size, vocabulary_bytes}
use Rattle.cs_model_index.specs.Numbered.{word_at}
use Rattle.cs_model_index.specs.Partitions.{is_facet}
use Rattle.cs_model_index.specs.Sections.{header_of, contents_of, vocabulary_at, offsets_at, titles_at, directory_at, blocks_at, size_by, number_at, titles_in}
use Rattle.cs_model_index.specs.WeightsField.{is_field, weights_of}
use Rattle.cs_model_index.specs.declared.limits.TheConstants.{NUMBER_BYTES, ENTRY_BYTES, MAX_TARGET}
use Rattle.cs_file.specs.declared.entries.Entries.{Entries}
use Rattle.cs_file.specs.declared.fault.OpenFault.{OpenFault}
use Rattle.cs_file.specs.declared.fault.OpenFault.TheVariants as opens
use Rattle.cs_file.specs.declared.part.BlockPart.{BlockPart}
use Rattle.cs_file.specs.Parting.{bounds_of, keeps_part}

-- ---- answers
-- of a failed read and of want of memory nothing is said
abbrev pub Refuses : Option Broken → OpenFault → Type 0
Refuses o (opens.Damaged rule at) = o ≡ Some (broken_at rule at)
Refuses o opens.Read = Unit {0}
Refuses o opens.Memory = Unit {0}

-- Ok where no rule is broken
abbrev pub Judges : {T : Type 0} → Option Broken → Result T OpenFault → Type 0
Judges o r = MatchResult r (λ _. o ≡ None) (Refuses o)

-- these bytes are numbers below 256
abbrev pub AreBytes : List ℕ → ℕ → ℕ → Type 0
AreBytes b at n = All (λ x. x < 2 ^ 8) (part b at n)

-- ---- the header
-- what counts within its limit, section by section, lengths of four bytes, and a number that stands for weights
pub record IsHeader (h : Header) : Type 0 where
  pub words : h.words ≤ MAX_WORDS
  pub vocabulary : h.vocabulary_len < 2 ^ 32
  pub docs : h.docs ≤ MAX_DOCS
  pub titles : h.titles_len < 2 ^ 32
  pub blocks : h.blocks ≤ h.words
  pub rows : h.rows ≤ MAX_ROWS
  pub postings : h.blocks_len < 2 ^ 32
  pub target_from : 1 ≤ h.target
  pub target_to : h.target ≤ MAX_TARGET
  pub weights : is_field h.weights ≡ true

-- the numbers are read of the bytes, which are as many as they say
pub record IsHeaderOf (b : List ℕ) (h : Header) : Type 0 where
  pub numbers : header_of b ≡ h
  pub size : length b ≡ size_by h

-- of a store that doesn't tell nothing is said
abbrev pub HasHeader : Option (List ℕ) → Header → Type 0
HasHeader told h = ForSome told (λ b. IsHeaderOf b h)

-- ---- what is read of bytes
-- the words of the vocabulary
unfoldable pub file_words : List ℕ → List (List ℕ)
file_words b = (contents_of b).words

-- where titles begin and the last one ends
unfoldable pub offsets_of : List ℕ → List ℕ
offsets_of b = (contents_of b).offsets

-- the titles between them
unfoldable pub file_titles : List ℕ → List (List ℕ)
file_titles b = (contents_of b).titles

-- the heads of the directory, with the bounds of their blocks' rows
unfoldable pub heads_of : List ℕ → List BlockHead
heads_of b = (contents_of b).heads

-- what an entry says of a block of these words, in version 2 with the bounds that it names; in version 1 these are 0
abbrev pub named_head : Bool → List (List ℕ) → List ℕ → BlockHead
named_head two words entry = record {
  lo = number_at entry 0;
  words = number_at entry 4;
  rows = number_at entry 8;
  len = number_at entry 12;
  facet = is_facet (word_at words (number_at entry 0));
  least = if two then number_at entry 16 else 0;
  greatest = if two then number_at entry 20 else 0;
}

-- the same of the next k entries, as many even of no bytes
unfoldable pub named_in : Bool → List (List ℕ) → ℕ → List ℕ → List BlockHead
named_in two words zero bytes = []
named_in two words (suc k) bytes = named_head two words bytes ∷ named_in two words k (drop (entry_size two) bytes)

-- of all entries
unfoldable pub named_heads : List ℕ → List BlockHead
named_heads b = named_in (header_of b).two (file_words b) (header_of b).blocks (contents_of b).bytes.directory

-- the place of the first and the bytes of each
abbrev pub entries_of : Header → Entries
entries_of h = record { first = directory_at h; size = entry_size h.two }

-- the posts of the blocks
unfoldable pub blocks_of : List ℕ → List (List Post)
blocks_of b = (contents_of b).blocks

-- the value before number i; None before the first, and behind the last of no value
unfoldable pub before : {X : Type 0} → List X → ℕ → Option X
before xs zero = None
before xs (suc i) = slice_get xs i

-- where the word ends whose length byte stands at the front of bytes; None where no length byte with its word stands there
unfoldable pub front_word : List ℕ → Option ℕ
front_word [] = None
front_word (n ∷ bytes) = if is_length n bytes then Some (1 + n) else None

-- ---- what the rules say of what is kept
-- as many words as the header says, in as many bytes, and in order
pub record HasVocabulary (h : Header) (ws : List (List ℕ)) : Type 0 where
  pub count : length ws ≡ h.words
  pub len : length (vocabulary_bytes ws) ≡ h.vocabulary_len
  pub words : All (λ w. is_word w ≡ true) ws
  pub ascending : IsStrictlySortedBy (slice_cmp nat_cmp) ws

-- one offset more than there are documents, each from the one before on, up to the end of the titles
pub record HasOffsets (h : Header) (os : List ℕ) : Type 0 where
  pub count : length os ≡ h.docs + 1
  pub onward : list_all (λ p. is_onward p.last p.value) (laid (λ o. NUMBER_BYTES) 0 None os) ≡ true
  pub end : unwrap_or (last_value os) 0 ≡ h.titles_len

-- as many blocks as the header says, with all words, each with few words of one kind, and with as many rows and bytes as it says; where
-- their entries lie and what bounds they have doesn't count
pub record HasHeads (h : Header) (ws : List (List ℕ)) (hs : List BlockHead) : Type 0 where
  pub count : length hs ≡ h.blocks
  pub joined : list_all (λ p. is_joined p.last p.value) (laid (λ h. ENTRY_BYTES) 0 None hs) ≡ true
  pub end : words_end (last_value hs) ≡ h.words
  pub kinds : list_all (is_of_one_kind ws) hs ≡ true
  pub facets : All (λ h. h.facet ≡ is_facet (word_at ws h.lo)) hs
  pub sized : list_all is_sized hs ≡ true
  pub rows : sum_by (λ h. h.rows) hs ≡ h.rows
  pub bytes : sum_by (λ h. h.len) hs ≡ h.blocks_len

-- ---- some titles that lie one behind the other
-- 0 where there is none
abbrev pub first_offset : List ℕ → ℕ
first_offset os = slice_index_or os 0 0

-- 0 where there is none
abbrev pub last_offset : List ℕ → ℕ
last_offset os = unwrap_or (last_value os) 0

-- there is one, and a later one is never less
pub record AreOnwardOffsets (os : List ℕ) : Type 0 where
  pub some : 0 < length os
  pub each : (k m : ℕ) → k ≤ m → m < length os → slice_index_or os k 0 ≤ slice_index_or os m 0

-- from the first offset up to the last, counted from a place
abbrev pub piece_in : List ℕ → ℕ → List ℕ → List ℕ
piece_in b first os = part b (first + first_offset os) (last_offset os - first_offset os)

-- the titles between offsets, where the bytes begin with the first of them
abbrev pub titles_cut : List ℕ → List ℕ → List (List ℕ)
titles_cut os bytes = titles_in (map (λ o. o - first_offset os) os) bytes

-- the place of the first of these titles that isn't UTF-8; None where each is
unfoldable pub bad_title_in : ℕ → List ℕ → List ℕ → Option ℕ
bad_title_in first os bytes = option_map (λ i. first + slice_index_or os i 0) (position (λ t. not (is_utf8 t)) (titles_cut os bytes))

-- ---- the stages
-- rules 1 to 4
unfoldable pub header_stage : List ℕ → Option Broken
header_stage b = first_reason (header_rules b (header_of b))

-- rules 2 to 4 of the first bytes of a file of some size
unfoldable pub header_judged : List ℕ → ℕ → Option Broken
header_judged bytes size =
    first_reason (tried 2 (unless (bytes_eq (take 8 bytes) MAGIC || bytes_eq (take 8 bytes) MAGIC2) 0) ∷ tried 3 (first_reason (field_breaks (header_of bytes)))
    ∷ tried 4 (unless (size == size_by (header_of bytes)) size) ∷ [])

-- rules 5 to 7
unfoldable pub vocabulary_stage : List ℕ → Option Broken
vocabulary_stage b = first_reason (vocabulary_rules (contents_of b))

-- rules 6 and 7 of some words
unfoldable pub words_judged : List (List ℕ) → Option Broken
words_judged ws =
    let items = laid word_size vocabulary_at None ws in
    first_reason (tried 6 (break_of (λ i. is_word i.value) items) ∷ tried 7 (break_of (λ i. follows i.last i.value) items) ∷ [])

-- rules 8 and 9
unfoldable pub titles_stage : List ℕ → Option Broken
titles_stage b = first_reason (title_rules (contents_of b))

-- where rule 8 is broken by some offsets
unfoldable pub bad_offset : Header → List ℕ → Option ℕ
bad_offset h os = option_or (break_of (λ i. is_onward i.last i.value) (laid (λ o. NUMBER_BYTES) (offsets_at h) None os))
    (unless (unwrap_or (last_value os) 0 == h.titles_len) (last_offset_at h))

-- where rule 9 is broken by the titles of bytes
unfoldable pub bad_title : List ℕ → Option ℕ
bad_title b = break_of (λ i. is_utf8 i.value) (laid (λ t. length t) (titles_at (header_of b)) None (file_titles b))

-- rules 10 to 12
unfoldable pub directory_stage : List ℕ → Option Broken
directory_stage b = first_reason (directory_rules (contents_of b))

-- where rule 10 is broken by some heads
unfoldable pub bad_joint : Header → List BlockHead → Option ℕ
bad_joint h hs = option_or (break_of (λ i. is_joined i.last i.value) (laid (λ x. entry_size h.two) (directory_at h) None hs))
    (unless (words_end (last_value hs) == h.words) (blocks_at h))

-- where rule 12 is broken by them
unfoldable pub bad_size : Header → List BlockHead → Option ℕ
bad_size h hs = option_or (break_of (λ i. is_sized i.value) (laid (λ x. entry_size h.two) (directory_at h) None hs))
    (unless (sum_by (λ h. h.rows) hs == h.rows && sum_by (λ h. h.len) hs == h.blocks_len) (blocks_at h))

-- rules 10 to 12 of heads over some words
unfoldable pub directory_judged : Header → List (List ℕ) → List BlockHead → Option Broken
directory_judged h ws hs =
    first_reason (tried 10 (bad_joint h hs)
    ∷ tried 11 (break_of (λ i. is_of_one_kind ws i.value) (laid (λ x. entry_size h.two) (directory_at h) None hs)) ∷ tried 12 (bad_size h hs) ∷ [])

-- rules 13 to 17
unfoldable pub blocks_stage : List ℕ → Option Broken
blocks_stage b = blocks_break (weights_of (header_of b).weights) (header_of b).docs (blocks_at (header_of b)) (contents_of b).heads (contents_of b).bytes.blocks

-- where they are broken by one block; None where it keeps them
abbrev pub block_broken : Weights → ℕ → BlockHead → ℕ → List ℕ → Option Broken
block_broken w at head docs bytes = option_map (in_file at) (judged w head docs bytes)

-- rule 18, and behind it rule 19
unfoldable pub parts_stage : List ℕ → Option Broken
parts_stage b = first_reason (parting_rules (contents_of b) ++ bound_rules (contents_of b))

-- rule 19 of blocks whose heads the entries name so
abbrev pub bounds_judged : Header → List BlockHead → List BlockPart → Option Broken
bounds_judged h named parts =
    let pairs = zip (map (λ p. p.head) parts) (map bounds_of named) in
    if h.two then tried 19 (break_of (λ i. is_bound i.value) (laid (λ p. entry_size h.two) (directory_at h) None pairs)) else None

-- rules 18 and 19 of them
unfoldable pub parts_judged : Header → List (List ℕ) → List BlockHead → List BlockPart → Option Broken
parts_judged h ws named parts =
    first_reason (tried 18 (break_of (λ i. keeps_part h.target ws i.value i.next) (laid (λ p. entry_size h.two) (directory_at h) None parts))
    ∷ bounds_judged h named parts ∷ [])
