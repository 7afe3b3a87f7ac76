-- What a collection is: its lines, their columns, the documents, and the first refusal.
--
-- Source: the form is this engine's own. UTF-8 is that of RFC 3629.
--
--   without_mark c             the bytes c without EF BB BF in front, which are skipped once
--   collection_lines c         the lines of a collection, each with its number from 1; the empty collection has none
--   is_weights_line l          whether the numbered line is the first one and names weights, which makes it no document
--   DocLine, doc_line p        a line that is a document: its number as a document from 0, its number as a line from 1, its
--                              bytes
--   doc_lines c                the lines that have bytes, but for the weights line, so numbered; none where there is none
--   weights c                  the weights of a collection: those of its weights line, and the usual ones where it has none
--   is_tab b, is_space b       whether the byte is a tab, a space
--   is_colon b, is_equals b    whether it is the sign `:`, `=`
--   Columns, columns l         title, facets and text of a line, cut at its first two tabs; a missing column is empty
--   without_spaces_behind bs   the bytes bs without the spaces at their end
--   without_spaces bs          the bytes bs without the spaces at both ends; nothing where there are spaces alone
--   facet_pieces column        the pieces of a facets column between `;`, without spaces at both ends, empty ones left out
--   is_small_letter b          whether the byte is a letter a to z
--   is_name_byte b             whether it is such a letter or a digit
--   begins_with_letter bs      whether the first byte is a letter a to z; of no bytes it isn't
--   has_name_form n            a letter a to z, then letters a to z and digits, at most 16 bytes; the empty text isn't a name
--   piece_name p               the key text of what stands before the first `=`, without spaces at its end
--   piece_value p              what stands behind the first `=`; nothing where there is none
--   named n v                  the word `:n:v` of a facet
--   facet_word p               the word `:name:slug` of a piece; None where its value has no word
--   facet_words column         the facet words of a column; none for the empty column
--   CollectionRefusal          why a collection isn't accepted: too_large, not_utf8, line_too_long, bad_weights,
--                              words_too_many, bad_facet, bad_name, too_many_docs, too_many_rows, too_many_words
--   in_line n w                what is said of line n
--   refusal_words r            why a collection isn't accepted, in words
--   piece_refusal n p          a piece of line n without `=`, else one without a name; None where it has both
--   word_count cs              the number of title and text words together; 0 where there is none
--   line_refusal l             the first rule that the line breaks; None where it breaks none
--   weights_refusal l          the same of a weights line
--   docs_refusal c             too large, else the refusal of the least line that breaks a rule; None where no line does
--   document l                 the document of a line
--   documents c                the documents of a collection, in the order of their lines; they count only where docs_refusal
--                              c is None
--   is_plain_byte b            whether the byte is LF or printable ASCII other than the double quote and the backslash
--   is_plain c                 at most 65,536 bytes, each of them such; the empty collection is plain
--
-- LF ends a line, with one CR directly before it. The last line needs no ending, and a CR at its end then belongs to it. A
-- tab behind the second one of a line belongs to its text. A name is read by its key text, a value by its slug. The weights line
-- counts as a line and not as a document.
use Rattle.std.specs.Prelude.{ℕ, ◌+◌, ◌-◌, Bool, false, not, ◌&&◌, ◌||◌, ◌==◌, nat_lt, nat_le, nat_eq, if◌then◌else◌, List, [], ◌∷◌, ◌++◌, map, filter, length, take, drop, Option, codes}
use Rattle.std.specs.Fmt.{decimal}
use Rattle.std.specs.Option.{is_some, option_map, unwrap_or}
use Rattle.std.specs.List.{list_any, list_all, filter_map, enumerate_from, slice_split, before_first, after_first, starts_with, prefix_len, suffix_len}
use Rattle.std.specs.Int.{is_in_range}
use Rattle.std.specs.Str.{is_utf8}
use Rattle.std.specs.Str.Lines.{lines}
use Rattle.cs_base.specs.content.Bytes.{tab, line_feed, space, double_quote, digit_0, digit_9, colon, semicolon, equals_sign, backslash, letter_a, letter_z, tilde, byte_order_mark}
use Rattle.cs_base.specs.declared.content.doc.Doc.{Doc}
use Rattle.cs_base.specs.declared.content.limits.TheConstants.{MAX_COLLECTION_BYTES, MAX_LINE_BYTES, MAX_DOC_WORDS, MAX_DOCS, MAX_NAME_BYTES}
use Rattle.cs_model.specs.First.{unless, first_reason}
use Rattle.cs_base.specs.declared.content.scores.TheConstants.{USUAL_WEIGHTS}
use Rattle.cs_base.specs.declared.content.scores.Weights.{Weights}
use Rattle.cs_model.specs.KeyText.{norm}
use Rattle.cs_model.specs.Weights.{names_weights, weights_said}
use Rattle.cs_model.specs.Words.{is_filled, words, slug}

-- a collection without the mark EF BB BF, which is skipped once and in front alone; without a mark it stays as it is
abbrev pub without_mark : List ℕ → List ℕ
without_mark c = if starts_with nat_eq c byte_order_mark then drop (length byte_order_mark) c else c

-- the lines of a collection without their endings, numbered from 1; the empty collection has none
abbrev pub collection_lines : List ℕ → List (ℕ × List ℕ)
collection_lines c = enumerate_from 1 (lines (without_mark c))

-- the first line of a collection, where it names weights; of the others none is
abbrev pub is_weights_line : ℕ × List ℕ → Bool
is_weights_line l = (l.0 == 1) && names_weights l.1

-- a line that is a document: its number among the documents, its number among the lines, its bytes
pub record DocLine : Type 0 where
  pub doc : ℕ
  pub line : ℕ
  pub bytes : List ℕ

-- such a line from its number as a document, and its number as a line with its bytes
abbrev pub doc_line : ℕ × (ℕ × List ℕ) → DocLine
doc_line p = record { doc = p.0; line = p.1.0; bytes = p.1.1 }

-- the lines that are documents, in order; a line without bytes is none, nor is the weights line
abbrev pub doc_lines : List ℕ → List DocLine
doc_lines c = map doc_line (enumerate_from 0 (filter (λ l. is_filled l.1 && not (is_weights_line l)) (collection_lines c)))

-- the weights line as a list, which is empty where there is none
abbrev pub weights_lines : List ℕ → List (ℕ × List ℕ)
weights_lines c = filter is_weights_line (collection_lines c)

-- the weights that lines say, the first of them; the usual ones where there is no line
abbrev pub weights_of_lines : List (ℕ × List ℕ) → Weights
weights_of_lines [] = USUAL_WEIGHTS
weights_of_lines (l ∷ ls) = unwrap_or (weights_said l.1) USUAL_WEIGHTS

-- the weights of a collection, which count only where its `docs_refusal` is None; the usual ones where it has no weights line,
-- as the empty one hasn't
abbrev pub weights : List ℕ → Weights
weights c = weights_of_lines (weights_lines c)

-- ---- columns
-- the byte is a tab
abbrev pub is_tab : ℕ → Bool
is_tab b = b == tab

-- the three columns of a line, of which each may be empty
pub record Columns : Type 0 where
  pub title : List ℕ
  pub facets : List ℕ
  pub text : List ℕ

-- the columns of a line, further tabs belonging to the text; a missing one is empty
abbrev pub columns : List ℕ → Columns
columns l = record {
  title = before_first is_tab l;
  facets = before_first is_tab (after_first is_tab l);
  text = after_first is_tab (after_first is_tab l);
}

-- ---- facets
-- the byte is a space, U+0020 and no other
abbrev pub is_space : ℕ → Bool
is_space b = b == space

-- the byte is a colon
abbrev pub is_colon : ℕ → Bool
is_colon b = b == colon

-- the byte is the sign `=`
abbrev pub is_equals : ℕ → Bool
is_equals b = b == equals_sign

-- bytes without the spaces at their end; of spaces alone nothing is left
abbrev pub without_spaces_behind : List ℕ → List ℕ
without_spaces_behind bs = take (length bs - suffix_len is_space bs) bs

-- bytes without the spaces at both ends; of spaces alone nothing is left
abbrev pub without_spaces : List ℕ → List ℕ
without_spaces bs = without_spaces_behind (drop (prefix_len is_space bs) bs)

-- the pieces between the semicolons of a facets column that aren't spaces alone; none for the empty column
abbrev pub facet_pieces : List ℕ → List (List ℕ)
facet_pieces column = filter is_filled (map without_spaces (slice_split (λ b. b == semicolon) column))

-- the byte is a letter a to z
abbrev pub is_small_letter : ℕ → Bool
is_small_letter b = is_in_range letter_a letter_z b

-- the byte is a letter a to z or a digit
abbrev pub is_name_byte : ℕ → Bool
is_name_byte b = is_small_letter b || is_in_range digit_0 digit_9 b

-- the first byte is a letter a to z; the empty text has no first byte
abbrev pub begins_with_letter : List ℕ → Bool
begins_with_letter [] = false
begins_with_letter (b ∷ bs) = is_small_letter b

-- the form of a facet's name, of 1 to 16 bytes; the empty text hasn't this form
abbrev pub has_name_form : List ℕ → Bool
has_name_form n = begins_with_letter n && (list_all is_name_byte n && nat_le (length n) MAX_NAME_BYTES)

-- the name in a piece, by its key text; where there is no `=`, it is that of the whole piece
abbrev pub piece_name : List ℕ → List ℕ
piece_name p = norm (without_spaces_behind (before_first is_equals p))

-- the value in a piece; where there is no `=`, it is empty
abbrev pub piece_value : List ℕ → List ℕ
piece_value p = after_first is_equals p

-- the word of the facet `name` with this value, which may be empty
abbrev pub named : List ℕ → List ℕ → List ℕ
named name value = colon ∷ name ++ colon ∷ value

-- the facet word that a piece gives; None where its value has no word
abbrev pub facet_word : List ℕ → Option (List ℕ)
facet_word p = option_map (named (piece_name p)) (slug (piece_value p))

-- the facet words of a column, from the left, one that stands twice listed twice; none where no piece gives one
abbrev pub facet_words : List ℕ → List (List ℕ)
facet_words column = filter_map facet_word (facet_pieces column)

-- ---- refusals
-- why a collection isn't accepted, with the refused line's number among all lines, from 1, where it is one line's fault
pub data CollectionRefusal : Type 0 where
  too_large : CollectionRefusal
  not_utf8 : ℕ → CollectionRefusal
  line_too_long : ℕ → CollectionRefusal
  bad_weights : ℕ → CollectionRefusal
  words_too_many : ℕ → CollectionRefusal
  bad_facet : ℕ → CollectionRefusal
  bad_name : ℕ → CollectionRefusal
  too_many_docs : ℕ → CollectionRefusal
  too_many_rows : CollectionRefusal
  too_many_words : CollectionRefusal

-- what is said of a line; lines are numbered from 1
abbrev pub in_line : ℕ → List ℕ → List ℕ
in_line n words = codes "line " ++ (decimal n ++ (codes ": " ++ words))

-- why a collection isn't accepted, in words without an ending
abbrev pub refusal_words : CollectionRefusal → List ℕ
refusal_words too_large = codes "too large"
refusal_words (not_utf8 n) = in_line n (codes "not UTF-8")
refusal_words (line_too_long n) = in_line n (codes "line too long")
refusal_words (bad_weights n) = in_line n (codes "bad weights")
refusal_words (words_too_many n) = in_line n (codes "too many words")
refusal_words (bad_facet n) = in_line n (codes "bad facet")
refusal_words (bad_name n) = in_line n (codes "bad facet name")
refusal_words (too_many_docs n) = in_line n (codes "too many documents")
refusal_words too_many_rows = codes "too many rows"
refusal_words too_many_words = codes "too many distinct words"

-- the refusal of a piece of facets on the line of number n; None where a name stands before an `=`
abbrev pub piece_refusal : ℕ → List ℕ → Option CollectionRefusal
piece_refusal n p = first_reason (unless (list_any is_equals p) (bad_facet n) ∷ unless (has_name_form (piece_name p)) (bad_name n) ∷ [])

-- how many words title and text have together, those of facets not counted; 0 where neither has one
abbrev pub word_count : Columns → ℕ
word_count cs = length (words cs.title) + length (words cs.text)

-- the refusal of a line, with its pieces of facets from the left; None where it breaks no rule
abbrev pub line_refusal : DocLine → Option CollectionRefusal
line_refusal l = first_reason (
    unless (is_utf8 l.bytes) (not_utf8 l.line)
    ∷ unless (nat_le (length l.bytes) MAX_LINE_BYTES) (line_too_long l.line)
    ∷ unless (nat_le (word_count (columns l.bytes)) MAX_DOC_WORDS) (words_too_many l.line)
    ∷ first_reason (map (piece_refusal l.line) (facet_pieces (columns l.bytes).facets))
    ∷ unless (nat_lt l.doc MAX_DOCS) (too_many_docs l.line)
    ∷ [])

-- the refusal of a weights line; None where it has the form that says weights
abbrev pub weights_refusal : ℕ × List ℕ → Option CollectionRefusal
weights_refusal l = first_reason (
    unless (is_utf8 l.1) (not_utf8 l.0)
    ∷ unless (nat_le (length l.1) MAX_LINE_BYTES) (line_too_long l.0)
    ∷ unless (is_some (weights_said l.1)) (bad_weights l.0)
    ∷ [])

-- the first refusal of a collection by its size and its lines, rows not counted; None where there is none, as in the empty
-- one
abbrev pub docs_refusal : List ℕ → Option CollectionRefusal
docs_refusal c = first_reason (unless (nat_le (length c) MAX_COLLECTION_BYTES) too_large ∷ (map weights_refusal (weights_lines c) ++ map line_refusal (doc_lines c)))

-- ---- documents
-- the document of a line, which keeps the line's number
abbrev pub document : DocLine → Doc
document l = record { title = (columns l.bytes).title; facets = (columns l.bytes).facets; text = (columns l.bytes).text; line = l.line }

-- the documents of a collection, which count only where its `docs_refusal` is None; the empty collection has none
abbrev pub documents : List ℕ → List Doc
documents c = map document (doc_lines c)

-- ---- plain collections: titles in printable ASCII, of which one law speaks
-- LF, or from space to tilde other than the double quote and the backslash
abbrev pub is_plain_byte : ℕ → Bool
is_plain_byte b = (b == line_feed) || (is_in_range space tilde b && (not (b == double_quote) && not (b == backslash)))

-- a collection of at most 65,536 such bytes; the empty collection is one
abbrev pub is_plain : List ℕ → Bool
is_plain c = nat_le (length c) 65536 && list_all is_plain_byte c
