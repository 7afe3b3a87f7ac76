-- The definitions on three worked index files: that of the empty collection, that of one document with the title `Ab`, the facet
-- `k=C` and the text `b a`, and that of this document with other weights.
use Rattle.std.proofs.Common.{◌≡◌, List, ℕ, [], ◌∷◌, ◌++◌, set, take, drop, Some, None, Option, refl, sym, ◌∙◌, ap, subst, codes}
use Rattle.std.specs.Char.{encode_utf8}
use Rattle.std.specs.Str.{chars, is_utf8}
use Rattle.std.specs.Prelude.{map, flat_map}
use Rattle.std.specs.List.{range_with_len, enumerate_from}
use Rattle.std.specs.Ordering.{nat_cmp}
use Rattle.std.specs.Cmp.Lexicographic.{slice_cmp}
use Rattle.std.proofs.lemmas.Cmp.{nat_list_cmp_total}
use Rattle.cs_base.specs.index.GapCode.{code_in, code, looked_at, value_of, first_code}
use Rattle.cs_base.specs.declared.index.block.Broken.{Broken}
use Rattle.cs_base.specs.declared.content.doc.Row.{Row}
use Rattle.cs_base.specs.declared.content.scores.TheConstants.{USUAL_WEIGHTS}
use Rattle.cs_base.specs.declared.content.scores.Weights.{Weights}
use Rattle.caseless.proofs.Computing.{caseless}
use Rattle.ucd_category.proofs.Computing.{ucd_category}
use Rattle.unicode.specs.GeneralCategory.{general_category}
use Rattle.cs_base.proofs.OrdersLemmas.{by_row_total}
use Rattle.cs_base.specs.content.Orders.{by_row}
use Rattle.cs_model.specs.KeyText.{norm}
use Rattle.cs_model.specs.Words.{is_word_char, cut, words}
use Rattle.cs_model.specs.Collection.{documents, weights}
use Rattle.cs_model.specs.Corpus.{Corpus, by_number, distinct_words, doc_rows, rows_of, corpus}
use Rattle.cs_model.specs.Weights.{weights_said}
use Rattle.cs_model.proofs.ListedMembers.{members-listed}
use Rattle.cs_model_index.specs.Blocks.{gap_column, word_column, position_column, score_column, block_bytes}
use Rattle.cs_model_index.specs.BlockRules.{codes_break, items_in, first_break, judged, rows_read}
use Rattle.cs_model_index.specs.Images.{Image, image_by, count_in, heads_from, IsImage, image_rows, image_corpus}
use Rattle.cs_model_index.specs.BlockBounds.{least_of, greatest_of}
use Rattle.cs_model_index.specs.Partitions.{IsPartition}
use Rattle.cs_model_index.specs.declared.limits.TheConstants.{TARGET}
use Rattle.cs_model_index.specs.Layout.{header_bytes, vocabulary_bytes, offsets_from, offset_bytes, directory_bytes, blocks_bytes, entry_size, file, file_in, file1}
use Rattle.cs_model_index.specs.Sections.{number_at, vocabulary_in, numbers_in, heads_in, heads_by, bounds_in, blocks_in, image_of}
use Rattle.cs_model_index.specs.WeightsField.{field_of, is_field, three_bytes, weights_of}
use Rattle.cs_model_index.specs.FileRules.{laid, break_of, words_break, blocks_break, damage}
use lib.Utf8

abbrev broken : ℕ → ℕ → Option Broken
broken n at = Some (record { n = n; at = at })

-- ---- the empty collection

abbrev empty_image : Image
empty_image = image_by [] [] [] TARGET USUAL_WEIGHTS

parted-none : IsPartition TARGET (count_in []) (distinct_words []) []
parted-none = record { joined = sym (members-listed (slice_cmp nat_cmp) nat_list_cmp_total []); each = refl; ended = refl }

rows-none : rows_of USUAL_WEIGHTS (documents []) ≡ []
rows-none = members-listed by_row by_row_total []

-- it is the image of the empty collection
image-none : IsImage (corpus []) TARGET USUAL_WEIGHTS empty_image
image-none = record {
  titles = refl;
  runs = [];
  parted = subst (λ rows. IsPartition TARGET (count_in rows) (distinct_words rows) []) (sym rows-none) parted-none;
  made = ap (λ rows. image_by [] rows [] TARGET USUAL_WEIGHTS) (sym rows-none);
}

abbrev empty_bytes : List ℕ
empty_bytes =
    72 ∷ 89 ∷ 66 ∷ 73 ∷ 68 ∷ 88 ∷ 49 ∷ 10 ∷ 0 ∷ 0 ∷ 0 ∷ 0 ∷ 0 ∷ 0 ∷ 0 ∷ 0 ∷ 0 ∷ 0 ∷ 0 ∷ 0
    ∷ 0 ∷ 0 ∷ 0 ∷ 0 ∷ 0 ∷ 0 ∷ 32 ∷ 0 ∷ 0 ∷ 0 ∷ 0 ∷ 0 ∷ 0 ∷ 0 ∷ 0 ∷ 0 ∷ 0 ∷ 0 ∷ 0 ∷ 0
    ∷ 0 ∷ 0 ∷ 0 ∷ 0 ∷ 0 ∷ 0 ∷ 0 ∷ 0 ∷ []

file-empty : file1 (empty_image) ≡ empty_bytes
unfolding file_in entry_size least_of greatest_of header_bytes vocabulary_bytes offset_bytes offsets_from directory_bytes blocks_bytes heads_from field_of three_bytes
file-empty = refl

image-empty : image_of empty_bytes ≡ empty_image
unfolding image_of entry_size heads_by bounds_in least_of greatest_of number_at vocabulary_in numbers_in heads_in blocks_in heads_from weights_of
image-empty = refl

damage-empty : damage empty_bytes ≡ None
unfolding damage entry_size heads_by bounds_in least_of greatest_of number_at vocabulary_in numbers_in heads_in blocks_in laid break_of words_break blocks_break weights_of is_field three_bytes
damage-empty = refl

-- ---- one document

abbrev worked_rows : List Row
worked_rows =
    record { doc = 0; word = codes ":k:c"; pos = 0; score = 2 }
    ∷ record { doc = 0; word = codes "ab"; pos = 1; score = 4 }
    ∷ record { doc = 0; word = codes "b"; pos = 10; score = 1 }
    ∷ record { doc = 0; word = codes "a"; pos = 11; score = 1 }
    ∷ []

words-worked : distinct_words worked_rows ≡ codes ":k:c" ∷ codes "a" ∷ codes "ab" ∷ codes "b" ∷ []
words-worked = members-listed (slice_cmp nat_cmp) nat_list_cmp_total (map (λ r. r.word) worked_rows)

abbrev worked_runs : List (List (List ℕ))
worked_runs = (codes ":k:c" ∷ []) ∷ (codes "a" ∷ codes "ab" ∷ codes "b" ∷ []) ∷ []

abbrev worked_image : Image
worked_image = image_by (codes "Ab" ∷ []) worked_rows worked_runs TARGET USUAL_WEIGHTS

-- the words are parted by their kinds
parted-worked : IsPartition TARGET (count_in worked_rows) (distinct_words worked_rows) worked_runs
parted-worked = record { joined = sym words-worked; each = refl; ended = refl }

abbrev worked_text : List ℕ
worked_text = codes "Ab\tk=C\tb a"

rows-worked : rows_of USUAL_WEIGHTS (documents worked_text) ≡ worked_rows
unfolding words norm chars cut caseless is_word_char general_category ucd_category lib.Utf8.encode
rows-worked = members-listed by_row by_row_total (flat_map (doc_rows USUAL_WEIGHTS) (enumerate_from 0 (documents worked_text)))

-- so it is the image of the collection
image-is : IsImage (corpus worked_text) TARGET USUAL_WEIGHTS worked_image
image-is = record {
  titles = refl;
  runs = worked_runs;
  parted = subst (λ rows. IsPartition TARGET (count_in rows) (distinct_words rows) worked_runs) (sym rows-worked) parted-worked;
  made = ap (λ rows. image_by (codes "Ab" ∷ []) rows worked_runs TARGET USUAL_WEIGHTS) (sym rows-worked);
}

-- and its corpus is that of the collection
corpus-is : image_corpus worked_image ≡ corpus worked_text
corpus-is = ap (λ rows. let k : Corpus = record { titles = by_number (codes "Ab" ∷ []); rows = rows } in k) (members-listed by_row by_row_total (image_rows worked_image) ∙ sym rows-worked)

abbrev worked_bytes : List ℕ
worked_bytes =
    72 ∷ 89 ∷ 66 ∷ 73 ∷ 68 ∷ 88 ∷ 49 ∷ 10 ∷ 0 ∷ 0 ∷ 0 ∷ 1 ∷ 0 ∷ 0 ∷ 0 ∷ 4 ∷ 0 ∷ 0 ∷ 0 ∷ 4
    ∷ 0 ∷ 0 ∷ 0 ∷ 2 ∷ 0 ∷ 0 ∷ 32 ∷ 0 ∷ 0 ∷ 0 ∷ 0 ∷ 12 ∷ 0 ∷ 0 ∷ 0 ∷ 2 ∷ 0 ∷ 0 ∷ 0 ∷ 32
    ∷ 0 ∷ 0 ∷ 0 ∷ 0 ∷ 4 ∷ 58 ∷ 107 ∷ 58 ∷ 99 ∷ 1 ∷ 97 ∷ 2 ∷ 97 ∷ 98 ∷ 1 ∷ 98 ∷ 0 ∷ 0 ∷ 0 ∷ 0
    ∷ 0 ∷ 0 ∷ 0 ∷ 2 ∷ 65 ∷ 98 ∷ 0 ∷ 0 ∷ 0 ∷ 0 ∷ 0 ∷ 0 ∷ 0 ∷ 1 ∷ 0 ∷ 0 ∷ 0 ∷ 1 ∷ 0 ∷ 0
    ∷ 0 ∷ 8 ∷ 0 ∷ 0 ∷ 0 ∷ 1 ∷ 0 ∷ 0 ∷ 0 ∷ 3 ∷ 0 ∷ 0 ∷ 0 ∷ 3 ∷ 0 ∷ 0 ∷ 0 ∷ 24 ∷ 0 ∷ 0
    ∷ 0 ∷ 0 ∷ 0 ∷ 0 ∷ 0 ∷ 2 ∷ 0 ∷ 0 ∷ 0 ∷ 0 ∷ 1 ∷ 0 ∷ 2 ∷ 0 ∷ 0 ∷ 0 ∷ 0 ∷ 0 ∷ 1 ∷ 0
    ∷ 0 ∷ 0 ∷ 10 ∷ 0 ∷ 0 ∷ 0 ∷ 11 ∷ 4 ∷ 1 ∷ 1 ∷ []

file-worked : file1 worked_image ≡ worked_bytes
unfolding file_in entry_size least_of greatest_of header_bytes vocabulary_bytes offset_bytes offsets_from directory_bytes blocks_bytes heads_from block_bytes gap_column word_column position_column score_column code code_in field_of three_bytes
file-worked = refl

image-worked : image_of worked_bytes ≡ worked_image
unfolding image_of entry_size heads_by bounds_in least_of greatest_of number_at vocabulary_in numbers_in heads_in blocks_in heads_from block_bytes gap_column word_column position_column score_column rows_read items_in first_code looked_at value_of code code_in weights_of
image-worked = refl

damage-worked : damage worked_bytes ≡ None
unfolding damage entry_size heads_by bounds_in least_of greatest_of number_at vocabulary_in numbers_in heads_in blocks_in laid break_of words_break blocks_break judged rows_read codes_break items_in first_break first_code looked_at value_of code code_in chars is_utf8 is_word_char lib.Utf8.encode weights_of is_field three_bytes
damage-worked = refl

-- ---- damage

-- cut within the header
damage-cut_header : map (λ n. damage (take n worked_bytes)) (range_with_len 0 44) ≡ map (broken 1) (range_with_len 0 44)
unfolding damage entry_size heads_by bounds_in least_of greatest_of number_at vocabulary_in numbers_in heads_in blocks_in laid break_of words_break blocks_break judged rows_read codes_break items_in first_break first_code looked_at value_of code code_in chars is_utf8 is_word_char lib.Utf8.encode weights_of is_field three_bytes
damage-cut_header = refl

-- cut behind it
damage-cut : map (λ n. damage (take n worked_bytes)) (range_with_len 44 86) ≡ map (broken 4) (range_with_len 44 86)
unfolding damage entry_size heads_by bounds_in least_of greatest_of number_at vocabulary_in numbers_in heads_in blocks_in laid break_of words_break blocks_break judged rows_read codes_break items_in first_break first_code looked_at value_of code code_in chars is_utf8 is_word_char lib.Utf8.encode weights_of is_field three_bytes
damage-cut = refl

-- with one byte more
damage-longer : damage (worked_bytes ++ 0 ∷ []) ≡ broken 4 131
unfolding damage entry_size heads_by bounds_in least_of greatest_of number_at vocabulary_in numbers_in heads_in blocks_in laid break_of words_break blocks_break judged rows_read codes_break items_in first_break first_code looked_at value_of code code_in chars is_utf8 is_word_char lib.Utf8.encode weights_of is_field three_bytes
damage-longer = refl

-- one byte set to another value, and the first broken rule with its place
abbrev set_bytes : List (ℕ × ℕ × Option Broken)
set_bytes =
    (0, 0, broken 2 0)
    ∷ (26, 0, broken 3 24)
    ∷ (43, 1, broken 3 40)
    ∷ (15, 5, broken 5 56)
    ∷ (15, 3, broken 5 54)
    ∷ (44, 0, broken 5 44)
    ∷ (50, 32, broken 6 49)
    ∷ (50, 98, broken 7 51)
    ∷ (50, 65, None)
    ∷ (59, 1, broken 8 56)
    ∷ (63, 1, broken 8 60)
    ∷ (64, 255, broken 9 64)
    ∷ (69, 1, broken 10 66)
    ∷ (89, 2, broken 10 98)
    ∷ (77, 2, broken 12 66)
    ∷ (19, 5, broken 12 98)
    ∷ (106, 128, broken 13 106)
    ∷ (98, 1, broken 14 98)
    ∷ (110, 3, broken 15 109)
    ∷ (105, 1, broken 16 101)
    ∷ (129, 3, broken 16 123)
    ∷ (122, 12, broken 17 108)
    ∷ (112, 1, broken 18 82)
    ∷ []

damage-set : map (λ e. damage (set worked_bytes e.0 e.1)) set_bytes ≡ map (λ e. e.2) set_bytes
unfolding damage entry_size heads_by bounds_in least_of greatest_of number_at vocabulary_in numbers_in heads_in blocks_in laid break_of words_break blocks_break judged rows_read codes_break items_in first_break first_code looked_at value_of code code_in chars is_utf8 is_word_char lib.Utf8.encode weights_of is_field three_bytes
damage-set = refl

-- the first block has two words, of two kinds
damage-kinds : damage (set (set (set worked_bytes 73 2) 85 2) 89 2) ≡ broken 11 66
unfolding damage entry_size heads_by bounds_in least_of greatest_of number_at vocabulary_in numbers_in heads_in blocks_in laid break_of words_break blocks_break judged rows_read codes_break items_in first_break first_code looked_at value_of code code_in chars is_utf8 is_word_char lib.Utf8.encode weights_of is_field three_bytes
damage-kinds = refl

-- ---- the same document in version 2
abbrev zeros : List ℕ
zeros = 0 ∷ 0 ∷ 0 ∷ 0 ∷ 0 ∷ 0 ∷ 0 ∷ 0 ∷ []

-- the other version's number, and bounds behind each entry of the directory
abbrev worked_bytes2 : List ℕ
worked_bytes2 = set (take 82 worked_bytes) 6 50 ++ (zeros ++ (take 16 (drop 82 worked_bytes) ++ (zeros ++ drop 98 worked_bytes)))

file-worked2 : file worked_image ≡ worked_bytes2
unfolding file_in entry_size least_of greatest_of header_bytes vocabulary_bytes offset_bytes offsets_from directory_bytes blocks_bytes heads_from block_bytes gap_column word_column position_column score_column code code_in field_of three_bytes
file-worked2 = refl

image-worked2 : image_of worked_bytes2 ≡ worked_image
unfolding image_of entry_size heads_by bounds_in least_of greatest_of number_at vocabulary_in numbers_in heads_in blocks_in heads_from block_bytes gap_column word_column position_column score_column rows_read items_in first_code looked_at value_of code code_in weights_of
image-worked2 = refl

abbrev set_bytes2 : List (ℕ × ℕ × Option Broken)
set_bytes2 =
    (6, 50, None)
    ∷ (6, 51, broken 2 0)
    ∷ (6, 49, broken 4 146)
    ∷ (85, 1, broken 19 66)
    ∷ (89, 1, broken 19 66)
    ∷ (113, 1, broken 19 90)
    ∷ (90, 1, broken 10 90)
    ∷ []

damage-set2 : map (λ e. damage (set worked_bytes2 e.0 e.1)) set_bytes2 ≡ map (λ e. e.2) set_bytes2
unfolding damage entry_size heads_by bounds_in least_of greatest_of number_at vocabulary_in numbers_in heads_in blocks_in laid break_of words_break blocks_break judged rows_read codes_break items_in first_break first_code looked_at value_of code code_in chars is_utf8 is_word_char lib.Utf8.encode weights_of is_field three_bytes
damage-set2 = refl

-- ---- the same document with other weights

abbrev weighted_text : List ℕ
weighted_text = codes "#weights title=9 facet=3 text=2\nAb\tk=C\tb a"

abbrev other_weights : Weights
other_weights = record { title = 9; facet = 3; text = 2 }

weights-read : weights weighted_text ≡ other_weights
unfolding weights_said
weights-read = refl

abbrev weighted_rows : List Row
weighted_rows =
    record { doc = 0; word = codes ":k:c"; pos = 0; score = 3 }
    ∷ record { doc = 0; word = codes "ab"; pos = 1; score = 9 }
    ∷ record { doc = 0; word = codes "b"; pos = 10; score = 2 }
    ∷ record { doc = 0; word = codes "a"; pos = 11; score = 2 }
    ∷ []

words-weighted : distinct_words weighted_rows ≡ codes ":k:c" ∷ codes "a" ∷ codes "ab" ∷ codes "b" ∷ []
words-weighted = members-listed (slice_cmp nat_cmp) nat_list_cmp_total (map (λ r. r.word) weighted_rows)

parted-weighted : IsPartition TARGET (count_in weighted_rows) (distinct_words weighted_rows) worked_runs
parted-weighted = record { joined = sym words-weighted; each = refl; ended = refl }

rows-weighted : rows_of (weights weighted_text) (documents weighted_text) ≡ weighted_rows
unfolding words norm chars cut caseless is_word_char general_category ucd_category lib.Utf8.encode weights_said
rows-weighted = members-listed by_row by_row_total (flat_map (doc_rows other_weights) (enumerate_from 0 (documents weighted_text)))

abbrev weighted_image : Image
weighted_image = image_by (codes "Ab" ∷ []) weighted_rows worked_runs TARGET other_weights

-- it is the image of the collection whose first line says these weights
image-weighted : IsImage (corpus weighted_text) TARGET other_weights weighted_image
image-weighted = record {
  titles = refl;
  runs = worked_runs;
  parted = subst (λ rows. IsPartition TARGET (count_in rows) (distinct_words rows) worked_runs) (sym rows-weighted) parted-weighted;
  made = ap (λ rows. image_by (codes "Ab" ∷ []) rows worked_runs TARGET other_weights) (sym rows-weighted);
}

-- the worked bytes, with the weights in the header and as scores
abbrev weighted_bytes : List ℕ
weighted_bytes = set (set (set (set (set (set (set worked_bytes 41 9) 42 3) 43 2) 105 3) 127 9) 128 2) 129 2

file-weighted : file1 weighted_image ≡ weighted_bytes
unfolding file_in entry_size least_of greatest_of header_bytes vocabulary_bytes offset_bytes offsets_from directory_bytes blocks_bytes heads_from block_bytes gap_column word_column position_column score_column code code_in field_of three_bytes
file-weighted = refl

read-weighted : image_of weighted_bytes ≡ weighted_image
unfolding image_of entry_size heads_by bounds_in least_of greatest_of number_at vocabulary_in numbers_in heads_in blocks_in heads_from block_bytes gap_column word_column position_column score_column rows_read items_in first_code looked_at value_of code code_in weights_of
read-weighted = refl

damage-weighted : damage weighted_bytes ≡ None
unfolding damage entry_size heads_by bounds_in least_of greatest_of number_at vocabulary_in numbers_in heads_in blocks_in laid break_of words_break blocks_break judged rows_read codes_break items_in first_break first_code looked_at value_of code code_in chars is_utf8 is_word_char lib.Utf8.encode weights_of is_field three_bytes
damage-weighted = refl

-- a byte in front of the weights, a weight that is none, and scores that aren't the weight of their column
abbrev weighted_sets : List (ℕ × ℕ × Option Broken)
weighted_sets =
    (40, 1, broken 3 40)
    ∷ (41, 0, broken 3 40)
    ∷ (42, 0, broken 3 40)
    ∷ (43, 0, broken 3 40)
    ∷ (42, 4, broken 16 101)
    ∷ (105, 2, broken 16 101)
    ∷ (127, 4, broken 16 115)
    ∷ (129, 1, broken 16 123)
    ∷ []

damage-weighted_set : map (λ e. damage (set weighted_bytes e.0 e.1)) weighted_sets ≡ map (λ e. e.2) weighted_sets
unfolding damage entry_size heads_by bounds_in least_of greatest_of number_at vocabulary_in numbers_in heads_in blocks_in laid break_of words_break blocks_break judged rows_read codes_break items_in first_break first_code looked_at value_of code code_in chars is_utf8 is_word_char lib.Utf8.encode weights_of is_field three_bytes
damage-weighted_set = refl

-- the usual weights have the number 0 and no other
damage-usual : damage (set (set (set worked_bytes 41 4) 42 2) 43 1) ≡ broken 3 40
unfolding damage entry_size heads_by bounds_in least_of greatest_of number_at vocabulary_in numbers_in heads_in blocks_in laid break_of words_break blocks_break judged rows_read codes_break items_in first_break first_code looked_at value_of code code_in chars is_utf8 is_word_char lib.Utf8.encode weights_of is_field three_bytes
damage-usual = refl
