-- Weights have a line that says them, and behind it a line that isn't refused is the only document of a collection.
--
--   three n            a number below 1,000 in three digits
--   weights_text w     the line of weights from 1 to the greatest
--   only_document      the collection
use Rattle.std.proofs.Common.{◌≡◌, ◌≢◌, ℕ, ◌+◌, ◌-◌, ◌<◌, ◌≤◌, ◌/◌, ◌%◌, ◌==◌, Bool, true, false, ◌&&◌, ◌||◌, cond, nat_le, List, [], ◌∷◌, ◌++◌, length, map, take, get_or, refl, sym, ap, ◌∙◌, arith}
use Rattle.std.specs.Prelude.{codes, if◌then◌else◌, nat_lt, Some, None}
use Rattle.std.specs.Int.{is_in_range}
use Rattle.std.specs.List.{All, AllByRecursion, enumerate_from, list_all, list_any, range_with_len, slice_split}
use Rattle.std.specs.Option.{is_some, unwrap_or}
use Rattle.std.specs.Str.{is_utf8}
use Rattle.std.specs.Str.Lines.{lines, lines_of_parts, strip_carriage_return}
use Rattle.std.proofs.lemmas.Bool.Decides.{nat_tests}
use Rattle.std.proofs.lemmas.List.Elements.{All-from_recursion}
use Rattle.std.proofs.lemmas.List.Folds.{list_all_at}
use Rattle.std.proofs.lemmas.List.FromFn.{get_or-range_with_len, length-range_with_len}
use Rattle.std.proofs.lemmas.List.Splits.{slice_split_at, slice_split_none}
use Rattle.std.proofs.lemmas.Str.{IsUtf8-from_ascii, is_utf8-from_IsUtf8}
use Rattle.std.proofs.lemmas.Str.Ascii.{IsAscii-from_all}
use Rattle.cs_base.specs.declared.content.limits.TheConstants.{MAX_LINE_BYTES, MAX_SCRIPT_LINE_BYTES}
use Rattle.cs_base.specs.declared.content.scores.TheConstants.{MAX_ROW_SCORE, MAX_WEIGHT_DIGITS, USUAL_WEIGHTS}
use Rattle.cs_base.specs.declared.content.scores.Weights.{Weights}
use Rattle.cs_docs.proofs.LinesLemmas.{small_refusal}
use Rattle.cs_docs.proofs.WeightsLemmas.{named_docs, named_line, said_by}
use Rattle.cs_docs.specs.LinesRead.{doc_lines_of, doc_lines_from, weights_lines_of}
use Rattle.cs_model.specs.Collection.{bad_weights, doc_line, doc_lines, docs_refusal, document, is_space, line_refusal, line_too_long, not_utf8, weights_lines, weights_of_lines, weights_refusal}
use Rattle.cs_model.specs.Digits.{has_digits, number_of}
use Rattle.cs_model.specs.First.{first_reason, unless}
use Rattle.cs_model.specs.Weights.{AreWeights, weight_of, weights_by, weights_said}
use Rattle.cs_model.specs.Words.{is_filled}
use Rattle.cs_model_live.specs.LiveLines.{second_line}
use Rattle.cs_live_lines.specs.LineViews.{IsOnlyDocument}

-- ---- tests
both : (a b : Bool) → (a && b) ≡ true → (a ≡ true) × (b ≡ true)
both true b h = (refl, h)
both false b h = absurd (cc)

left_false : (a b : Bool) → (a || b) ≡ false → a ≡ false
left_false true b h = h
left_false false b h = refl

right_false : (a b : Bool) → (a || b) ≡ false → b ≡ false
right_false true b h = absurd (cc)
right_false false b h = h

-- ---- numbers
abbrev three : ℕ → List ℕ
three n = (48 + n / 100) ∷ (48 + n / 10 % 10) ∷ (48 + n % 10) ∷ []

-- the digits spell the number, and are ASCII
abbrev is_spelled : ℕ → Bool
is_spelled n = (has_digits MAX_WEIGHT_DIGITS (three n) && is_in_range 1 MAX_ROW_SCORE (number_of (three n))) && ((number_of (three n) == n) && list_all (λ b. nat_lt b 128) (three n))

all_spelled : list_all is_spelled (range_with_len 1 255) ≡ true
all_spelled = refl

spelled : (n : ℕ) → 1 ≤ n → n ≤ 255 → is_spelled n ≡ true
spelled n l h = at (is_spelled n) refl
  where
    at : (b : Bool) → is_spelled n ≡ b → is_spelled n ≡ true
    at true e = e
    at false e =
        let here : get_or (range_with_len 1 255) (n - 1) 0 ≡ n = let at = get_or-range_with_len 1 255 (n - 1) 0 (omega arith) in omega (arith, at) in
        let some : n - 1 < length (range_with_len 1 255) = let long = length-range_with_len 1 255 in omega (arith, long) in
        let no : list_all is_spelled (range_with_len 1 255) ≡ false = list_all_at is_spelled (range_with_len 1 255) (n - 1) 0 some (ap is_spelled here ∙ e) in
        let wrong : true ≡ false = sym all_spelled ∙ no in
        absurd (cc)

weight_by : (s : Bool) (m n : ℕ) → s ≡ true → m ≡ n → (if s then Some m else None) ≡ Some n
weight_by true m n h e = ap (λ x. Some x) e
weight_by false m n h e = absurd (cc)

weight_is : (n : ℕ) → 1 ≤ n → n ≤ 255 → weight_of (three n) ≡ Some n
weight_is n l h =
    let fits = has_digits MAX_WEIGHT_DIGITS (three n) && is_in_range 1 MAX_ROW_SCORE (number_of (three n)) in
    let ascii = list_all (λ b. nat_lt b 128) (three n) in
    let all : (fits ≡ true) × (((number_of (three n) == n) && ascii) ≡ true) = both fits ((number_of (three n) == n) && ascii) (spelled n l h) in
    let value : (number_of (three n) == n) ≡ true = (both (number_of (three n) == n) ascii all.1).0 in
    let same : number_of (three n) ≡ n = grind (arith, nat_tests) in
    weight_by (has_digits MAX_WEIGHT_DIGITS (three n) && is_in_range 1 MAX_ROW_SCORE (number_of (three n))) (number_of (three n)) n all.0 same

is_low : ℕ → Bool
is_low b = nat_lt b 128

-- ---- the line
abbrev from_text : Weights → List ℕ
from_text w = codes " text=" ++ three w.text

abbrev from_facet : Weights → List ℕ
from_facet w = codes " facet=" ++ (three w.facet ++ from_text w)

abbrev weights_text : Weights → List ℕ
weights_text w = codes "#weights title=" ++ (three w.title ++ from_facet w)

-- a byte that no digit is stands nowhere in it, if it stands in no word of it
module _ (p : ℕ → Bool) (digit : (k : ℕ) → p (48 + k) ≡ false) where
  abbrev Has_none : List ℕ → Type 0
  Has_none s = AllByRecursion (λ b. p b ≡ false) s

  word_none : (s r : List ℕ) → list_any p s ≡ false → Has_none r → Has_none (s ++ r)
  word_none [] r h k = k
  word_none (b ∷ s) r h k = (left_false (p b) (list_any p s) h, word_none s r (right_false (p b) (list_any p s) h) k)

  three_none : (n : ℕ) (r : List ℕ) → Has_none r → Has_none (three n ++ r)
  three_none n r k = (digit _, (digit _, (digit _, k)))

  piece_none : (name : List ℕ) (n : ℕ) → list_any p name ≡ false → Has_none (name ++ three n)
  piece_none name n h = word_none name (three n) h (three_none n [] tt)

  text_none : (w : Weights) → list_any p (codes "#weights title=") ≡ false → list_any p (codes " facet=") ≡ false → list_any p (codes " text=") ≡ false → Has_none (weights_text w)
  text_none w a b c =
      let text : Has_none (from_text w) = word_none (codes " text=") (three w.text) c (three_none w.text [] tt) in
      let facet : Has_none (from_facet w) = word_none (codes " facet=") (three w.facet ++ from_text w) b (three_none w.facet (from_text w) text) in
      word_none (codes "#weights title=") (three w.title ++ from_facet w) a (three_none w.title (from_facet w) facet)

not_space : (k : ℕ) → is_space (48 + k) ≡ false
not_space k = grind (arith, nat_tests)

not_feed : (k : ℕ) → ((48 + k) == 10) ≡ false
not_feed k = grind (arith, nat_tests)

not_return : (k : ℕ) → ((48 + k) == 13) ≡ false
not_return k = grind (arith, nat_tests)

-- its pieces
abbrev title_piece : Weights → List ℕ
title_piece w = codes "title=" ++ three w.title

abbrev facet_piece : Weights → List ℕ
facet_piece w = codes "facet=" ++ three w.facet

abbrev text_piece : Weights → List ℕ
text_piece w = codes "text=" ++ three w.text

pieces_are : (w : Weights) → slice_split is_space (weights_text w) ≡ codes "#weights" ∷ title_piece w ∷ facet_piece w ∷ text_piece w ∷ []
pieces_are w =
    slice_split_at is_space (codes "#weights") 32 (title_piece w ++ 32 ∷ (facet_piece w ++ 32 ∷ text_piece w)) (All-from_recursion (λ b. is_space b ≡ false) (codes "#weights") (word_none is_space not_space (codes "#weights") [] refl tt)) refl
    ∙ ap (λ ps. codes "#weights" ∷ ps) (
    slice_split_at is_space (title_piece w) 32 (facet_piece w ++ 32 ∷ text_piece w) (All-from_recursion (λ b. is_space b ≡ false) (title_piece w) (piece_none is_space not_space (codes "title=") w.title refl)) refl
    ∙ ap (λ ps. title_piece w ∷ ps) (
    slice_split_at is_space (facet_piece w) 32 (text_piece w) (All-from_recursion (λ b. is_space b ≡ false) (facet_piece w) (piece_none is_space not_space (codes "facet=") w.facet refl)) refl
    ∙ ap (λ ps. facet_piece w ∷ ps) (slice_split_none is_space (text_piece w) (All-from_recursion (λ b. is_space b ≡ false) (text_piece w) (piece_none is_space not_space (codes "text=") w.text refl)))
    )
    )

said_is : (w : Weights) → AreWeights w → weights_said (weights_text w) ≡ Some w
said_is w h =
    let title = weight_is w.title h.title_from h.title_to in
    let facet = weight_is w.facet h.facet_from h.facet_to in
    let text = weight_is w.text h.text_from h.text_to in
    let by : weights_by (weight_of (three w.title)) (weight_of (three w.facet)) (weight_of (three w.text)) ≡ Some w = λ i. weights_by (title i) (facet i) (text i) in
    said_by (weights_text w) (codes "#weights" ∷ title_piece w ∷ facet_piece w ∷ text_piece w ∷ []) (pieces_are w) ∙ by

-- it is ASCII
low : (n : ℕ) → 1 ≤ n → n ≤ 255 → list_all is_low (three n) ≡ true
unfolding is_low
low n l h =
    let fits = has_digits MAX_WEIGHT_DIGITS (three n) && is_in_range 1 MAX_ROW_SCORE (number_of (three n)) in
    let value = number_of (three n) == n in
    (both value (list_all is_low (three n)) (both fits (value && list_all is_low (three n)) (spelled n l h)).1).1

low_word : (s r : List ℕ) → list_all is_low s ≡ true → list_all is_low r ≡ true → list_all is_low (s ++ r) ≡ true
low_word [] r h k = k
low_word (b ∷ s) r h k = let all = both (is_low b) (list_all is_low s) h in rw (all.0, low_word s r all.1 k) refl

low_ascii : (s : List ℕ) → list_all is_low s ≡ true → AllByRecursion (λ b. b < 128) s
unfolding is_low
low_ascii [] h = tt
low_ascii (b ∷ s) h = let all = both (is_low b) (list_all is_low s) h in let here : nat_lt b 128 ≡ true = all.0 in ((grind (arith, nat_tests)), low_ascii s all.1)

low_text : (w : Weights) → AreWeights w → list_all is_low (weights_text w) ≡ true
unfolding is_low
low_text w h =
    let title = low w.title h.title_from h.title_to in
    let facet = low w.facet h.facet_from h.facet_to in
    let text = low w.text h.text_from h.text_to in
    let from_three : list_all is_low (from_text w) ≡ true = low_word (codes " text=") (three w.text) refl text in
    let from_two : list_all is_low (from_facet w) ≡ true = low_word (codes " facet=") (three w.facet ++ from_text w) refl (low_word (three w.facet) (from_text w) facet from_three) in
    low_word (codes "#weights title=") (three w.title ++ from_facet w) refl (low_word (three w.title) (from_facet w) title from_two)

utf8_text : (w : Weights) → AreWeights w → is_utf8 (weights_text w) ≡ true
utf8_text w h = is_utf8-from_IsUtf8 (weights_text w) (IsUtf8-from_ascii (weights_text w) (IsAscii-from_all (weights_text w) (All-from_recursion (λ b. b < 128) (weights_text w) (low_ascii (weights_text w) (low_text w h)))))

-- ---- the collection
module _ (w : Weights) (are : AreWeights w) (b : ℕ) (bs : List ℕ) (one : All (λ x. x ≢ 10) (b ∷ bs)) where
  abbrev is_end : ℕ → Bool
  is_end x = x == 10

  unended : All (λ x. is_end x ≡ false) (b ∷ bs)
  unended k d l = let apart = one k d l in grind (arith, nat_tests)

  parts_are : slice_split is_end (weights_text w ++ 10 ∷ b ∷ bs) ≡ weights_text w ∷ (b ∷ bs) ∷ []
  parts_are =
      slice_split_at is_end (weights_text w) 10 (b ∷ bs) (All-from_recursion (λ x. is_end x ≡ false) (weights_text w) (text_none is_end not_feed w refl refl refl)) refl
      ∙ ap (λ ps. weights_text w ∷ ps) (slice_split_none is_end (b ∷ bs) unended)

  whole : strip_carriage_return (weights_text w) ≡ weights_text w
  whole = ap (λ t. if t then take 36 (weights_text w) else weights_text w) (not_return (w.text % 10))

  some : (length (b ∷ bs) == 0) ≡ false
  some = grind (arith, nat_tests)

  last : lines_of_parts ((b ∷ bs) ∷ []) ≡ (b ∷ bs) ∷ []
  last = ap (λ t. if t then [] else (b ∷ bs) ∷ []) some

  lines_are : lines (weights_text w ++ 10 ∷ b ∷ bs) ≡ weights_text w ∷ (b ∷ bs) ∷ []
  lines_are = ap lines_of_parts parts_are ∙ (λ i. whole i ∷ last i)

  filled : is_filled (b ∷ bs) ≡ true
  filled = grind (arith, nat_tests)

  one_doc : doc_lines_from 0 2 ((b ∷ bs) ∷ []) ≡ second_line (b ∷ bs) ∷ []
  one_doc = ap (λ t. map doc_line (enumerate_from 0 (cond t ((2, b ∷ bs) ∷ []) []))) filled

  docs_are : doc_lines (weights_text w ++ 10 ∷ b ∷ bs) ≡ second_line (b ∷ bs) ∷ []
  docs_are = ap doc_lines_of lines_are ∙ named_docs (weights_text w) ((b ∷ bs) ∷ []) refl ∙ one_doc

  weights_line_is : weights_lines (weights_text w ++ 10 ∷ b ∷ bs) ≡ (1, weights_text w) ∷ []
  weights_line_is = ap weights_lines_of lines_are ∙ named_line (weights_text w) ((b ∷ bs) ∷ []) refl

  weights_are_taken : weights_refusal (1, weights_text w) ≡ None
  weights_are_taken =
      let utf8 = utf8_text w are in
      let said = said_is w are in
      λ i. first_reason (unless (utf8 i) (not_utf8 1) ∷ unless (nat_le 37 MAX_LINE_BYTES) (line_too_long 1) ∷ unless (is_some (said i)) (bad_weights 1) ∷ [])

  accepted : length (b ∷ bs) ≤ MAX_SCRIPT_LINE_BYTES → line_refusal (second_line (b ∷ bs)) ≡ None → docs_refusal (weights_text w ++ 10 ∷ b ∷ bs) ≡ None
  accepted short fine =
      small_refusal (weights_text w ++ 10 ∷ b ∷ bs) (omega (arith, short))
      ∙ (λ i. first_reason (map weights_refusal (weights_line_is i) ++ map line_refusal (docs_are i)))
      ∙ (λ i. first_reason (weights_are_taken i ∷ fine i ∷ []))

-- whichever the weights are
pub only_document : (l : List ℕ) → l ≢ [] → All (λ x. x ≢ 10) l → length l ≤ MAX_SCRIPT_LINE_BYTES → line_refusal (second_line l) ≡ None → (w : Weights) → AreWeights w → IsOnlyDocument w (document (second_line l))
only_document [] some one short fine w are = absurd (some refl)
only_document (b ∷ bs) some one short fine w are = record {
  collection = weights_text w ++ 10 ∷ b ∷ bs;
  accepted = accepted w are b bs one short fine;
  weights = ap weights_of_lines (weights_line_is w are b bs one) ∙ ap (λ o. unwrap_or o USUAL_WEIGHTS) (said_is w are);
  documents = ap (map document) (docs_are w are b bs one);
}
