-- A trial's collection breaks no rule and no limit of collections.
--
--   none_drawn          numbers that are drawn are below their bound
--   gaps, gaps-append   how many bytes of a text are no letter and no digit
--   IsPlainText         letters, with as many spaces as fit between so many words
--   spaced_text         words in a row are such a text
--   IsTrialLine         a line without its LF: such a title, a facet, such a text
--   line_form           the lines of a trial are
--   lines_are           the lines of a collection, one for each
--   line_accepted       no line is refused
--   rows_few            and it has few rows
--   accepted            so the collection isn't refused
use Rattle.std.proofs.Common.{◌≡◌, ◌⊎◌, inl, inr, ℕ, zero, suc, ◌+◌, ◌*◌, ◌-◌, ◌/◌, ◌%◌, ◌<◌, ◌≤◌, Bool, true, false, cond, not, ◌&&◌, List, [], ◌∷◌, ◌++◌, map, filter, length, take, drop, get_or}
use Rattle.std.proofs.Common.{nat_eq, nat_lt, nat_le, None, Some, refl, sym, ap, ap₂, subst, ◌∙◌, arith, append_assoc, length-append, length-drop}
use Rattle.std.specs.Bool.{◌==◌}
use Rattle.std.specs.Char.{is_ascii_alphanumeric, to_ascii_lowercase}
use Rattle.std.specs.List.{AllByRecursion, after_first, before_first, cons_option, enumerate_from, filter_map, flat_map, list_all, list_any, onto_first, position_or_len, range_with_len, slice_split}
use Rattle.std.specs.Prelude.{codes, count_by, replicate, Option}
use Rattle.std.specs.Str.{IsAscii, is_utf8}
use Rattle.std.specs.Str.Lines.{lines, lines_of_parts, strip_carriage_return}
use Rattle.std.proofs.Math.Seq.{drop-append-add, take-append_seam}
use Rattle.std.proofs.lemmas.Bool.Decides.{nat_tests}
use Rattle.std.proofs.lemmas.List.{length-map, map-append}
use Rattle.std.proofs.lemmas.List.FromFn.{length-enumerate_from, length-range_with_len}
use Rattle.std.proofs.lemmas.List.Splits.{length-slice_split}
use Rattle.std.proofs.lemmas.List.Sums.{count_by-le-length, length-filter, sum_by-append, sum_by-cons}
use Rattle.std.proofs.lemmas.Str.{IsUtf8-from_ascii, is_utf8-from_IsUtf8}
use Rattle.std.specs.Ordering.{nat_cmp}
use Rattle.std.specs.Cmp.Lexicographic.{slice_cmp}
use Rattle.std.specs.FinMap.{nat_cmp-IsAntisymmetric, slice_cmp-IsAntisymmetric}
use Rattle.std.proofs.lemmas.Cmp.{nat_list_cmp_total}
use Rattle.cs_base.proofs.OrdersLemmas.{by_row_exact, by_row_total}
use Rattle.cs_base.specs.content.Orders.{by_row}
use Rattle.cs_base.specs.declared.content.doc.Doc.{Doc}
use Rattle.cs_base.specs.declared.content.doc.Row.{Row}
use Rattle.cs_base.specs.declared.content.scores.TheConstants.{USUAL_WEIGHTS}
use Rattle.cs_base.specs.declared.content.limits.TheConstants.{MAX_COLLECTION_BYTES, MAX_DOCS, MAX_DOC_WORDS, MAX_LINE_BYTES, MAX_ROWS, MAX_TRIAL, MAX_WORDS}
use Rattle.cs_model.specs.Ascii.{ascii_norm, is_ascii_gap}
use Rattle.cs_model.specs.Collection.{columns, docs_refusal, doc_line, doc_lines, DocLine, documents, document, facet_pieces, facet_words, has_name_form, is_equals, is_tab, is_weights_line, line_refusal, piece_name, piece_refusal, weights_lines, weights, weights_refusal, word_count}
use Rattle.cs_model.specs.Collection.{CollectionRefusal, facet_word, line_too_long, not_utf8, too_large, too_many_docs, too_many_rows, too_many_words, words_too_many}
use Rattle.cs_model.specs.Corpus.{distinct_words, doc_rows, facet_rows, placed, refusal, rows_of, rows_refusal, text_rows, title_rows}
use Rattle.cs_base.specs.declared.content.scores.TheConstants.{BEHIND_TITLE}
use Rattle.cs_model_index.proofs.Listings.{listed_few}
use Rattle.cs_model.specs.First.{first_reason, unless}
use Rattle.cs_model.specs.Words.{is_filled, words}
use Rattle.cs_model.proofs.AsciiLemmas.{AllAscii, IsAscii-from_AllAscii, norm-ascii, words-ascii}
use Rattle.cs_model_trial.specs.Generator.{behind, collection, drawn, draws, line_bounds, line_count, line_draws, line_syllable, line_title, next_state, spaced, syllable, text_of, trial_line, word}
use Rattle.cs_model_trial.specs.declared.sizes.TheConstants.{WORDS}
use Rattle.cs_trial.specs.Typed.{IsLetter}
use Rattle.cs_trial.proofs.DrawsLemmas.{length_draws}
use Rattle.cs_trial.proofs.NoneRefused.{letter_lower}
use Rattle.cs_trial.proofs.TrialCollections.{no_weights, unmarked_trial, usual_weights}
use Rattle.cs_trial.proofs.TrialLineLemmas.{facet_draw, text_draws, title_draws}
use Rattle.cs_trial.proofs.WordsLemmas.{IsPair, all_append, pair_of, word_form}

-- ---- draws
none_drawn : (n x : ℕ) → AllByRecursion (λ d. d < 4096) (draws (replicate n WORDS) x)
unfolding draws
none_drawn zero x = tt
none_drawn (suc n) x = (omega arith, none_drawn n (next_state x))

-- ---- bytes
-- a letter, a space or a sign between, as `=`; neither a tab nor an end of a line
abbrev IsMid : ℕ → Type 0
IsMid x = (32 ≤ x) × (x ≤ 122)

letters_mid : (w : List ℕ) → AllByRecursion IsLetter w → AllByRecursion IsMid w
letters_mid [] h = tt
letters_mid (x ∷ w) h = ((omega (arith, h.0), omega (arith, h.0)), letters_mid w h.1)

mid_ascii : (bs : List ℕ) → AllByRecursion IsMid bs → AllAscii bs
mid_ascii [] h = tt
mid_ascii (x ∷ bs) h = (omega (arith, h.0), mid_ascii bs h.1)

-- ---- gaps
abbrev gaps : List ℕ → ℕ
gaps s = count_by is_ascii_gap (ascii_norm s)

gaps-append : (xs ys : List ℕ) → gaps (xs ++ ys) ≡ gaps xs + gaps ys
gaps-append xs ys =
    ap (count_by is_ascii_gap) (map-append to_ascii_lowercase xs ys)
    ∙ sum_by-append (λ b. cond (is_ascii_gap b) 1 0) (ascii_norm xs) (ascii_norm ys)

letter_is_none : (x : ℕ) → IsLetter x → is_ascii_gap (to_ascii_lowercase x) ≡ false
letter_is_none x h = rw (letter_lower x h) (grind (arith, nat_tests))

gaps-letters : (w : List ℕ) → AllByRecursion IsLetter w → gaps w ≡ 0
gaps-letters [] h = refl
gaps-letters (x ∷ w) h =
    sum_by-cons (λ b. cond (is_ascii_gap b) 1 0) (to_ascii_lowercase x) (ascii_norm w)
    ∙ ap₂ (λ b n. cond b 1 0 + n) (letter_is_none x h.0) (gaps-letters w h.1)

gaps-space : (bs : List ℕ) → gaps (32 ∷ bs) ≡ 1 + gaps bs
gaps-space bs = sum_by-cons (λ b. cond (is_ascii_gap b) 1 0) 32 (ascii_norm bs)

-- ---- texts
record IsPlainText (s : List ℕ) (n : ℕ) : Type 0 where
  mid : AllByRecursion IsMid s
  few : gaps s ≤ n
  short : length s ≤ 7 * n

text_none : IsPlainText [] 0
text_none = record { mid = tt; few = omega arith; short = omega arith }

text_word : (w : List ℕ) → length w ≡ 6 → AllByRecursion IsLetter w → IsPlainText w 1
text_word w long letters =
    record { mid = letters_mid w letters; few = let e = gaps-letters w letters in omega (arith, e); short = omega (arith, long) }

text_behind : (w s : List ℕ) (n : ℕ) → length w ≡ 6 → AllByRecursion IsLetter w → IsPlainText s n → IsPlainText (w ++ 32 ∷ s) (n + 1)
text_behind w s n long letters h = record {
  mid = all_append IsMid w (32 ∷ s) (letters_mid w letters) ((omega arith, omega arith), h.mid);
  few = let a = gaps-append w (32 ∷ s) in let b = gaps-space s in let e = gaps-letters w letters in omega (arith, a, b, e, h.few);
  short = omega (arith, length-append w (32 ∷ s), long, h.short);
}

text_as : (s : List ℕ) (m n : ℕ) → m ≡ n → IsPlainText s m → IsPlainText s n
text_as s m n e h = subst (IsPlainText s) e h

spaced_text : (ws : List ℕ) → AllByRecursion (λ d. d < 4096) ws → IsPlainText (spaced ws) (length ws)
spaced_text [] h = text_none
spaced_text (w ∷ []) h = let f = word_form w h.0 in text_word (word w) f.long f.letters
spaced_text (w ∷ v ∷ ws) h =
    let f = word_form w h.0 in
    text_as (spaced (w ∷ v ∷ ws)) (length (v ∷ ws) + 1) (length (w ∷ v ∷ ws)) (omega arith)
    (text_behind (word w) (spaced (v ∷ ws)) (length (v ∷ ws)) f.long f.letters (spaced_text (v ∷ ws) h.1))

-- its words
text_words : (s : List ℕ) (n : ℕ) → IsPlainText s n → length (words s) ≤ n + 1
text_words s n h =
    let ascii = IsAscii-from_AllAscii s (mid_ascii s h.mid) in
    let all = ap length (words-ascii s ascii) ∙ length-map (filter is_filled (slice_split is_ascii_gap (ascii_norm s))) (λ r. take 120 r) in
    let some = length-filter is_filled (slice_split is_ascii_gap (ascii_norm s)) in
    let most = count_by-le-length is_filled (slice_split is_ascii_gap (ascii_norm s)) in
    let parts = length-slice_split is_ascii_gap (ascii_norm s) in
    omega (arith, all, some, most, parts, h.few)

-- ---- lines
-- the column of a facet
abbrev facet_of : List ℕ → List ℕ
facet_of s = codes "kind=" ++ s

abbrev line_of : List ℕ → List ℕ → List ℕ → List ℕ
line_of title s text = title ++ (9 ∷ (facet_of s ++ (9 ∷ text)))

record IsTrialLine (l : List ℕ) : Type 0 where
  title : List ℕ
  kind : List ℕ
  text : List ℕ
  is : l ≡ line_of title kind text
  title_is : IsPlainText title 3
  pair : (length kind ≡ 2) × AllByRecursion IsLetter kind
  text_is : IsPlainText text 12

-- the line without its LF
abbrev body : List ℕ → List ℕ
body ds = line_of (spaced (line_title ds)) (syllable (line_syllable ds)) (spaced (text_of ds))

with_end : (ds : List ℕ) → trial_line ds ≡ body ds ++ 10 ∷ []
with_end ds = simp append_assoc

kind_pair : (n : ℕ) → n < 16 → (length (syllable n) ≡ 2) × AllByRecursion IsLetter (syllable n)
unfolding IsPair
kind_pair n h = pair_of n h

line_form : (x : ℕ) → IsTrialLine (body (draws line_bounds x))
line_form x = record {
  title = spaced (line_title (draws line_bounds x));
  kind = syllable (line_syllable (draws line_bounds x));
  text = spaced (text_of (draws line_bounds x));
  is = refl;
  title_is = subst (λ t. IsPlainText (spaced t) 3) (sym (title_draws x))
      (text_as (spaced (draws (replicate 3 WORDS) x)) (length (draws (replicate 3 WORDS) x)) 3 (length_draws 3 WORDS x)
      (spaced_text (draws (replicate 3 WORDS) x) (none_drawn 3 x)));
  pair = subst (λ n. (length (syllable n) ≡ 2) × AllByRecursion IsLetter (syllable n)) (sym (facet_draw x)) (kind_pair (drawn 16 (behind 3 x)) (omega arith));
  text_is = subst (λ t. IsPlainText (spaced t) 12) (sym (text_draws x))
      (text_as (spaced (draws (replicate 12 WORDS) (next_state (behind 3 x)))) (length (draws (replicate 12 WORDS) (next_state (behind 3 x)))) 12
      (length_draws 12 WORDS (next_state (behind 3 x)))
      (spaced_text (draws (replicate 12 WORDS) (next_state (behind 3 x))) (none_drawn 12 (next_state (behind 3 x)))));
}

-- ---- the lines of a collection
abbrev IsLineByte : ℕ → Type 0
IsLineByte x = ((x == 10) ≡ false) × ((x == 13) ≡ false) × (x < 128)

mid_in_line : (bs : List ℕ) → AllByRecursion IsMid bs → AllByRecursion IsLineByte bs
mid_in_line [] h = tt
mid_in_line (x ∷ bs) h =
    let a : (x == 10) ≡ false = grind (arith, nat_tests) in
    let b : (x == 13) ≡ false = grind (arith, nat_tests) in
    ((a, b, omega (arith, h.0)), mid_in_line bs h.1)

facet_mid : (s : List ℕ) → AllByRecursion IsLetter s → AllByRecursion IsMid (facet_of s)
facet_mid s h =
    let m : (x : ℕ) → 61 ≤ x → x ≤ 122 → IsMid x = λ x low high. (omega (arith, low), high) in
    all_append IsMid (codes "kind=") s (
      m 107 (omega arith) (omega arith),
      (
        m 105 (omega arith) (omega arith),
        (
          m 110 (omega arith) (omega arith),
          (m 100 (omega arith) (omega arith), (m 61 (omega arith) (omega arith), tt)),
        ),
      ),
    ) (letters_mid s h)

bytes_of_line : (l : List ℕ) → IsTrialLine l → AllByRecursion IsLineByte l
bytes_of_line l h =
    subst (AllByRecursion IsLineByte) (sym h.is)
    (all_append IsLineByte h.title (9 ∷ (facet_of h.kind ++ (9 ∷ h.text))) (mid_in_line h.title h.title_is.mid) (
      (refl, refl, omega arith),
      all_append IsLineByte (facet_of h.kind) (9 ∷ h.text) (mid_in_line (facet_of h.kind) (facet_mid h.kind h.pair.1))
          ((refl, refl, omega arith), mid_in_line h.text h.text_is.mid),
    ))

line_ascii : (l : List ℕ) → AllByRecursion IsLineByte l → AllAscii l
line_ascii [] h = tt
line_ascii (x ∷ l) h = (h.0.2, line_ascii l h.1)

split_line : (xs ys : List ℕ) → AllByRecursion IsLineByte xs → slice_split (λ b. b == 10) (xs ++ 10 ∷ ys) ≡ xs ∷ slice_split (λ b. b == 10) ys
split_line [] ys h = refl
split_line (x ∷ xs) ys h =
    ap (λ b. cond b ([] ∷ slice_split (λ b. b == 10) (xs ++ 10 ∷ ys)) (onto_first x (slice_split (λ b. b == 10) (xs ++ 10 ∷ ys)))) h.0.0
    ∙ ap (onto_first x) (split_line xs ys h.1)

line_behind : (l : List ℕ) (ps : List (List ℕ)) (n : ℕ) → length ps ≡ n + 1 → lines_of_parts (l ∷ ps) ≡ strip_carriage_return l ∷ lines_of_parts ps
line_behind l [] n h = absurd (omega (arith, h))
line_behind l (p ∷ ps) n h = refl

no_return : (l : List ℕ) (i : ℕ) → AllByRecursion IsLineByte l → (get_or l i 0 == 13) ≡ false
no_return [] i h = refl
no_return (x ∷ l) zero h = h.0.1
no_return (x ∷ l) (suc i) h = no_return l i h.1

unstripped : (l : List ℕ) → AllByRecursion IsLineByte l → strip_carriage_return l ≡ l
unstripped l h = ap (λ b. cond b (take (length l - 1) l) l) (no_return l (length l - 1) h)

lines_next : (l rest : List ℕ) → AllByRecursion IsLineByte l → lines ((l ++ 10 ∷ []) ++ rest) ≡ l ∷ lines rest
lines_next l rest h =
    ap lines (append_assoc l (10 ∷ []) rest) ∙ ap lines_of_parts (split_line l rest h)
    ∙ line_behind l (slice_split (λ b. b == 10) rest) (count_by (λ b. b == 10) rest) (length-slice_split (λ b. b == 10) rest)
    ∙ ap (λ x. x ∷ lines rest) (unstripped l h)

-- the lines of a trial by their numbers
abbrev numbered : ℕ → List ℕ → List (List ℕ)
numbered n is = map (λ i. body (line_draws n i)) is

form_of : (n i : ℕ) → IsTrialLine (body (line_draws n i))
unfolding line_draws
form_of n i = line_form (behind (i * length line_bounds) n)

lines_are : (n : ℕ) (is : List ℕ) → lines (flat_map (λ i. trial_line (line_draws n i)) is) ≡ numbered n is
lines_are n [] = refl
lines_are n (i ∷ is) =
    let rest = flat_map (λ i. trial_line (line_draws n i)) is in
    ap (λ l. lines (l ++ rest)) (with_end (line_draws n i))
    ∙ lines_next (body (line_draws n i)) rest (bytes_of_line (body (line_draws n i)) (form_of n i))
    ∙ ap (λ ls. body (line_draws n i) ∷ ls) (lines_are n is)

all_form : (n : ℕ) (is : List ℕ) → AllByRecursion IsTrialLine (numbered n is)
all_form n [] = tt
all_form n (i ∷ is) = (form_of n i, all_form n is)

-- ---- the columns of a line
first_tab : (xs ys : List ℕ) → AllByRecursion IsMid xs → position_or_len is_tab (xs ++ 9 ∷ ys) ≡ length xs
first_tab [] ys h = refl
first_tab (x ∷ xs) ys h =
    let e : is_tab x ≡ false = grind (arith, nat_tests) in
    let ih = first_tab xs ys h.1 in
    ap (λ b. cond (not b) (1 + position_or_len is_tab (xs ++ 9 ∷ ys)) 0) e ∙ omega (arith, ih)

before_tab : (xs ys : List ℕ) → AllByRecursion IsMid xs → before_first is_tab (xs ++ 9 ∷ ys) ≡ xs
before_tab xs ys h = ap (λ n. take n (xs ++ 9 ∷ ys)) (first_tab xs ys h) ∙ take-append_seam xs (9 ∷ ys)

after_tab : (xs ys : List ℕ) → AllByRecursion IsMid xs → after_first is_tab (xs ++ 9 ∷ ys) ≡ ys
after_tab xs ys h = ap (λ n. drop (n + 1) (xs ++ 9 ∷ ys)) (first_tab xs ys h) ∙ drop-append-add xs (9 ∷ ys) 1

record HasColumns (l title facets text : List ℕ) : Type 0 where
  title_is : (columns l).title ≡ title
  facets_is : (columns l).facets ≡ facets
  text_is : (columns l).text ≡ text

columns_of_line : (l : List ℕ) (h : IsTrialLine l) → HasColumns l h.title (facet_of h.kind) h.text
columns_of_line l h =
    let first = before_tab h.title (facet_of h.kind ++ (9 ∷ h.text)) h.title_is.mid in
    let rest = after_tab h.title (facet_of h.kind ++ (9 ∷ h.text)) h.title_is.mid in
    let facet = facet_mid h.kind h.pair.1 in
    record {
      title_is = ap (before_first is_tab) h.is ∙ first;
      facets_is = ap (λ x. before_first is_tab (after_first is_tab x)) h.is ∙ ap (before_first is_tab) rest ∙ before_tab (facet_of h.kind) h.text facet;
      text_is = ap (λ x. after_first is_tab (after_first is_tab x)) h.is ∙ ap (after_first is_tab) rest ∙ after_tab (facet_of h.kind) h.text facet;
    }

-- ---- the facet
at_most_one : (o : Option (List ℕ)) → length (cons_option o []) ≤ 1
at_most_one None = omega arith
at_most_one (Some w) = omega arith

one_piece : (a b : ℕ) → IsLetter a → IsLetter b → facet_pieces (facet_of (a ∷ b ∷ [])) ≡ facet_of (a ∷ b ∷ []) ∷ []
one_piece a b h k =
    let x : (a == 59) ≡ false = grind (arith, nat_tests) in
    let y : (b == 59) ≡ false = grind (arith, nat_tests) in
    let z : (b == 32) ≡ false = grind (arith, nat_tests) in
    rw (x, y, z) refl

name_is : (s : List ℕ) → piece_name (facet_of s) ≡ codes "kind"
name_is s = norm-ascii (codes "kind") (IsAscii-from_AllAscii (codes "kind") (omega arith, (omega arith, (omega arith, (omega arith, tt)))))

named_so : (n : ℕ) (s : List ℕ) → piece_refusal n (facet_of s) ≡ None
named_so n s = let form : has_name_form (piece_name (facet_of s)) ≡ true = ap has_name_form (name_is s) in rw form refl

facet_accepted : (n : ℕ) (s : List ℕ) → length s ≡ 2 → AllByRecursion IsLetter s
    → (first_reason (map (piece_refusal n) (facet_pieces (facet_of s))) ≡ None) × (length (facet_words (facet_of s)) ≤ 1)
facet_accepted n [] long h = absurd (omega (arith, long))
facet_accepted n (a ∷ []) long h = absurd (omega (arith, long))
facet_accepted n (a ∷ b ∷ []) long h =
    let one = one_piece a b h.0 h.1.0 in (
      ap (λ ps. first_reason (map (piece_refusal n) ps)) one ∙ ap (λ r. first_reason (r ∷ [])) (named_so n (a ∷ b ∷ [])),
      let e = ap (λ ps. length (filter_map facet_word ps)) one in let f = at_most_one (facet_word (facet_of (a ∷ b ∷ []))) in omega (arith, e, f),
    )
facet_accepted n (a ∷ b ∷ c ∷ s) long h = absurd (omega (arith, long))

-- ---- no line is refused
abbrev IsAcceptedLine : ℕ × (ℕ × List ℕ) → Type 0
IsAcceptedLine q = (line_refusal (doc_line q) ≡ None) × (length (doc_rows USUAL_WEIGHTS (q.0, document (doc_line q))) ≤ 18)

rows_count : (m : ℕ) (doc : Doc)
    → length (doc_rows USUAL_WEIGHTS (m, doc)) ≡ length (facet_words doc.facets) + (length (words doc.title) + length (words doc.text))
rows_count m doc =
    let title = enumerate_from 1 (words doc.title) in
    let text = enumerate_from (length (words doc.title) + BEHIND_TITLE) (words doc.text) in
    let f : length (facet_rows USUAL_WEIGHTS m doc) ≡ length (facet_words doc.facets) =
    length-map (facet_words doc.facets) (λ w. placed m USUAL_WEIGHTS.facet (0, w)) in
    let t : length (title_rows USUAL_WEIGHTS m doc) ≡ length (words doc.title) =
    length-map title (placed m USUAL_WEIGHTS.title) ∙ length-enumerate_from 1 (words doc.title) in
    let x : length (text_rows USUAL_WEIGHTS m doc) ≡ length (words doc.text) =
    length-map text (placed m USUAL_WEIGHTS.text) ∙ length-enumerate_from (length (words doc.title) + BEHIND_TITLE) (words doc.text) in
    let front = length-append (facet_rows USUAL_WEIGHTS m doc) (title_rows USUAL_WEIGHTS m doc) ∙ ap₂ (λ a b. a + b) f t in
    length-append (facet_rows USUAL_WEIGHTS m doc ++ title_rows USUAL_WEIGHTS m doc) (text_rows USUAL_WEIGHTS m doc) ∙ ap₂ (λ a b. a + b) front x
    ∙ (let sum : (length (facet_words doc.facets) + length (words doc.title)) + length (words doc.text)
    ≡ length (facet_words doc.facets) + (length (words doc.title) + length (words doc.text)) = omega arith in sum)

short_line : (l : List ℕ) (h : IsTrialLine l) → length l ≤ 120
short_line l h =
    let behind = facet_of h.kind ++ (9 ∷ h.text) in
    let a : length l ≡ length h.title + length (9 ∷ behind) = ap length h.is ∙ length-append h.title (9 ∷ behind) in
    let b : length behind ≡ length (facet_of h.kind) + length (9 ∷ h.text) = length-append (facet_of h.kind) (9 ∷ h.text) in
    let c : length (facet_of h.kind) ≡ 5 + length h.kind = length-append (codes "kind=") h.kind in
    let d : length (9 ∷ behind) ≡ 1 + length behind = omega arith in
    let e : length (9 ∷ h.text) ≡ 1 + length h.text = omega arith in
    omega (arith, a, b, c, d, e, h.title_is.short, h.text_is.short, h.pair.0)

title_few : (l : List ℕ) (h : IsTrialLine l) → length (words (columns l).title) ≤ 4
title_few l h = let e = ap (λ t. length (words t)) (columns_of_line l h).title_is in let w = text_words h.title 3 h.title_is in omega (arith, e, w)

text_few : (l : List ℕ) (h : IsTrialLine l) → length (words (columns l).text) ≤ 13
text_few l h = let e = ap (λ t. length (words t)) (columns_of_line l h).text_is in let w = text_words h.text 12 h.text_is in omega (arith, e, w)

facets_few : (l : List ℕ) (h : IsTrialLine l) → length (facet_words (columns l).facets) ≤ 1
facets_few l h =
    let e = ap (λ t. length (facet_words t)) (columns_of_line l h).facets_is in
    let w = (facet_accepted 0 h.kind h.pair.0 h.pair.1).1 in
    omega (arith, e, w)

is_at_most : (m n : ℕ) → m ≤ n → nat_le m n ≡ true
is_at_most m n h = grind (arith, nat_tests)

is_less : (m n : ℕ) → m < n → nat_lt m n ≡ true
is_less m n h = grind (arith, nat_tests)

none_of : (d n : ℕ) (l : List ℕ) (p : Option CollectionRefusal) → p ≡ None → is_utf8 l ≡ true → nat_le (length l) MAX_LINE_BYTES ≡ true
    → nat_le (word_count (columns l)) MAX_DOC_WORDS ≡ true → nat_lt d MAX_DOCS ≡ true
    → first_reason (unless (is_utf8 l) (not_utf8 n) ∷ unless (nat_le (length l) MAX_LINE_BYTES) (line_too_long n)
    ∷ unless (nat_le (word_count (columns l)) MAX_DOC_WORDS) (words_too_many n) ∷ p ∷ unless (nat_lt d MAX_DOCS) (too_many_docs n) ∷ []) ≡ None
none_of d n l p e a b c x = rw (a, b, c, e, x) refl

line_accepted : (q : ℕ × (ℕ × List ℕ)) → q.0 < MAX_DOCS → IsTrialLine q.1.1 → IsAcceptedLine q
line_accepted q below h =
    let l = q.1.1 in
    let cs = columns_of_line l h in
    let title = title_few l h in
    let text = text_few l h in
    let facets = facets_few l h in
    let ascii = IsAscii-from_AllAscii l (line_ascii l (bytes_of_line l h)) in
    let short = short_line l h in (
      none_of q.0 q.1.0 l (first_reason (map (piece_refusal q.1.0) (facet_pieces (columns l).facets)))
          (ap (λ c. first_reason (map (piece_refusal q.1.0) (facet_pieces c))) cs.facets_is ∙ (facet_accepted q.1.0 h.kind h.pair.0 h.pair.1).0)
          (is_utf8-from_IsUtf8 l (IsUtf8-from_ascii l ascii)) (is_at_most (length l) MAX_LINE_BYTES (omega (arith, short)))
          (is_at_most (word_count (columns l)) MAX_DOC_WORDS (omega (arith, title, text))) (is_less q.0 MAX_DOCS below),
      let e = rows_count q.0 (document (doc_line q)) in omega (arith, e, title, text, facets),
    )

-- the number of a document changes only that of its rows
same_rows : (k d : ℕ) (doc : Doc) → length (doc_rows USUAL_WEIGHTS (k, doc)) ≡ length (doc_rows USUAL_WEIGHTS (d, doc))
same_rows k d doc =
    let count : (m : ℕ) → length (doc_rows USUAL_WEIGHTS (m, doc)) ≡ length (facet_words doc.facets) + (length (words doc.title) + length (words doc.text)) =
    λ m. rows_count m doc in
    count k ∙ sym (count d)

-- ---- all lines
all_numbered : (k : ℕ) (ls : List (List ℕ)) → AllByRecursion IsTrialLine ls → AllByRecursion (λ p. IsTrialLine p.1) (enumerate_from k ls)
all_numbered k [] h = tt
all_numbered k (l ∷ ls) h = (h.0, all_numbered (k + 1) ls h.1)

kept_if : (b : Bool) (p : ℕ × List ℕ) (ps : List (ℕ × List ℕ)) → IsTrialLine p.1 → AllByRecursion (λ p. IsTrialLine p.1) ps
    → AllByRecursion (λ p. IsTrialLine p.1) (cond b (p ∷ ps) ps)
kept_if true p ps h k = (h, k)
kept_if false p ps h k = k

all_filtered : (t : ℕ × List ℕ → Bool) (ps : List (ℕ × List ℕ)) → AllByRecursion (λ p. IsTrialLine p.1) ps
    → AllByRecursion (λ p. IsTrialLine p.1) (filter t ps)
all_filtered t [] h = tt
all_filtered t (p ∷ ps) h = kept_if (t p) p (filter t ps) h.0 (all_filtered t ps h.1)

all_accepted : (k : ℕ) (ps : List (ℕ × List ℕ)) → k + length ps ≤ MAX_DOCS → AllByRecursion (λ p. IsTrialLine p.1) ps
    → AllByRecursion IsAcceptedLine (enumerate_from k ps)
all_accepted k [] few h = tt
all_accepted k (p ∷ ps) few h = (line_accepted (k, p) (omega (arith, few)) h.0, all_accepted (k + 1) ps (omega (arith, few)) h.1)

none_first : (qs : List (ℕ × (ℕ × List ℕ))) → AllByRecursion IsAcceptedLine qs → first_reason (map line_refusal (map doc_line qs)) ≡ None
none_first [] h = refl
none_first (q ∷ qs) h = ap (λ r. first_reason (r ∷ map line_refusal (map doc_line qs))) h.0.0 ∙ none_first qs h.1

renumbered : (k : ℕ) (qs : List (ℕ × (ℕ × List ℕ))) → AllByRecursion IsAcceptedLine qs
    → length (flat_map (doc_rows USUAL_WEIGHTS) (enumerate_from k (map document (map doc_line qs)))) ≤ 18 * length qs
renumbered k [] h = omega arith
renumbered k (q ∷ qs) h =
    let doc = document (doc_line q) in
    let rest = flat_map (doc_rows USUAL_WEIGHTS) (enumerate_from (k + 1) (map document (map doc_line qs))) in
    let a = length-append (doc_rows USUAL_WEIGHTS (k, doc)) rest in
    let b = same_rows k q.0 doc in
    let c = renumbered (k + 1) qs h.1 in
    omega (arith, a, b, c, h.0.1)

-- ---- the collection
abbrev filled : ℕ × List ℕ → Bool
filled l = is_filled l.1 && not (is_weights_line l)

-- the lines that are documents
abbrev lines_of : ℕ → List (ℕ × List ℕ)
lines_of n = filter filled (enumerate_from 1 (numbered n (range_with_len 0 (line_count n))))

few_lines : (n : ℕ) → length (lines_of n) ≤ 100 * n
few_lines n =
    let is = range_with_len 0 (line_count n) in
    let a = length-filter filled (enumerate_from 1 (numbered n is)) in
    let b = count_by-le-length filled (enumerate_from 1 (numbered n is)) in
    let c = length-enumerate_from 1 (numbered n is) in
    let d = length-map is (λ i. body (line_draws n i)) in
    let e = length-range_with_len 0 (line_count n) in
    omega (arith, a, b, c, d, e)

doc_lines_are : (n : ℕ) → doc_lines (collection n) ≡ map doc_line (enumerate_from 0 (lines_of n))
unfolding collection
doc_lines_are n =
    ap (λ c. map doc_line (enumerate_from 0 (filter filled (enumerate_from 1 (lines c))))) (unmarked_trial n)
    ∙ ap (λ ls. map doc_line (enumerate_from 0 (filter filled (enumerate_from 1 ls)))) (lines_are n (range_with_len 0 (line_count n)))

accepted_lines : (n : ℕ) → n ≤ MAX_TRIAL → AllByRecursion IsAcceptedLine (enumerate_from 0 (lines_of n))
accepted_lines n h =
    let few = few_lines n in
    all_accepted 0 (lines_of n) (omega (arith, few, h))
    (all_filtered filled (enumerate_from 1 (numbered n (range_with_len 0 (line_count n))))
    (all_numbered 1 (numbered n (range_with_len 0 (line_count n))) (all_form n (range_with_len 0 (line_count n)))))

-- each line has at most 121 bytes with its LF
bytes_few : (n : ℕ) (is : List ℕ) → length (flat_map (λ i. trial_line (line_draws n i)) is) ≤ 121 * length is
bytes_few n [] = omega arith
bytes_few n (i ∷ is) =
    let rest = flat_map (λ i. trial_line (line_draws n i)) is in
    let a = length-append (trial_line (line_draws n i)) rest in
    let b = ap length (with_end (line_draws n i)) in
    let c = length-append (body (line_draws n i)) (10 ∷ []) in
    let d = short_line (body (line_draws n i)) (form_of n i) in
    let e = bytes_few n is in
    omega (arith, a, b, c, d, e)

few_bytes : (n : ℕ) → length (collection n) ≤ 121 * (100 * n)
unfolding collection
few_bytes n =
    let a = bytes_few n (range_with_len 0 (line_count n)) in let b = length-range_with_len 0 (line_count n) in omega (arith, a, b)

docs_accepted : (n : ℕ) → n ≤ MAX_TRIAL → docs_refusal (collection n) ≡ None
docs_accepted n h =
    let bytes = few_bytes n in
    let small : nat_le (length (collection n)) MAX_COLLECTION_BYTES ≡ true = is_at_most (length (collection n)) MAX_COLLECTION_BYTES (omega (arith, bytes, h)) in
    ap (λ b. first_reason (unless b too_large ∷ (map weights_refusal (weights_lines (collection n)) ++ map line_refusal (doc_lines (collection n))))) small
    ∙ ap (λ ls. first_reason (map weights_refusal ls ++ map line_refusal (doc_lines (collection n)))) (no_weights n)
    ∙ ap (λ ls. first_reason (map line_refusal ls)) (doc_lines_are n) ∙ none_first (enumerate_from 0 (lines_of n)) (accepted_lines n h)

rows_few : (n : ℕ) → n ≤ MAX_TRIAL → length (rows_of (weights (collection n)) (documents (collection n))) ≤ 18 * (100 * n)
rows_few n h =
    let docs = map document (map doc_line (enumerate_from 0 (lines_of n))) in
    let rows = flat_map (doc_rows USUAL_WEIGHTS) (enumerate_from 0 docs) in
    let e = ap₂ (λ w ds. length (rows_of w ds)) (usual_weights n) (ap (map document) (doc_lines_are n)) in
    let a = listed_few by_row by_row_total by_row_exact rows in
    let b = renumbered 0 (enumerate_from 0 (lines_of n)) (accepted_lines n h) in
    let c = length-enumerate_from 0 (lines_of n) in
    let d = few_lines n in
    omega (arith, e, a, b, c, d)

words_few : (rows : List Row) → length (distinct_words rows) ≤ length rows
words_few rows =
    let a = listed_few (slice_cmp nat_cmp) nat_list_cmp_total (slice_cmp-IsAntisymmetric nat_cmp-IsAntisymmetric) (map (λ r. r.word) rows) in
    let b = length-map rows (λ r. r.word) in
    omega (arith, a, b)

rows_accepted : (rows : List Row) → length rows ≤ 1800000 → rows_refusal rows ≡ None
rows_accepted rows h =
    let few : nat_le (length rows) MAX_ROWS ≡ true = is_at_most (length rows) MAX_ROWS (omega (arith, h)) in
    let words = words_few rows in
    let distinct : nat_le (length (distinct_words rows)) MAX_WORDS ≡ true = is_at_most (length (distinct_words rows)) MAX_WORDS (omega (arith, words, h)) in
    ap₂ (λ a b. first_reason (unless a too_many_rows ∷ unless b too_many_words ∷ [])) few distinct

pub accepted : (n : ℕ) → n ≤ MAX_TRIAL → refusal (collection n) ≡ None
accepted n h =
    let few = rows_few n h in
    ap₂ (λ a b. first_reason (a ∷ b ∷ [])) (docs_accepted n h)
    (rows_accepted (rows_of (weights (collection n)) (documents (collection n))) (omega (arith, few, h)))
