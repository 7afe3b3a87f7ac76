-- Lines that are ended, and the place of a head among them.
--
--   HasNoFeed         no byte of a text is LF
--   ended_none        such a text has no line
--   ended_first       behind such a text an LF ends its line, the first one
--   ended_more        with more bytes behind them, bytes keep their lines
--   scan_front        the place of a head, line by line
--   place-scan        it is that of `place_in`
--   scan-more         more lines behind a head leave its place
--   scan-within       a head ends within its lines, and behind its front
use Rattle.std.proofs.Common.{◌≡◌, ℕ, suc, ◌+◌, ◌≤◌, Bool, false, not, cond, List, [], ◌∷◌, ◌++◌, length, take, drop, take_while, count_by, All, Option, Some, None, refl, sym, ap, subst, ◌∙◌, arith, append_assoc, append-nil, length-append, ⊎_elim, ap₂, one-add}
use Rattle.std.specs.List.{slice_split, prefix_len}
use Rattle.std.proofs.lemmas.Bool.{cases_Bool}
use Rattle.std.proofs.lemmas.Bool.{eqb-true}
use Rattle.std.proofs.lemmas.List.Elements.{All-append, All-nil, All-cons, All-head, All-tail}
use Rattle.std.proofs.lemmas.List.Splits.{slice_split_at}
use Rattle.std.proofs.lemmas.List.Sums.{sum_by-append, sum_by-cons, take_while-cons}
use Rattle.cs_model_serving.specs.Framing.{is_line_feed, ended_lines, is_empty_line, lines_len, front_lines, later_lines, text_lines, closing_lines, place_by, place_in}

-- ---- lines
pub record HasNoFeed (text : List ℕ) : Type 0 where
  pub each : All (λ b. is_line_feed b ≡ false) text

pub no_feed_nil : HasNoFeed []
no_feed_nil = record { each = All-nil (λ b. is_line_feed b ≡ false) }

pub no_feed_push : (text : List ℕ) (b : ℕ) → HasNoFeed text → is_line_feed b ≡ false → HasNoFeed (text ++ b ∷ [])
no_feed_push text b h e = record { each = All-append (λ b. is_line_feed b ≡ false) text (b ∷ []) h.each (All-cons (λ b. is_line_feed b ≡ false) b [] e (All-nil (λ b. is_line_feed b ≡ false))) }

abbrev one_feed : ℕ → ℕ
one_feed b = cond (is_line_feed b) 1 0

feeds-cons : (b : ℕ) (bytes : List ℕ) → count_by is_line_feed (b ∷ bytes) ≡ one_feed b + count_by is_line_feed bytes
feeds-cons b bytes = sum_by-cons one_feed b bytes

feeds_none : (text : List ℕ) → All (λ b. is_line_feed b ≡ false) text → count_by is_line_feed text ≡ 0
feeds_none [] h = refl
feeds_none (b ∷ text) h =
    let first : one_feed b ≡ 0 = ap (λ t. cond t 1 0) (All-head (λ b. is_line_feed b ≡ false) b text h) in
    omega (arith, feeds-cons b text, first, feeds_none text (All-tail (λ b. is_line_feed b ≡ false) b text h))

pub ended_none : (text : List ℕ) → HasNoFeed text → ended_lines text ≡ []
ended_none text h = ap (λ n. take n (slice_split is_line_feed text)) (feeds_none text h.each)

feeds_first : (text bytes : List ℕ) → HasNoFeed text → count_by is_line_feed (text ++ 10 ∷ bytes) ≡ suc (count_by is_line_feed bytes)
feeds_first text bytes h =
    let first : one_feed 10 ≡ 1 = refl in
    let joined : count_by is_line_feed (text ++ 10 ∷ bytes) ≡ count_by is_line_feed text + count_by is_line_feed (10 ∷ bytes) = sum_by-append one_feed text (10 ∷ bytes) in
    omega (arith, joined, feeds_none text h.each, feeds-cons 10 bytes, first)

pub ended_first : (text bytes : List ℕ) → HasNoFeed text → ended_lines (text ++ 10 ∷ bytes) ≡ text ∷ ended_lines bytes
ended_first text bytes h =
    ap (λ n. take n (slice_split is_line_feed (text ++ 10 ∷ bytes))) (feeds_first text bytes h)
    ∙ ap (take (suc (count_by is_line_feed bytes))) (slice_split_at is_line_feed text 10 bytes h.each refl)

-- a byte that isn't LF may be read with the text before it
regroup : (text bytes : List ℕ) (b : ℕ) → text ++ b ∷ bytes ≡ (text ++ b ∷ []) ++ bytes
regroup text bytes b = sym (append_assoc text (b ∷ []) bytes)

pub record EndsMore (bytes more : List ℕ) : Type 0 where
  pub lines : List (List ℕ)
  pub is : ended_lines (bytes ++ more) ≡ ended_lines bytes ++ lines

more_at : (text bytes more : List ℕ) → HasNoFeed text → EndsMore bytes more → EndsMore (text ++ 10 ∷ bytes) more
more_at text bytes more h on = record {
  lines = on.lines;
  is =
      ap ended_lines (append_assoc text (10 ∷ bytes) more) ∙ ended_first text (bytes ++ more) h ∙ ap (λ ls. text ∷ ls) on.is
      ∙ ap (λ ls. ls ++ on.lines) (sym (ended_first text bytes h));
}

-- behind a text without LF
more_from : (bytes text more : List ℕ) → HasNoFeed text → EndsMore (text ++ bytes) more
more_from [] text more h = record {
  lines = ended_lines ((text ++ []) ++ more);
  is = ap (λ ls. ls ++ ended_lines ((text ++ []) ++ more)) (sym (ap ended_lines (append-nil text) ∙ ended_none text h));
}
more_from (b ∷ bytes) text more h =
    ⊎_elim
    (λ e. subst (λ c. EndsMore (text ++ c ∷ bytes) more) (sym (eqb-true b 10 e)) (more_at text bytes more h (more_from bytes [] more no_feed_nil)))
    (λ e. subst (λ l. EndsMore l more) (sym (regroup text bytes b)) (more_from bytes (text ++ b ∷ []) more (no_feed_push text b h e)))
    (cases_Bool (is_line_feed b))

pub ended_more : (bytes more : List ℕ) → EndsMore bytes more
ended_more bytes more = more_from bytes [] more no_feed_nil

-- lines have no more bytes than what they were cut from
size_at : (text bytes : List ℕ) → HasNoFeed text → lines_len (ended_lines bytes) ≤ length bytes → lines_len (ended_lines (text ++ 10 ∷ bytes)) ≤ length (text ++ 10 ∷ bytes)
size_at text bytes h on =
    let first : lines_len (ended_lines (text ++ 10 ∷ bytes)) ≡ lines_len (text ∷ ended_lines bytes) = ap lines_len (ended_first text bytes h) in
    omega (arith, first, sum_by-cons (λ l. length l + 1) text (ended_lines bytes), length-append text (10 ∷ bytes), on)

size_from : (bytes text : List ℕ) → HasNoFeed text → lines_len (ended_lines (text ++ bytes)) ≤ length (text ++ bytes)
size_from [] text h =
    let none : lines_len (ended_lines (text ++ [])) ≡ 0 = ap lines_len (ap ended_lines (append-nil text) ∙ ended_none text h) in
    omega (arith, none)
size_from (b ∷ bytes) text h =
    ⊎_elim
    (λ e. subst (λ c. lines_len (ended_lines (text ++ c ∷ bytes)) ≤ length (text ++ c ∷ bytes)) (sym (eqb-true b 10 e)) (size_at text bytes h (size_from bytes [] no_feed_nil)))
    (λ e. subst (λ l. lines_len (ended_lines l) ≤ length l) (sym (regroup text bytes b)) (size_from bytes (text ++ b ∷ []) (no_feed_push text b h e)))
    (cases_Bool (is_line_feed b))

pub ended_size : (bytes : List ℕ) → lines_len (ended_lines bytes) ≤ length bytes
ended_size bytes = size_from bytes [] no_feed_nil

-- ---- places
-- behind n bytes, of which `skip` are in front of a head
abbrev pub scan_text : ℕ → ℕ → List (List ℕ) → Option (ℕ × ℕ)
scan_text skip n [] = None
scan_text skip n (l ∷ lines) = cond (is_empty_line l) (Some (skip, n + (length l + 1))) (scan_text skip (n + (length l + 1)) lines)

-- behind n bytes of empty lines
abbrev pub scan_front : ℕ → List (List ℕ) → Option (ℕ × ℕ)
scan_front n [] = None
scan_front n (l ∷ lines) = cond (is_empty_line l) (scan_front (n + (length l + 1)) lines) (scan_text n (n + (length l + 1)) lines)

abbrev is_text_line : List ℕ → Bool
is_text_line l = not (is_empty_line l)

-- where the lines from the first on that isn't empty are these
abbrev text_place : ℕ → ℕ → List (List ℕ) → Option (ℕ × ℕ)
text_place skip n lines = place_by skip (n + lines_len (take_while is_text_line lines)) (drop (prefix_len is_text_line lines) lines)

drop-one : {X : Type 0} (n : ℕ) (x : X) (xs : List X) → drop (1 + n) (x ∷ xs) ≡ drop n xs
drop-one n x xs = ap (λ m. drop m (x ∷ xs)) (one-add n)

text_scan : (lines : List (List ℕ)) (skip n : ℕ) → text_place skip n lines ≡ scan_text skip (skip + n) lines
text_scan [] skip n = refl
text_scan (l ∷ lines) skip n =
    ⊎_elim
    (λ e. rw e (ap (λ m. Some (skip, m)) (omega arith)))
    (λ e.
    let first : take_while is_text_line (l ∷ lines) ≡ l ∷ take_while is_text_line lines = take_while-cons is_text_line l lines ∙ ap (λ t. cond (not t) (l ∷ take_while is_text_line lines) []) e in
    let size : n + lines_len (take_while is_text_line (l ∷ lines)) ≡ (n + (length l + 1)) + lines_len (take_while is_text_line lines) =
    omega (arith, ap lines_len first, sum_by-cons (λ l. length l + 1) l (take_while is_text_line lines)) in
    let behind : drop (prefix_len is_text_line (l ∷ lines)) (l ∷ lines) ≡ drop (prefix_len is_text_line lines) lines =
    ap (λ t. drop (cond (not t) (1 + prefix_len is_text_line lines) 0) (l ∷ lines)) e ∙ drop-one (prefix_len is_text_line lines) l lines in
    let scanned : scan_text skip (skip + n) (l ∷ lines) ≡ scan_text skip (skip + (n + (length l + 1))) lines =
    ap (λ t. cond t (Some (skip, skip + n + (length l + 1))) (scan_text skip (skip + n + (length l + 1)) lines)) e
    ∙ ap (λ m. scan_text skip m lines) (omega arith) in
    ap₂ (place_by skip) size behind ∙ text_scan lines skip (n + (length l + 1)) ∙ sym scanned)
    (cases_Bool (is_empty_line l))

-- behind n bytes of empty lines, in the words of `place_in`
abbrev front_place : ℕ → List (List ℕ) → Option (ℕ × ℕ)
front_place n lines = place_by (n + lines_len (front_lines lines)) (lines_len (text_lines lines)) (closing_lines lines)

-- by the empty lines in front and those behind them
abbrev parts_place : ℕ → List (List ℕ) → List (List ℕ) → Option (ℕ × ℕ)
parts_place n front later = place_by (n + lines_len front) (lines_len (take_while is_text_line later)) (drop (prefix_len is_text_line later) later)

front_scan : (lines : List (List ℕ)) (n : ℕ) → front_place n lines ≡ scan_front n lines
front_scan [] n = refl
front_scan (l ∷ lines) n =
    ⊎_elim
    (λ e.
    let first : front_lines (l ∷ lines) ≡ l ∷ front_lines lines = take_while-cons is_empty_line l lines ∙ ap (λ t. cond t (l ∷ front_lines lines) []) e in
    let later : later_lines (l ∷ lines) ≡ later_lines lines = ap (λ t. drop (cond t (1 + prefix_len is_empty_line lines) 0) (l ∷ lines)) e ∙ drop-one (prefix_len is_empty_line lines) l lines in
    let size : n + lines_len (l ∷ front_lines lines) ≡ (n + (length l + 1)) + lines_len (front_lines lines) = omega (arith, sum_by-cons (λ l. length l + 1) l (front_lines lines)) in
    let scanned : scan_front n (l ∷ lines) ≡ scan_front (n + (length l + 1)) lines = rw e in
    ap₂ (parts_place n) first later ∙ ap (λ m. place_by m (lines_len (text_lines lines)) (closing_lines lines)) size ∙ front_scan lines (n + (length l + 1)) ∙ sym scanned)
    (λ e.
    let first : front_lines (l ∷ lines) ≡ [] = take_while-cons is_empty_line l lines ∙ ap (λ t. cond t (l ∷ front_lines lines) []) e in
    let later : later_lines (l ∷ lines) ≡ l ∷ lines = ap (λ t. drop (cond t (1 + prefix_len is_empty_line lines) 0) (l ∷ lines)) e in
    let text : text_place n 0 (l ∷ lines) ≡ scan_text n (n + 0) (l ∷ lines) = text_scan (l ∷ lines) n 0 in
    let scanned : scan_text n (n + 0) (l ∷ lines) ≡ scan_front n (l ∷ lines) =
    ap (λ t. cond t (Some (n, n + 0 + (length l + 1))) (scan_text n (n + 0 + (length l + 1)) lines)) e
    ∙ ap (λ m. scan_text n m lines) (omega arith)
    ∙ sym (ap (λ t. cond t (scan_front (n + (length l + 1)) lines) (scan_text n (n + (length l + 1)) lines)) e) in
    ap₂ (parts_place n) first later ∙ ap₂ (λ a b. place_by a b (drop (prefix_len is_text_line (l ∷ lines)) (l ∷ lines))) (omega arith) (omega arith) ∙ text ∙ scanned)
    (cases_Bool (is_empty_line l))

pub place-scan : (lines : List (List ℕ)) → place_in lines ≡ scan_front 0 lines
place-scan lines = ap (λ m. place_by m (lines_len (text_lines lines)) (closing_lines lines)) (omega arith) ∙ front_scan lines 0

-- ---- more lines, and bounds
scan_text-more : (lines more : List (List ℕ)) (skip n : ℕ) (p : ℕ × ℕ) → scan_text skip n lines ≡ Some p → scan_text skip n (lines ++ more) ≡ Some p
scan_text-more [] more skip n p h = (cc)
scan_text-more (l ∷ lines) more skip n p h =
    ⊎_elim
    (λ e. rw e (rw e at h))
    (λ e. rw e (scan_text-more lines more skip (n + (length l + 1)) p (rw e at h)))
    (cases_Bool (is_empty_line l))

scan_front-more : (lines more : List (List ℕ)) (n : ℕ) (p : ℕ × ℕ) → scan_front n lines ≡ Some p → scan_front n (lines ++ more) ≡ Some p
scan_front-more [] more n p h = (cc)
scan_front-more (l ∷ lines) more n p h =
    ⊎_elim
    (λ e. rw e (scan_front-more lines more (n + (length l + 1)) p (rw e at h)))
    (λ e. rw e (scan_text-more lines more n (n + (length l + 1)) p (rw e at h)))
    (cases_Bool (is_empty_line l))

pub place-more : (lines more : List (List ℕ)) (p : ℕ × ℕ) → place_in lines ≡ Some p → place_in (lines ++ more) ≡ Some p
place-more lines more p h = place-scan (lines ++ more) ∙ scan_front-more lines more 0 p (sym (place-scan lines) ∙ h)
