-- The words of ASCII text, one after another.
--
--   words_of-no_word      no letter and no digit, no word
--   words_of-first_word   the first word is the first run, cut, and the others are those of what stands behind the run
use Rattle.std.proofs.Common.{◌≡◌, ℕ, suc, ◌+◌, ◌<◌, ◌≤◌, Bool, true, false, not, min, List, [], ◌∷◌, map, filter, length, take, drop, refl, ap, sym, subst, ◌∙◌, arith}
use Rattle.std.specs.Char.{is_ascii_alphanumeric}
use Rattle.std.specs.List.{slice_split, prefix_len, position_or_len}
use Rattle.std.specs.Str.{chars, IsAscii}
use Rattle.std.proofs.lemmas.Bool.Decides.{nat_tests}
use Rattle.std.proofs.lemmas.List.{take-take, drop_all, length-take-le}
use Rattle.std.proofs.lemmas.List.Folds.{length-prefix_len}
use Rattle.std.proofs.lemmas.List.Sums.{prefix_len-drop_yes, prefix_len-le-length, passes_at_first}
use Rattle.std.proofs.lemmas.Str.{chars-IsAscii, IsAscii-drop}
use Rattle.cs_base.specs.declared.content.limits.TheConstants.{MAX_PLAIN_WORD_BYTES}
use Rattle.cs_model.specs.Words.{is_filled, words_of}
use Rattle.cs_model.proofs.AsciiLemmas.{words_of-ascii, AllAscii-from_IsAscii}
use Rattle.cs_text.proofs.WordPiecesLemmas.{take-min}

-- the maximal runs of what passes
abbrev runs_of : (ℕ → Bool) → List ℕ → List (List ℕ)
runs_of w xs = filter is_filled (slice_split (λ x. not (w x)) xs)

-- ---- behind a gap

behind_gap_at : (b : Bool) (w : ℕ → Bool) (x : ℕ) (xs : List ℕ) → w x ≡ b → runs_of w xs ≡ runs_of w (drop (position_or_len w xs) xs) → runs_of w (x ∷ xs) ≡ runs_of w (drop (position_or_len w (x ∷ xs)) (x ∷ xs))
behind_gap_at true w x xs h more = simp h
behind_gap_at false w x xs h more = let e : 1 + position_or_len w xs ≡ suc (position_or_len w xs) = omega arith in rw (h, e) more

behind_gap : (w : ℕ → Bool) (xs : List ℕ) → runs_of w xs ≡ runs_of w (drop (position_or_len w xs) xs)
behind_gap w [] = refl
behind_gap w (x ∷ xs) = behind_gap_at (w x) w x xs refl (behind_gap w xs)

-- ---- the run at the front

record FirstPiece (w : ℕ → Bool) (xs : List ℕ) : Type 0 where
  behind : List (List ℕ)
  is : slice_split (λ x. not (w x)) xs ≡ take (prefix_len w xs) xs ∷ behind
  runs : runs_of w (drop (prefix_len w xs) xs) ≡ filter is_filled behind

first_piece_at : (b : Bool) (w : ℕ → Bool) (x : ℕ) (xs : List ℕ) → w x ≡ b → FirstPiece w xs → FirstPiece w (x ∷ xs)
first_piece_at true w x xs h more =
    let e : 1 + prefix_len w xs ≡ suc (prefix_len w xs) = omega arith in
    record { behind = more.behind; is = rw (h, e, more.is) refl; runs = rw (h, e) more.runs }
first_piece_at false w x xs h more = record { behind = slice_split (λ x. not (w x)) xs; is = simp h; runs = simp h }

first_piece : (w : ℕ → Bool) (xs : List ℕ) → FirstPiece w xs
first_piece w [] = record { behind = []; is = refl; runs = refl }
first_piece w (x ∷ xs) = first_piece_at (w x) w x xs refl (first_piece w xs)

first_run : (w : ℕ → Bool) (xs : List ℕ) → 1 ≤ prefix_len w xs → runs_of w xs ≡ take (prefix_len w xs) xs ∷ runs_of w (drop (prefix_len w xs) xs)
first_run w xs some =
    let piece = first_piece w xs in
    let filled : is_filled (take (prefix_len w xs) xs) ≡ true = grind (arith, nat_tests, length-prefix_len w xs) in
    ap (filter is_filled) piece.is ∙ rw filled (ap (λ ws. take (prefix_len w xs) xs ∷ ws) (sym piece.runs))

-- ---- words

words_of-runs : (bs : List ℕ) → IsAscii bs → words_of (chars bs) ≡ map (take MAX_PLAIN_WORD_BYTES) (runs_of is_ascii_alphanumeric bs)
words_of-runs bs h = ap words_of (chars-IsAscii bs h) ∙ words_of-ascii bs (AllAscii-from_IsAscii bs h)

pub words_of-no_word : (bs : List ℕ) → IsAscii bs → position_or_len is_ascii_alphanumeric bs ≡ length bs → words_of (chars bs) ≡ []
words_of-no_word bs h none =
    let past : drop (position_or_len is_ascii_alphanumeric bs) bs ≡ [] = drop_all (position_or_len is_ascii_alphanumeric bs) bs (omega arith) in
    words_of-runs bs h ∙ ap (map (take MAX_PLAIN_WORD_BYTES)) (behind_gap is_ascii_alphanumeric bs ∙ ap (runs_of is_ascii_alphanumeric) past)

some_run : (bs : List ℕ) → position_or_len is_ascii_alphanumeric bs < length bs → 1 ≤ prefix_len is_ascii_alphanumeric (drop (position_or_len is_ascii_alphanumeric bs) bs)
some_run bs some =
    let start = position_or_len is_ascii_alphanumeric bs in
    omega (arith, prefix_len-drop_yes is_ascii_alphanumeric bs start 0 some (passes_at_first is_ascii_alphanumeric bs 0 some))

cut_run : (n : ℕ) (xs : List ℕ) → n ≤ length xs → take MAX_PLAIN_WORD_BYTES (take n xs) ≡ take (min n MAX_PLAIN_WORD_BYTES) xs
cut_run n xs within =
    sym (take-min MAX_PLAIN_WORD_BYTES (take n xs)) ∙ ap (λ k. take (min k MAX_PLAIN_WORD_BYTES) (take n xs)) (length-take-le n xs within)
    ∙ take-take (min n MAX_PLAIN_WORD_BYTES) n xs (omega arith)

-- the run at the front of `left`, which begins at the first letter or digit of bs
pub record IsFirstRun (bs left : List ℕ) (end : ℕ) : Type 0 where
  pub some : position_or_len is_ascii_alphanumeric bs < length bs
  pub left_is : left ≡ drop (position_or_len is_ascii_alphanumeric bs) bs
  pub end_is : end ≡ prefix_len is_ascii_alphanumeric left

pub first_run-some : (bs left : List ℕ) (end : ℕ) → IsFirstRun bs left end → 1 ≤ end
first_run-some bs left end r = subst (λ n. 1 ≤ n) (ap (prefix_len is_ascii_alphanumeric) (sym r.left_is) ∙ sym r.end_is) (some_run bs r.some)

pub words_of-first_word : (bs left : List ℕ) (end : ℕ) → IsAscii bs → IsFirstRun bs left end → words_of (chars bs) ≡ take (min end MAX_PLAIN_WORD_BYTES) left ∷ words_of (chars (drop end left))
words_of-first_word bs left end h r =
    let ascii : IsAscii left = subst IsAscii (sym r.left_is) (IsAscii-drop bs (position_or_len is_ascii_alphanumeric bs) h) in
    let within : end ≤ length left = omega (arith, r.end_is, prefix_len-le-length is_ascii_alphanumeric left) in
    let some : 1 ≤ prefix_len is_ascii_alphanumeric left = omega (arith, first_run-some bs left end r, r.end_is) in
    let run = ap (runs_of is_ascii_alphanumeric) (sym r.left_is) ∙ first_run is_ascii_alphanumeric left some
    ∙ ap (λ n. take n left ∷ runs_of is_ascii_alphanumeric (drop n left)) (sym r.end_is) in
    words_of-runs bs h ∙ ap (map (take MAX_PLAIN_WORD_BYTES)) (behind_gap is_ascii_alphanumeric bs ∙ run)
    ∙ ap (λ w. w ∷ map (take MAX_PLAIN_WORD_BYTES) (runs_of is_ascii_alphanumeric (drop end left))) (cut_run end left within)
    ∙ ap (λ ws. take (min end MAX_PLAIN_WORD_BYTES) left ∷ ws) (sym (words_of-runs (drop end left) (IsAscii-drop left end ascii)))
