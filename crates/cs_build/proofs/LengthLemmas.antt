-- How many bytes gap codes and blocks have.
--
--   short_code, long_code    a code of one byte, and one that goes on
--   block_length             the bytes of a block
--   gaps_on                  one gap code more
use Rattle.std.proofs.Common.{◌≡◌, ℕ, zero, suc, ◌+◌, ◌*◌, ◌/◌, ◌-◌, ◌<◌, ◌≤◌, ◌^◌, true, false, List, [], ◌∷◌, ◌++◌, length, drop, get_or, refl, sym, ap, ◌∙◌, add-one, arith, length-append, drop-cons}
use Rattle.std.specs.Prelude.{flat_map, nat_lt}
use Rattle.std.specs.Int.{w16, w32, to_be_bytes}
use Rattle.std.proofs.Math.Nat.{mul-suc}
use Rattle.std.proofs.lemmas.Bool.Decides.{nat_tests}
use Rattle.std.proofs.lemmas.List.{length-map}
use Rattle.std.proofs.lemmas.List.Concat.{flat_map-cons}
use Rattle.cs_base.specs.index.GapCode.{code_in, code}
use Rattle.cs_base.specs.declared.content.doc.Post.{Post}
use Rattle.cs_model_index.specs.Blocks.{gap_column, word_column, position_column, score_column, block_bytes}

pub short_code : (k n : ℕ) → n < 128 → length (code_in k n) ≡ 1
unfolding code_in
short_code zero n h = refl
short_code (suc k) n h = let t : nat_lt n 128 ≡ true = grind (arith, nat_tests) in rw t refl

pub long_code : (k n : ℕ) → 128 ≤ n → length (code_in (suc k) n) ≡ 1 + length (code_in k (n / 128))
unfolding code_in
long_code k n h = let t : nat_lt n 128 ≡ false = grind (arith, nat_tests) in rw t (omega arith)

-- where it has how many bytes
pub code_1 : (n : ℕ) → n < 2 ^ 7 → length (code n) ≡ 1
unfolding code
code_1 n h = short_code 4 n h

pub code_2 : (n : ℕ) → 2 ^ 7 ≤ n → n < 2 ^ 14 → length (code n) ≡ 2
unfolding code
code_2 n l h = let a = long_code 3 n l in let b = short_code 3 (n / 128) (omega (arith, h)) in omega (arith, a, b)

-- two, and three, bytes in front of what is left
two_on : (n : ℕ) → 2 ^ 14 ≤ n → length (code n) ≡ 2 + length (code_in 2 (n / 128 / 128))
unfolding code
two_on n l = let a = long_code 3 n (omega (arith, l)) in let b = long_code 2 (n / 128) (omega (arith, l)) in omega (arith, a, b)

three_on : (n : ℕ) → 2 ^ 21 ≤ n → length (code n) ≡ 3 + length (code_in 1 (n / 128 / 128 / 128))
three_on n l = let a = two_on n (omega (arith, l)) in let b = long_code 1 (n / 128 / 128) (omega (arith, l)) in omega (arith, a, b)

pub code_3 : (n : ℕ) → 2 ^ 14 ≤ n → n < 2 ^ 21 → length (code n) ≡ 3
code_3 n l h = let a = two_on n l in let b = short_code 2 (n / 128 / 128) (omega (arith, h)) in omega (arith, a, b)

pub code_4 : (n : ℕ) → 2 ^ 21 ≤ n → n < 2 ^ 28 → length (code n) ≡ 4
code_4 n l h = let a = three_on n l in let b = short_code 1 (n / 128 / 128 / 128) (omega (arith, h)) in omega (arith, a, b)

last_code : (n : ℕ) → length (code_in 0 n) ≡ 1
unfolding code_in
last_code n = refl

pub code_5 : (n : ℕ) → 2 ^ 28 ≤ n → length (code n) ≡ 5
code_5 n l =
    let a = three_on n (omega (arith, l)) in
    let b = long_code 0 (n / 128 / 128 / 128) (omega (arith, l)) in
    let c = last_code (n / 128 / 128 / 128 / 128) in
    omega (arith, a, b, c)

-- ---- blocks
-- of a column with so many bytes for each row
column_length : (f : Post → List ℕ) (n : ℕ) → ((r : Post) → length (f r) ≡ n) → (rs : List Post) → length (flat_map f rs) ≡ n * length rs
column_length f n each [] = omega arith
column_length f n each (r ∷ rs) =
    let rest = column_length f n each rs in
    omega (arith, rest, each r, length-append (f r) (flat_map f rs), ap length (flat_map-cons f r rs), mul-suc n (length rs))

words_length : (lo : ℕ) (rs : List Post) → length (word_column lo rs) ≡ 2 * length rs
unfolding word_column
words_length lo rs = column_length (λ r. to_be_bytes w16 (r.word - lo)) 2 (λ r. refl) rs

positions_length : (rs : List Post) → length (position_column rs) ≡ 4 * length rs
unfolding position_column
positions_length rs = column_length (λ r. to_be_bytes w32 r.pos) 4 (λ r. refl) rs

scores_length : (rs : List Post) → length (score_column rs) ≡ length rs
unfolding score_column
scores_length rs = length-map rs (λ (r : Post). r.score)

pub block_length : (rs : List Post) (lo : ℕ) → length (block_bytes rs lo) ≡ length (gap_column 0 rs) + 7 * length rs
unfolding block_bytes
block_length rs lo =
    omega (
      arith,
      length-append (gap_column 0 rs) (word_column lo rs ++ (position_column rs ++ score_column rs)),
      length-append (word_column lo rs) (position_column rs ++ score_column rs),
      length-append (position_column rs) (score_column rs),
      words_length lo rs,
      positions_length rs,
      scores_length rs,
    )

pub no_gaps : (before : ℕ) → length (gap_column before []) ≡ 0
unfolding gap_column
no_gaps before = refl

gap_more : (before : ℕ) (r : Post) (rs : List Post) → length (gap_column before (r ∷ rs)) ≡ length (code (r.doc - before)) + length (gap_column r.doc rs)
unfolding gap_column
gap_more before r rs = length-append (code (r.doc - before)) (gap_column r.doc rs)

pub gaps_on : (before i : ℕ) (r : Post) (rs : List Post) → i < length rs → r ≡ get_or rs i r → length (gap_column before (drop i rs)) ≡ length (code (r.doc - before)) + length (gap_column r.doc (drop (i + 1) rs))
gaps_on before i r rs l is =
    ap (λ x. length (gap_column before x)) (drop-cons rs i r l ∙ ap (λ n. get_or rs i r ∷ drop n rs) (sym (add-one i)) ∙ ap (λ x. x ∷ drop (i + 1) rs) (sym is))
    ∙ gap_more before r (drop (i + 1) rs)
