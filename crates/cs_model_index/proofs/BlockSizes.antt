-- How many bytes a block has, and when rows keep each rule.
--
--   block_len      from 8 to 12 bytes a row
--   meet_all       rows keep all rules where each row keeps those on rows, and where they ascend
use Rattle.std.proofs.Common.{◌≡◌, ℕ, zero, suc, ◌+◌, ◌-◌, ◌*◌, ◌/◌, ◌%◌, ◌<◌, ◌≤◌, Bool, true, false, cond, List, [], ◌∷◌, ◌++◌, length, Option, Some, None, refl, ap, arith, length-append}
use Rattle.std.specs.Prelude.{nat_lt}
use Rattle.std.specs.List.{AllByRecursion}
use Rattle.std.specs.List.Sorted.{IsStrictlySortedBy}
use Rattle.std.specs.Ordering.{is_lt}
use Rattle.std.specs.declared.cmp.Ordering.TheVariants.{Less}
use Rattle.std.proofs.lemmas.Bool.{and_from, lt-ltb}
use Rattle.std.proofs.lemmas.List.{length-map}
use Rattle.cs_base.specs.content.Orders.{by_place}
use Rattle.cs_base.specs.declared.content.doc.Post.{Post}
use Rattle.cs_base.specs.declared.index.block.BlockHead.{BlockHead}
use Rattle.cs_base.specs.index.GapCode.{code, code_in}
use Rattle.cs_base.specs.declared.content.scores.Weights.{Weights}
use Rattle.cs_model_index.specs.Blocks.{gap_column, word_column, position_column, score_column, block_bytes}
use Rattle.cs_model_index.specs.BlockRules.{is_scored, is_after, keeps, rules, MeetAll}

-- ---- bytes
code_at : (b : Bool) (k n : ℕ) (rest : List ℕ) → 1 ≤ length rest → length rest ≤ k + 1 → (1 ≤ length (cond b (n ∷ []) ((n % 128 + 128) ∷ rest))) × (length (cond b (n ∷ []) ((n % 128 + 128) ∷ rest)) ≤ suc k + 1)
code_at true k n rest l m = (omega arith, omega arith)
code_at false k n rest l m = (omega arith, omega arith)

code_in_len : (k n : ℕ) → (1 ≤ length (code_in k n)) × (length (code_in k n) ≤ k + 1)
unfolding code_in
code_in_len zero n = (omega arith, omega arith)
code_in_len (suc k) n = let rest = code_in_len k (n / 128) in code_at (nat_lt n 128) k n (code_in k (n / 128)) rest.0 rest.1

code_len : (n : ℕ) → (1 ≤ length (code n)) × (length (code n) ≤ 5)
unfolding code
code_len n = code_in_len 4 n

gaps_len : (before : ℕ) (rs : List Post) → (length rs ≤ length (gap_column before rs)) × (length (gap_column before rs) ≤ 5 * length rs)
unfolding gap_column
gaps_len before [] = (omega arith, omega arith)
gaps_len before (r ∷ rs) =
    let one = code_len (r.doc - before) in
    let rest = gaps_len r.doc rs in
    let both = length-append (code (r.doc - before)) (gap_column r.doc rs) in
    (omega (arith, one.0, rest.0, both), omega (arith, one.1, rest.1, both))

words_len : (lo : ℕ) (rs : List Post) → length (word_column lo rs) ≡ 2 * length rs
unfolding word_column
words_len lo [] = refl
words_len lo (r ∷ rs) = let rest = words_len lo rs in omega (arith, rest)

positions_len : (rs : List Post) → length (position_column rs) ≡ 4 * length rs
unfolding position_column
positions_len [] = refl
positions_len (r ∷ rs) = let rest = positions_len rs in omega (arith, rest)

scores_len : (rs : List Post) → length (score_column rs) ≡ length rs
unfolding score_column
scores_len rs = length-map rs (λ r. r.score)

pub block_len : (rs : List Post) (lo : ℕ) → (8 * length rs ≤ length (block_bytes rs lo)) × (length (block_bytes rs lo) ≤ 12 * length rs)
unfolding block_bytes
block_len rs lo =
    let gaps = gaps_len 0 rs in
    let all = length-append (gap_column 0 rs) (word_column lo rs ++ (position_column rs ++ score_column rs)) in
    let behind = length-append (word_column lo rs) (position_column rs ++ score_column rs) in
    let last = length-append (position_column rs) (score_column rs) in
    (omega (arith, gaps.0, all, behind, last, words_len lo rs, positions_len rs, scores_len rs), omega (arith, gaps.1, all, behind, last, words_len lo rs, positions_len rs, scores_len rs))

-- ---- rules
keeps_each : (holds : Option Post → Post → Bool) (P : Post → Type 0) → ((last : Option Post) (r : Post) → P r → holds last r ≡ true) → (last : Option Post) (rs : List Post) → AllByRecursion P rs → keeps holds last rs ≡ true
unfolding keeps
keeps_each holds P one last [] h = refl
keeps_each holds P one last (r ∷ rs) h = and_from (holds last r) (keeps holds (Some r) rs) (one last r h.0) (keeps_each holds P one (Some r) rs h.1)

keeps_behind : (p : Post) (rs : List Post) → AllByRecursion (λ r. by_place p r ≡ Less) rs → IsStrictlySortedBy by_place rs → keeps is_after (Some p) rs ≡ true
unfolding keeps IsStrictlySortedBy
keeps_behind p [] h up = refl
keeps_behind p (r ∷ rs) h up = and_from (is_after (Some p) r) (keeps is_after (Some r) rs) (ap is_lt h.0) (keeps_behind r rs up.0 up.1)

keeps_order : (rs : List Post) → IsStrictlySortedBy by_place rs → keeps is_after None rs ≡ true
unfolding keeps IsStrictlySortedBy
keeps_order [] up = refl
keeps_order (r ∷ rs) up = keeps_behind r rs up.0 up.1

pub meet_all : (weights : Weights) (head : BlockHead) (docs : ℕ) (rs : List Post) → AllByRecursion (λ r. r.doc < docs) rs → AllByRecursion (λ r. r.word < head.lo + head.words) rs → AllByRecursion (λ r. is_scored weights head.facet r ≡ true) rs
    → IsStrictlySortedBy by_place rs → MeetAll (rules weights head docs) rs
meet_all weights head docs rs known words scored up = (
  keeps_each (λ last r. nat_lt r.doc docs) (λ r. r.doc < docs) (λ last r h. lt-ltb r.doc docs h) None rs known,
  (
    keeps_each (λ last r. nat_lt r.word (head.lo + head.words)) (λ r. r.word < head.lo + head.words) (λ last r h. lt-ltb r.word (head.lo + head.words) h) None rs words,
    (
      keeps_each (λ last r. is_scored weights head.facet r) (λ r. is_scored weights head.facet r ≡ true) (λ last r h. h) None rs scored,
      (keeps_order rs up, tt),
    ),
  ),
)
