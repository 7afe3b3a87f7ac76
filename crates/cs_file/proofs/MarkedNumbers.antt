-- Marks for numbers, one behind the other.
--
--   marks_start, marks_on      no mark is set at first, and one more with each number
--   whole_is                   all are set exactly where each number is there
--   any_posts, count_posts     tests of posts by their words
use Rattle.std.proofs.Common.{◌≡◌, ℕ, zero, suc, ◌+◌, ◌-◌, ◌<◌, ◌≤◌, ◌&&◌, ◌||◌, Bool, true, false, cond, List, [], ◌∷◌, length, get_or, set, take, map}
use Rattle.std.proofs.Common.{replicate, refl, sym, ap, ◌∙◌, arith, inl, inr, get_or-set_other, get_or-set_same}
use Rattle.std.specs.Prelude.{count_by, ◌==◌}
use Rattle.std.specs.List.{list_all, list_any, range_with_len}
use Rattle.std.proofs.lemmas.Bool.{cases_order, eq-eqb, ne_eqb}
use Rattle.std.proofs.lemmas.List.{take_more, length-set}
use Rattle.std.proofs.lemmas.List.Folds.{list_any-append}
use Rattle.std.proofs.lemmas.List.Sums.{sum_by-cons}
use Rattle.cs_base.specs.declared.content.doc.Post.{Post}
use Rattle.cs_file.specs.Parting.{HasMarks}

any_more : (p : ℕ → Bool) (xs : List ℕ) (i : ℕ) → i < length xs → list_any p (take (i + 1) xs) ≡ (list_any p (take i xs) || p (get_or xs i 0))
any_more p xs i lt = ap (list_any p) (take_more xs i 0 lt) ∙ list_any-append p (take i xs) (get_or xs i 0 ∷ [])
    ∙ ap (λ (b : Bool). list_any p (take i xs) || b) (last (p (get_or xs i 0)))
  where
    last : (b : Bool) → (b || false) ≡ b
    last true = refl
    last false = refl

replicated : (n k : ℕ) → let none : ℕ = 0 in get_or (replicate n none) k none ≡ none
replicated zero k = refl
replicated (suc n) zero = refl
replicated (suc n) (suc k) = replicated n k

pub marks_start : (words marks : List ℕ) (lo count : ℕ) → length marks ≡ count → marks ≡ replicate count 0 → HasMarks (take 0 words) lo count marks
marks_start words marks lo count len zeros = record {
  len = len;
  told = λ k lt. ap (λ (x : List ℕ). get_or x k 0 == 1) zeros ∙ ap (λ (n : ℕ). n == 1) (replicated count k);
}

or_false : (b : Bool) → (b || false) ≡ b
or_false true = refl
or_false false = refl

or_true : (b : Bool) → (b || true) ≡ true
or_true true = refl
or_true false = refl

pub marks_on : (words marks : List ℕ) (lo count i : ℕ) → i < length words → lo ≤ get_or words i 0 → get_or words i 0 < lo + count
    → HasMarks (take i words) lo count marks → HasMarks (take (i + 1) words) lo count (set marks (get_or words i 0 - lo) 1)
marks_on words marks lo count i lt from to h =
    let w = get_or words i 0 in
    let at = w - lo in
    let len = h.len in
    record {
      len = length-set marks at 1 ∙ len;
      told = λ k below.
          let more = any_more (λ x. x == lo + k) words i lt in
          elim (cases_order k at) [
            | inl same ↦
                let there : at < length marks = omega (arith, len, to, from) in
                let here : get_or (set marks at 1) k 0 ≡ 1 = ap (λ (n : ℕ). get_or (set marks at 1) n 0) same ∙ get_or-set_same marks at 1 0 there in
                let is : w ≡ lo + k = omega (arith, same, from) in
                ap (λ (n : ℕ). n == 1) here ∙ sym (more ∙ ap (λ (b : Bool). list_any (λ x. x == lo + k) (take i words) || b) (eq-eqb w (lo + k) is)
                ∙ or_true (list_any (λ x. x == lo + k) (take i words)))
            | inr other ↦
                let apart : k ≡ at → ⊥ = elim other [ inl a ↦ λ e. omega arith | inr b ↦ λ e. omega arith ] in
                let here : get_or (set marks at 1) k 0 ≡ get_or marks k 0 = get_or-set_other marks at k 1 0 apart in
                let no : (w == lo + k) ≡ false = ne_eqb w (lo + k) (λ e. apart (omega (arith, e, from))) in
                ap (λ (n : ℕ). n == 1) here ∙ h.told k below ∙ sym
                (more ∙ ap (λ (b : Bool). list_any (λ x. x == lo + k) (take i words) || b) no ∙ or_false (list_any (λ x. x == lo + k) (take i words)))
          ];
    }

ranged : (f : ℕ → Bool) (marks : List ℕ) (lo count : ℕ) → length marks ≡ count → ((k : ℕ) → k < count → (get_or marks k 0 == 1) ≡ f (lo + k))
    → list_all (λ m. m == 1) marks ≡ list_all f (range_with_len lo count)
ranged f [] lo zero len told = refl
ranged f [] lo (suc count) len told = absurd (omega arith)
ranged f (m ∷ marks) lo zero len told = absurd (omega arith)
ranged f (m ∷ marks) lo (suc count) len told =
    let same : lo + 0 ≡ lo = omega arith in
    let here : (m == 1) ≡ f lo = told 0 (omega arith) ∙ ap f same in
    let rest = ranged f marks (lo + 1) count (omega arith)
    (λ k lt. let next : lo + suc k ≡ lo + 1 + k = omega arith in told (suc k) (omega arith) ∙ ap f next) in
    ap (λ (b : Bool). b && list_all (λ m. m == 1) marks) here ∙ ap (λ (b : Bool). f lo && b) rest

pub whole_is : (words marks : List ℕ) (lo count : ℕ) → HasMarks words lo count marks
    → list_all (λ m. m == 1) marks ≡ list_all (λ n. list_any (λ w. w == n) words) (range_with_len lo count)
whole_is words marks lo count h = ranged (λ n. list_any (λ w. w == n) words) marks lo count h.len h.told

-- ---- posts
any_word : (n : ℕ) (posts : List Post) → list_any (λ w. w == n) (map (λ p. p.word) posts) ≡ list_any (λ p. p.word == n) posts
any_word n [] = refl
any_word n (p ∷ posts) = ap (λ (b : Bool). (p.word == n) || b) (any_word n posts)

pub any_posts : (posts : List Post) (ns : List ℕ)
    → list_all (λ n. list_any (λ w. w == n) (map (λ p. p.word) posts)) ns ≡ list_all (λ n. list_any (λ p. p.word == n) posts) ns
any_posts posts [] = refl
any_posts posts (n ∷ ns) = ap (λ (b : Bool). b && list_all (λ n. list_any (λ w. w == n) (map (λ p. p.word) posts)) ns) (any_word n posts)
    ∙ ap (λ (b : Bool). list_any (λ p. p.word == n) posts && b) (any_posts posts ns)

pub count_posts : (n : ℕ) (posts : List Post) → count_by (λ w. w == n) (map (λ p. p.word) posts) ≡ count_by (λ p. p.word == n) posts
count_posts n [] = refl
count_posts n (p ∷ posts) =
    let test : ℕ → ℕ = λ w. cond (w == n) 1 0 in
    sum_by-cons test p.word (map (λ p. p.word) posts) ∙ ap (λ (m : ℕ). test p.word + m) (count_posts n posts)
    ∙ sym (sum_by-cons (λ (q : Post). test q.word) p posts)
