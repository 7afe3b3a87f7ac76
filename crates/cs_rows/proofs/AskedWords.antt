-- The words that an atom asks for, and the blocks that hold them.
--
--   range_there, no_range      a word that is there, and one that isn't
--   filter_less             what passes another test too is no less
--   met_holds               each block that is met for some words holds one of them
--   prefix_met, word_met    how many blocks hold such words
use Rattle.std.proofs.Common.{◌≡◌, ℕ, suc, ◌+◌, ◌-◌, ◌<◌, ◌≤◌, ◌&&◌, max, Bool, true, false, cond, List, [], ◌∷◌, length, get_or, drop, refl, sym, ap}
use Rattle.std.proofs.Common.{subst, ◌∙◌, arith, length-take, length-drop, get_or-drop, get_or-take, if◌then◌else◌}
use Rattle.std.specs.Prelude.{All, filter, nat_le, nat_lt}
use Rattle.std.specs.List.{AllByRecursion, list_any}
use Rattle.std.specs.Str.{bytes_eq}
use Rattle.std.proofs.lemmas.Bool.Decides.{nat_tests}
use Rattle.std.proofs.lemmas.List.Elements.{recursion_from_All}
use Rattle.std.proofs.lemmas.List.Folds.{list_any_at}
use Rattle.cs_base.specs.declared.index.block.BlockHead.{BlockHead}
use Rattle.cs_base.proofs.NameMaps.{name_itself}
use Rattle.cs_file.specs.Indexes.{IndexView, IsIndex, is_met}
use Rattle.cs_file.proofs.HeadsLemmas.{head_filled, head_within, heads_rise}
use Rattle.cs_model.specs.Answers.{begins}
use Rattle.cs_model_kept.specs.Due.{block_words, met_prefix, met_word}
use Rattle.cs_vocab.specs.Ranges.{IsWordAt, IsRange}
use Rattle.cs_rows.specs.IndexReading.{division, IsRangeOf}
use Rattle.cs_rows.specs.Stocked.{HoldsBetween}
use Rattle.cs_model_index.specs.Numbered.{word_at}
use Rattle.cs_rows.proofs.AtomsLemmas.{span_word, span_none}

-- ---- spans
pub range_there : (i : IndexView) → IsIndex i → (n : ℕ) (w : List ℕ) → IsWordAt i.words n w → IsRangeOf i.words (λ v. bytes_eq v w) n (n + 1)
range_there i is n w at = record { ordered = omega arith; within = omega (arith, at.0); holds = span_word i.words is.ascending n w at }

pub no_range : (ws : List (List ℕ)) (w : List ℕ) → list_any (bytes_eq w) ws ≡ false → IsRangeOf ws (λ v. bytes_eq v w) 0 0
no_range ws w none = record { ordered = omega arith; within = omega arith; holds = span_none ws w none }

pub word_there : (ws : List (List ℕ)) (n : ℕ) (w : List ℕ) → IsWordAt ws n w → list_any (bytes_eq w) ws ≡ true
word_there ws n w at = list_any_at (bytes_eq w) ws n [] at.0 (ap (bytes_eq w) at.1 ∙ name_itself w)

-- ---- blocks
pub filter_less : {X : Type 0} (p q : X → Bool) (xs : List X) → All (λ x. p x ≡ true → q x ≡ true) xs → length (filter p xs) ≤ length (filter q xs)
filter_less {X} p q xs h = by xs (recursion_from_All (λ x. p x ≡ true → q x ≡ true) xs h)
  where
    by : (xs : List X) → AllByRecursion (λ x. p x ≡ true → q x ≡ true) xs → length (filter p xs) ≤ length (filter q xs)
    by [] h = omega arith
    by (x ∷ xs) h =
        let rest = by xs h.1 in
        elim (p x) as (λ a. p x ≡ a → length (cond a (x ∷ filter p xs) (filter p xs)) ≤ length (cond (q x) (x ∷ filter q xs) (filter q xs))) [
          | true ↦ λ e. subst (λ a. length (x ∷ filter p xs) ≤ length (cond a (x ∷ filter q xs) (filter q xs))) (sym (h.0 e)) (omega (arith, rest))
          | false ↦ λ e. elim (q x) as (λ a. length (filter p xs) ≤ length (cond a (x ∷ filter q xs) (filter q xs))) [
            | true ↦ omega (arith, rest)
            | false ↦ rest
          ]
        ] refl

met_parts : (lo hi : ℕ) (h : BlockHead) → is_met lo hi h ≡ true → (lo < h.lo + h.words) × (h.lo < hi) × (lo < hi)
met_parts lo hi h e = (low lo hi h.lo (h.lo + h.words) e, middle lo hi h.lo (h.lo + h.words) e, high lo hi h.lo (h.lo + h.words) e)
  where
    low : (lo hi a b : ℕ) → (nat_lt lo b && (nat_lt a hi && nat_lt lo hi)) ≡ true → lo < b
    low lo hi a b e = grind (arith, nat_tests)

    middle : (lo hi a b : ℕ) → (nat_lt lo b && (nat_lt a hi && nat_lt lo hi)) ≡ true → a < hi
    middle lo hi a b e = grind (arith, nat_tests)

    high : (lo hi a b : ℕ) → (nat_lt lo b && (nat_lt a hi && nat_lt lo hi)) ≡ true → lo < hi
    high lo hi a b e = grind (arith, nat_tests)

in_turn : (lo n hi : ℕ) → lo ≤ n → n < hi → (nat_le lo n && nat_lt n hi) ≡ true
in_turn lo n hi a b = grind (arith, nat_tests)

-- each block that is met for the words that pass a test holds one of them
pub met_holds : (i : IndexView) → IsIndex i → (test : List ℕ → Bool) (lo hi : ℕ) → HoldsBetween i.words test lo hi → hi ≤ length i.words
    → All (λ h. is_met lo hi h ≡ true → list_any test (block_words (division i) h) ≡ true) i.heads
met_holds i is test lo hi holds within k d l e =
    let h = get_or i.heads k d in
    let met = met_parts lo hi h e in
    let ends = head_within i is k d l in
    let filled = head_filled i is k d l in
    let n = max lo h.lo in
    let at : h.lo + (n - h.lo) ≡ n = omega arith in
    let here : n < length i.words = omega (arith, met.1, met.2, within) in
    let own : test (word_at i.words n) ≡ true = holds n here ∙ in_turn lo n hi (omega arith) (omega (arith, met.1, met.2)) in
    let place : n - h.lo < h.words = omega (arith, met.0, filled) in
    let l1 = length-take h.words (drop h.lo i.words) in
    let l2 = length-drop h.lo i.words in
    let there : get_or (block_words (division i) h) (n - h.lo) [] ≡ word_at i.words n = get_or-take h.words (drop h.lo i.words) (n - h.lo) [] place
    ∙ get_or-drop h.lo i.words (n - h.lo) [] ∙ ap (word_at i.words) at in
    list_any_at test (block_words (division i) h) (n - h.lo) [] (omega (arith, l1, l2, place, ends)) (ap test there ∙ own)

pub prefix_met : (i : IndexView) → IsIndex i → (p : List ℕ) (lo hi : ℕ) → IsRange i.words p lo hi
    → length (filter (is_met lo hi) i.heads) ≤ met_prefix (division i) p
prefix_met i is p lo hi range =
    filter_less (is_met lo hi) (λ h. list_any (begins p) (block_words (division i) h)) i.heads (met_holds i is (begins p) lo hi range.holds range.within)

-- blocks that lie one behind the other
abbrev AreApart : List BlockHead → Type 0
AreApart hs = (k l : ℕ) (d : BlockHead) → k < l → l < length hs → (get_or hs k d).lo + (get_or hs k d).words ≤ (get_or hs l d).lo

none_met : (a lo hi : ℕ) (hs : List BlockHead) → hi ≤ a → ((k : ℕ) (d : BlockHead) → k < length hs → a ≤ (get_or hs k d).lo)
    → length (filter (is_met lo hi) hs) ≤ 0
none_met a lo hi [] l from = omega arith
none_met a lo hi (h ∷ hs) l from =
    elim (is_met lo hi h) as (λ e. is_met lo hi h ≡ e → length (cond e (h ∷ filter (is_met lo hi) hs) (filter (is_met lo hi) hs)) ≤ 0) [
      | true ↦ λ e. let met = met_parts lo hi h e in let first = from 0 h (omega arith) in absurd (omega (arith, met.1, first, l))
      | false ↦ λ e. none_met a lo hi hs l (λ k d m. from (suc k) d (omega (arith, m)))
    ] refl

one_met : (lo hi : ℕ) (hs : List BlockHead) → AreApart hs → hi ≤ lo + 1 → length (filter (is_met lo hi) hs) ≤ 1
one_met lo hi [] apart l = omega arith
one_met lo hi (h ∷ hs) apart l =
    elim (is_met lo hi h) as (λ e. is_met lo hi h ≡ e → length (cond e (h ∷ filter (is_met lo hi) hs) (filter (is_met lo hi) hs)) ≤ 1) [
      | true ↦ λ e.
          let met = met_parts lo hi h e in
          let rest = none_met (h.lo + h.words) lo hi hs (omega (arith, met.0, l)) (λ k d m. apart 0 (suc k) d (omega arith) (omega (arith, m))) in
          omega (arith, rest)
      | false ↦ λ e. one_met lo hi hs (λ k m d up n. apart (suc k) (suc m) d (omega (arith, up)) (omega (arith, n))) l
    ] refl

pub empty_met : (lo hi : ℕ) (hs : List BlockHead) → lo ≡ hi → length (filter (is_met lo hi) hs) ≤ 0
empty_met lo hi [] e = omega arith
empty_met lo hi (h ∷ hs) same =
    elim (is_met lo hi h) as (λ e. is_met lo hi h ≡ e → length (cond e (h ∷ filter (is_met lo hi) hs) (filter (is_met lo hi) hs)) ≤ 0) [
      | true ↦ λ e. let met = met_parts lo hi h e in absurd (omega (arith, met.2, same))
      | false ↦ λ e. empty_met lo hi hs same
    ] refl

pub word_met : (i : IndexView) → IsIndex i → (w : List ℕ) (lo hi : ℕ) → hi ≤ lo + 1 → (list_any (bytes_eq w) i.words ≡ false → lo ≡ hi)
    → length (filter (is_met lo hi) i.heads) ≤ met_word (division i) w
word_met i is w lo hi short none =
    elim (list_any (bytes_eq w) i.words) as (λ e. list_any (bytes_eq w) i.words ≡ e → length (filter (is_met lo hi) i.heads) ≤ (if e then 1 else 0)) [
      | true ↦ λ e. one_met lo hi i.heads (heads_rise i is) short
      | false ↦ λ e. empty_met lo hi i.heads (none e)
    ] refl
