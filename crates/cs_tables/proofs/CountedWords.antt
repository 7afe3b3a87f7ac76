-- The words that are collected from the marks are those of the rows, each with its number of documents.
--
--   collected_words, counts-are     the lemma itself
--   words_within   the words that a range holds
use Rattle.std.proofs.Common.{◌≡◌, ℕ, zero, suc, ◌+◌, ◌<◌, ◌≤◌, Bool, true, false, ◌||◌, List, [], ◌∷◌, ◌++◌, map, length, take, take_all, get_or, ◌==◌, nat_lt, refl, sym, ◌∙◌, ap, subst, arith, true≢false, if◌then◌else◌}
use Rattle.std.specs.List.{AllByRecursion, list_any}
use Rattle.std.specs.List.Sorted.{IsStrictlySortedBy}
use Rattle.std.specs.Ordering.{nat_cmp, eq_by_cmp}
use Rattle.std.specs.declared.cmp.Ordering.TheVariants.{Less}
use Rattle.std.specs.FinMap.{nat_cmp-IsAntisymmetric}
use Rattle.std.specs.Cmp.{nat_cmp_total, both_ways, unsigned_ties}
use Rattle.std.proofs.lemmas.Bool.{eqb-true, eq-eqb, or_left, or_right}
use Rattle.std.proofs.lemmas.Bool.Decides.{nat_tests}
use Rattle.std.proofs.lemmas.List.{length-map}
use Rattle.cs_base.specs.content.Members.{members_in}
use Rattle.cs_base.specs.content.Orders.{AreSorted}
use Rattle.cs_base.specs.declared.content.doc.Post.{Post}
use Rattle.cs_base.specs.declared.content.doc.Scored.{Scored}
use Rattle.cs_base.proofs.MembersLemmas.{members_are, is_member-listed, all_then}
use Rattle.cs_base.proofs.OrdersLemmas.{Less-from_lt}
use Rattle.cs_base.specs.declared.content.limits.TheConstants.{MAX_DOCS}
use Rattle.cs_rank.proofs.GroupsLemmas.{nothing_listed}
use Rattle.cs_tables.specs.declared.counts.Mark.{Mark}
use Rattle.cs_tables.specs.TableListings.{with_word, doc_count}
use Rattle.cs_tables.specs.Marks.{kept, collected, mark_of, counted_word, post_words}
use Rattle.cs_tables.proofs.MarksLemmas.{word_marked, word_sorted}

-- the numbers from lo on, n of them, that count something
abbrev numbers : (ℕ → ℕ) → ℕ → ℕ → List ℕ
numbers count lo zero = []
numbers count lo (suc n) = if nat_lt 0 (count lo) then lo ∷ numbers count (lo + 1) n else numbers count (lo + 1) n

abbrev entry : (ℕ → ℕ) → ℕ → Scored
entry count w = record { doc = w; score = count w }

collected-is : (count : ℕ → ℕ) (lo : ℕ) (marks : List Mark) → ((k : ℕ) (d : Mark) → k < length marks → (get_or marks k d).docs ≡ count (lo + k)) → collected lo marks ≡ map (entry count) (numbers count lo (length marks))
collected-is count lo [] h = refl
collected-is count lo (m ∷ marks) h =
    let first : m.docs ≡ count lo = h 0 m (omega arith) ∙ ap count (let e : lo + 0 ≡ lo = omega arith in e) in
    let rest = collected-is count (lo + 1) marks (λ k d lt. h (suc k) d (omega arith) ∙ ap count (let e : lo + suc k ≡ (lo + 1) + k = omega arith in e)) in
    ap (λ n. kept lo n ++ collected (lo + 1) marks) first
    ∙ elim (nat_lt 0 (count lo)) as (λ b. (if b then entry count lo ∷ [] else []) ++ collected (lo + 1) marks ≡ map (entry count) (if b then lo ∷ numbers count (lo + 1) (length marks) else numbers count (lo + 1) (length marks))) [
      | true ↦ ap (λ l. entry count lo ∷ l) rest
      | false ↦ rest
    ]

numbers_from : (count : ℕ → ℕ) (a lo n : ℕ) → a ≤ lo → AllByRecursion (λ y. a ≤ y) (numbers count lo n)
numbers_from count a lo zero le = tt
numbers_from count a lo (suc n) le =
    let rest = numbers_from count a (lo + 1) n (omega arith) in
    elim (nat_lt 0 (count lo)) as (λ b. AllByRecursion (λ y. a ≤ y) (if b then lo ∷ numbers count (lo + 1) n else numbers count (lo + 1) n)) [
      | true ↦ (le, rest)
      | false ↦ rest
    ]

all_less : (l : ℕ) (ys : List ℕ) → AllByRecursion (λ y. l + 1 ≤ y) ys → AllByRecursion (λ y. nat_cmp l y ≡ Less) ys
all_less l ys h = all_then (λ y. l + 1 ≤ y) (λ y. nat_cmp l y ≡ Less) (λ y le. Less-from_lt l y (omega arith)) ys h

numbers_rise : (count : ℕ → ℕ) (lo n : ℕ) → IsStrictlySortedBy nat_cmp (numbers count lo n)
unfolding IsStrictlySortedBy
numbers_rise count lo zero = tt
numbers_rise count lo (suc n) =
    elim (nat_lt 0 (count lo)) as (λ b. IsStrictlySortedBy nat_cmp (if b then lo ∷ numbers count (lo + 1) n else numbers count (lo + 1) n)) [
      | true ↦ (all_less lo _ (numbers_from count (lo + 1) (lo + 1) n (omega arith)), numbers_rise count (lo + 1) n)
      | false ↦ numbers_rise count (lo + 1) n
    ]

pub eq_is : (q x : ℕ) → eq_by_cmp nat_cmp q x ≡ true → q ≡ x
eq_is q x e = eqb-true q x (unsigned_ties q x ∙ e)

eq_of : (q x : ℕ) → q ≡ x → eq_by_cmp nat_cmp q x ≡ true
eq_of q x e = sym (unsigned_ties q x) ∙ eq-eqb q x e

later : (lo q : ℕ) → lo ≤ q → lo == q ≡ false → lo + 1 ≤ q
later lo q le e = (let lt : lo < q = grind (arith, nat_tests) in omega arith)

-- a number that is there counts something
numbers_only : (count : ℕ → ℕ) (q lo n : ℕ) → list_any (eq_by_cmp nat_cmp q) (numbers count lo n) ≡ true → nat_lt 0 (count q) ≡ true
numbers_only count q lo zero e = absurd (true≢false (sym e))
numbers_only count q lo (suc n) e =
    elim (nat_lt 0 (count lo)) as (λ b. nat_lt 0 (count lo) ≡ b → list_any (eq_by_cmp nat_cmp q) (if b then lo ∷ numbers count (lo + 1) n else numbers count (lo + 1) n) ≡ true → nat_lt 0 (count q) ≡ true) [
      | true ↦ λ t. elim (eq_by_cmp nat_cmp q lo) as (λ s. eq_by_cmp nat_cmp q lo ≡ s → (s || list_any (eq_by_cmp nat_cmp q) (numbers count (lo + 1) n)) ≡ true → nat_lt 0 (count q) ≡ true) [
        | true ↦ λ s _. ap (λ x. nat_lt 0 (count x)) (eq_is q lo s) ∙ t
        | false ↦ λ s h. numbers_only count q (lo + 1) n h
      ] refl
      | false ↦ λ t h. numbers_only count q (lo + 1) n h
    ] refl e

-- a number in the range that counts something is there
numbers_have : (count : ℕ → ℕ) (q lo n : ℕ) → lo ≤ q → q < lo + n → nat_lt 0 (count q) ≡ true → list_any (eq_by_cmp nat_cmp q) (numbers count lo n) ≡ true
numbers_have count q lo zero le lt some = absurd (omega arith)
numbers_have count q lo (suc n) le lt some =
    elim (lo == q) as (λ s. lo == q ≡ s → list_any (eq_by_cmp nat_cmp q) (numbers count lo (suc n)) ≡ true) [
      | true ↦ λ e.
          let at : lo ≡ q = eqb-true lo q e in
          ap (λ b. list_any (eq_by_cmp nat_cmp q) (if b then lo ∷ numbers count (lo + 1) n else numbers count (lo + 1) n)) (ap (λ x. nat_lt 0 (count x)) at ∙ some)
          ∙ or_left (eq_by_cmp nat_cmp q lo) _ (eq_of q lo (sym at))
      | false ↦ λ e.
          let there = numbers_have count q (lo + 1) n (later lo q le e) (omega arith) some in
          elim (nat_lt 0 (count lo)) as (λ b. list_any (eq_by_cmp nat_cmp q) (if b then lo ∷ numbers count (lo + 1) n else numbers count (lo + 1) n) ≡ true) [
            | true ↦ or_right (eq_by_cmp nat_cmp q lo) _ there
            | false ↦ there
          ]
    ] refl

nonempty : (t : ℕ → Bool) (xs : List ℕ) → list_any t xs ≡ true → nat_lt 0 (length xs) ≡ true
nonempty t [] e = absurd (true≢false (sym e))
nonempty t (x ∷ xs) e = (let lt : 0 < suc (length xs) = omega arith in grind (arith, nat_tests))

counted_some : (rows : List Post) → nat_lt 0 (doc_count rows) ≡ nat_lt 0 (length rows)
counted_some [] = ap (λ l. nat_lt 0 (length l)) (sym nothing_listed)
counted_some (p ∷ rows) =
    let there = is_member-listed nat_cmp nat_cmp_total (map (λ p. p.doc) (p ∷ rows)) p.doc ∙ or_left (eq_by_cmp nat_cmp p.doc p.doc) _ (eq_of p.doc p.doc refl) in
    nonempty (eq_by_cmp nat_cmp p.doc) (members_in nat_cmp (map (λ p. p.doc) (p ∷ rows))) there
    ∙ sym (let lt : 0 < suc (length rows) = omega arith in let t : nat_lt 0 (suc (length rows)) ≡ true = grind (arith, nat_tests) in t)

turned : (q x : ℕ) → eq_by_cmp nat_cmp q x ≡ (x == q)
turned q x = both_ways _ _ (λ e. let s = eq_is q x e in eq-eqb x q (sym s)) (λ e. eq_of q x (sym (eqb-true x q e)))

some_word : (q : ℕ) (rows : List Post) → nat_lt 0 (length (with_word q rows)) ≡ list_any (eq_by_cmp nat_cmp q) (map (λ p. p.word) rows)
some_word q [] = refl
some_word q (p ∷ rows) =
    elim (p.word == q) as (λ b. nat_lt 0 (length (if b then p ∷ with_word q rows else with_word q rows)) ≡ (b || list_any (eq_by_cmp nat_cmp q) (map (λ p. p.word) rows))) [
      | true ↦ (let lt : 0 < suc (length (with_word q rows)) = omega arith in grind (arith, nat_tests))
      | false ↦ some_word q rows
    ]
    ∙ sym (ap (λ b. b || list_any (eq_by_cmp nat_cmp q) (map (λ p. p.word) rows)) (turned q p.word))

abbrev count_in : List Post → ℕ → ℕ
count_in rows w = doc_count (with_word w rows)

-- a word has a document where it is a word of the rows
positive : (q : ℕ) (rows : List Post) → nat_lt 0 (count_in rows q) ≡ list_any (eq_by_cmp nat_cmp q) (map (λ p. p.word) rows)
positive q rows = counted_some (with_word q rows) ∙ some_word q rows

ranged : (lo n : ℕ) (words : List ℕ) (q : ℕ) → ((k : ℕ) → k < length words → (lo ≤ get_or words k 0) × (get_or words k 0 < lo + n)) → list_any (eq_by_cmp nat_cmp q) words ≡ true → (lo ≤ q) × (q < lo + n)
ranged lo n [] q h e = absurd (true≢false (sym e))
ranged lo n (w ∷ words) q h e =
    elim (eq_by_cmp nat_cmp q w) as (λ s. eq_by_cmp nat_cmp q w ≡ s → (s || list_any (eq_by_cmp nat_cmp q) words) ≡ true → (lo ≤ q) × (q < lo + n)) [
      | true ↦ λ s _. subst (λ x. (lo ≤ x) × (x < lo + n)) (sym (eq_is q w s)) (h 0 (omega arith))
      | false ↦ λ s r. ranged lo n words q (λ k lt. h (suc k) (omega arith)) r
    ] refl e

numbers-are : (rows : List Post) (lo n : ℕ) → ((k : ℕ) → k < length (map (λ p. p.word) rows) → (lo ≤ get_or (map (λ p. p.word) rows) k 0) × (get_or (map (λ p. p.word) rows) k 0 < lo + n)) → numbers (count_in rows) lo n ≡ post_words rows
numbers-are rows lo n within =
    members_are nat_cmp nat_cmp_total nat_cmp-IsAntisymmetric (numbers (count_in rows) lo n) (map (λ p. p.word) rows) (numbers_rise (count_in rows) lo n)
    (λ q. both_ways _ _
    (λ e. sym (positive q rows) ∙ numbers_only (count_in rows) q lo n e)
    (λ e. let r = ranged lo n (map (λ p. p.word) rows) q within e in numbers_have (count_in rows) q lo n r.0 r.1 (positive q rows ∙ e)))

-- it is enough that the rows of each word are in order
pub collected_words : (rows : List Post) (lo : ℕ) (marks : List Mark) → ((w : ℕ) → AreSorted (with_word w rows)) → AllByRecursion (λ p. p.doc < MAX_DOCS) rows → ((k : ℕ) (d : Mark) → k < length marks → get_or marks k d ≡ mark_of (lo + k) rows) → ((k : ℕ) → k < length (map (λ p. p.word) rows) → (lo ≤ get_or (map (λ p. p.word) rows) k 0) × (get_or (map (λ p. p.word) rows) k 0 < lo + length marks)) → collected lo marks ≡ map (counted_word rows) (post_words rows)
collected_words rows lo marks up below each_mark within =
    collected-is (count_in rows) lo marks (λ k d lt. ap (λ (m : Mark). m.docs) (each_mark k d lt) ∙ word_marked (lo + k) rows (up (lo + k)) below)
    ∙ ap (map (counted_word rows)) (numbers-are rows lo (length marks) within)

pub counts-are : (rows : List Post) (lo n i : ℕ) (marks : List Mark) → AreSorted rows → AllByRecursion (λ p. p.doc < MAX_DOCS) rows → length marks ≡ n → length (map (λ p. p.doc) rows) ≤ i → ((k : ℕ) (d : Mark) → k < n → get_or marks k d ≡ mark_of (lo + k) (take i rows)) → ((k : ℕ) → k < length (map (λ p. p.word) rows) → (lo ≤ get_or (map (λ p. p.word) rows) k 0) × (get_or (map (λ p. p.word) rows) k 0 < lo + n)) → collected lo marks ≡ map (counted_word rows) (post_words rows)
counts-are rows lo n i marks up below long all each_mark within =
    let whole : take i rows ≡ rows = take_all i rows (omega (arith, length-map rows (λ (p : Post). p.doc))) in
    collected_words rows lo marks (λ w. word_sorted w rows up) below (λ k d lt. each_mark k d (omega (arith, lt, long)) ∙ ap (mark_of (lo + k)) whole)
    (λ k lt. let at = within k lt in (at.0, omega (arith, at.1, long)))

pub words_within : (b : ℕ) (rows : List Post) → ((k : ℕ) (d : Post) → k < length rows → (get_or rows k d).word < b) → (k : ℕ) (d : ℕ) → k < length (map (λ p. p.word) rows) → get_or (map (λ p. p.word) rows) k d < b
words_within b [] h k d lt = absurd (omega arith)
words_within b (p ∷ rows) h zero d lt = h 0 p (omega arith)
words_within b (p ∷ rows) h (suc k) d lt = words_within b rows (λ k e lt. h (suc k) e (omega arith)) k d (omega arith)
