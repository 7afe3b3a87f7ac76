-- The documents that are there, of so many numbers.
--
--   docs_ascend, every_ascends     they are in order
--   docs_below           each number is below the count
--   is_present, present_below      which they are
--   every_there, every_gone        one number more
--   present_all          all of them
--   is_titled            a number is a key of a map where it has a value
--   posts_are_in         of posts whose documents are there, those in a base
use Rattle.std.proofs.Common.{◌≡◌, ℕ, zero, suc, ◌+◌, ◌<◌, ◌==◌, ◌&&◌, ◌||◌, Bool, true, false, cond, List, [], ◌∷◌, ◌++◌, length, get_or, replicate}
use Rattle.std.proofs.Common.{refl, sym, ap, ap₂, subst, ◌∙◌, arith, inl, inr, append-nil}
use Rattle.std.specs.Prelude.{All, filter, nat_le, nat_lt}
use Rattle.std.specs.List.{AllByRecursion, list_any, range_with_len}
use Rattle.std.specs.Ordering.{nat_cmp}
use Rattle.std.specs.FinMap.{FinMap, contains_key, contains_key-keys, keys}
use Rattle.std.proofs.lemmas.Bool.{cases_lt}
use Rattle.std.proofs.lemmas.Bool.Decides.{nat_tests}
use Rattle.std.proofs.lemmas.List.{get_or-replicate, get_or_past, length-replicate, map-append, map-id}
use Rattle.std.proofs.lemmas.List.Elements.{All-filter, recursion_from_All}
use Rattle.std.proofs.lemmas.List.FromFn.{filter_of_map_range_with_len_more}
use Rattle.std.proofs.lemmas.List.Kept.{IsStrictlySortedBy-filter}
use Rattle.cs_base.specs.content.Orders.{AreByDoc, AreDocs}
use Rattle.cs_base.specs.declared.content.doc.Base.{Base}
use Rattle.cs_base.specs.declared.content.doc.Base.TheVariants as base
use Rattle.cs_base.specs.declared.content.doc.Post.{Post}
use Rattle.cs_base.proofs.ListsLemmas.{all_stay, and_true, any_tie, filter_alike}
use Rattle.cs_meet.specs.Filters.{is_of_doc, keep_docs}
use Rattle.cs_model.specs.Answers.{is_listed}
use Rattle.cs_rows.specs.Steps.{with_no_score}
use Rattle.cs_rows.specs.Stocked.{base_docs, every, base_posts, present_docs}
use Rattle.cs_rows.proofs.FoundLemmas.{scored_rise, stays}
use Rattle.cs_rows.proofs.HitsLemmas.{own_docs}
use Rattle.cs_rows.proofs.ListedLemmas.{range_below, range_rises}

abbrev is_there : List Bool → ℕ → Bool
is_there ps d = get_or ps d false

-- ---- in order
pub docs_ascend : (ps : List Bool) → AreDocs (present_docs ps)
docs_ascend ps = IsStrictlySortedBy-filter nat_cmp (is_there ps) (range_with_len 0 (length ps)) (range_rises 0 (length ps))

pub docs_below : (ps : List Bool) {n : ℕ} → length ps ≡ n → All (λ d. d < n) (present_docs ps)
docs_below ps {n} same = All-filter (is_there ps) (λ d. d < n) (range_with_len 0 (length ps))
    (subst (λ m. All (λ d. d < m) (range_with_len 0 (length ps))) same (range_below (length ps)))

pub every_ascends : (ds : List ℕ) → AreDocs ds → AreByDoc (every ds)
every_ascends ds up = scored_rise with_no_score (λ d. refl) ds up

-- ---- which they are
none_between : (a d : ℕ) → (nat_le a d && nat_lt d (a + 0)) ≡ false
none_between a d = grind (arith, nat_tests)

here_between : (a d n : ℕ) → (a == d) ≡ true → (nat_le a d && nat_lt d (a + suc n)) ≡ true
here_between a d n e = grind (arith, nat_tests)

not_between : (a d n : ℕ) → (a == d) ≡ true → (nat_le (a + 1) d && nat_lt d (a + 1 + n)) ≡ false
not_between a d n e = grind (arith, nat_tests)

next_between : (a d n : ℕ) → (a == d) ≡ false → (nat_le (a + 1) d && nat_lt d (a + 1 + n)) ≡ (nat_le a d && nat_lt d (a + suc n))
next_between a d n e = grind (arith, nat_tests)

same : (a d : ℕ) → (a == d) ≡ true → a ≡ d
same a d e = grind (arith, nat_tests)

and_false : (b : Bool) → false ≡ (b && false)
and_false true = refl
and_false false = refl

any_where : (p : ℕ → Bool) (a n d : ℕ) → list_any (λ e. e == d) (filter p (range_with_len a n)) ≡ (p d && (nat_le a d && nat_lt d (a + n)))
any_where p a zero d = and_false (p d) ∙ ap (λ b. p d && b) (sym (none_between a d))
any_where p a (suc n) d =
    let rest = any_where p (a + 1) n d in
    elim (a == d) as (λ b. a == d ≡ b → list_any (λ e. e == d) (cond (p a) (a ∷ filter p (range_with_len (a + 1) n)) (filter p (range_with_len (a + 1) n)))
    ≡ (p d && (nat_le a d && nat_lt d (a + suc n)))) [
      | true ↦ λ e.
          let own : p a ≡ p d = ap p (same a d e) in
          elim (p a) as (λ c. p a ≡ c → list_any (λ e. e == d) (cond c (a ∷ filter p (range_with_len (a + 1) n)) (filter p (range_with_len (a + 1) n)))
          ≡ (p d && (nat_le a d && nat_lt d (a + suc n)))) [
            | true ↦ λ h. ap (λ b. b || list_any (λ e. e == d) (filter p (range_with_len (a + 1) n))) e
                ∙ ap₂ (λ x y. x && y) (sym h ∙ own) (sym (here_between a d n e))
            | false ↦ λ h. rest ∙ ap (λ b. p d && b) (not_between a d n e) ∙ sym (and_false (p d))
                ∙ ap (λ b. b && (nat_le a d && nat_lt d (a + suc n))) (sym h ∙ own)
          ] refl
      | false ↦ λ e.
          elim (p a) as (λ c. list_any (λ e. e == d) (cond c (a ∷ filter p (range_with_len (a + 1) n)) (filter p (range_with_len (a + 1) n)))
          ≡ (p d && (nat_le a d && nat_lt d (a + suc n)))) [
            | true ↦ ap (λ b. b || list_any (λ e. e == d) (filter p (range_with_len (a + 1) n))) e ∙ rest ∙ ap (λ b. p d && b) (next_between a d n e)
            | false ↦ rest ∙ ap (λ b. p d && b) (next_between a d n e)
          ]
    ] refl

within_range : (d n : ℕ) → d < n → (nat_le 0 d && nat_lt d (0 + n)) ≡ true
within_range d n lt = grind (arith, nat_tests)

pub is_present : (ps : List Bool) (d : ℕ) → is_listed (present_docs ps) d ≡ get_or ps d false
is_present ps d =
    any_where (is_there ps) 0 (length ps) d
    ∙ elim (cases_lt d (length ps)) [
      | inl lt ↦ ap (λ b. is_there ps d && b) (within_range d (length ps) lt) ∙ and_true (is_there ps d)
      | inr le ↦ ap (λ b. b && (nat_le 0 d && nat_lt d (0 + length ps))) (get_or_past ps d false le) ∙ sym (get_or_past ps d false le)
    ]

pub present_below : (ps : List Bool) (d : ℕ) → get_or ps d false ≡ true → d < length ps
present_below ps d h =
    elim (cases_lt d (length ps)) [
      | inl lt ↦ lt
      | inr le ↦ absurd (let e = sym h ∙ get_or_past ps d false le in cc)
    ]

-- ---- number by number
module _ (ps : List Bool) where
  abbrev pub first_docs : ℕ → List ℕ
  first_docs n = filter (λ d. get_or ps d false) (range_with_len 0 n)

  one_more : (n : ℕ) → first_docs (n + 1) ≡ first_docs n ++ cond (is_there ps n) (n ∷ []) []
  one_more n =
      ap (filter (is_there ps)) (sym (map-id (range_with_len 0 (n + 1))))
      ∙ filter_of_map_range_with_len_more (is_there ps) (λ d. d) 0 n n (omega arith)
      ∙ ap (λ ds. filter (is_there ps) ds ++ cond (is_there ps n) (n ∷ []) []) (map-id (range_with_len 0 n))

  pub every_there : (n : ℕ) → get_or ps n false ≡ true → every (first_docs (n + 1)) ≡ every (first_docs n) ++ with_no_score n ∷ []
  every_there n h = ap every (one_more n ∙ ap (λ b. first_docs n ++ cond b (n ∷ []) []) h) ∙ map-append with_no_score (first_docs n) (n ∷ [])

  pub every_gone : (n : ℕ) → get_or ps n false ≡ false → every (first_docs (n + 1)) ≡ every (first_docs n)
  every_gone n h = ap every (one_more n ∙ ap (λ b. first_docs n ++ cond b (n ∷ []) []) h ∙ append-nil (first_docs n))

pub present_all : (n : ℕ) → present_docs (replicate n true) ≡ range_with_len 0 n
present_all n =
    let ps = replicate n true in
    let all = range_with_len 0 n in
    ap (λ m. filter (is_there ps) (range_with_len 0 m)) (length-replicate n true)
    ∙ filter_alike (is_there ps) (λ d. true) all
    (recursion_from_All (λ d. is_there ps d ≡ true) all (λ k d l. get_or-replicate n (get_or all k d) true false (range_below n k d l)))
    ∙ all_stay all

-- ---- titles
pub is_titled : {X : Type 0} (m : FinMap nat_cmp X) (d : ℕ) → is_listed (keys m) d ≡ contains_key m d
is_titled m d = sym (any_tie d (keys m)) ∙ sym (contains_key-keys m d)

-- ---- posts of theirs
pub posts_are_in : (ds : List ℕ) (b : Base) (posts : List Post) → AllByRecursion (λ p. is_listed ds p.doc ≡ true) posts
    → base_posts b posts ≡ keep_docs posts (base_docs ds b)
posts_are_in ds base.All posts known =
    sym (ap (keep_docs posts) (own_docs with_no_score (λ d. refl) ds) ∙ stays (λ r. list_any (is_of_doc r) ds) posts known)
posts_are_in ds (base.Listed hs) posts known = refl
