-- Shared posts stand for the rows of a join: numbers of a vocabulary are equal where its words are, and who shares the word of a
-- facet's row is a row of that facet.
--
--   same_word            equal numbers, equal words
--   shares_alike         a post shares its word as its row does
--   shared_stand         the shared posts stand for the rows that share their words
--   facet_shares         a facet's rows share their words among themselves
--   joins_are_shared     shared posts stand for the rows of a join
use Rattle.std.proofs.Common.{◌≡◌, ℕ, ◌<◌, ◌&&◌, ◌||◌, Bool, true, false, true≢false, List, [], ◌∷◌, length, cond, refl, sym, ap, ◌∙◌, arith}
use Rattle.std.specs.Prelude.{◌==◌, filter}
use Rattle.std.specs.List.{AllByRecursion, list_any}
use Rattle.std.specs.List.Sorted.{IsStrictlySortedBy}
use Rattle.std.specs.Ordering.{nat_cmp}
use Rattle.std.specs.Cmp.Lexicographic.{slice_cmp}
use Rattle.std.specs.Str.{bytes_eq}
use Rattle.std.proofs.lemmas.Bool.{and_parts, false_from_ne_true}
use Rattle.std.proofs.lemmas.Bool.Decides.{nat_tests}
use Rattle.std.proofs.lemmas.List.Elements.{filter_agree, recursion_from_All}
use Rattle.std.proofs.lemmas.Map.Views.{any-filter_same}
use Rattle.std.proofs.lemmas.Slice.Eq.{bytes_eq-Decides}
use Rattle.cs_base.specs.declared.content.doc.Post.{Post}
use Rattle.cs_base.specs.declared.content.doc.Row.{Row}
use Rattle.cs_model.specs.Answers.{hits, begins, is_listed}
use Rattle.cs_model.specs.Collection.{named}
use Rattle.cs_model_index.specs.Numbered.{word_at, word_number, row_of, rows_at}
use Rattle.cs_model_index.proofs.NumberedLemmas.{number_of_word}
use Rattle.cs_join.specs.Shared.{is_shared_by, shared}
use Rattle.cs_join.specs.Shared as posts_of
use Rattle.cs_join.specs.SharedLaws.{JoinsAreShared}

-- the row s is in one of the documents hits and has the word of r
abbrev shares_with : List ℕ → Row → Row → Bool
shares_with docs r s = bytes_eq s.word r.word && is_listed docs s.doc

-- some row does so
abbrev shares : List Row → List ℕ → Row → Bool
shares rows docs r = list_any (shares_with docs r) rows

module _ (ws : List (List ℕ)) (up : IsStrictlySortedBy (slice_cmp nat_cmp) ws) where
  same_word : (m n : ℕ) → m < length ws → n < length ws → (m == n) ≡ bytes_eq (word_at ws m) (word_at ws n)
  same_word m n hm hn =
      elim (m == n) as (λ b. (m == n) ≡ b → b ≡ bytes_eq (word_at ws m) (word_at ws n)) [
        | true ↦ λ h.
            let same : m ≡ n = grind (arith, nat_tests) in
            sym ((bytes_eq-Decides (word_at ws m) (word_at ws n)).1 (ap (word_at ws) same))
        | false ↦ λ h. sym (false_from_ne_true _ (λ e.
            let same : m ≡ n = sym (number_of_word ws m up hm) ∙ ap (word_number ws) ((bytes_eq-Decides (word_at ws m) (word_at ws n)).0 e) ∙ number_of_word ws n up hn in
            true≢false (grind (arith, nat_tests))))
      ] refl

  shares_alike : (docs : List ℕ) (p : Post) (posts : List Post) → p.word < length ws → AllByRecursion (λ o. o.word < length ws) posts → posts_of.shares_word docs posts p ≡ shares (rows_at ws posts) docs (row_of ws p)
  shares_alike docs p [] h known = refl
  shares_alike docs p (o ∷ posts) h known =
      ap (λ b. (b && is_listed docs o.doc) || posts_of.shares_word docs posts p) (same_word o.word p.word known.0 h)
      ∙ ap (λ b. (bytes_eq (word_at ws o.word) (word_at ws p.word) && is_listed docs o.doc) || b) (shares_alike docs p posts h known.1)

  kept_row : (b : Bool) (p : Post) (posts : List Post) → rows_at ws (cond b (p ∷ posts) posts) ≡ cond b (row_of ws p ∷ rows_at ws posts) (rows_at ws posts)
  kept_row true p posts = refl
  kept_row false p posts = refl

  kept_rows : (docs : List ℕ) (all posts : List Post) → AllByRecursion (λ o. o.word < length ws) all → AllByRecursion (λ o. o.word < length ws) posts → rows_at ws (filter (posts_of.shares_word docs all) posts) ≡ filter (shares (rows_at ws all) docs) (rows_at ws posts)
  kept_rows docs all [] known h = refl
  kept_rows docs all (p ∷ posts) known h =
      kept_row (posts_of.shares_word docs all p) p (filter (posts_of.shares_word docs all) posts)
      ∙ ap (λ b. cond b (row_of ws p ∷ rows_at ws (filter (posts_of.shares_word docs all) posts)) (rows_at ws (filter (posts_of.shares_word docs all) posts))) (shares_alike docs p all h.0 known)
      ∙ ap (λ l. cond (shares (rows_at ws all) docs (row_of ws p)) (row_of ws p ∷ l) l) (kept_rows docs all posts known h.1)

  pub shared_stand : (docs : List ℕ) (posts : List Post) → AllByRecursion (λ o. o.word < length ws) posts → rows_at ws (shared posts docs) ≡ filter (shares (rows_at ws posts) docs) (rows_at ws posts)
  shared_stand docs posts known = kept_rows docs posts posts known known

-- ---- within a facet
has_prefix : (p : List ℕ) (docs : List ℕ) (r s : Row) → shares_with docs r s ≡ true → begins p s.word ≡ begins p r.word
has_prefix p docs r s h = ap (begins p) ((bytes_eq-Decides s.word r.word).0 (and_parts (bytes_eq s.word r.word) (is_listed docs s.doc) h).0)

within : (p : List ℕ) (docs : List ℕ) (rows : List Row) (r : Row) → (begins p r.word && shares (filter (λ r. begins p r.word) rows) docs r) ≡ (begins p r.word && shares rows docs r)
within p docs rows r = (let e = any-filter_same (shares_with docs r) (λ s. begins p s.word) (begins p r.word) (λ s h. has_prefix p docs r s h) rows in grind (arith, nat_tests, e))

both : {X : Type 0} (p q : X → Bool) (xs : List X) → filter q (filter p xs) ≡ filter (λ x. p x && q x) xs
both p q [] = refl
both p q (x ∷ xs) =
    elim (p x) as (λ b. filter q (cond b (x ∷ filter p xs) (filter p xs)) ≡ cond (b && q x) (x ∷ filter (λ x. p x && q x) xs) (filter (λ x. p x && q x) xs)) [
      | true ↦ ap (λ l. cond (q x) (x ∷ l) l) (both p q xs)
      | false ↦ both p q xs
    ]

pub facet_shares : (p : List ℕ) (docs : List ℕ) (rows : List Row) → let facet = filter (λ r. begins p r.word) rows in filter (shares facet docs) facet ≡ filter (λ r. begins p r.word && shares rows docs r) rows
facet_shares p docs rows =
    both (λ r. begins p r.word) (shares (filter (λ r. begins p r.word) rows) docs) rows
    ∙ filter_agree (λ r. begins p r.word && shares (filter (λ r. begins p r.word) rows) docs r) (λ r. begins p r.word && shares rows docs r) (within p docs rows) rows

pub joins_are_shared : JoinsAreShared
joins_are_shared k name inner ws posts up known told =
    shared_stand ws up (hits k inner) posts (recursion_from_All (λ o. o.word < length ws) posts known)
    ∙ ap (λ rows. filter (shares rows (hits k inner)) rows) told
    ∙ facet_shares (named name []) (hits k inner) k.rows
