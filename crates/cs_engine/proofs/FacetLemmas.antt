-- The rows of a facet: what is counted of them.
--
--   chosen_facet     the rows of a facet that are counted
--   chosen_kept      the same of those of them that were looked up by the hits
--   known_docs, known_kept     the documents of a facet, and of rows that were looked up, are those of the index
--   countable_kept   rows of a facet are countable
--   facet_counts     what is counted
use Rattle.std.proofs.Common.{◌≡◌, ℕ, ◌<◌, ◌≤◌, ◌==◌, ◌&&◌, Bool, true, List, length, map}
use Rattle.std.proofs.Common.{sym, ap, ap₂, subst, ◌∙◌, arith}
use Rattle.std.specs.Prelude.{All, filter}
use Rattle.std.specs.List.{list_any}
use Rattle.std.proofs.lemmas.List.Elements.{All-filter, All-map, All-weaker, filter_passes, recursion_from_All}
use Rattle.std.proofs.lemmas.List.Kept.{IsStrictlySortedBy-filter}
use Rattle.cs_base.specs.content.Orders.{by_place}
use Rattle.cs_base.specs.declared.content.doc.Base.{Base}
use Rattle.cs_base.specs.declared.content.doc.Post.{Post}
use Rattle.cs_base.specs.declared.content.limits.TheConstants.{MAX_DOCS}
use Rattle.cs_base.proofs.ListsLemmas.{all_stay, filter_alike}
use Rattle.cs_base.proofs.MembersLemmas.{all_then}
use Rattle.cs_file.specs.Indexes.{IndexView}
use Rattle.cs_meet.specs.Filters.{is_of_doc, keep_docs}
use Rattle.cs_tables.specs.WordCounts.{AreCountable, HasCounted, WordCountsView, chosen, is_chosen}
use Rattle.cs_rows.specs.Counting.{AreListed, in_listed}
use Rattle.cs_rows.specs.IndexReading.{AreWithin, IsWithin}
use Rattle.cs_rows.specs.Stocked.{base_docs, is_between, present_docs}
use Rattle.cs_rows.proofs.CountingLemmas.{kept_listed}
use Rattle.cs_rows.proofs.RowsInRange.{kept_within}

-- ---- which rows are counted
all_pass : (t : Post → Bool) (posts : List Post) → All (λ p. t p ≡ true) posts → filter t posts ≡ posts
all_pass t posts pass = filter_alike t (λ p. true) posts (recursion_from_All (λ p. t p ≡ true) posts pass) ∙ all_stay posts

module _ (lo hi : ℕ) (listed : List Bool) (posts all : List Post) (are : posts ≡ filter (is_between lo hi) all) where
  between : All (λ p. is_between lo hi p ≡ true) posts
  between = subst (All (λ p. is_between lo hi p ≡ true)) (sym are) (filter_passes (is_between lo hi) all)

  pub chosen_facet : chosen lo hi listed posts ≡ filter (in_listed listed) posts
  chosen_facet = filter_alike (is_chosen lo hi listed) (in_listed listed) posts
      (all_then (λ p. is_between lo hi p ≡ true) (λ p. is_chosen lo hi listed p ≡ in_listed listed p) (λ p h. ap (λ b. b && in_listed listed p) h) posts
      (recursion_from_All (λ p. is_between lo hi p ≡ true) posts between))

  pub chosen_kept : (i : IndexView) (present : List Bool) → length present ≡ i.docs → (base : Base) (docs : List ℕ) (rows : List Post)
      → AreListed present base listed → AreWithin i posts → docs ≡ base_docs (present_docs present) base → rows ≡ keep_docs posts docs
      → chosen lo hi listed rows ≡ filter (in_listed listed) posts
  chosen_kept i present long base docs rows has w docs_are rows_are =
      let asked = filter (in_listed listed) posts in
      ap (chosen lo hi listed) (rows_are ∙ ap (keep_docs posts) docs_are ∙ sym (kept_listed i present long base listed posts has w))
      ∙ all_pass (is_chosen lo hi listed) asked
      (λ k d l. ap₂ (λ x y. x && y) (All-filter (in_listed listed) (λ p. is_between lo hi p ≡ true) posts between k d l)
      (filter_passes (in_listed listed) posts k d l))

-- ---- documents
docs_below : (i : IndexView) (posts : List Post) → AreWithin i posts → {n : ℕ} → n ≡ i.docs → All (λ p. p.doc < n) posts
docs_below i posts w are = All-weaker (IsWithin i.docs (length i.words)) (λ p. p.doc < _) (λ p h. subst (λ m. p.doc < m) (sym are) h.doc) posts w.within

pub known_docs : (i : IndexView) (posts : List Post) → AreWithin i posts → {n : ℕ} → n ≡ i.docs → All (λ d. d < n) (map (λ p. p.doc) posts)
known_docs i posts w {n} are = All-map (λ d. d < n) (λ p. p.doc) posts (docs_below i posts w are)

pub known_kept : (i : IndexView) (posts : List Post) (docs : List ℕ) → AreWithin i posts → {n : ℕ} → n ≡ i.docs
    → All (λ d. d < n) (map (λ p. p.doc) (keep_docs posts docs))
known_kept i posts docs w {n} are = All-map (λ d. d < n) (λ p. p.doc) (keep_docs posts docs)
    (All-filter (λ r. list_any (is_of_doc r) docs) (λ p. p.doc < n) posts (docs_below i posts w are))

-- ---- what is counted
countable_in : (i : IndexView) → i.docs ≤ MAX_DOCS → (posts : List Post) → AreWithin i posts → AreCountable posts
countable_in i few posts w = record {
  ordered = λ n. IsStrictlySortedBy-filter by_place (λ p. p.word == n) posts w.sorted;
  few_docs = All-weaker (IsWithin i.docs (length i.words)) (λ p. p.doc < MAX_DOCS)
      (λ p h. let d = h.doc in omega (arith, d, few)) posts w.within;
}

pub countable_kept : (i : IndexView) → i.docs ≤ MAX_DOCS → (listed : List Bool) (posts : List Post) → AreWithin i posts
    → AreCountable (filter (in_listed listed) posts)
countable_kept i is listed posts w = countable_in i is (filter (in_listed listed) posts) (kept_within i (in_listed listed) posts w)

pub facet_counts : (i : IndexView) → i.docs ≤ MAX_DOCS → {lo hi low high : ℕ} → low ≡ lo → high ≡ hi → (listed : List Bool) (posts rows : List Post)
    → AreWithin i posts → chosen lo hi listed rows ≡ filter (in_listed listed) posts → {new : WordCountsView}
    → (AreCountable (chosen low high listed rows) → HasCounted (chosen low high listed rows) new) → HasCounted (filter (in_listed listed) posts) new
facet_counts i is lows highs listed posts rows w are {new} step =
    let e = ap₂ (λ l h. chosen l h listed rows) lows highs ∙ are in
    subst (λ r. HasCounted r new) e (step (subst AreCountable (sym e) (countable_kept i is listed posts w)))
