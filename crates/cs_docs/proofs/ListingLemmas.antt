-- Rows that are listed document by document are in their order, and are the rows of the documents.
use Rattle.std.proofs.Common.{◌≡◌, ℕ, ◌+◌, ◌<◌, ◌≤◌, Bool, true, false, ◌&&◌, ◌||◌, List, [], ◌∷◌, ◌++◌, length, map, drop, get_or, refl, sym, ap, ◌∙◌, arith, append_assoc, append-nil, add-one, drop-cons, subst}
use Rattle.std.proofs.lemmas.List.{drop_all}
use Rattle.std.specs.List.{AllByRecursion, list_any, flat_map, enumerate_from}
use Rattle.std.specs.List.Sorted.{IsStrictlySortedBy}
use Rattle.std.specs.Ordering.{nat_cmp, ordering_then, eq_by_cmp, is_eq}
use Rattle.std.specs.Cmp.{nat_cmp_is}
use Rattle.std.specs.Cmp.Lexicographic.{slice_cmp}
use Rattle.std.specs.declared.cmp.Ordering.{Ordering}
use Rattle.std.specs.declared.cmp.Ordering.TheVariants.{Less, Equal, Greater}
use Rattle.std.proofs.lemmas.Cmp.{nat_list_cmp_total}
use Rattle.std.proofs.lemmas.List.Folds.{list_any-append}
use Rattle.std.proofs.lemmas.Map.Lookups.{exact_bytes}
use Rattle.cs_base.specs.content.Orders.{by_row, by_spot}
use Rattle.cs_base.specs.declared.content.doc.Doc.{Doc}
use Rattle.cs_base.specs.declared.content.doc.Row.{Row}
use Rattle.cs_base.specs.declared.content.scores.TheConstants.{BEHIND_TITLE}
use Rattle.cs_base.specs.declared.content.scores.Weights.{Weights}
use Rattle.cs_base.proofs.MembersLemmas.{all_then, members_are, is_member-listed, listing-rises}
use Rattle.cs_base.proofs.OrdersLemmas.{Less-from_lt, by_row_total, by_row_exact, rows_up}
use Rattle.cs_model.specs.Collection.{facet_words}
use Rattle.cs_model.specs.Corpus.{placed, title_rows, text_rows, facet_rows, doc_rows, rows_of}
use Rattle.cs_model.specs.Words.{words}
use Rattle.cs_docs.specs.Listing.{listed_facets, listed_doc, listed_rows}
use Rattle.cs_docs.proofs.PlainLemmas.{no_words}

-- ---- lists

all-append : {X : Type 0} (P : X → Type 0) (xs ys : List X) → AllByRecursion P xs → AllByRecursion P ys → AllByRecursion P (xs ++ ys)
all-append P [] ys h k = k
all-append P (x ∷ xs) ys h k = (h.0, all-append P xs ys h.1 k)

-- each of xs is below each of ys
abbrev AreBelow : {X : Type 0} → (X → X → Ordering) → List X → List X → Type 0
AreBelow R xs ys = AllByRecursion (λ x. AllByRecursion (λ y. R x y ≡ Less) ys) xs

below-from : {X : Type 0} (R : X → X → Ordering) (P Q : X → Type 0) → ((x y : X) → P x → Q y → R x y ≡ Less) → (xs ys : List X) → AllByRecursion P xs → AllByRecursion Q ys → AreBelow R xs ys
below-from R P Q less [] ys h k = tt
below-from R P Q less (x ∷ xs) ys h k = (all_then Q (λ y. R x y ≡ Less) (λ y q. less x y h.0 q) ys k, below-from R P Q less xs ys h.1 k)

sorted-append : {X : Type 0} (R : X → X → Ordering) (xs ys : List X) → IsStrictlySortedBy R xs → IsStrictlySortedBy R ys → AreBelow R xs ys → IsStrictlySortedBy R (xs ++ ys)
unfolding IsStrictlySortedBy
sorted-append R [] ys h k b = k
sorted-append R (x ∷ xs) ys h k b = (all-append (λ y. R x y ≡ Less) xs ys h.0 b.0, sorted-append R xs ys h.1 k b.1)

-- ---- rows in their order

equal_cmp : (x y : ℕ) → x ≡ y → nat_cmp x y ≡ Equal
equal_cmp x y h = sym (nat_cmp_is x y Equal h)

earlier_doc : (r s : Row) → r.doc < s.doc → by_spot r s ≡ Less
earlier_doc r s h = rw (Less-from_lt r.doc s.doc h) refl

earlier_pos : (r s : Row) → r.doc ≡ s.doc → r.pos < s.pos → by_spot r s ≡ Less
earlier_pos r s e h = rw (equal_cmp r.doc s.doc e, Less-from_lt r.pos s.pos h) refl

earlier_facet : (d score : ℕ) (v w : List ℕ) → slice_cmp nat_cmp v w ≡ Less → by_spot (placed d score (0, v)) (placed d score (0, w)) ≡ Less
earlier_facet d score v w h = rw (equal_cmp d d refl, h) refl

-- a row of document d, at a position from lo on and before hi
record IsWithin (d lo hi : ℕ) (r : Row) : Type 0 where
  doc : r.doc ≡ d
  from : lo ≤ r.pos
  before : r.pos < hi

within_below : (d lo mid hi : ℕ) (xs ys : List Row) → AllByRecursion (IsWithin d lo mid) xs → AllByRecursion (IsWithin d mid hi) ys → AreBelow by_spot xs ys
within_below d lo mid hi xs ys h k = below-from by_spot (IsWithin d lo mid) (IsWithin d mid hi) (λ r s p q. earlier_pos r s (p.doc ∙ sym q.doc) (omega (arith, p.before, q.from))) xs ys h k

wider : (d lo hi a b : ℕ) (xs : List Row) → a ≤ lo → hi ≤ b → AllByRecursion (IsWithin d lo hi) xs → AllByRecursion (IsWithin d a b) xs
wider d lo hi a b xs l k h = all_then (IsWithin d lo hi) (IsWithin d a b) (λ r p. record { doc = p.doc; from = omega (arith, p.from); before = omega (arith, p.before) }) xs h

within-placed : (d score n : ℕ) (ws : List (List ℕ)) → AllByRecursion (IsWithin d n (n + length ws)) (map (placed d score) (enumerate_from n ws))
within-placed d score n [] = tt
within-placed d score n (w ∷ ws) = (
  record { doc = refl; from = omega arith; before = omega arith },
  wider d (n + 1) (n + 1 + length ws) n (n + length (w ∷ ws)) (map (placed d score) (enumerate_from (n + 1) ws)) (omega arith) (omega arith) (within-placed d score (n + 1) ws),
)

sorted-placed : (d score n : ℕ) (ws : List (List ℕ)) → IsStrictlySortedBy by_spot (map (placed d score) (enumerate_from n ws))
unfolding IsStrictlySortedBy
sorted-placed d score n [] = tt
sorted-placed d score n (w ∷ ws) = (
  all_then (IsWithin d (n + 1) (n + 1 + length ws)) (λ s. by_spot (placed d score (n, w)) s ≡ Less) (λ s q. earlier_pos (placed d score (n, w)) s (sym q.doc) (omega (arith, q.from)))
      (map (placed d score) (enumerate_from (n + 1) ws)) (within-placed d score (n + 1) ws),
  sorted-placed d score (n + 1) ws,
)

within-facets : (d score : ℕ) (ws : List (List ℕ)) → AllByRecursion (IsWithin d 0 1) (map (λ x. placed d score (0, x)) ws)
within-facets d score [] = tt
within-facets d score (w ∷ ws) = (record { doc = refl; from = omega arith; before = omega arith }, within-facets d score ws)

later_facets : (d score : ℕ) (v : List ℕ) (ws : List (List ℕ)) → AllByRecursion (λ w. slice_cmp nat_cmp v w ≡ Less) ws → AllByRecursion (λ s. by_spot (placed d score (0, v)) s ≡ Less) (map (λ x. placed d score (0, x)) ws)
later_facets d score v [] h = tt
later_facets d score v (w ∷ ws) h = (earlier_facet d score v w h.0, later_facets d score v ws h.1)

sorted-facets : (d score : ℕ) (ws : List (List ℕ)) → IsStrictlySortedBy (slice_cmp nat_cmp) ws → IsStrictlySortedBy by_spot (map (λ x. placed d score (0, x)) ws)
unfolding IsStrictlySortedBy
sorted-facets d score [] h = tt
sorted-facets d score (w ∷ ws) h = (later_facets d score w ws h.0, sorted-facets d score ws h.1)

-- ---- one document

module _ (w : Weights) (d : ℕ) (doc : Doc) where
  abbrev facets : List Row
  facets = map (λ x. placed d w.facet (0, x)) (listed_facets doc.facets)

  abbrev titles : ℕ
  titles = length (words doc.title)

  abbrev texts : ℕ
  texts = length (words doc.text)

  within_titles : AllByRecursion (IsWithin d 1 (titles + 1)) (title_rows w d doc)
  within_titles = wider d 1 (1 + titles) 1 (titles + 1) (title_rows w d doc) (omega arith) (omega arith) (within-placed d w.title 1 (words doc.title))

  within_texts : AllByRecursion (IsWithin d (titles + 1) (titles + BEHIND_TITLE + texts)) (text_rows w d doc)
  within_texts = wider d (titles + BEHIND_TITLE) (titles + BEHIND_TITLE + texts) (titles + 1) (titles + BEHIND_TITLE + texts) (text_rows w d doc) (omega arith) (omega arith) (within-placed d w.text (titles + BEHIND_TITLE) (words doc.text))

  within_front : AllByRecursion (IsWithin d 0 (titles + 1)) (facets ++ title_rows w d doc)
  within_front = all-append (IsWithin d 0 (titles + 1)) facets (title_rows w d doc) (wider d 0 1 0 (titles + 1) facets (omega arith) (omega arith) (within-facets d w.facet (listed_facets doc.facets)))
      (wider d 1 (titles + 1) 0 (titles + 1) (title_rows w d doc) (omega arith) (omega arith) within_titles)

  sorted_front : IsStrictlySortedBy by_spot (facets ++ title_rows w d doc)
  sorted_front = sorted-append by_spot facets (title_rows w d doc) (sorted-facets d w.facet (listed_facets doc.facets) (listing-rises (slice_cmp nat_cmp) (facet_words doc.facets)))
      (sorted-placed d w.title 1 (words doc.title)) (within_below d 0 1 (titles + 1) facets (title_rows w d doc) (within-facets d w.facet (listed_facets doc.facets)) within_titles)

  sorted-doc : IsStrictlySortedBy by_spot (listed_doc w (d, doc))
  sorted-doc = sorted-append by_spot (facets ++ title_rows w d doc) (text_rows w d doc) sorted_front (sorted-placed d w.text (titles + BEHIND_TITLE) (words doc.text))
      (within_below d 0 (titles + 1) (titles + BEHIND_TITLE + texts) (facets ++ title_rows w d doc) (text_rows w d doc) within_front within_texts)

  of_doc : AllByRecursion (λ r. r.doc ≡ d) (listed_doc w (d, doc))
  of_doc = all-append (λ r. r.doc ≡ d) (facets ++ title_rows w d doc) (text_rows w d doc)
      (all_then (IsWithin d 0 (titles + 1)) (λ r. r.doc ≡ d) (λ r p. p.doc) (facets ++ title_rows w d doc) within_front)
      (all_then (IsWithin d (titles + 1) (titles + BEHIND_TITLE + texts)) (λ r. r.doc ≡ d) (λ r p. p.doc) (text_rows w d doc) within_texts)

-- ---- the same rows, one test at a time

never : (a b o : Ordering) → is_eq o ≡ false → is_eq (ordering_then a (ordering_then b o)) ≡ false
never Less b o h = refl
never Greater b o h = refl
never Equal Less o h = refl
never Equal Greater o h = refl
never Equal Equal o h = h

gate : (a b o e : Ordering) → is_eq (ordering_then a (ordering_then b (ordering_then o e))) ≡ (is_eq o && is_eq (ordering_then a (ordering_then b e)))
gate a b Less e = never a b Less refl
gate a b Greater e = never a b Greater refl
gate a b Equal e = refl

or_gated : (a b k : Bool) → ((a && k) || (b && k)) ≡ ((a || b) && k)
or_gated true b true = refl
or_gated true true false = refl
or_gated true false false = refl
or_gated false b k = refl

nothing_sorted : {X : Type 0} (R : X → X → Ordering) → IsStrictlySortedBy R []
unfolding IsStrictlySortedBy
nothing_sorted R = tt

no_facets : listed_facets [] ≡ []
no_facets = sym (members_are (slice_cmp nat_cmp) nat_list_cmp_total exact_bytes [] [] (nothing_sorted (slice_cmp nat_cmp)) (λ q. refl))

-- ---- all documents, under the weights w

module _ (w : Weights) where
  from_docs : (d : ℕ) (docs : List Doc) → AllByRecursion (λ r. d ≤ r.doc) (listed_rows w d docs)
  from_docs d [] = tt
  from_docs d (doc ∷ docs) =
      all-append (λ r. d ≤ r.doc) (listed_doc w (d, doc)) (listed_rows w (d + 1) docs)
      (all_then (λ r. r.doc ≡ d) (λ r. d ≤ r.doc) (λ r p. omega (arith, p)) (listed_doc w (d, doc)) (of_doc w d doc))
      (all_then (λ r. d + 1 ≤ r.doc) (λ r. d ≤ r.doc) (λ r p. omega (arith, p)) (listed_rows w (d + 1) docs) (from_docs (d + 1) docs))

  sorted-spots : (d : ℕ) (docs : List Doc) → IsStrictlySortedBy by_spot (listed_rows w d docs)
  unfolding IsStrictlySortedBy
  sorted-spots d [] = tt
  sorted-spots d (doc ∷ docs) =
      sorted-append by_spot (listed_doc w (d, doc)) (listed_rows w (d + 1) docs) (sorted-doc w d doc) (sorted-spots (d + 1) docs)
      (below-from by_spot (λ r. r.doc ≡ d) (λ s. d + 1 ≤ s.doc) (λ r s p q. earlier_doc r s (omega (arith, p, q))) (listed_doc w (d, doc)) (listed_rows w (d + 1) docs) (of_doc w d doc) (from_docs (d + 1) docs))

  sorted-rows : (d : ℕ) (docs : List Doc) → IsStrictlySortedBy by_row (listed_rows w d docs)
  sorted-rows d docs = rows_up (listed_rows w d docs) (sorted-spots d docs)

  -- ---- the same rows

  -- whether q is the row of a facet word in document d, its word aside
  abbrev is_facet_row : Row → ℕ → Bool
  is_facet_row q d = is_eq (ordering_then (nat_cmp q.doc d) (ordering_then (nat_cmp q.pos 0) (nat_cmp q.score w.facet)))

  any_facet : (q : Row) (d : ℕ) (ws : List (List ℕ)) → list_any (eq_by_cmp by_row q) (map (λ x. placed d w.facet (0, x)) ws) ≡ (list_any (eq_by_cmp (slice_cmp nat_cmp) q.word) ws && is_facet_row q d)
  any_facet q d [] = refl
  any_facet q d (v ∷ ws) =
      ap (λ b. b || list_any (eq_by_cmp by_row q) (map (λ x. placed d w.facet (0, x)) ws)) (gate (nat_cmp q.doc d) (nat_cmp q.pos 0) (slice_cmp nat_cmp q.word v) (nat_cmp q.score w.facet))
      ∙ ap (λ b. (eq_by_cmp (slice_cmp nat_cmp) q.word v && is_facet_row q d) || b) (any_facet q d ws)
      ∙ or_gated (eq_by_cmp (slice_cmp nat_cmp) q.word v) (list_any (eq_by_cmp (slice_cmp nat_cmp) q.word) ws) (is_facet_row q d)

  any_listed : (q : Row) (d : ℕ) (doc : Doc) → list_any (eq_by_cmp by_row q) (facets w d doc) ≡ list_any (eq_by_cmp by_row q) (facet_rows w d doc)
  any_listed q d doc =
      any_facet q d (listed_facets doc.facets)
      ∙ ap (λ b. b && is_facet_row q d) (is_member-listed (slice_cmp nat_cmp) nat_list_cmp_total (facet_words doc.facets) q.word)
      ∙ sym (any_facet q d (facet_words doc.facets))

  any_doc : (q : Row) (d : ℕ) (doc : Doc) → list_any (eq_by_cmp by_row q) (listed_doc w (d, doc)) ≡ list_any (eq_by_cmp by_row q) (doc_rows w (d, doc))
  any_doc q d doc =
      let front : list_any (eq_by_cmp by_row q) (facets w d doc ++ title_rows w d doc) ≡ list_any (eq_by_cmp by_row q) (facet_rows w d doc ++ title_rows w d doc) =
      list_any-append (eq_by_cmp by_row q) (facets w d doc) (title_rows w d doc)
      ∙ ap (λ b. b || list_any (eq_by_cmp by_row q) (title_rows w d doc)) (any_listed q d doc)
      ∙ sym (list_any-append (eq_by_cmp by_row q) (facet_rows w d doc) (title_rows w d doc)) in
      list_any-append (eq_by_cmp by_row q) (facets w d doc ++ title_rows w d doc) (text_rows w d doc)
      ∙ ap (λ b. b || list_any (eq_by_cmp by_row q) (text_rows w d doc)) front
      ∙ sym (list_any-append (eq_by_cmp by_row q) (facet_rows w d doc ++ title_rows w d doc) (text_rows w d doc))

  any_row : (q : Row) (d : ℕ) (docs : List Doc) → list_any (eq_by_cmp by_row q) (listed_rows w d docs) ≡ list_any (eq_by_cmp by_row q) (flat_map (doc_rows w) (enumerate_from d docs))
  any_row q d [] = refl
  any_row q d (doc ∷ docs) =
      list_any-append (eq_by_cmp by_row q) (listed_doc w (d, doc)) (listed_rows w (d + 1) docs)
      ∙ ap (λ b. b || list_any (eq_by_cmp by_row q) (listed_rows w (d + 1) docs)) (any_doc q d doc)
      ∙ ap (λ b. list_any (eq_by_cmp by_row q) (doc_rows w (d, doc)) || b) (any_row q (d + 1) docs)
      ∙ sym (list_any-append (eq_by_cmp by_row q) (doc_rows w (d, doc)) (flat_map (doc_rows w) (enumerate_from (d + 1) docs)))

  -- the rows of documents are their listing
  pub rows_listed : (docs : List Doc) → listed_rows w 0 docs ≡ rows_of w docs
  rows_listed docs = members_are by_row by_row_total by_row_exact (listed_rows w 0 docs) (flat_map (doc_rows w) (enumerate_from 0 docs)) (sorted-rows 0 docs) (λ q. any_row q 0 docs)

  -- no two rows of documents have one document, position and word
  pub spots-rise : (docs : List Doc) → IsStrictlySortedBy by_spot (rows_of w docs)
  spots-rise docs = subst (IsStrictlySortedBy by_spot) (rows_listed docs) (sorted-spots 0 docs)

  below_docs : (d n : ℕ) (docs : List Doc) → d + length docs ≤ n → AllByRecursion (λ r. r.doc < n) (listed_rows w d docs)
  below_docs d n [] h = tt
  below_docs d n (doc ∷ docs) h =
      all-append (λ r. r.doc < n) (listed_doc w (d, doc)) (listed_rows w (d + 1) docs)
      (all_then (λ r. r.doc ≡ d) (λ r. r.doc < n) (λ r p. omega (arith, p)) (listed_doc w (d, doc)) (of_doc w d doc))
      (below_docs (d + 1) n docs (omega arith))

  -- the rows of documents are in documents
  pub docs-below : (docs : List Doc) → AllByRecursion (λ r. r.doc < length docs) (rows_of w docs)
  docs-below docs = subst (AllByRecursion (λ r. r.doc < length docs)) (rows_listed docs) (below_docs 0 (length docs) docs (omega arith))

  -- ---- document after document

  pub listed_next : (docs : List Doc) (i : ℕ) (doc : Doc) → i < length docs → doc ≡ get_or docs i doc → listed_rows w i (drop i docs) ≡ listed_doc w (i, doc) ++ listed_rows w (i + 1) (drop (i + 1) docs)
  listed_next docs i doc l e =
      ap (listed_rows w i) (drop-cons docs i doc l ∙ ap (λ n. get_or docs i doc ∷ drop n docs) (sym (add-one i)) ∙ ap (λ x. x ∷ drop (i + 1) docs) (sym e))

  -- one more document
  pub next_rows : (docs : List Doc) (i : ℕ) (doc : Doc) (rows new : List Row) → i < length docs → doc ≡ get_or docs i doc → new ≡ rows ++ listed_doc w (i, doc) → listed_rows w 0 docs ≡ rows ++ listed_rows w i (drop i docs)
      → listed_rows w 0 docs ≡ new ++ listed_rows w (i + 1) (drop (i + 1) docs)
  next_rows docs i doc rows new l e n told =
      told ∙ ap (λ r. rows ++ r) (listed_next docs i doc l e)
      ∙ sym (append_assoc rows (listed_doc w (i, doc)) (listed_rows w (i + 1) (drop (i + 1) docs)))
      ∙ ap (λ r. r ++ listed_rows w (i + 1) (drop (i + 1) docs)) (sym n)

  -- all documents
  pub last_rows : (docs : List Doc) (i : ℕ) (rows : List Row) → length docs ≤ i → listed_rows w 0 docs ≡ rows ++ listed_rows w i (drop i docs) → rows ≡ rows_of w docs
  last_rows docs i rows l told = sym (append-nil rows) ∙ ap (λ ds. rows ++ listed_rows w i ds) (sym (drop_all i docs l)) ∙ sym told ∙ rows_listed docs

  -- a document that has a title alone
  pub listed_title : (d : ℕ) (doc : Doc) → doc.facets ≡ [] → doc.text ≡ [] → listed_doc w (d, doc) ≡ title_rows w d doc
  listed_title d doc f t =
      ap (λ ws. map (λ x. placed d w.facet (0, x)) ws ++ title_rows w d doc ++ text_rows w d doc) (ap listed_facets f ∙ no_facets)
      ∙ ap (λ ws. title_rows w d doc ++ map (placed d w.text) (enumerate_from (length (words doc.title) + BEHIND_TITLE) ws)) (ap words t ∙ no_words)
      ∙ append-nil (title_rows w d doc)
