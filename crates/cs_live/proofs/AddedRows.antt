-- The rows of a document that is added.
--
--   all_map            what holds of what is made of each member
--   spots_behind       rows in order behind those of earlier documents
--   own_any            the rows are those of the document under its number
--   own_docs, first_docs, own_spots    they are of its number, which is 0 at first, in order
use Rattle.std.proofs.Common.{◌≡◌, ℕ, ◌+◌, ◌<◌, ◌≤◌, List, [], ◌∷◌, ◌++◌, length, map, refl, ap, ap₂, sym, ◌∙◌, arith, append-nil}
use Rattle.std.specs.Prelude.{Bool}
use Rattle.std.specs.List.{AllByRecursion, enumerate_from, list_any}
use Rattle.std.specs.List.Sorted.{IsStrictlySortedBy}
use Rattle.std.specs.Ordering.{nat_cmp, ordering_then}
use Rattle.std.specs.Cmp.Lexicographic.{slice_cmp}
use Rattle.std.specs.declared.cmp.Ordering.TheVariants.{Less}
use Rattle.std.proofs.lemmas.Bool.Decides.{nat_tests}
use Rattle.std.proofs.lemmas.List.{map-append}
use Rattle.cs_base.specs.content.Orders.{by_row, by_spot}
use Rattle.cs_base.specs.declared.content.doc.Doc.{Doc}
use Rattle.cs_base.specs.declared.content.doc.Row.{Row}
use Rattle.cs_base.specs.declared.content.scores.Weights.{Weights}
use Rattle.cs_base.specs.declared.content.scores.TheConstants.{BEHIND_TITLE}
use Rattle.cs_base.proofs.ListsLemmas.{any_through}
use Rattle.cs_base.proofs.MembersLemmas.{all_then}
use Rattle.cs_base.proofs.OrdersLemmas.{Less-from_lt, by_row_exact, by_row_total}
use Rattle.cs_docs.proofs.ListingLemmas.{docs-below, spots-rise}
use Rattle.cs_model.specs.Collection.{facet_words}
use Rattle.cs_model.specs.Corpus.{doc_rows, facet_rows, placed, rows_of, text_rows, title_rows}
use Rattle.cs_model.specs.Words.{words}
use Rattle.cs_model_changes.specs.Joined.{later_row}
use Rattle.cs_model_index.proofs.Listings.{any_listed}

-- ---- lists
pub all_map : {X Y : Type 0} (P : Y → Type 0) (f : X → Y) (xs : List X) → AllByRecursion (λ x. P (f x)) xs → AllByRecursion P (map f xs)
all_map P f [] h = tt
all_map P f (x ∷ xs) h = (h.0, all_map P f xs h.1)

-- ---- rows under a later document
later_placed : (n score : ℕ) (ps : List (ℕ × List ℕ)) → map (later_row n) (map (placed 0 score) ps) ≡ map (placed (0 + n) score) ps
later_placed n score [] = refl
later_placed n score (p ∷ ps) = ap (λ l. later_row n (placed 0 score p) ∷ l) (later_placed n score ps)

later_facets : (n score : ℕ) (ws : List (List ℕ)) → map (later_row n) (map (λ w. placed 0 score (0, w)) ws) ≡ map (λ w. placed (0 + n) score (0, w)) ws
later_facets n score [] = refl
later_facets n score (w ∷ ws) = ap (λ l. later_row n (placed 0 score (0, w)) ∷ l) (later_facets n score ws)

later_doc : (w : Weights) (n : ℕ) (doc : Doc) → map (later_row n) (doc_rows w (0, doc)) ≡ doc_rows w (0 + n, doc)
later_doc w n doc =
    map-append (later_row n) (facet_rows w 0 doc ++ title_rows w 0 doc) (text_rows w 0 doc)
    ∙ ap₂ (λ x y. x ++ y)
    (map-append (later_row n) (facet_rows w 0 doc) (title_rows w 0 doc)
    ∙ ap₂ (λ x y. x ++ y) (later_facets n w.facet (facet_words doc.facets)) (later_placed n w.title (enumerate_from 1 (words doc.title))))
    (later_placed n w.text (enumerate_from (length (words doc.title) + BEHIND_TITLE) (words doc.text)))

same_order : (a b n : ℕ) → nat_cmp (a + n) (b + n) ≡ nat_cmp a b
same_order a b n = grind (arith, nat_tests)

later_less : (n : ℕ) (r q : Row) → by_spot r q ≡ Less → by_spot (later_row n r) (later_row n q) ≡ Less
later_less n r q h = ap (λ o. ordering_then o (ordering_then (nat_cmp r.pos q.pos) (slice_cmp nat_cmp r.word q.word))) (same_order r.doc q.doc n) ∙ h

later_rest : (n : ℕ) (r : Row) (rs : List Row) → AllByRecursion (λ q. by_spot r q ≡ Less) rs → AllByRecursion (λ q. by_spot (later_row n r) q ≡ Less) (map (later_row n) rs)
later_rest n r [] h = tt
later_rest n r (q ∷ rs) h = (later_less n r q h.0, later_rest n r rs h.1)

later_rises : (n : ℕ) (rs : List Row) → IsStrictlySortedBy by_spot rs → IsStrictlySortedBy by_spot (map (later_row n) rs)
unfolding IsStrictlySortedBy
later_rises n [] h = tt
later_rises n (r ∷ rs) h = (later_rest n r rs h.0, later_rises n rs h.1)

less_doc : (r q : Row) (n : ℕ) → r.doc < n → n ≤ q.doc → by_spot r q ≡ Less
less_doc r q n lt le = ap (λ o. ordering_then o (ordering_then (nat_cmp r.pos q.pos) (slice_cmp nat_cmp r.word q.word))) (Less-from_lt r.doc q.doc (omega (arith, lt, le)))

behind_rest : (n : ℕ) (r : Row) (xs ys : List Row) → r.doc < n → AllByRecursion (λ q. by_spot r q ≡ Less) xs → AllByRecursion (λ q. n ≤ q.doc) ys
    → AllByRecursion (λ q. by_spot r q ≡ Less) (xs ++ ys)
behind_rest n r [] ys lt h k = all_then (λ q. n ≤ q.doc) (λ q. by_spot r q ≡ Less) (λ q le. less_doc r q n lt le) ys k
behind_rest n r (x ∷ xs) ys lt h k = (h.0, behind_rest n r xs ys lt h.1 k)

pub spots_behind : (n : ℕ) (xs ys : List Row) → IsStrictlySortedBy by_spot xs → IsStrictlySortedBy by_spot ys → AllByRecursion (λ r. r.doc < n) xs
    → AllByRecursion (λ q. n ≤ q.doc) ys → IsStrictlySortedBy by_spot (xs ++ ys)
unfolding IsStrictlySortedBy
spots_behind n [] ys up_x up_y a b = up_y
spots_behind n (x ∷ xs) ys up_x up_y a b = (behind_rest n x xs ys a.0 up_x.0 b, spots_behind n xs ys up_x.1 up_y a.1 b)

-- ---- the rows of a document
module _ (w : Weights) (n : ℕ) (doc : Doc) where
  abbrev pub numbered_rows : List Row
  numbered_rows = map (later_row n) (rows_of w (doc ∷ []))

  pub own_any : (t : Row → Bool) → list_any t (map (later_row n) (rows_of w (doc ∷ []))) ≡ list_any t (doc_rows w (n, doc))
  own_any t =
      let number : 0 + n ≡ n = omega arith in
      any_through (later_row n) t (rows_of w (doc ∷ []))
      ∙ any_listed by_row by_row_total by_row_exact (λ r. t (later_row n r)) (doc_rows w (0, doc) ++ [])
      ∙ ap (list_any (λ r. t (later_row n r))) (append-nil (doc_rows w (0, doc)))
      ∙ sym (any_through (later_row n) t (doc_rows w (0, doc)))
      ∙ ap (list_any t) (later_doc w n doc ∙ ap (λ d. doc_rows w (d, doc)) number)

  pub own_docs : AllByRecursion (λ r. r.doc ≡ n) (map (later_row n) (rows_of w (doc ∷ [])))
  own_docs =
      all_map (λ r. r.doc ≡ n) (later_row n) (rows_of w (doc ∷ []))
      (all_then (λ r. r.doc < 1) (λ r. r.doc + n ≡ n) (λ r lt. omega (arith, lt)) (rows_of w (doc ∷ [])) (docs-below w (doc ∷ [])))

  pub first_docs : AllByRecursion (λ r. r.doc ≡ 0) (rows_of w (doc ∷ []))
  first_docs = all_then (λ r. r.doc < 1) (λ r. r.doc ≡ 0) (λ r lt. omega (arith, lt)) (rows_of w (doc ∷ [])) (docs-below w (doc ∷ []))

  pub own_spots : IsStrictlySortedBy by_spot (map (later_row n) (rows_of w (doc ∷ [])))
  own_spots = later_rises n (rows_of w (doc ∷ [])) (spots-rise w (doc ∷ []))
