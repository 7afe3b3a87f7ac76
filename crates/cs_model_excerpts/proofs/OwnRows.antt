-- The rows of a corpus's documents behind their titles, by what a document's own rows are.
--
--   doc_text        where a corpus has a document's rows, those behind its title are its text words
--   corpora_have    a corpus of documents has the rows of each
use Rattle.std.proofs.Common.{◌≡◌, ◌<◌, ◌≤◌, ◌+◌, ◌-◌, ℕ, zero, suc, List, [], ◌∷◌, ◌++◌, true, false, Bool, map, length, get_or, refl, sym, ap, ◌∙◌, arith, inl, inr}
use Rattle.std.specs.Prelude.{◌&&◌, ◌||◌, ◌==◌, nat_le}
use Rattle.std.specs.List.{enumerate_from, flat_map, list_any}
use Rattle.std.proofs.lemmas.Bool.{cases_eq, cases_lt, false_from_ne_true}
use Rattle.std.proofs.lemmas.Bool.Decides.{nat_tests}
use Rattle.std.proofs.lemmas.List.Folds.{list_any-append}
use Rattle.cs_base.proofs.ListsLemmas.{same_number}
use Rattle.cs_base.proofs.MembersLemmas.{any_listed, filter_listed, members-alike}
use Rattle.cs_base.proofs.OrdersLemmas.{by_row_total, by_row_exact}
use Rattle.cs_base.specs.content.Orders.{by_row}
use Rattle.cs_base.specs.declared.content.doc.Doc.{Doc}
use Rattle.cs_base.specs.declared.content.doc.Row.{Row}
use Rattle.cs_base.specs.declared.content.scores.TheConstants.{BEHIND_TITLE}
use Rattle.cs_base.specs.declared.content.scores.Weights.{Weights}
use Rattle.cs_model.specs.Collection.{facet_words}
use Rattle.cs_model.specs.Corpus.{Corpus, corpus_of, doc_rows, facet_rows, placed, text_rows, title_rows}
use Rattle.cs_model.specs.Words.{words}
use Rattle.cs_model_excerpts.specs.Excerpts.{at}
use Rattle.cs_model_excerpts.specs.Runs.{has_mark_at}
use Rattle.cs_model_excerpts.proofs.PartMarks.{mapped-length, past}
use Rattle.cs_model_excerpts.proofs.ServesLemmas.{HasText, and-false, and-true, any_alike, any_filter, mark_at}
use Rattle.cs_model_excerpts.specs.ExcerptLaws.{HasDocument}
use Rattle.cs_model.specs.Answers.{in_doc}
use Rattle.cs_base.specs.content.Members.{members_in}
use Rattle.std.specs.Ordering.{eq_by_cmp}
use Rattle.std.specs.Prelude.{filter}

module _ (w : Weights) (d p : ℕ) (f : List ℕ → Bool) where
  abbrev test : Row → Bool
  test r = at d p r && f r.word

  -- of document d the row at position p
  own_rows : (s n : ℕ) (ws : List (List ℕ)) → list_any test (map (placed d s) (enumerate_from n ws)) ≡ (nat_le n p && has_mark_at (map f ws) (p - n))
  own_rows s n [] = sym (and-false (nat_le n p))
  own_rows s n (w ∷ ws) =
      let own : (d == d) ≡ true = grind (arith, nat_tests) in
      ap (λ b. ((b && (n == p)) && f w) || list_any test (map (placed d s) (enumerate_from (n + 1) ws))) own ∙ ap (λ b. ((n == p) && f w) || b) (own_rows s (n + 1) ws)
      ∙ elim (cases_eq n p) [
        | inl same ↦
            let here : (n == p) ≡ true = grind (arith, nat_tests, same) in
            let later : nat_le (n + 1) p ≡ false = grind (arith, nat_tests, same) in
            let up : nat_le n p ≡ true = grind (arith, nat_tests, same) in
            let first : p - n ≡ 0 = omega (arith, same) in
            ap (λ b. (b && f w) || (nat_le (n + 1) p && has_mark_at (map f ws) (p - (n + 1)))) here ∙ ap (λ b. f w || (b && has_mark_at (map f ws) (p - (n + 1)))) later ∙ or-false (f w)
            ∙ sym (ap (λ b. b && has_mark_at (f w ∷ map f ws) (p - n)) up ∙ ap (has_mark_at (f w ∷ map f ws)) first)
        | inr other ↦
            let here : (n == p) ≡ false = false_from_ne_true (n == p) (λ e. other (same_number n p e)) in
            ap (λ b. (b && f w) || (nat_le (n + 1) p && has_mark_at (map f ws) (p - (n + 1)))) here ∙ behind n w ws other
      ]
    where
      or-false : (b : Bool) → (b || false) ≡ b
      or-false true = refl
      or-false false = refl

      behind : (n : ℕ) (w : List ℕ) (ws : List (List ℕ)) → (n ≡ p → ⊥) → (nat_le (n + 1) p && has_mark_at (map f ws) (p - (n + 1))) ≡ (nat_le n p && has_mark_at (f w ∷ map f ws) (p - n))
      behind n w ws other = elim (cases_lt n p) [
        | inl l ↦
            let up : nat_le n p ≡ true = grind (arith, nat_tests, l) in
            let next : nat_le (n + 1) p ≡ true = grind (arith, nat_tests, l) in
            let there : p - n ≡ suc (p - (n + 1)) = omega (arith, l) in
            ap (λ b. b && has_mark_at (map f ws) (p - (n + 1))) next ∙ sym (ap (λ b. b && has_mark_at (f w ∷ map f ws) (p - n)) up ∙ ap (has_mark_at (f w ∷ map f ws)) there)
        | inr l ↦
            let less : p < n = elim (cases_lt p n) [
              | inl k ↦ k
              | inr k ↦ absurd (other (omega (arith, l, k)))
            ] in
            let up : nat_le n p ≡ false = grind (arith, nat_tests, less) in
            let next : nat_le (n + 1) p ≡ false = grind (arith, nat_tests, less) in
            ap (λ b. b && has_mark_at (map f ws) (p - (n + 1))) next ∙ sym (ap (λ b. b && has_mark_at (f w ∷ map f ws) (p - n)) up)
      ]

  facets_none : (s : ℕ) (ws : List (List ℕ)) → 0 < p → list_any test (map (λ w. placed d s (0, w)) ws) ≡ false
  facets_none s [] l = refl
  facets_none s (w ∷ ws) l =
      let no : (0 == p) ≡ false = grind (arith, nat_tests, l) in
      ap (λ b. (((d == d) && b) && f w) || list_any test (map (λ v. placed d s (0, v)) ws)) no ∙ ap (λ b. (b && f w) || list_any test (map (λ v. placed d s (0, v)) ws)) (and-false (d == d)) ∙ facets_none s ws l

  title_none : (s : ℕ) (ws : List (List ℕ)) → length ws < p → list_any test (map (placed d s) (enumerate_from 1 ws)) ≡ false
  title_none s ws l =
      let far : length (map f ws) ≤ p - 1 = omega (arith, l, mapped-length f ws) in
      own_rows s 1 ws ∙ ap (λ b. nat_le 1 p && b) (past (map f ws) (p - 1) far) ∙ and-false (nat_le 1 p)

  own_doc : (doc : Doc) → length (words doc.title) < p → list_any test (doc_rows w (d, doc)) ≡ mark_at (length (words doc.title)) (map f (words doc.text)) p
  own_doc doc l =
      list_any-append test (facet_rows w d doc ++ title_rows w d doc) (text_rows w d doc)
      ∙ ap (λ b. b || list_any test (text_rows w d doc)) (list_any-append test (facet_rows w d doc) (title_rows w d doc)
      ∙ ap (λ b. b || list_any test (title_rows w d doc)) (facets_none w.facet (facet_words doc.facets) (omega (arith, l))) ∙ title_none w.title (words doc.title) l)
      ∙ own_rows w.text (length (words doc.title) + BEHIND_TITLE) (words doc.text)

-- ---- a corpus that has the document
only_at : (b e c g : Bool) → (b ≡ true → c ≡ true) → ((b && e) && g) ≡ (((b && e) && g) && c)
only_at true e c g h = let one : c ≡ true = h refl in rw one (all_true (e && g))
  where
    all_true : (x : Bool) → x ≡ (x && true)
    all_true true = refl
    all_true false = refl
only_at false e c g h = refl

pub doc_text : (k : Corpus) (w : Weights) (d : ℕ) (doc : Doc) → HasDocument k w d doc → HasText k d (length (words doc.title)) (words doc.text)
doc_text k w d doc has f p l =
    let t = test w d p f in
    any_alike t (λ r. t r && in_doc d r) k.rows (λ r. only_at (r.doc == d) (r.pos == p) (r.doc == d) (f r.word) (λ e. e))
    ∙ sym (any_filter t (in_doc d) k.rows)
    ∙ ap (list_any t) has
    ∙ any_listed by_row by_row_total by_row_exact t (doc_rows w (d, doc))
    ∙ own_doc w d p f doc l

-- ---- a corpus of documents
module _ (w : Weights) (d : ℕ) (is : Row → Bool) where
  abbrev kept : Row → Bool
  kept r = is r && in_doc d r

  all_in : {Y : Type 0} (g : Y → Row) (ys : List Y) → ((y : Y) → in_doc d (g y) ≡ true) → list_any kept (map g ys) ≡ list_any is (map g ys)
  all_in g [] h = refl
  all_in g (y ∷ ys) h = rw (h y) (ap (λ b. b || list_any kept (map g ys)) (and-true (is (g y))) ∙ ap (λ b. is (g y) || b) (all_in g ys h))

  none_in : {Y : Type 0} (g : Y → Row) (ys : List Y) → ((y : Y) → in_doc d (g y) ≡ false) → list_any kept (map g ys) ≡ false
  none_in g [] h = refl
  none_in g (y ∷ ys) h = rw (h y) (ap (λ b. b || list_any kept (map g ys)) (and-false (is (g y))) ∙ none_in g ys h)

  in_three : (q : Row → Bool) (n : ℕ) (doc : Doc) → list_any q (doc_rows w (n, doc)) ≡ ((list_any q (facet_rows w n doc) || list_any q (title_rows w n doc)) || list_any q (text_rows w n doc))
  in_three q n doc =
      list_any-append q (facet_rows w n doc ++ title_rows w n doc) (text_rows w n doc)
      ∙ ap (λ b. b || list_any q (text_rows w n doc)) (list_any-append q (facet_rows w n doc) (title_rows w n doc))

  same_three : (a b c a' b' c' : Bool) → a ≡ a' → b ≡ b' → c ≡ c' → ((a || b) || c) ≡ ((a' || b') || c')
  same_three a b c a' b' c' p q r = rw (p, q, r) refl

  own_kept : (n : ℕ) (doc : Doc) → (n == d) ≡ true → list_any kept (doc_rows w (n, doc)) ≡ list_any is (doc_rows w (n, doc))
  own_kept n doc h =
      in_three kept n doc
      ∙ same_three _ _ _ _ _ _ (all_in (λ x. placed n w.facet (0, x)) (facet_words doc.facets) (λ y. h)) (all_in (placed n w.title) (enumerate_from 1 (words doc.title)) (λ y. h))
      (all_in (placed n w.text) (enumerate_from (length (words doc.title) + BEHIND_TITLE) (words doc.text)) (λ y. h))
      ∙ sym (in_three is n doc)

  other_kept : (n : ℕ) (doc : Doc) → (n == d) ≡ false → list_any kept (doc_rows w (n, doc)) ≡ false
  other_kept n doc h =
      in_three kept n doc
      ∙ same_three _ _ _ _ _ _ (none_in (λ x. placed n w.facet (0, x)) (facet_words doc.facets) (λ y. h)) (none_in (placed n w.title) (enumerate_from 1 (words doc.title)) (λ y. h))
      (none_in (placed n w.text) (enumerate_from (length (words doc.title) + BEHIND_TITLE) (words doc.text)) (λ y. h))

  past_docs : (n : ℕ) (docs : List Doc) → d < n → list_any kept (flat_map (doc_rows w) (enumerate_from n docs)) ≡ false
  past_docs n [] l = refl
  past_docs n (x ∷ docs) l =
      let other : (n == d) ≡ false = grind (arith, nat_tests, l) in
      list_any-append kept (doc_rows w (n, x)) (flat_map (doc_rows w) (enumerate_from (n + 1) docs))
      ∙ ap (λ b. b || list_any kept (flat_map (doc_rows w) (enumerate_from (n + 1) docs))) (other_kept n x other) ∙ past_docs (n + 1) docs (omega (arith, l))

  or_none : (b : Bool) → (b || false) ≡ b
  or_none true = refl
  or_none false = refl

  docs_kept : (n i : ℕ) (docs : List Doc) (doc : Doc) → n + i ≡ d → i < length docs → doc ≡ get_or docs i doc → list_any kept (flat_map (doc_rows w) (enumerate_from n docs)) ≡ list_any is (doc_rows w (d, doc))
  docs_kept n i [] doc e l this = absurd (omega (arith, l))
  docs_kept n zero (x ∷ docs) doc e l this =
      let same : n ≡ d = omega (arith, e) in
      let here : (n == d) ≡ true = grind (arith, nat_tests, same) in
      list_any-append kept (doc_rows w (n, x)) (flat_map (doc_rows w) (enumerate_from (n + 1) docs))
      ∙ ap (λ b. list_any kept (doc_rows w (n, x)) || b) (past_docs (n + 1) docs (omega (arith, same)))
      ∙ or_none (list_any kept (doc_rows w (n, x)))
      ∙ own_kept n x here
      ∙ ap (λ m. list_any is (doc_rows w (m, x))) same ∙ ap (λ y. list_any is (doc_rows w (d, y))) (sym this)
  docs_kept n (suc i) (x ∷ docs) doc e l this =
      let other : (n == d) ≡ false = grind (arith, nat_tests, e) in
      list_any-append kept (doc_rows w (n, x)) (flat_map (doc_rows w) (enumerate_from (n + 1) docs))
      ∙ ap (λ b. b || list_any kept (flat_map (doc_rows w) (enumerate_from (n + 1) docs))) (other_kept n x other)
      ∙ docs_kept (n + 1) i docs doc (omega (arith, e)) (omega (arith, l)) this

pub corpora_have : (w : Weights) (docs : List Doc) (d : ℕ) (doc : Doc) → d < length docs → doc ≡ get_or docs d doc → HasDocument (corpus_of w docs) w d doc
corpora_have w docs d doc l this =
    let rows : List Row = flat_map (doc_rows w) (enumerate_from 0 docs) in
    filter_listed by_row by_row_total by_row_exact (in_doc d) rows
    ∙ members-alike by_row by_row_total by_row_exact (filter (in_doc d) (members_in by_row rows)) (doc_rows w (d, doc)) (λ q.
    let is : Row → Bool = eq_by_cmp by_row q in
    any_filter is (in_doc d) (members_in by_row rows)
    ∙ any_listed by_row by_row_total by_row_exact (λ r. is r && in_doc d r) rows
    ∙ docs_kept w d is 0 d docs doc (omega arith) l this)
