-- The corpus of documents and further ones is their two corpora joined.
--
--   numbered            documents and further ones, with their numbers
--   rows_apart          the rows of documents and further ones, before they are listed
--   joined_are_corpora  the law
use Rattle.std.proofs.Common.{◌≡◌, ℕ, suc, ◌+◌, ◌||◌, Bool, List, [], ◌∷◌, ◌++◌, map, length, refl, sym, ◌∙◌, ap, arith}
use Rattle.std.specs.Prelude.{flat_map}
use Rattle.std.specs.List.{list_any, enumerate_from}
use Rattle.std.specs.Ordering.{nat_cmp, eq_by_cmp}
use Rattle.std.specs.FinMap.{entries, from_entries, len, len-entries}
use Rattle.std.proofs.lemmas.List.{map-append, length-map}
use Rattle.std.proofs.lemmas.List.Folds.{list_any-append}
use Rattle.std.proofs.lemmas.List.FromFn.{length-enumerate_from}
use Rattle.std.proofs.lemmas.Grind.{flat_map-append}
use Rattle.cs_base.proofs.MembersLemmas.{members-alike, is_member-listed, any_listed}
use Rattle.cs_base.proofs.OrdersLemmas.{by_row_total, by_row_exact}
use Rattle.cs_base.specs.content.Orders.{by_row}
use Rattle.cs_base.specs.declared.content.doc.Doc.{Doc}
use Rattle.cs_base.specs.declared.content.doc.Row.{Row}
use Rattle.cs_base.specs.declared.content.scores.TheConstants.{BEHIND_TITLE}
use Rattle.cs_base.specs.declared.content.scores.Weights.{Weights}
use Rattle.cs_base.proofs.ListsLemmas.{any_through}
use Rattle.cs_model.specs.Collection.{facet_words}
use Rattle.cs_model.specs.Corpus.{corpus_of, doc_rows, facet_rows, placed, rows_of, text_rows, title_of, title_rows, titles_of}
use Rattle.cs_model.specs.Words.{words}
use Rattle.cs_model_index.proofs.ImageLemmas.{titles_listed}
use Rattle.cs_model_changes.specs.Joined.{joined, later_row, later_title}

-- ---- numbers
pub numbered : {X : Type 0} (a : ℕ) (xs ys : List X) → enumerate_from a (xs ++ ys) ≡ enumerate_from a xs ++ enumerate_from (a + length xs) ys
numbered a [] ys = ap (λ n. enumerate_from n ys) (let e : a ≡ a + 0 = omega arith in e)
numbered a (x ∷ xs) ys =
    ap (λ l. (a, x) ∷ l) (numbered (a + 1) xs ys
    ∙ ap (λ n. enumerate_from (a + 1) xs ++ enumerate_from n ys) (let e : a + 1 + length xs ≡ a + suc (length xs) = omega arith in e))

further : (a b n : ℕ) → b ≡ a + n → a + 1 + n ≡ b + 1
further a b n h = omega (arith, h)

later_titles : (a n : ℕ) (ts : List (List ℕ)) → map (later_title n) (enumerate_from a ts) ≡ enumerate_from (a + n) ts
later_titles a n [] = refl
later_titles a n (t ∷ ts) = ap (λ l. (a + n, t) ∷ l) (later_titles (a + 1) n ts ∙ ap (λ m. enumerate_from m ts) (further a (a + n) n refl))

-- ---- rows
later_placed : (n d score : ℕ) (ps : List (ℕ × List ℕ)) → map (later_row n) (map (placed d score) ps) ≡ map (placed (d + n) score) ps
later_placed n d score [] = refl
later_placed n d score (p ∷ ps) = ap (λ l. placed (d + n) score p ∷ l) (later_placed n d score ps)

later_facets : (n d score : ℕ) (ws : List (List ℕ)) → map (later_row n) (map (λ w. placed d score (0, w)) ws) ≡ map (λ w. placed (d + n) score (0, w)) ws
later_facets n d score [] = refl
later_facets n d score (w ∷ ws) = ap (λ l. placed (d + n) score (0, w) ∷ l) (later_facets n d score ws)

later_doc : (weights : Weights) (n d : ℕ) (doc : Doc) → map (later_row n) (doc_rows weights (d, doc)) ≡ doc_rows weights (d + n, doc)
later_doc weights n d doc =
    let facets = facet_rows weights d doc in
    let titles = title_rows weights d doc in
    let texts = text_rows weights d doc in
    map-append (later_row n) (facets ++ titles) texts
    ∙ ap (λ l. l ++ map (later_row n) texts)
    (map-append (later_row n) facets titles
    ∙ ap (λ l. l ++ map (later_row n) titles) (later_facets n d weights.facet (facet_words doc.facets))
    ∙ ap (λ l. facet_rows weights (d + n) doc ++ l) (later_placed n d weights.title (enumerate_from 1 (words doc.title))))
    ∙ ap (λ l. (facet_rows weights (d + n) doc ++ title_rows weights (d + n) doc) ++ l)
    (later_placed n d weights.text (enumerate_from (length (words doc.title) + BEHIND_TITLE) (words doc.text)))

abbrev pub all_rows : Weights → ℕ → List Doc → List Row
all_rows weights a docs = flat_map (doc_rows weights) (enumerate_from a docs)

later_rows : (weights : Weights) (a n : ℕ) (docs : List Doc) → map (later_row n) (all_rows weights a docs) ≡ all_rows weights (a + n) docs
later_rows weights a n [] = refl
later_rows weights a n (d ∷ ds) =
    map-append (later_row n) (doc_rows weights (a, d)) (all_rows weights (a + 1) ds)
    ∙ ap (λ l. l ++ map (later_row n) (all_rows weights (a + 1) ds)) (later_doc weights n a d)
    ∙ ap (λ l. doc_rows weights (a + n, d) ++ l) (later_rows weights (a + 1) n ds ∙ ap (λ m. all_rows weights m ds) (further a (a + n) n refl))

pub rows_apart : (weights : Weights) (ds es : List Doc) → all_rows weights 0 (ds ++ es) ≡ all_rows weights 0 ds ++ all_rows weights (length ds) es
rows_apart weights ds es =
    ap (flat_map (doc_rows weights)) (numbered 0 ds es)
    ∙ flat_map-append (doc_rows weights) (enumerate_from 0 ds) (enumerate_from (0 + length ds) es)
    ∙ ap (λ n. all_rows weights 0 ds ++ all_rows weights n es) (let e : 0 + length ds ≡ length ds = omega arith in e)

-- ---- the law
count_titles : (ds : List Doc) → len (titles_of ds) ≡ length ds
count_titles ds =
    len-entries (titles_of ds) ∙ ap length (titles_listed (map title_of ds)) ∙ length-enumerate_from 0 (map title_of ds) ∙ length-map ds title_of

joined_titles : (weights : Weights) (ds es : List Doc) → titles_of (ds ++ es) ≡ (joined (corpus_of weights ds) (corpus_of weights es)).titles
joined_titles weights ds es =
    let ts = map title_of ds in
    let us = map title_of es in
    let n = len (titles_of ds) in
    let number : 0 + length ts ≡ 0 + n = ap (λ m. 0 + m) (length-map ds title_of ∙ sym (count_titles ds)) in
    ap (λ es. from_entries {R = nat_cmp} es)
    (ap (enumerate_from 0) (map-append title_of ds es)
    ∙ numbered 0 ts us
    ∙ ap (λ l. l ++ enumerate_from (0 + length ts) us) (sym (titles_listed ts))
    ∙ ap (λ l. entries (titles_of ds) ++ l)
    (ap (λ m. enumerate_from m us) number ∙ sym (later_titles 0 n us) ∙ ap (map (later_title n)) (sym (titles_listed us))))

joined_rows : (weights : Weights) (ds es : List Doc) → rows_of weights (ds ++ es) ≡ (joined (corpus_of weights ds) (corpus_of weights es)).rows
joined_rows weights ds es =
    let n = len (titles_of ds) in
    let before : List Row = all_rows weights 0 ds in
    let later : List Row = all_rows weights 0 es in
    let behind : all_rows weights (length ds) es ≡ map (later_row n) later =
    ap (λ m. all_rows weights m es) (let e : length ds ≡ 0 + n = omega (arith, count_titles ds) in e) ∙ sym (later_rows weights 0 n es) in
    members-alike by_row by_row_total by_row_exact (all_rows weights 0 (ds ++ es)) (rows_of weights ds ++ map (later_row n) (rows_of weights es)) (λ q.
    let is : Row → Bool = eq_by_cmp by_row q in
    ap (list_any is) (rows_apart weights ds es)
    ∙ list_any-append is before (all_rows weights (length ds) es)
    ∙ ap (λ b. b || list_any is (all_rows weights (length ds) es)) (sym (is_member-listed by_row by_row_total before q))
    ∙ ap (λ b. list_any is (rows_of weights ds) || b)
    (ap (list_any is) behind
    ∙ any_through (later_row n) is later
    ∙ sym (any_listed by_row by_row_total by_row_exact (λ r. is (later_row n r)) later)
    ∙ sym (any_through (later_row n) is (rows_of weights es)))
    ∙ sym (list_any-append is (rows_of weights ds) (map (later_row n) (rows_of weights es))))

pub joined_are_corpora : (weights : Weights) (ds es : List Doc) → corpus_of weights (ds ++ es) ≡ joined (corpus_of weights ds) (corpus_of weights es)
joined_are_corpora weights ds es = λ i. record { titles = joined_titles weights ds es i; rows = joined_rows weights ds es i }
