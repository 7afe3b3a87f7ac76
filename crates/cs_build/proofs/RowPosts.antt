-- Posts of rows and of documents, by the numbers of their words.
--
--   form_words        the words of the posts are the numbers
--   rows_again        rows by the numbers of their words
--   rows_of_numbers   rows that are counted are those of the documents
--   counted_docs      the rows of each document are counted
--   listed_many       documents have as many rows as words that are listed
--   words_more, counts_more, few_more      the words and the counts of one document more
use Rattle.std.proofs.Common.{◌≡◌, ℕ, zero, suc, ◌+◌, ◌≤◌, ◌<◌, List, [], ◌∷◌, ◌++◌, length, map, take, drop, get_or, refl, sym, ap, ◌∙◌, arith, append_assoc, length-append}
use Rattle.std.specs.Prelude.{flat_map}
use Rattle.std.specs.List.{AllByRecursion, enumerate_from}
use Rattle.std.proofs.lemmas.List.{drop_at, flat_map_more, get_or-map, length-map, map-append, take-append-drop, take-map, take_at, take_more}
use Rattle.std.proofs.lemmas.List.FromFn.{length-enumerate_from}
use Rattle.cs_base.specs.declared.content.doc.Doc.{Doc}
use Rattle.cs_base.specs.declared.content.doc.Post.{Post}
use Rattle.cs_base.specs.declared.content.doc.Row.{Row}
use Rattle.cs_base.specs.declared.content.scores.TheConstants.{BEHIND_TITLE}
use Rattle.cs_base.specs.declared.content.scores.Weights.{Weights}
use Rattle.cs_docs.specs.FacetPieces.{CanBeListed}
use Rattle.cs_docs.specs.LinesRead.{doc_of_lent}
use Rattle.cs_docs.specs.declared.document.LentDoc.{LentDoc}
use Rattle.cs_docs.specs.Listing.{listed_doc, listed_facets, listed_rows}
use Rattle.cs_model.specs.Corpus.{placed}
use Rattle.cs_model.specs.Words.{words}
use Rattle.cs_model_index.specs.Numbered.{row_of, rows_at, word_at}
use Rattle.cs_build.specs.RowColumns.{AreDocRows, IsFormOf, behind_doc, doc_rows_of, facet_posts, listed_words, posts_by, posts_in, posts_of_doc, posts_of_docs, text_numbers, title_numbers, word_posts}
use Rattle.cs_build.specs.declared.row_form.DocRows.{DocRows}
use Rattle.cs_build.specs.declared.row_form.RowForm.{RowForm}
use Rattle.cs_build.specs.declared.row_form.RowForm.TheVariants.{Listed, Counted}

-- ---- the words of posts
abbrev words_in : List Post → List ℕ
words_in ps = map (λ p. p.word) ps

by_words : (rows : List Row) (ns : List ℕ) → length rows ≡ length ns → words_in (posts_by rows ns) ≡ ns
by_words [] [] e = refl
by_words [] (n ∷ ns) e = absurd (omega (arith, e))
by_words (r ∷ rows) [] e = absurd (omega (arith, e))
by_words (r ∷ rows) (n ∷ ns) e = ap (λ l. n ∷ l) (by_words rows ns (omega (arith, e)))

facet_numbers : (d score : ℕ) (ns : List ℕ) → words_in (facet_posts d score ns) ≡ ns
facet_numbers d score [] = refl
facet_numbers d score (n ∷ ns) = ap (λ l. n ∷ l) (facet_numbers d score ns)

word_numbers : (d score pos : ℕ) (ns : List ℕ) → words_in (word_posts d score pos ns) ≡ ns
word_numbers d score pos [] = refl
word_numbers d score pos (n ∷ ns) = ap (λ l. n ∷ l) (word_numbers d score (pos + 1) ns)

three : (ps qs rs : List Post) (xs ys zs : List ℕ) → words_in ps ≡ xs → words_in qs ≡ ys → words_in rs ≡ zs → words_in (ps ++ qs ++ rs) ≡ xs ++ ys ++ zs
three ps qs rs xs ys zs a b c = map-append (λ (p : Post). p.word) (ps ++ qs) rs ∙ ap (λ l. l ++ words_in rs) (map-append (λ (p : Post). p.word) ps qs) ∙ rw (a, b, c) refl

doc_numbers : (w : Weights) (d : ℕ) (e : DocRows) (ns : List ℕ) → words_in (posts_of_doc w d e ns) ++ behind_doc e ns ≡ ns
doc_numbers w d e ns =
    let facets = take e.facets ns in
    let titles = take e.titles (title_numbers e ns) in
    let texts = take e.texts (text_numbers e ns) in
    ap (λ l. l ++ behind_doc e ns) (three _ _ _ facets titles texts (facet_numbers d w.facet facets) (word_numbers d w.title 1 titles) (word_numbers d w.text (e.titles + BEHIND_TITLE) texts))
    ∙ append_assoc (facets ++ titles) texts (behind_doc e ns)
    ∙ ap (λ l. facets ++ titles ++ l) (take-append-drop e.texts (text_numbers e ns))
    ∙ append_assoc facets titles (text_numbers e ns)
    ∙ ap (λ l. facets ++ l) (take-append-drop e.titles (title_numbers e ns))
    ∙ take-append-drop e.facets ns

docs_numbers : (w : Weights) (d : ℕ) (es : List DocRows) (ns : List ℕ) → AreDocRows es ns → words_in (posts_of_docs w d es ns) ≡ ns
docs_numbers w d [] [] h = refl
docs_numbers w d [] (n ∷ ns) h = absurd (omega (arith, h))
docs_numbers w d (e ∷ es) ns h =
    map-append (λ (p : Post). p.word) (posts_of_doc w d e ns) (posts_of_docs w (d + 1) es (behind_doc e ns))
    ∙ ap (λ l. words_in (posts_of_doc w d e ns) ++ l) (docs_numbers w (d + 1) es (behind_doc e ns) h.2)
    ∙ doc_numbers w d e ns

pub form_words : (form : RowForm) (ns : List ℕ) → IsFormOf form ns → map (λ p. p.word) (posts_in form ns) ≡ ns
form_words (Listed rows) ns h = by_words rows ns h
form_words (Counted docs w) ns h = docs_numbers w 0 docs.items ns h.1

pub posts_many : (form : RowForm) (ns : List ℕ) → IsFormOf form ns → length (posts_in form ns) ≡ length ns
posts_many form ns h = sym (length-map (posts_in form ns) (λ (p : Post). p.word)) ∙ ap length (form_words form ns h)

module _ (ws : List (List ℕ)) where
  -- ---- rows
  pub rows_again : (rows : List Row) (ns : List ℕ) → map (word_at ws) ns ≡ map (λ r. r.word) rows → rows_at ws (posts_by rows ns) ≡ rows
  rows_again [] ns e = refl
  rows_again (r ∷ rows) [] e = absurd (omega (arith, ap length e))
  rows_again (r ∷ rows) (n ∷ ns) e =
      ap (λ (w : List ℕ). let s : Row = record { doc = r.doc; word = w; pos = r.pos; score = r.score } in s ∷ rows_at ws (posts_by rows ns)) (let first : word_at ws n ≡ r.word = ap (λ l. get_or l 0 []) e in first)
      ∙ ap (λ l. r ∷ l) (rows_again rows ns (ap (drop 1) e))

  -- ---- rows of documents
  facet_rows : (d score : ℕ) (ns : List ℕ) → rows_at ws (facet_posts d score ns) ≡ map (λ v. placed d score (0, v)) (map (word_at ws) ns)
  facet_rows d score [] = refl
  facet_rows d score (n ∷ ns) = ap (λ l. placed d score (0, word_at ws n) ∷ l) (facet_rows d score ns)

  word_rows : (d score pos : ℕ) (ns : List ℕ) → rows_at ws (word_posts d score pos ns) ≡ map (placed d score) (enumerate_from pos (map (word_at ws) ns))
  word_rows d score pos [] = refl
  word_rows d score pos (n ∷ ns) = ap (λ l. placed d score (pos, word_at ws n) ∷ l) (word_rows d score (pos + 1) ns)

  drop-map : (n : ℕ) (xs : List ℕ) → drop n (map (word_at ws) xs) ≡ map (word_at ws) (drop n xs)
  drop-map zero xs = refl
  drop-map (suc n) [] = refl
  drop-map (suc n) (x ∷ xs) = drop-map n xs

  front : (ns : List ℕ) (vs rest : List (List ℕ)) → map (word_at ws) ns ≡ vs ++ rest → map (word_at ws) (take (length vs) ns) ≡ vs
  front ns vs rest e = sym (take-map (word_at ws) (length vs) ns) ∙ ap (take (length vs)) e ∙ take_at vs rest (length vs) refl

  behind : (ns : List ℕ) (vs rest : List (List ℕ)) → map (word_at ws) ns ≡ vs ++ rest → map (word_at ws) (drop (length vs) ns) ≡ rest
  behind ns vs rest e = sym (drop-map (length vs) ns) ∙ ap (drop (length vs)) e ∙ drop_at vs rest (length vs) refl

  -- the numbers of a document's words, and those behind them
  record Parted (doc : Doc) (ns : List ℕ) (rest : List (List ℕ)) : Type 0 where
    facets : map (word_at ws) (take (length (listed_facets doc.facets)) ns) ≡ listed_facets doc.facets
    titles : map (word_at ws) (take (length (words doc.title)) (title_numbers (doc_rows_of doc) ns)) ≡ words doc.title
    texts : map (word_at ws) (take (length (words doc.text)) (text_numbers (doc_rows_of doc) ns)) ≡ words doc.text
    last : map (word_at ws) (behind_doc (doc_rows_of doc) ns) ≡ rest

  parted : (doc : Doc) (ns : List ℕ) (rest : List (List ℕ)) → map (word_at ws) ns ≡ listed_words doc ++ rest → Parted doc ns rest
  parted doc ns rest e =
      let fs = listed_facets doc.facets in
      let ts = words doc.title in
      let xs = words doc.text in
      let a : map (word_at ws) ns ≡ fs ++ (ts ++ (xs ++ rest)) = e ∙ append_assoc (fs ++ ts) xs rest ∙ append_assoc fs ts (xs ++ rest) in
      let b = behind ns fs (ts ++ (xs ++ rest)) a in
      let c = behind (title_numbers (doc_rows_of doc) ns) ts (xs ++ rest) b in
      record { facets = front ns fs _ a; titles = front _ ts _ b; texts = front _ xs _ c; last = behind (text_numbers (doc_rows_of doc) ns) xs rest c }

  rows-append : (ps qs : List Post) → rows_at ws (ps ++ qs) ≡ rows_at ws ps ++ rows_at ws qs
  rows-append ps qs = map-append (row_of ws) ps qs

  doc_listed : (w : Weights) (d : ℕ) (doc : Doc) (ns : List ℕ) (rest : List (List ℕ)) → Parted doc ns rest → rows_at ws (posts_of_doc w d (doc_rows_of doc) ns) ≡ listed_doc w (d, doc)
  doc_listed w d doc ns rest p =
      let e = doc_rows_of doc in
      let facets = facet_posts d w.facet (take e.facets ns) in
      let titles = word_posts d w.title 1 (take e.titles (title_numbers e ns)) in
      let texts = word_posts d w.text (e.titles + BEHIND_TITLE) (take e.texts (text_numbers e ns)) in
      rows-append (facets ++ titles) texts ∙ ap (λ l. l ++ rows_at ws texts) (rows-append facets titles)
      ∙ ap (λ l. l ++ rows_at ws titles ++ rows_at ws texts) (facet_rows d w.facet (take e.facets ns) ∙ ap (λ vs. map (λ v. placed d w.facet (0, v)) vs) p.facets)
      ∙ ap (λ l. map (λ v. placed d w.facet (0, v)) (listed_facets doc.facets) ++ l ++ rows_at ws texts) (word_rows d w.title 1 (take e.titles (title_numbers e ns)) ∙ ap (λ vs. map (placed d w.title) (enumerate_from 1 vs)) p.titles)
      ∙ ap (λ l. map (λ v. placed d w.facet (0, v)) (listed_facets doc.facets) ++ map (placed d w.title) (enumerate_from 1 (words doc.title)) ++ l) (word_rows d w.text (e.titles + BEHIND_TITLE) (take e.texts (text_numbers e ns)) ∙ ap (λ vs. map (placed d w.text) (enumerate_from (e.titles + BEHIND_TITLE) vs)) p.texts)

  pub rows_of_numbers : (w : Weights) (d : ℕ) (docs : List Doc) (ns : List ℕ) → map (word_at ws) ns ≡ flat_map listed_words docs → rows_at ws (posts_of_docs w d (map doc_rows_of docs) ns) ≡ listed_rows w d docs
  rows_of_numbers w d [] ns e = refl
  rows_of_numbers w d (doc ∷ docs) ns e =
      let p = parted doc ns (flat_map listed_words docs) e in
      rows-append (posts_of_doc w d (doc_rows_of doc) ns) (posts_of_docs w (d + 1) (map doc_rows_of docs) (behind_doc (doc_rows_of doc) ns))
      ∙ ap (λ l. l ++ rows_at ws (posts_of_docs w (d + 1) (map doc_rows_of docs) (behind_doc (doc_rows_of doc) ns))) (doc_listed w d doc ns _ p)
      ∙ ap (λ l. listed_doc w (d, doc) ++ l) (rows_of_numbers w (d + 1) docs (behind_doc (doc_rows_of doc) ns) p.last)

  pub counted_docs : (docs : List Doc) (ns : List ℕ) → AllByRecursion CanBeListed docs → map (word_at ws) ns ≡ flat_map listed_words docs → AreDocRows (map doc_rows_of docs) ns
  counted_docs [] ns h e = sym (length-map ns (word_at ws)) ∙ ap length e
  counted_docs (doc ∷ docs) ns h e =
      let fs = listed_facets doc.facets in
      let ts = words doc.title in
      let xs = words doc.text in
      let p = parted doc ns (flat_map listed_words docs) e in (
        omega (arith, length-map ns (word_at ws), ap length e, length-append (listed_words doc) (flat_map listed_words docs), length-append (fs ++ ts) xs, length-append fs ts),
        h.0.few,
        counted_docs docs (behind_doc (doc_rows_of doc) ns) h.1 p.last,
      )

-- ---- how many rows documents have
pub listed_many : (w : Weights) (d : ℕ) (docs : List Doc) → length (listed_rows w d docs) ≡ length (flat_map listed_words docs)
listed_many w d [] = refl
listed_many w d (doc ∷ docs) =
    let fs = listed_facets doc.facets in
    let ts = words doc.title in
    let xs = words doc.text in
    omega (
      arith,
      listed_many w (d + 1) docs,
      length-append (listed_doc w (d, doc)) (listed_rows w (d + 1) docs),
      length-append (map (λ v. placed d w.facet (0, v)) fs ++ map (placed d w.title) (enumerate_from 1 ts)) (map (placed d w.text) (enumerate_from (length ts + BEHIND_TITLE) xs)),
      length-append (map (λ v. placed d w.facet (0, v)) fs) (map (placed d w.title) (enumerate_from 1 ts)),
      length-map fs (λ v. placed d w.facet (0, v)),
      length-map (enumerate_from 1 ts) (placed d w.title),
      length-map (enumerate_from (length ts + BEHIND_TITLE) xs) (placed d w.text),
      length-enumerate_from 1 ts,
      length-enumerate_from (length ts + BEHIND_TITLE) xs,
      length-append (listed_words doc) (flat_map listed_words docs),
      length-append (fs ++ ts) xs,
      length-append fs ts,
    )

-- ---- documents one by one
part_many : (n : ℕ) (docs : List Doc) → length (flat_map listed_words (take n docs)) ≤ length (flat_map listed_words docs)
part_many zero docs = omega arith
part_many (suc n) [] = omega arith
part_many (suc n) (doc ∷ docs) = omega (arith, part_many n docs, length-append (listed_words doc) (flat_map listed_words (take n docs)), length-append (listed_words doc) (flat_map listed_words docs))

module _ (docs : List LentDoc) (i : ℕ) (d : LentDoc) (l : i < length docs) where
  next : take (i + 1) (map doc_of_lent docs) ≡ take i (map doc_of_lent docs) ++ doc_of_lent (get_or docs i d) ∷ []
  next =
      take_more (map doc_of_lent docs) i (doc_of_lent d) (omega (arith, l, length-map docs doc_of_lent))
      ∙ ap (λ x. take i (map doc_of_lent docs) ++ x ∷ []) (get_or-map doc_of_lent docs i d (doc_of_lent d) l)

  pub words_more : flat_map listed_words (take (i + 1) (map doc_of_lent docs)) ≡ flat_map listed_words (take i (map doc_of_lent docs)) ++ listed_words (doc_of_lent (get_or docs i d))
  words_more = ap (flat_map listed_words) next ∙ sym (flat_map_more listed_words [] (take i (map doc_of_lent docs)) (doc_of_lent (get_or docs i d)))

  pub counts_more : map doc_rows_of (take (i + 1) (map doc_of_lent docs)) ≡ map doc_rows_of (take i (map doc_of_lent docs)) ++ doc_rows_of (doc_of_lent (get_or docs i d)) ∷ []
  counts_more = ap (map doc_rows_of) next ∙ map-append doc_rows_of (take i (map doc_of_lent docs)) (doc_of_lent (get_or docs i d) ∷ [])

  pub few_more : length (flat_map listed_words (take i (map doc_of_lent docs))) + length (listed_words (doc_of_lent (get_or docs i d))) ≤ length (flat_map listed_words (map doc_of_lent docs))
  few_more =
      omega (
        arith,
        part_many (i + 1) (map doc_of_lent docs),
        ap length words_more,
        length-append (flat_map listed_words (take i (map doc_of_lent docs))) (listed_words (doc_of_lent (get_or docs i d))),
      )
