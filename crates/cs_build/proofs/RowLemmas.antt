-- Documents and rows of a collection that isn't refused keep the limits.
--
--   keep_limits    the law itself
use Rattle.std.proofs.Common.{◌≡◌, ℕ, ◌+◌, ◌<◌, ◌≤◌, true, false, ◌&&◌, ◌||◌, nat_le, nat_lt, List, [], ◌∷◌, ◌++◌, length, map, refl, ap, ◌∙◌, arith, length-take}
use Rattle.std.specs.Prelude.{◌==◌, Option, Some, None}
use Rattle.std.specs.List.{All, AllByRecursion, flat_map, filter_map, enumerate_from, position_or_len}
use Rattle.std.specs.Str.{is_utf8, IsUtf8}
use Rattle.std.proofs.lemmas.Bool.Decides.{nat_tests}
use Rattle.std.proofs.lemmas.List.Elements.{All-from_recursion, recursion_from_All, All-map, All-weaker}
use Rattle.std.proofs.lemmas.Str.{IsUtf8-from_is_utf8}
use Rattle.cs_base.specs.content.Orders.{by_row}
use Rattle.cs_base.specs.declared.content.doc.Doc.{Doc}
use Rattle.cs_base.specs.declared.content.doc.Row.{Row}
use Rattle.cs_base.specs.declared.content.limits.TheConstants.{MAX_COLLECTION_BYTES, MAX_LINE_BYTES, MAX_DOC_WORDS, MAX_POSITION, MAX_DOCS}
use Rattle.cs_base.specs.declared.content.scores.TheConstants.{BEHIND_TITLE}
use Rattle.cs_base.specs.declared.content.scores.Weights.{Weights}
use Rattle.cs_base.proofs.OrdersLemmas.{by_row_total, by_row_exact}
use Rattle.cs_docs.specs.FacetPieces.{IsNamed, AreNamed, CanBeListed}
use Rattle.cs_docs.proofs.AcceptedCollections.{accepted_docs}
use Rattle.cs_docs.proofs.LinesLemmas.{none_behind}
use Rattle.cs_docs.proofs.TextLemmas.{All-members}
use Rattle.cs_docs.proofs.WeightsLemmas.{weights_are}
use Rattle.cs_model.specs.Collection.{DocLine, columns, doc_lines, docs_refusal, document, documents, facet_pieces, facet_word, facet_words, is_equals, is_tab, line_refusal, line_too_long, named, not_utf8, piece_name, piece_refusal, piece_value, too_large, too_many_docs, weights, weights_lines, weights_refusal, word_count, words_too_many}
use Rattle.cs_model.specs.Corpus.{doc_rows, facet_rows, placed, rows_of, text_rows, title_of, title_rows}
use Rattle.cs_model.specs.First.{unless, first_reason}
use Rattle.cs_model.specs.Words.{is_word_char, slug, words}
use Rattle.cs_model.proofs.FirstLemmas.{none_first, none_rest, unless_none}
use Rattle.cs_model_index.specs.BlockRules.{is_scored}
use Rattle.cs_model_index.specs.FileRules.{is_word}
use Rattle.cs_model_index.specs.Numbered.{post_of}
use Rattle.cs_model_index.specs.Partitions.{is_facet}
use Rattle.cs_build.specs.BuildLaws.{CollectionsKeepLimits}
use Rattle.cs_build.proofs.TextPartLemmas.{before-utf8, after-utf8, facet_pieces-utf8}
use Rattle.cs_build.proofs.TitleLemmas.{titles_few}
use Rattle.cs_build.proofs.WordCharacters.{IsCut, IsKept, cut_words, cut_slug, kept_plain, kept_facet}

-- ---- lines

-- a document whose columns are texts, and whose title is short
record IsText (doc : Doc) : Type 0 where
  title : IsUtf8 doc.title
  short : length doc.title ≤ MAX_LINE_BYTES
  facets : IsUtf8 doc.facets
  text : IsUtf8 doc.text

tab_ascii : (b : ℕ) → is_tab b ≡ true → b < 128
tab_ascii b h = grind (arith, nat_tests)

text_line : (l : DocLine) → line_refusal l ≡ None → IsText (document l)
text_line l h =
    let utf8 = unless (is_utf8 l.bytes) (not_utf8 l.line) in
    let long = unless (nat_le (length l.bytes) MAX_LINE_BYTES) (line_too_long l.line) in
    let many = unless (nat_le (word_count (columns l.bytes)) MAX_DOC_WORDS) (words_too_many l.line) in
    let pieces = first_reason (map (piece_refusal l.line) (facet_pieces (columns l.bytes).facets)) in
    let docs = unless (nat_lt l.doc MAX_DOCS) (too_many_docs l.line) in
    let whole : IsUtf8 l.bytes = IsUtf8-from_is_utf8 l.bytes (unless_none (is_utf8 l.bytes) (not_utf8 l.line) (none_first utf8 (long ∷ many ∷ pieces ∷ docs ∷ []) h)) in
    let few : nat_le (length l.bytes) MAX_LINE_BYTES ≡ true = unless_none _ (line_too_long l.line) (none_first long (many ∷ pieces ∷ docs ∷ []) (none_rest utf8 (long ∷ many ∷ pieces ∷ docs ∷ []) h)) in
    let rest = after-utf8 is_tab tab_ascii l.bytes whole in
    record {
      title = before-utf8 is_tab tab_ascii l.bytes whole;
      short = within (length l.bytes) (length (document l).title) (omega (arith, length-take (position_or_len is_tab l.bytes) l.bytes)) few;
      facets = before-utf8 is_tab tab_ascii _ rest;
      text = after-utf8 is_tab tab_ascii _ rest;
    }
  where
    within : (n m : ℕ) → m ≤ n → nat_le n MAX_LINE_BYTES ≡ true → m ≤ MAX_LINE_BYTES
    within n m l h = grind (arith, nat_tests)

text_lines : (ks : List DocLine) → first_reason (map line_refusal ks) ≡ None → AllByRecursion IsText (map document ks)
text_lines [] h = tt
text_lines (k ∷ ks) h = (text_line k (none_first (line_refusal k) (map line_refusal ks) h), text_lines ks (none_rest (line_refusal k) (map line_refusal ks) h))

text_docs : (c : List ℕ) → docs_refusal c ≡ None → All IsText (documents c)
text_docs c h =
    All-from_recursion IsText (documents c) (text_lines (doc_lines c) (none_behind (map weights_refusal (weights_lines c)) (map line_refusal (doc_lines c)) (none_rest (unless (nat_le (length c) MAX_COLLECTION_BYTES) too_large) _ h)))

-- ---- rows

-- a row that an index file may have
record IsGood (w : Weights) (r : Row) : Type 0 where
  word : is_word r.word ≡ true
  scored : is_scored w (is_facet r.word) (post_of [] r) ≡ true

good-append : (w : Weights) (xs ys : List Row) → AllByRecursion (IsGood w) xs → AllByRecursion (IsGood w) ys → AllByRecursion (IsGood w) (xs ++ ys)
good-append w [] ys h k = k
good-append w (x ∷ xs) ys h k = (h.0, good-append w xs ys h.1 k)

facet_scored : (score : ℕ) → (score == score) ≡ true
facet_scored score = grind (arith, nat_tests)

good_facet : (w : Weights) (d : ℕ) (v : List ℕ) → IsKept true v → IsGood w (placed d w.facet (0, v))
good_facet w d v h = record { word = h.word; scored = ap (λ b. is_scored w b (post_of [] (placed d w.facet (0, v)))) h.kind ∙ facet_scored w.facet }

good_facets : (w : Weights) (d : ℕ) (vs : List (List ℕ)) → AllByRecursion (IsKept true) vs → AllByRecursion (IsGood w) (map (λ v. placed d w.facet (0, v)) vs)
good_facets w d [] h = tt
good_facets w d (v ∷ vs) h = (good_facet w d v h.0, good_facets w d vs h.1)

title_scored : (n title text : ℕ) → 1 ≤ n → n ≤ MAX_POSITION → (nat_le 1 n && nat_le n MAX_POSITION && (title == title || title == text)) ≡ true
title_scored n title text l m = grind (arith, nat_tests)

text_scored : (n title text : ℕ) → 1 ≤ n → n ≤ MAX_POSITION → (nat_le 1 n && nat_le n MAX_POSITION && (text == title || text == text)) ≡ true
text_scored n title text l m = grind (arith, nat_tests)

good_title : (w : Weights) (d n : ℕ) (v : List ℕ) → 1 ≤ n → n ≤ MAX_POSITION → IsKept false v → IsGood w (placed d w.title (n, v))
good_title w d n v l m h = record { word = h.word; scored = ap (λ b. is_scored w b (post_of [] (placed d w.title (n, v)))) h.kind ∙ title_scored n w.title w.text l m }

good_text : (w : Weights) (d n : ℕ) (v : List ℕ) → 1 ≤ n → n ≤ MAX_POSITION → IsKept false v → IsGood w (placed d w.text (n, v))
good_text w d n v l m h = record { word = h.word; scored = ap (λ b. is_scored w b (post_of [] (placed d w.text (n, v)))) h.kind ∙ text_scored n w.title w.text l m }

good_placed : (w : Weights) (d score : ℕ) → ((n : ℕ) (v : List ℕ) → 1 ≤ n → n ≤ MAX_POSITION → IsKept false v → IsGood w (placed d score (n, v)))
    → (n : ℕ) (vs : List (List ℕ)) → 1 ≤ n → n + length vs ≤ MAX_POSITION + 1 → AllByRecursion (IsCut is_word_char) vs → AllByRecursion (IsGood w) (map (placed d score) (enumerate_from n vs))
good_placed w d score one n [] l m h = tt
good_placed w d score one n (v ∷ vs) l m h = (one n v l (omega arith) (kept_plain v h.0), good_placed w d score one (n + 1) vs (omega arith) (omega arith) h.1)

-- ---- facet words

equals_ascii : (b : ℕ) → is_equals b ≡ true → b < 128
equals_ascii b h = grind (arith, nat_tests)

piece_at : (o : Option (List ℕ)) (p : List ℕ) (ps : List (List ℕ)) → slug (piece_value p) ≡ o → IsUtf8 (piece_value p) → IsNamed p → AllByRecursion (IsKept true) (filter_map facet_word ps) → AllByRecursion (IsKept true) (filter_map facet_word (p ∷ ps))
piece_at None p ps e u n more = let none : facet_word p ≡ None = rw e refl in rw none more
piece_at (Some s) p ps e u n more =
    let some : facet_word p ≡ Some (named (piece_name p) s) = rw e refl in
    rw some (kept_facet (piece_name p) s n.name (cut_slug (piece_value p) s u e), more)

kept_pieces : (ps : List (List ℕ)) → AllByRecursion IsUtf8 ps → AreNamed ps → AllByRecursion (IsKept true) (filter_map facet_word ps)
kept_pieces [] h n = tt
kept_pieces (p ∷ ps) h n = piece_at (slug (piece_value p)) p ps refl (after-utf8 is_equals equals_ascii p h.0) n.0 (kept_pieces ps h.1 n.1)

-- ---- documents

good_doc : (w : Weights) (d : ℕ) (doc : Doc) → IsText doc → CanBeListed doc → AllByRecursion (IsGood w) (doc_rows w (d, doc))
good_doc w d doc t a =
    good-append w (facet_rows w d doc ++ title_rows w d doc) (text_rows w d doc)
    (good-append w (facet_rows w d doc) (title_rows w d doc)
    (good_facets w d (facet_words doc.facets) (kept_pieces (facet_pieces doc.facets) (facet_pieces-utf8 doc.facets t.facets) a.pieces))
    (good_placed w d w.title (good_title w d) 1 (words doc.title) (omega arith) (omega (arith, a.few)) (cut_words doc.title t.title)))
    (good_placed w d w.text (good_text w d) (length (words doc.title) + BEHIND_TITLE) (words doc.text) (omega arith) (omega (arith, a.few)) (cut_words doc.text t.text))

good_docs : (w : Weights) (d : ℕ) (docs : List Doc) → AllByRecursion IsText docs → AllByRecursion CanBeListed docs → AllByRecursion (IsGood w) (flat_map (doc_rows w) (enumerate_from d docs))
good_docs w d [] t a = tt
good_docs w d (doc ∷ docs) t a = good-append w (doc_rows w (d, doc)) (flat_map (doc_rows w) (enumerate_from (d + 1) docs)) (good_doc w d doc t.0 a.0) (good_docs w (d + 1) docs t.1 a.1)

good_rows : (w : Weights) (docs : List Doc) → All IsText docs → All CanBeListed docs → All (IsGood w) (rows_of w docs)
good_rows w docs t a =
    All-members by_row by_row_total by_row_exact (IsGood w) (flat_map (doc_rows w) (enumerate_from 0 docs))
    (All-from_recursion (IsGood w) (flat_map (doc_rows w) (enumerate_from 0 docs)) (good_docs w 0 docs (recursion_from_All IsText docs t) (recursion_from_All CanBeListed docs a)))

pub keep_limits : CollectionsKeepLimits
keep_limits c h =
    let w : Weights = weights c in
    let docs : List Doc = documents c in
    let text : All IsText docs = text_docs c h in
    let good : All (IsGood w) (rows_of w docs) = good_rows w docs text (accepted_docs c docs h refl) in
    record {
      weights = weights_are c;
      texts = All-map IsUtf8 title_of docs (All-weaker IsText (λ doc. IsUtf8 doc.title) (λ doc t. t.title) docs text);
      short = All-map (λ t. length t ≤ MAX_LINE_BYTES) title_of docs (All-weaker IsText (λ doc. length doc.title ≤ MAX_LINE_BYTES) (λ doc t. t.short) docs text);
      few_bytes = titles_few c h;
      words = All-weaker (IsGood w) (λ r. is_word r.word ≡ true) (λ r g. g.word) (rows_of w docs) good;
      scored = All-weaker (IsGood w) (λ r. is_scored w (is_facet r.word) (post_of [] r) ≡ true) (λ r g. g.scored) (rows_of w docs) good;
    }
