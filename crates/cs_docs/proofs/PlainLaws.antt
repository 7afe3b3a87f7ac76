-- No line of a plain collection is refused but its weights line, each other one that has bytes is a title, and the rows are
-- those of titles.
use Rattle.std.proofs.Common.{◌≡◌, ℕ, ◌+◌, ◌<◌, ◌≤◌, Bool, true, false, cond, nat_le, nat_lt, List, [], ◌∷◌, ◌++◌, length, map, filter, refl, sym, ap, ◌∙◌, arith}
use Rattle.std.specs.Prelude.{None}
use Rattle.std.specs.List.{AllByRecursion, flat_map, enumerate_from}
use Rattle.std.specs.Str.{is_utf8}
use Rattle.std.specs.Str.Lines.{lines}
use Rattle.std.proofs.lemmas.Bool.{le-leb}
use Rattle.std.proofs.lemmas.Bool.Decides.{nat_tests}
use Rattle.std.proofs.lemmas.Str.{IsUtf8-from_ascii, is_utf8-from_IsUtf8}
use Rattle.cs_base.specs.declared.content.doc.Doc.{Doc}
use Rattle.cs_base.specs.declared.content.scores.Weights.{Weights}
use Rattle.cs_base.specs.declared.content.limits.TheConstants.{MAX_LINE_BYTES, MAX_DOC_WORDS, MAX_DOCS}
use Rattle.cs_model.specs.Collection.{is_plain, is_plain_byte, documents, document, doc_lines, doc_line, docs_refusal, line_refusal, weights_lines, weights_refusal, piece_refusal, facet_pieces, columns, word_count, DocLine}
use Rattle.cs_model.specs.Corpus.{rows_of, title_rows}
use Rattle.cs_model.specs.Words.{is_filled, words}
use Rattle.cs_model.specs.First.{first_reason}
use Rattle.cs_docs.specs.Listing.{listed_rows}
use Rattle.cs_docs.specs.LinesRead.{doc_lines_from, documents_from, title_only}
use Rattle.cs_docs.specs.FaultRefusals.{refusal_from}
use Rattle.cs_docs.proofs.ListingLemmas.{rows_listed, listed_title}
use Rattle.cs_docs.proofs.LinesLemmas.{first-append_none, small_refusal}
use Rattle.cs_docs.proofs.WeightsLemmas.{lines_behind, length-behind}
use Rattle.cs_docs.proofs.PlainLemmas.{plain_doc_lines, plain_lines_behind, titles_of_plain, IsPart, AreParts, IsTitleOnly, IsTitleOnly-line, IsAscii-plain, title_of-line, few_words, no_words, plain_length, length_of_lines}

accepted_line : (l : DocLine) → IsPart is_plain_byte 65536 l.bytes → l.doc < MAX_DOCS → line_refusal l ≡ None
accepted_line l h below =
    let only : IsTitleOnly (document l) = IsTitleOnly-line l h in
    let utf8 : is_utf8 l.bytes ≡ true = is_utf8-from_IsUtf8 l.bytes (IsUtf8-from_ascii l.bytes (IsAscii-plain l.bytes h.passes)) in
    let short : nat_le (length l.bytes) MAX_LINE_BYTES ≡ true = le-leb (length l.bytes) MAX_LINE_BYTES (omega (arith, h.short)) in
    let texts : length (words (columns l.bytes).text) ≡ 0 = ap (λ t. length (words t)) only.no_text ∙ ap length no_words in
    let few : nat_le (word_count (columns l.bytes)) MAX_DOC_WORDS ≡ true = le-leb (word_count (columns l.bytes)) MAX_DOC_WORDS (omega (arith, texts, few_words (columns l.bytes).title only.ascii, only.short)) in
    let pieces : first_reason (map (piece_refusal l.line) (facet_pieces (columns l.bytes).facets)) ≡ None = ap (λ f. first_reason (map (piece_refusal l.line) (facet_pieces f))) only.no_facets in
    let last : nat_lt l.doc MAX_DOCS ≡ true = grind (arith, nat_tests) in
    rw (utf8, short, few, pieces, last) refl

-- the lines from one on, where b says whether it has bytes
abbrev lines_at : Bool → ℕ → ℕ → List ℕ → List (List ℕ) → List DocLine
lines_at b d n l ls = map doc_line (enumerate_from d (cond b ((n, l) ∷ filter (λ k. is_filled k.1) (enumerate_from (n + 1) ls)) (filter (λ k. is_filled k.1) (enumerate_from (n + 1) ls))))

accepted_at : (b : Bool) (d n : ℕ) (l : List ℕ) (ls : List (List ℕ)) → IsPart is_plain_byte 65536 l → d < MAX_DOCS → refusal_from (d + 1) (n + 1) ls ≡ None → refusal_from d (n + 1) ls ≡ None → first_reason (map line_refusal (lines_at b d n l ls)) ≡ None
accepted_at true d n l ls h below one same = rw (accepted_line (doc_line (d, (n, l))) h below) one
accepted_at false d n l ls h below one same = same

accepted_lines : (d n : ℕ) (ls : List (List ℕ)) → AreParts is_plain_byte 65536 ls → d + length ls ≤ MAX_DOCS → refusal_from d n ls ≡ None
accepted_lines d n [] h few = refl
accepted_lines d n (l ∷ ls) h few =
    accepted_at (is_filled l) d n l ls h.0 (omega (arith, few)) (accepted_lines (d + 1) (n + 1) ls h.1 (omega (arith, few))) (accepted_lines d (n + 1) ls h.1 (omega (arith, few)))

title_line : (l : DocLine) → IsPart is_plain_byte 65536 l.bytes → document l ≡ title_only l
title_line l h =
    let only : IsTitleOnly (document l) = IsTitleOnly-line l h in
    λ i. record { title = title_of-line l h i; facets = only.no_facets i; text = only.no_text i; line = l.line }

titles_at : (b : Bool) (d n : ℕ) (l : List ℕ) (ls : List (List ℕ)) → IsPart is_plain_byte 65536 l → ((e : ℕ) → documents_from e (n + 1) ls ≡ map title_only (doc_lines_from e (n + 1) ls)) → map document (lines_at b d n l ls) ≡ map title_only (lines_at b d n l ls)
titles_at true d n l ls h k = ap (λ doc. doc ∷ documents_from (d + 1) (n + 1) ls) (title_line (doc_line (d, (n, l))) h) ∙ ap (λ docs. title_only (doc_line (d, (n, l))) ∷ docs) (k (d + 1))
titles_at false d n l ls h k = k d

titles : (d n : ℕ) (ls : List (List ℕ)) → AreParts is_plain_byte 65536 ls → documents_from d n ls ≡ map title_only (doc_lines_from d n ls)
titles d n [] h = refl
titles d n (l ∷ ls) h = titles_at (is_filled l) d n l ls h.0 (λ e. titles e (n + 1) ls h.1)

documents_accepted : (c : List ℕ) → is_plain c ≡ true → first_reason (map line_refusal (doc_lines c)) ≡ None
documents_accepted c h =
    let behind = lines_behind (lines c) in
    ap (λ ks. first_reason (map line_refusal ks)) (plain_doc_lines c h) ∙ accepted_lines 0 behind.0 behind.1 (plain_lines_behind c h) (omega (arith, length-behind (lines c), length_of_lines c, plain_length c h))

pub plain_accepted : (c : List ℕ) → is_plain c ≡ true → docs_refusal c ≡ first_reason (map weights_refusal (weights_lines c))
plain_accepted c h = small_refusal c (omega (arith, plain_length c h)) ∙ first-append_none (map weights_refusal (weights_lines c)) (map line_refusal (doc_lines c)) (documents_accepted c h)

pub plain_titles : (c : List ℕ) → is_plain c ≡ true → documents c ≡ map title_only (doc_lines c)
plain_titles c h = ap (map document) (plain_doc_lines c h) ∙ titles 0 _ _ (plain_lines_behind c h) ∙ ap (map title_only) (sym (plain_doc_lines c h))

title_rows_of : (w : Weights) (d : ℕ) (docs : List Doc) → AllByRecursion IsTitleOnly docs → listed_rows w d docs ≡ flat_map (λ p. title_rows w p.0 p.1) (enumerate_from d docs)
title_rows_of w d [] h = refl
title_rows_of w d (doc ∷ docs) h =
    ap (λ rows. rows ++ listed_rows w (d + 1) docs) (listed_title w d doc h.0.no_facets h.0.no_text) ∙ ap (λ rows. title_rows w d doc ++ rows) (title_rows_of w (d + 1) docs h.1)

pub plain_rows : (c : List ℕ) (w : Weights) → is_plain c ≡ true → rows_of w (documents c) ≡ flat_map (λ p. title_rows w p.0 p.1) (enumerate_from 0 (documents c))
plain_rows c w h = sym (rows_listed w (documents c)) ∙ title_rows_of w 0 (documents c) (titles_of_plain c h)
