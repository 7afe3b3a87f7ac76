-- What is searched: the rows of a collection's documents, and the corpus that they make.
--
-- Source: rows, their positions and their scores are this engine's own.
--
--   Corpus                         the titles by document number, and the set of rows, listed by document, position and word
--   placed d score (pos, w)        the row of the word w at a position of document d
--   title_rows w d doc             the rows of title words; none where the title has no word
--   text_rows w d doc              the rows of text words; none where the text has no word
--   facet_rows w d doc             the rows of facet words; none where the facets have none
--   doc_rows w (d, doc)            the rows of the document of number d; none where it has no word
--   rows_of w docs                 the rows of a list of documents, numbered from 0; each (doc, pos, word) names one; of no
--                                  documents none
--   by_number titles               each title at its number in the list, the first at 0; of no titles the empty map
--   title_of doc, titles_of docs   a document's title; the titles of documents by number from 0, the empty map for none
--   corpus_of w docs               the corpus of a list of documents; of no documents it has no title and no row
--   distinct_words rows            the words of rows, each once, by bytes; of no rows none
--   rows_refusal rows              too many rows, else too many distinct words; None where there is neither
--   refusal c                      the first refusal of a collection, rows and distinct words counted; None where it is
--                                  accepted
--   corpus c                       the corpus of an accepted collection; it counts only where refusal c is None
--   IsCorpus k                     document, position and word name a row and give its place, and its document has a title;
--                                  the law `corpora` of cs_docs says that the corpus of each collection is one
--
-- A title word has its place in the title as position, from 1. Text words go on 9 positions behind the last title word, which is
-- too far for a link between the two. A facet word has the position 0. A row's score is the weight of its column; the weights are
-- an argument, `w`, and those of a collection are what it says.
use Rattle.std.specs.Prelude.{◌≡◌, ℕ, ◌+◌, true, nat_le, List, [], ◌∷◌, ◌++◌, map, length, Option}
use Rattle.std.specs.List.{All, flat_map, enumerate_from}
use Rattle.std.specs.List.Sorted.{IsStrictlySortedBy}
use Rattle.std.specs.Ordering.{nat_cmp}
use Rattle.std.specs.Cmp.Lexicographic.{slice_cmp}
use Rattle.std.specs.FinMap as map
use Rattle.cs_base.specs.content.Members.{members_in}
use Rattle.cs_base.specs.content.Orders.{by_row, by_spot}
use Rattle.cs_base.specs.declared.content.doc.Doc.{Doc}
use Rattle.cs_base.specs.declared.content.doc.Row.{Row}
use Rattle.cs_base.specs.declared.content.limits.TheConstants.{MAX_ROWS, MAX_WORDS}
use Rattle.cs_base.specs.declared.content.scores.TheConstants.{BEHIND_TITLE}
use Rattle.cs_base.specs.declared.content.scores.Weights.{Weights}
use Rattle.cs_model.specs.Collection.{CollectionRefusal, too_many_rows, too_many_words, docs_refusal, documents, facet_words, weights}
use Rattle.cs_model.specs.First.{unless, first_reason}
use Rattle.cs_model.specs.Words.{words}

-- what is searched: titles by document number, and rows by document, position and word; of both there may be none
pub record Corpus : Type 0 where
  pub titles : map.FinMap nat_cmp (List ℕ)
  pub rows : List Row

-- the row of a word that stands at this position of document d, with this score
abbrev pub placed : ℕ → ℕ → ℕ × List ℕ → Row
placed d score p = record { doc = d; word = p.1; pos = p.0; score = score }

-- the rows of the title's words, the first of which stands at 1; none where it has no word
abbrev pub title_rows : Weights → ℕ → Doc → List Row
title_rows w d doc = map (placed d w.title) (enumerate_from 1 (words doc.title))

-- the rows of the text's words, the first of which stands 9 behind the last title word, so at 9 where the title has none
abbrev pub text_rows : Weights → ℕ → Doc → List Row
text_rows w d doc = map (placed d w.text) (enumerate_from (length (words doc.title) + BEHIND_TITLE) (words doc.text))

-- the rows of the facet words, at position 0, as often as the column lists them; none where it lists none
abbrev pub facet_rows : Weights → ℕ → Doc → List Row
facet_rows w d doc = map (λ x. placed d w.facet (0, x)) (facet_words doc.facets)

-- the rows of a document given with its number, column by column; none where no column has a word
abbrev pub doc_rows : Weights → ℕ × Doc → List Row
doc_rows w p = facet_rows w p.0 p.1 ++ title_rows w p.0 p.1 ++ text_rows w p.0 p.1

-- the rows of documents that are numbered from 0, each once, by document, position and word; of no documents none
abbrev pub rows_of : Weights → List Doc → List Row
rows_of w docs = members_in by_row (flat_map (doc_rows w) (enumerate_from 0 docs))

-- the title of a document as it stands in the collection, which may be empty
abbrev pub title_of : Doc → List ℕ
title_of doc = doc.title

-- each title at its number in the list, the first at 0; of no titles the empty map
abbrev pub by_number : List (List ℕ) → map.FinMap nat_cmp (List ℕ)
by_number titles = map.from_entries (enumerate_from 0 titles)

-- the titles of documents by number from 0; the empty map where there is no document
abbrev pub titles_of : List Doc → map.FinMap nat_cmp (List ℕ)
titles_of docs = by_number (map title_of docs)

-- the corpus of documents that are numbered from 0; of no documents it has no title and no row
abbrev pub corpus_of : Weights → List Doc → Corpus
corpus_of w docs = record { titles = titles_of docs; rows = rows_of w docs }

-- the words that rows have, each once, by bytes; none where there is no row
abbrev pub distinct_words : List Row → List (List ℕ)
distinct_words rows = members_in (slice_cmp nat_cmp) (map (λ r. r.word) rows)

-- the refusal of rows by their number, else by that of their distinct words; None for no rows
abbrev pub rows_refusal : List Row → Option CollectionRefusal
rows_refusal rows = first_reason (unless (nat_le (length rows) MAX_ROWS) too_many_rows ∷ unless (nat_le (length (distinct_words rows)) MAX_WORDS) too_many_words ∷ [])

-- the first refusal of a collection, that of its documents before that of its rows; None where it is accepted, as the empty
-- one is
abbrev pub refusal : List ℕ → Option CollectionRefusal
refusal c = first_reason (docs_refusal c ∷ rows_refusal (rows_of (weights c) (documents c)) ∷ [])

-- the corpus of a collection, which counts only where its `refusal` is None; that of the empty collection has no title and no
-- row
abbrev pub corpus : List ℕ → Corpus
corpus c = corpus_of (weights c) (documents c)

-- what every corpus is: each row comes before the next one by document, position and word, and the document of each has a
-- title; the corpus with no title and no row is one too
pub record IsCorpus (k : Corpus) : Type 0 where
  pub named : IsStrictlySortedBy by_spot k.rows
  pub of_docs : All (λ r. map.contains_key k.titles r.doc ≡ true) k.rows
