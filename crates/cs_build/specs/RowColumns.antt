-- Rows in columns.
--
-- Source: this engine's own.
--
--   posts_by rows ns            the posts of rows by the numbers of their words
--   facet_posts d score ns      the posts of document d's facet words
--   word_posts d score pos ns   the posts of words of document d at positions from pos on
--   title_numbers e ns          the numbers ns of words from a document's on, without those of its facet words, where e counts its rows
--   text_numbers e ns           without those of its title words too
--   behind_doc e ns             without those of its text words too
--   posts_of_doc w d e ns       the posts of document d, whose rows are counted by e and have the scores of the weights w
--   posts_of_docs w d es ns     the posts of documents that are numbered from d
--   posts_in form ns            the posts of rows in this form
--   AreDocRows es ns            es count as many rows as ns has numbers, and each document has few words
--   IsFormOf form ns            there are as many rows as numbers, and few documents where they are counted
--   AreColumns ws ns form       there are as many rows as numbers, each number is that of a word of ws, and ws are the words of the rows
--   listed_words doc            the words of the document's rows, in their order
--   doc_rows_of doc             how many rows the document has
--   IsRowGathering g            the words that come are those of rows, of which there are few
use Rattle.std.specs.Prelude.{◌≡◌, ℕ, ◌+◌, ◌≤◌, List, [], ◌∷◌, ◌++◌, length, map, take, drop}
use Rattle.std.specs.List.{All, enumerate_from}
use Rattle.cs_base.specs.declared.content.doc.Doc.{Doc}
use Rattle.cs_base.specs.declared.content.doc.Post.{Post}
use Rattle.cs_base.specs.declared.content.doc.Row.{Row}
use Rattle.cs_base.specs.declared.content.limits.TheConstants.{MAX_DOCS, MAX_DOC_WORDS, MAX_ROWS}
use Rattle.cs_base.specs.declared.content.scores.TheConstants.{BEHIND_TITLE}
use Rattle.cs_base.specs.declared.content.scores.Weights.{Weights}
use Rattle.cs_docs.specs.Listing.{listed_facets}
use Rattle.cs_model.specs.Corpus.{distinct_words}
use Rattle.cs_model.specs.Words.{words}
use Rattle.cs_model_index.specs.Numbered.{rows_at}
use Rattle.cs_vocab.specs.Gathering.{IsGathering, gathered}
use Rattle.cs_vocab.specs.Ranges.{IsBelow}
use Rattle.cs_vocab.specs.declared.gathering.Gathering.{Gathering}
use Rattle.cs_build.specs.declared.row_form.DocRows.{DocRows}
use Rattle.cs_build.specs.declared.row_form.RowForm.{RowForm}
use Rattle.cs_build.specs.declared.row_form.RowForm.TheVariants.{Listed, Counted}

-- ---- posts
-- as many as there are of both
abbrev pub posts_by : List Row → List ℕ → List Post
posts_by (r ∷ rows) (n ∷ numbers) = record { doc = r.doc; word = n; pos = r.pos; score = r.score } ∷ posts_by rows numbers
posts_by _ _ = []

-- at position 0; of no words none
abbrev pub facet_posts : ℕ → ℕ → List ℕ → List Post
facet_posts d score ns = map (λ n. record { doc = d; word = n; pos = 0; score = score }) ns

-- one position after another; of no words none
abbrev pub word_posts : ℕ → ℕ → ℕ → List ℕ → List Post
word_posts d score pos ns = map (λ p. record { doc = d; word = p.1; pos = p.0; score = score }) (enumerate_from pos ns)

-- ---- numbers of words of documents, one document after another: facets, title, text
-- those of the document's facet words come first
abbrev pub title_numbers : DocRows → List ℕ → List ℕ
title_numbers e ns = drop e.facets ns

-- those of its title words come behind
abbrev pub text_numbers : DocRows → List ℕ → List ℕ
text_numbers e ns = drop e.titles (title_numbers e ns)

-- nothing behind the last document
abbrev pub behind_doc : DocRows → List ℕ → List ℕ
behind_doc e ns = drop e.texts (text_numbers e ns)

-- title words from position 1 on, and text words behind them
abbrev pub posts_of_doc : Weights → ℕ → DocRows → List ℕ → List Post
posts_of_doc w d e ns = facet_posts d w.facet (take e.facets ns) ++ word_posts d w.title 1 (take e.titles (title_numbers e ns)) ++ word_posts d w.text (e.titles + BEHIND_TITLE) (take e.texts (text_numbers e ns))

-- of no documents none
abbrev pub posts_of_docs : Weights → ℕ → List DocRows → List ℕ → List Post
posts_of_docs w d [] ns = []
posts_of_docs w d (e ∷ es) ns = posts_of_doc w d e ns ++ posts_of_docs w (d + 1) es (behind_doc e ns)

-- ---- forms
-- post by post
abbrev pub posts_in : RowForm → List ℕ → List Post
posts_in (Listed rows) ns = posts_by rows ns
posts_in (Counted docs w) ns = posts_of_docs w 0 docs.items ns

-- of no documents there are no rows
abbrev pub AreDocRows : List DocRows → List ℕ → Type 0
AreDocRows [] ns = length ns ≡ 0
AreDocRows (e ∷ es) ns = (e.facets + (e.titles + e.texts) ≤ length ns) × (e.titles + e.texts ≤ MAX_DOC_WORDS) × AreDocRows es (behind_doc e ns)

-- of no rows there are no numbers
abbrev pub IsFormOf : RowForm → List ℕ → Type 0
IsFormOf (Listed rows) ns = length rows ≡ length ns
IsFormOf (Counted docs w) ns = (length docs.items ≤ MAX_DOCS) × AreDocRows docs.items ns

-- of no rows there are no words
pub record AreColumns (ws : List (List ℕ)) (ns : List ℕ) (form : RowForm) : Type 0 where
  pub each : IsFormOf form ns
  pub below : All (IsBelow (length ws)) ns
  pub words : ws ≡ distinct_words (rows_at ws (posts_in form ns))

-- ---- rows of documents
-- facet words first, then those of the title, then those of the text
abbrev pub listed_words : Doc → List (List ℕ)
listed_words doc = listed_facets doc.facets ++ words doc.title ++ words doc.text

-- of each kind; none where no column has a word
abbrev pub doc_rows_of : Doc → DocRows
doc_rows_of doc = record { facets = length (listed_facets doc.facets); titles = length (words doc.title); texts = length (words doc.text) }

-- so it is before any came
pub record IsRowGathering (g : Gathering) : Type 0 where
  pub words : IsGathering g
  pub few : length (gathered g) ≤ MAX_ROWS
