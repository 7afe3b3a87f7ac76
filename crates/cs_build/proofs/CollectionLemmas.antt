-- The rows of a collection make its corpus.
--
--   rows_again      a collection's rows are in the order of a corpus
--   collection_made the corpus that is made of a collection's rows is the collection's
--   collection_is   and it is a corpus
--   columns_made    so it is where the rows stand in columns
--   titles_made, titles_are      and where titles stand for documents
use Rattle.std.proofs.Common.{◌≡◌, ℕ, List, map, sym, ap, subst, ◌∙◌}
use Rattle.cs_base.specs.content.Members.{members_in}
use Rattle.cs_base.specs.content.Orders.{by_row}
use Rattle.cs_base.specs.declared.content.doc.Doc.{Doc}
use Rattle.cs_base.specs.declared.content.doc.Row.{Row}
use Rattle.cs_base.specs.declared.content.scores.Weights.{Weights}
use Rattle.cs_base.proofs.MembersLemmas.{listed_itself, listing-rises}
use Rattle.cs_base.proofs.OrdersLemmas.{by_row_total, by_row_exact}
use Rattle.cs_docs.proofs.CorpusLaws.{corpus_is}
use Rattle.cs_model.specs.Collection.{documents, weights}
use Rattle.cs_model.specs.Corpus.{Corpus, IsCorpus, corpus, rows_of, title_of, titles_of, corpus_of}
use Rattle.cs_build.specs.Building.{corpus_from, corpus_of_rows}

rows_again : (w : Weights) (docs : List Doc) → members_in by_row (rows_of w docs) ≡ rows_of w docs
rows_again w docs = sym (listed_itself by_row by_row_total by_row_exact (rows_of w docs) (listing-rises by_row _))

pub collection_made : (w : Weights) (docs : List Doc) (rows : List Row) → rows ≡ rows_of w docs → corpus_from docs rows ≡ corpus_of w docs
collection_made w docs rows e =
    ap (λ (rs : List Row). let k : Corpus = record { titles = titles_of docs; rows = rs } in k) (ap (members_in by_row) e ∙ rows_again w docs)

pub collection_is : (c : List ℕ) (docs : List Doc) (rows : List Row) → docs ≡ documents c → rows ≡ rows_of (weights c) docs → IsCorpus (corpus_from docs rows)
collection_is c docs rows d e = subst IsCorpus (sym (collection_made (weights c) docs rows e ∙ ap (corpus_of (weights c)) d)) (corpus_is c)

columns_made : (w : Weights) (docs : List Doc) (rows : List Row) → rows ≡ rows_of w docs → corpus_of_rows (map title_of docs) rows ≡ corpus_of w docs
columns_made w docs rows e = ap (λ (rs : List Row). let k : Corpus = record { titles = titles_of docs; rows = rs } in k) e

-- titles and rows of the collection c
module _ (c : List ℕ) (titles : List (List ℕ)) (rows : List Row) (t : titles ≡ map title_of (documents c)) (r : rows ≡ rows_of (weights c) (documents c)) where
  pub titles_made : corpus_of_rows titles rows ≡ corpus c
  titles_made = ap (λ (ts : List (List ℕ)). corpus_of_rows ts rows) t ∙ columns_made (weights c) (documents c) rows r

  pub titles_are : IsCorpus (corpus_of_rows titles rows)
  titles_are = subst IsCorpus (sym titles_made) (corpus_is c)
