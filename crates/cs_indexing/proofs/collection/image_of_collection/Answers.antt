use Rattle.std.proofs.Common.{◌≡◌, ◌<◌, ◌≤◌, ◌^◌, ℕ, true, List, [], ◌∷◌, ap, arith, length, nat_le, refl, rules, sym, subst, ◌∙◌}
use Rattle.std.specs.Prelude.{map, None}
use Rattle.std.specs.FinMap.{keys}
use Rattle.std.specs.List.{enumerate_from}
use Rattle.std.proofs.lemmas.Bool.{le-leb}
use Rattle.std.proofs.lemmas.List.{length-map}
use Rattle.std.proofs.lemmas.List.FromFn.{length-enumerate_from}
use Rattle.cs_base.specs.declared.content.doc.Doc.{Doc}
use Rattle.cs_base.specs.declared.content.doc.Row.{Row}
use Rattle.cs_base.specs.declared.content.limits.TheConstants.{MAX_ROWS, MAX_WORDS}
use Rattle.cs_base.specs.declared.content.scores.Weights.{Weights}
use Rattle.cs_model.specs.Collection.{docs_refusal, documents, weights}
use Rattle.cs_model.specs.First.{first_reason}
use Rattle.cs_model.specs.Corpus.{by_number, corpus, distinct_words, refusal, rows_of, rows_refusal, title_of}
use Rattle.cs_model_index.specs.FileRules.{IsIndexFile}
use Rattle.cs_model_index.specs.Images.{IsImage}
use Rattle.cs_model_index.specs.Layout.{file, title_bytes}
use Rattle.cs_model_index.specs.Sections.{file_corpus, image_of}
use Rattle.cs_model_index.specs.declared.limits.TheConstants.{TARGET as BLOCK_ROWS}
use Rattle.cs_model_index.proofs.ImageLemmas.{titles_listed}
use Rattle.cs_build.specs.Building.{corpus_of_rows}
use Rattle.cs_docs.specs.LinesRead.{doc_of_lent}
use Rattle.cs_build.proofs.CollectionLemmas.{titles_are, titles_made}
use Rattle.cs_build.proofs.CollectionFiles.{files_of_collections}
use Rattle.cs_build.proofs.TitleLemmas.{titles_few}
use Rattle.cs_indexing.proofs.collection.image_of_collection.Goals as goal
use Rattle.cs_indexing.proofs.collection.image_of_collection.Goals.{In_ok-image}

-- a collection whose documents, rows and words aren't refused is accepted
accepted_by : (c : List ℕ) (rows : List Row) → docs_refusal c ≡ None → rows ≡ rows_of (weights c) (documents c) → length rows ≤ MAX_ROWS → length (distinct_words rows) ≤ MAX_WORDS → refusal c ≡ None
accepted_by c rows none e few words =
    let a : nat_le (length rows) MAX_ROWS ≡ true = le-leb _ _ few in
    let b : nat_le (length (distinct_words rows)) MAX_WORDS ≡ true = le-leb _ _ words in
    let r : rows_refusal rows ≡ None = rw (a, b) refl in
    ap (λ x. first_reason (x ∷ rows_refusal (rows_of (weights c) (documents c)) ∷ [])) none ∙ ap (λ x. first_reason (None ∷ rows_refusal x ∷ [])) (sym e) ∙ ap (λ x. first_reason (None ∷ x ∷ [])) r

-- the rows of documents that were read, with the weights that were read
rows_read : (c : List ℕ) (w : Weights) (docs : List Doc) (rows : List Row) → w ≡ weights c → docs ≡ documents c → rows ≡ rows_of w docs → rows ≡ rows_of (weights c) (documents c)
rows_read c w docs rows scores same e = e ∙ ap (rows_of w) same ∙ ap (λ (x : Weights). rows_of x (documents c)) scores

pub image_of_columns-requires-clause-corpus : goal.image_of_columns-requires-clause-corpus
image_of_columns-requires-clause-corpus c =
    let read = c.in_ok-docs.field-0 in
    let docs : map doc_of_lent read.docs.items ≡ documents c.args.bytes.now = search rules in
    let scores : read.weights ≡ weights c.args.bytes.now = search rules in
    let rows : c.in_ok-rows.rows ≡ rows_of read.weights (map doc_of_lent read.docs.items) = search rules in
    let titles : c.in_ok-titles.titles ≡ map title_of (map doc_of_lent read.docs.items) = search rules in
    titles_are c.args.bytes.now c.in_ok-titles.titles c.in_ok-rows.rows (titles ∙ ap (map title_of) docs) (rows_read c.args.bytes.now read.weights (map doc_of_lent read.docs.items) c.in_ok-rows.rows scores docs rows)

-- what was read, and what was made of it
record IsMade (c : In_ok-image) : Type 0 where
  docs : map doc_of_lent c.in_ok-docs.field-0.docs.items ≡ documents c.args.bytes.now
  scores : c.in_ok-docs.field-0.weights ≡ weights c.args.bytes.now
  accepted : docs_refusal c.args.bytes.now ≡ None
  titles : c.in_ok-titles.titles ≡ map title_of (documents c.args.bytes.now)
  rows : c.in_ok-rows.rows ≡ rows_of (weights c.args.bytes.now) (documents c.args.bytes.now)
  few : length c.in_ok-rows.rows ≤ MAX_ROWS
  few_words : length (distinct_words c.in_ok-rows.rows) ≤ MAX_WORDS
  image : IsImage (corpus_of_rows c.in_ok-titles.titles c.in_ok-rows.rows) BLOCK_ROWS c.in_ok-docs.field-0.weights c.in_ok-image.image

made : (c : In_ok-image) → IsMade c
made c =
    let read = c.in_ok-docs.field-0 in
    let docs : map doc_of_lent read.docs.items ≡ documents c.args.bytes.now = search rules in
    let scores : read.weights ≡ weights c.args.bytes.now = search rules in
    let rows : c.in_ok-rows.rows ≡ rows_of read.weights (map doc_of_lent read.docs.items) = search rules in
    let titles : c.in_ok-titles.titles ≡ map title_of (map doc_of_lent read.docs.items) = search rules in
    let few : length (rows_of read.weights (map doc_of_lent read.docs.items)) ≤ MAX_ROWS = search rules in
    record {
      docs = docs;
      scores = scores;
      accepted = search rules;
      titles = titles ∙ ap (map title_of) docs;
      rows = rows_read c.args.bytes.now read.weights (map doc_of_lent read.docs.items) c.in_ok-rows.rows scores docs rows;
      few = subst (λ r. length r ≤ MAX_ROWS) (sym rows) few;
      few_words = search rules;
      image = search rules;
    }

-- it is an image of the collection's corpus
imaged : (c : In_ok-image) → IsImage (corpus c.args.bytes.now) BLOCK_ROWS (weights c.args.bytes.now) c.in_ok-image.image
imaged c =
    let m = made c in
    subst (λ k. IsImage k BLOCK_ROWS (weights c.args.bytes.now) c.in_ok-image.image) (titles_made c.args.bytes.now c.in_ok-titles.titles c.in_ok-rows.rows m.titles m.rows)
    (subst (λ (w : Weights). IsImage (corpus_of_rows c.in_ok-titles.titles c.in_ok-rows.rows) BLOCK_ROWS w c.in_ok-image.image) m.scores m.image)

-- the collection is accepted
accepted : (c : In_ok-image) → refusal c.args.bytes.now ≡ None
accepted c =
    let m = made c in
    accepted_by c.args.bytes.now c.in_ok-rows.rows m.accepted m.rows m.few m.few_words

-- its bytes are an index file, of which the image and that corpus are read
filed : (c : In_ok-image) → let b = file c.in_ok-image.image in IsIndexFile b × (image_of b ≡ c.in_ok-image.image) × (file_corpus b ≡ corpus c.args.bytes.now)
filed c = files_of_collections c.args.bytes.now BLOCK_ROWS c.in_ok-image.image (accepted c) (imaged c) (omega arith) (omega arith)

pub returns-clause-ok : goal.returns-clause-ok
returns-clause-ok c = let is = (goal.at.returns-clause-ok c).In_ok-image in record { image = imaged is; corpus = (filed is).2 }

pub returns-clause-accepted : goal.returns-clause-accepted
returns-clause-accepted c = accepted (goal.at.returns-clause-accepted c).In_ok-image

pub returns-clause-file : goal.returns-clause-file
returns-clause-file c =
    let is = (goal.at.returns-clause-file c).In_ok-image in
    let m = made is in
    let room : length (title_bytes c.in_ok-titles.titles) < 2 ^ 32 = subst (λ ts. length (title_bytes ts) < 2 ^ 32) (sym m.titles) (titles_few c.args.bytes.now m.accepted) in
    record { writable = search rules; whole = (filed is).0; read = (filed is).1 }

-- each document has its title in the corpus
titles_counted : (ts : List (List ℕ)) → length (keys (by_number ts)) ≡ length ts
titles_counted ts = ap (λ es. length (map (λ e. e.0) es)) (titles_listed ts) ∙ length-map (enumerate_from 0 ts) (λ e. e.0) ∙ length-enumerate_from 0 ts

pub returns-clause-sizes : goal.returns-clause-sizes
returns-clause-sizes c =
    let m = made (goal.at.returns-clause-sizes c).In_ok-image in
    record {
      documents = c.len-document_count.ensures ∙ c.in_ok-docs.field-0.docs.ok.0 ∙ sym (length-map c.in_ok-docs.field-0.docs.items doc_of_lent) ∙ ap length m.docs ∙ sym (length-map (documents c.args.bytes.now) title_of)
          ∙ sym (titles_counted (map title_of (documents c.args.bytes.now)));
      rows = c.len-row_count.ensures ∙ ap length m.rows;
    }
