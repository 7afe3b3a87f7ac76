use Rattle.std.proofs.Common.{◌≡◌, ◌++◌, ◌≤◌, [], ◌∷◌, List, length, map, take, get_or, sym, ap, subst, ◌∙◌, arith}
use Rattle.std.specs.Prelude.{flat_map}
use Rattle.std.proofs.lemmas.List.{length-map, take_all}
use Rattle.std.proofs.lemmas.List.Elements.{All-get_or, recursion_from_All}
use Rattle.cs_base.specs.declared.content.doc.Doc.{Doc}
use Rattle.cs_base.specs.declared.content.limits.TheConstants.{MAX_DOCS}
use Rattle.cs_docs.specs.FacetPieces.{CanBeListed}
use Rattle.cs_docs.specs.LinesRead.{doc_of_lent}
use Rattle.cs_docs.specs.declared.document.LentDoc.{LentDoc}
use Rattle.cs_docs.specs.declared.fault.RowsFault.TheVariants.{TooManyRows}
use Rattle.cs_docs.proofs.AcceptedCollections.{accepted_docs, accepted_lent, few_documents}
use Rattle.cs_docs.proofs.ListingLemmas.{rows_listed}
use Rattle.cs_model_index.specs.Numbered.{rows_at}
use Rattle.cs_vocab.specs.Gathering.{gathered}
use Rattle.cs_build.specs.RowColumns.{AreDocRows, doc_rows_of, listed_words, posts_of_docs}
use Rattle.cs_build.specs.declared.row_form.RowForm.TheVariants.{Counted}
use Rattle.cs_build.proofs.ColumnLemmas.{columns_are}
use Rattle.cs_build.proofs.RowGatheringLemmas.{err_is}
use Rattle.cs_build.proofs.RowPosts.{counted_docs, counts_more, few_more, listed_many, rows_of_numbers, words_more}
use Rattle.cs_build.proofs.row_columns.RowColumns.of_docs.Goals as goal

abbrev none : LentDoc
none = record { title = record { ref_ptr = (0, 0); now = [] }; facets = record { ref_ptr = (0, 0); now = [] }; text = record { ref_ptr = (0, 0); now = [] }; line = 0 }

pub add_doc-requires-clause-listed : goal.add_doc-requires-clause-listed
add_doc-requires-clause-listed c =
    All-get_or (λ d. CanBeListed (doc_of_lent d)) c.args.docs.now c.loop-doc.doc-index none c.loop-doc-test.true (accepted_lent c.requires.read.0 c.args.docs.now c.requires.read.1 c.requires.read.2)

pub loop-doc-preserved : goal.loop-doc-preserved
loop-doc-preserved c =
    let docs = c.args.docs.now in
    let i = c.loop-doc.doc-index in
    let l = c.loop-doc-test.true in
    record {
      words = c.in_ok-add_doc.ensures.words ∙ ap (λ ws. ws ++ listed_words (doc_of_lent (get_or docs i none))) c.loop-doc.invariant.words ∙ sym (words_more docs i none l);
      docs = c.in_ok-add_doc.ensures.docs ∙ ap (λ es. es ++ doc_rows_of (doc_of_lent (get_or docs i none)) ∷ []) c.loop-doc.invariant.docs ∙ sym (counts_more docs i none l);
      is = c.in_ok-add_doc.ensures.is;
    }

pub returns-in_err-add_doc-clause-too_many : goal.returns-in_err-add_doc-clause-too_many
returns-in_err-add_doc-clause-too_many c = λ told.
    let docs = c.args.docs.now in
    let all = map doc_of_lent docs in
    omega (
      arith,
      c.in_err-add_doc.ensures.too_many (err_is c.from_residual-in_err-add_doc.result c.in_err-add_doc.field-0.0 TooManyRows c.from_residual-in_err-add_doc.ensures.1 told),
      few_more docs c.loop-doc.doc-index none c.loop-doc-test.true,
      ap length c.loop-doc.invariant.words,
      listed_many c.args.weights 0 all,
      ap length (rows_listed c.args.weights all),
    )

pub invariant_of-result : goal.invariant_of-result
invariant_of-result c =
    let all : List Doc = map doc_of_lent c.args.docs.now in
    let n = c.in_ok-words.field-0 in
    let whole : take c.loop-doc.doc-index all ≡ all = take_all c.loop-doc.doc-index all (omega (arith, c.loop-doc-test.false, length-map c.args.docs.now doc_of_lent)) in
    let words : gathered c.loop-doc.gathering.words ≡ flat_map listed_words all = c.loop-doc.invariant.words ∙ ap (flat_map listed_words) whole in
    let counts : c.loop-doc.gathering.docs.items ≡ map doc_rows_of all = c.loop-doc.invariant.docs ∙ ap (map doc_rows_of) whole in
    let few : length c.loop-doc.gathering.docs.items ≤ MAX_DOCS = omega (arith, ap length counts, length-map all doc_rows_of, ap length c.requires.read.2, few_documents c.requires.read.0 c.requires.read.1) in
    let listed = recursion_from_All CanBeListed all (accepted_docs c.requires.read.0 all c.requires.read.1 c.requires.read.2) in
    let each = subst (λ es. AreDocRows es n.numbers) (sym counts) (counted_docs n.words all n.numbers listed (c.in_ok-words.ensures.numbers.told ∙ words)) in
    columns_are n.words n.numbers (Counted c.loop-doc.gathering.docs c.args.weights) (gathered c.loop-doc.gathering.words) (few, each) c.in_ok-words.ensures.numbers c.in_ok-words.ensures.words

pub returns-clause-ok : goal.returns-clause-ok
returns-clause-ok c =
    let all : List Doc = map doc_of_lent c.args.docs.now in
    let n = c.in_ok-words.field-0 in
    let whole : take c.loop-doc.doc-index all ≡ all = take_all c.loop-doc.doc-index all (omega (arith, c.loop-doc-test.false, length-map c.args.docs.now doc_of_lent)) in
    ap (λ es. rows_at n.words (posts_of_docs c.args.weights 0 es n.numbers)) (c.loop-doc.invariant.docs ∙ ap (map doc_rows_of) whole)
    ∙ rows_of_numbers n.words c.args.weights 0 all n.numbers (c.in_ok-words.ensures.numbers.told ∙ c.loop-doc.invariant.words ∙ ap (flat_map listed_words) whole)
    ∙ rows_listed c.args.weights all

pub returns-clause-few : goal.returns-clause-few
returns-clause-few c =
    let all : List Doc = map doc_of_lent c.args.docs.now in
    let whole : take c.loop-doc.doc-index all ≡ all = take_all c.loop-doc.doc-index all (omega (arith, c.loop-doc-test.false, length-map c.args.docs.now doc_of_lent)) in
    omega (arith, ap length (sym (rows_listed c.args.weights all)), listed_many c.args.weights 0 all, ap length (c.loop-doc.invariant.words ∙ ap (flat_map listed_words) whole), c.loop-doc.invariant.is.few)
