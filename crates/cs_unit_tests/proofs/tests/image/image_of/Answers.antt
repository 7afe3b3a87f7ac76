use Rattle.std.proofs.Common.{◌≡◌, ◌∙◌, ◌<◌, ◌^◌, List, ℕ, ap, length, rules, sym, subst}
use Rattle.std.specs.Prelude.{map, None}
use Rattle.cs_base.specs.declared.content.doc.Doc.{Doc}
use Rattle.cs_base.specs.declared.content.doc.Row.{Row}
use Rattle.cs_base.specs.declared.content.scores.Weights.{Weights}
use Rattle.cs_model.specs.Collection.{docs_refusal, documents, weights}
use Rattle.cs_model.specs.Corpus.{Corpus, IsCorpus, rows_of, title_of}
use Rattle.cs_model_index.specs.FileLaws.{HasLimits}
use Rattle.cs_model_index.specs.Images.{Image, IsImage}
use Rattle.cs_model_index.specs.Layout.{title_bytes}
use Rattle.cs_model_index.proofs.CorpusLemmas.{corpora_are_kept}
use Rattle.cs_build.specs.Building.{KeepLimits}
use Rattle.cs_build.proofs.CollectionLemmas.{collection_is}
use Rattle.cs_build.proofs.RowLemmas.{keep_limits}
use Rattle.cs_build.proofs.TitleLemmas.{titles_few}
use Rattle.cs_merge.specs.Merging.{IsOfFile}
use Rattle.cs_unit_tests.proofs.tests.image.image_of.Goals as goal

-- the image of a corpus is that of an index file, where it keeps the limits
of_file : (k : Corpus) (target : ℕ) (w : Weights) (i : Image) → IsCorpus k → IsImage k target w i → HasLimits i → IsOfFile i
of_file k target w i is of limits =
    let kept = corpora_are_kept k target w i is of in
    let targets : i.target ≡ target = ap (λ (x : Image). x.target) of.made in
    let scores : i.weights ≡ w = ap (λ (x : Image). x.weights) of.made in
    record {
      corpus = subst IsCorpus (sym kept) is;
      image = subst (λ c. IsImage c i.target i.weights i) (sym kept) (subst (λ t. IsImage k t i.weights i) (sym targets) (subst (λ v. IsImage k target v i) (sym scores) of));
      words = limits.words;
      target = limits.target_to;
    }

-- documents that were read, and their rows, keep the limits
limited : (c : List ℕ) (w : Weights) (docs : List Doc) (rows : List Row) → w ≡ weights c → docs ≡ documents c → rows ≡ rows_of w docs → docs_refusal c ≡ None → KeepLimits w (map title_of docs) rows
limited c w docs rows scores same are none =
    let all : rows ≡ rows_of (weights c) (documents c) = are ∙ ap (rows_of w) same ∙ ap (λ (v : Weights). rows_of v (documents c)) scores in
    subst (λ v. KeepLimits v (map title_of docs) rows) (sym scores) (subst (λ ds. KeepLimits (weights c) (map title_of ds) rows) (sym same)
    (subst (KeepLimits (weights c) (map title_of (documents c))) (sym all) (keep_limits c none)))

pub image-requires-clause-corpus : goal.image-requires-clause-corpus
image-requires-clause-corpus c =
    let read = c.in-Ok.field-0 in
    let rows : c.in-Ok-rows_of.rows ≡ rows_of read.weights read.docs = search rules in
    collection_is c.args.collection.now read.docs c.in-Ok-rows_of.rows c.in-Ok.ensures.ok (rows ∙ ap (λ (w : Weights). rows_of w read.docs) c.in-Ok.ensures.weights)

pub returns-in-Ok-image-clause-writable : goal.returns-in-Ok-image-clause-writable
returns-in-Ok-image-clause-writable c =
    c.in-Ok-image.ensures.writable
    (subst (λ docs. length (title_bytes (map title_of docs)) < 2 ^ 32) (sym c.in-Ok.ensures.ok) (titles_few c.args.collection.now c.in-Ok.ensures.accepted))

pub returns-in-Ok-image-clause-file : goal.returns-in-Ok-image-clause-file
returns-in-Ok-image-clause-file c =
    let read = c.in-Ok.field-0 in
    let rows : c.in-Ok-rows_of.rows ≡ rows_of read.weights read.docs = search rules in
    let is = collection_is c.args.collection.now read.docs c.in-Ok-rows_of.rows c.in-Ok.ensures.ok (rows ∙ ap (λ (w : Weights). rows_of w read.docs) c.in-Ok.ensures.weights) in
    of_file _ _ _ c.in-Ok-image.image is c.in-Ok-image.ensures.ok
    (c.in-Ok-image.ensures.limits (limited c.args.collection.now read.weights read.docs c.in-Ok-rows_of.rows c.in-Ok.ensures.weights c.in-Ok.ensures.ok rows c.in-Ok.ensures.accepted))
