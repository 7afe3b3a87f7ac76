-- What holds of merges.
--
--   merges_are_one, merges_are_joined     the laws
use Rattle.std.proofs.Common.{◌≡◌, ℕ, List, ◌++◌, ap, subst, sym, ◌∙◌}
use Rattle.cs_base.specs.declared.content.doc.Doc.{Doc}
use Rattle.cs_base.specs.declared.content.scores.Weights.{Weights}
use Rattle.cs_model.specs.Corpus.{Corpus, IsCorpus, corpus_of}
use Rattle.cs_model_changes.proofs.JoinedLemmas.{joined_are_corpora}
use Rattle.cs_model_changes.specs.Joined.{joined}
use Rattle.cs_model_index.specs.Images.{Image, IsImage, image_corpus}
use Rattle.cs_model_index.proofs.CorpusLemmas.{corpora_are_kept}
use Rattle.cs_model_index.proofs.ImageLemmas.{images_are_one}
use Rattle.cs_model_merge.specs.Merges.{IsMerge}

pub merges_are_one : (a b i j : Image) → IsMerge a b i → IsMerge a b j → i ≡ j
merges_are_one a b i j p q = images_are_one (joined (image_corpus a) (image_corpus b)) a.target a.weights i j p q

pub merges_are_joined : (w : Weights) (ds es : List Doc) (target : ℕ) (a b i : Image) → IsCorpus (corpus_of w ds) → IsCorpus (corpus_of w es) → IsImage (corpus_of w ds) target w a → IsImage (corpus_of w es) target w b → IsMerge a b i → IsImage (corpus_of w (ds ++ es)) target w i
merges_are_joined w ds es target a b i c d p q m =
    let corpora : joined (image_corpus a) (image_corpus b) ≡ corpus_of w (ds ++ es) =
    ap (λ (k : Corpus). joined k (image_corpus b)) (corpora_are_kept (corpus_of w ds) target w a c p)
    ∙ ap (joined (corpus_of w ds)) (corpora_are_kept (corpus_of w es) target w b d q)
    ∙ sym (joined_are_corpora w ds es) in
    let same : a.target ≡ target = ap (λ (x : Image). x.target) p.made in
    let weights : a.weights ≡ w = ap (λ (x : Image). x.weights) p.made in
    subst (λ (k : Corpus). IsImage k target w i) corpora (subst (λ t. IsImage (joined (image_corpus a) (image_corpus b)) t w i) same (subst (λ v. IsImage (joined (image_corpus a) (image_corpus b)) a.target v i) weights m))
