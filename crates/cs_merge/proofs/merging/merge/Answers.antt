use Rattle.std.proofs.Common.{◌≡◌, ◌++◌, ℕ, List, length, sym, subst, ap, ap₂, ◌∙◌, arith, length-append}
use Rattle.std.proofs.lemmas.List.Folds.{concat-append}
use Rattle.cs_model.specs.Corpus.{IsCorpus}
use Rattle.cs_model_changes.specs.Joined.{joined}
use Rattle.cs_model_index.specs.Images.{Image, IsImage, image_corpus}
use Rattle.cs_model_index.specs.Layout.{title_bytes}
use Rattle.cs_build.specs.Building.{KeepLimits, corpus_of_rows}
use Rattle.cs_build.specs.Joining.{joined_rows}
use Rattle.cs_merge.specs.Vocabularies.{AreOfWordSize}
use Rattle.cs_merge.proofs.MergingLemmas.{AreReady, are_corpus, are_ready, corpora_joined, keep_limits, known_both, once, posts_numbered, words_long, words_of_rows}
use Rattle.cs_merge.proofs.merging.merge.Goals as goal
use Rattle.cs_merge.proofs.merging.merge.Goals.{After-deref-2, After-drop-first-2}

ready : (c : After-deref-2) → AreReady c.args.a.now c.args.b.now c.from_words-words.result c.deref.result.now c.deref-2.result.now c.in_ok-titles.titles
ready c =
    are_ready c.args.a.now c.args.b.now c.a.inside.words c.b.inside.words c.a.inside.titles c.b.inside.titles c.in_ok-words.field-0 c.from_words-words.result c.deref.result.now c.deref-2.result.now c.in_ok-titles.titles
    (ap (λ (i : Image). i.words) c.a.view_is) (ap (λ (i : Image). i.words) c.b.view_is) (ap (λ (i : Image). i.titles) c.a.view_is) (ap (λ (i : Image). i.titles) c.b.view_is) c.in_ok-words.ensures
    (c.from_words-words.ensures ∙ c.from_vec.ensures)
    c.deref.ensures.value c.deref-2.ensures.value
    (c.in_ok-titles.ensures ∙ ap₂ (λ (x y : List (List ℕ)). x ++ y) c.as_slice.ensures c.as_slice-2.ensures)

also_ready : (c : After-drop-first-2) → AreReady c.args.a.now c.args.b.now c.from_words-words.result c.deref.result.now c.deref-2.result.now c.in_ok-titles.titles
also_ready c =
    are_ready c.args.a.now c.args.b.now c.a.inside.words c.b.inside.words c.a.inside.titles c.b.inside.titles c.in_ok-words.field-0 c.from_words-words.result c.deref.result.now c.deref-2.result.now c.in_ok-titles.titles
    (ap (λ (i : Image). i.words) c.a.view_is) (ap (λ (i : Image). i.words) c.b.view_is) (ap (λ (i : Image). i.titles) c.a.view_is) (ap (λ (i : Image). i.titles) c.b.view_is) c.in_ok-words.ensures
    (c.from_words-words.ensures ∙ c.from_vec.ensures)
    c.deref.ensures.value c.deref-2.ensures.value
    (c.in_ok-titles.ensures ∙ ap₂ (λ (x y : List (List ℕ)). x ++ y) c.as_slice.ensures c.as_slice-2.ensures)

pub merged-requires-clause-a_words : goal.merged-requires-clause-a_words
merged-requires-clause-a_words c = subst AreOfWordSize (sym (ap (λ (i : Image). i.words) c.a.view_is)) (words_long c.args.a.now c.requires.first)

pub merged-requires-clause-b_words : goal.merged-requires-clause-b_words
merged-requires-clause-b_words c = subst AreOfWordSize (sym (ap (λ (i : Image). i.words) c.b.view_is)) (words_long c.args.b.now c.requires.second)

pub joined_image-requires-clause-first : goal.joined_image-requires-clause-first
joined_image-requires-clause-first c = posts_numbered c.args.a.now c.requires.first c.from_words-words.result c.deref.result.now (ready c).first

pub joined_image-requires-clause-second : goal.joined_image-requires-clause-second
joined_image-requires-clause-second c = posts_numbered c.args.b.now c.requires.second c.from_words-words.result c.deref-2.result.now (ready c).second

pub joined_image-requires-clause-known : goal.joined_image-requires-clause-known
joined_image-requires-clause-known c = known_both c.args.a.now c.args.b.now c.requires.first c.requires.second c.from_words-words.result c.deref.result.now c.deref-2.result.now (ready c).first (ready c).second

pub joined_image-requires-clause-words : goal.joined_image-requires-clause-words
joined_image-requires-clause-words c = words_of_rows c.args.a.now c.args.b.now c.requires.first c.requires.second c.from_words-words.result c.deref.result.now c.deref-2.result.now (ready c).first (ready c).second (ready c).words

pub joined_image-requires-clause-once : goal.joined_image-requires-clause-once
joined_image-requires-clause-once c = once c.args.a.now c.args.b.now c.requires.first c.requires.second c.from_words-words.result c.deref.result.now c.deref-2.result.now (ready c).first (ready c).second

pub joined_image-requires-clause-corpus : goal.joined_image-requires-clause-corpus
joined_image-requires-clause-corpus c =
    let rows = joined_rows c.from_words-words.result c.args.a.now c.deref.result.now c.args.b.now c.deref-2.result.now in
    subst (λ titles. IsCorpus (corpus_of_rows titles rows)) (sym (ready c).titles)
    (are_corpus c.args.a.now c.args.b.now c.requires.first c.requires.second c.from_words-words.result c.deref.result.now c.deref-2.result.now (ready c).first (ready c).second)

pub returns-clause-ok : goal.returns-clause-ok
returns-clause-ok c =
    let r = also_ready c in
    let a = c.args.a.now in
    let b = c.args.b.now in
    let rows = joined_rows c.from_words-words.result a c.deref.result.now b c.deref-2.result.now in
    let corpora : corpus_of_rows c.in_ok-titles.titles rows ≡ joined (image_corpus a) (image_corpus b) =
    ap (λ titles. corpus_of_rows titles rows) r.titles ∙ corpora_joined a b c.requires.first c.requires.second c.from_words-words.result c.deref.result.now c.deref-2.result.now r.first r.second in
    subst (λ k. IsImage k a.target a.weights c.in_ok-image.image) corpora c.in_ok-image.ensures.ok

pub returns-clause-writable : goal.returns-clause-writable
returns-clause-writable c =
    let a = c.args.a.now in
    let b = c.args.b.now in
    let few = c.in_ok-judge.ensures.fit.titles in
    c.in_ok-image.ensures.writable
    (omega (arith, few, ap (λ ts. length (title_bytes ts)) (also_ready c).titles, ap length (concat-append a.titles b.titles), length-append (title_bytes a.titles) (title_bytes b.titles)))

pub returns-clause-limits : goal.returns-clause-limits
returns-clause-limits c = λ limits_a limits_b.
    let r = also_ready c in
    let a = c.args.a.now in
    let b = c.args.b.now in
    let rows = joined_rows c.from_words-words.result a c.deref.result.now b c.deref-2.result.now in
    c.in_ok-image.ensures.limits limits_a.target_from
    (subst (λ titles. KeepLimits a.weights titles rows) (sym r.titles)
    (keep_limits a b c.requires.first c.requires.second c.from_words-words.result c.deref.result.now c.deref-2.result.now r.first r.second c.in_ok-judge.ensures.fit limits_a limits_b))
