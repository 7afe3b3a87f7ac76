use Rattle.std.proofs.Common.{ℕ, ◌≡◌, ◌+◌, ◌++◌, List, drop, take, refl, ap, sym, subst, ◌∙◌}
use Rattle.cs_base.specs.declared.content.doc.Post.{Post}
use Rattle.cs_base.specs.declared.content.scores.TheConstants.{BEHIND_TITLE}
use Rattle.cs_base.specs.declared.content.scores.Weights.{Weights}
use Rattle.cs_build.specs.RowColumns.{facet_posts, posts_of_doc, text_numbers, title_numbers, word_posts}
use Rattle.cs_build.specs.WordRuns.{AreTaken, CanTake}
use Rattle.cs_build.specs.declared.row_form.DocRows.{DocRows}
use Rattle.cs_build.proofs.FillLemmas.{can_behind, can_front, taken-append}
use Rattle.cs_build.proofs.filling.fill_doc.Goals.{After-split_at-3}
use Rattle.cs_build.proofs.filling.fill_doc.Goals as goal

abbrev title_posts : Weights → ℕ → List ℕ → List Post
title_posts w d titles = word_posts d w.title 1 titles

abbrev text_posts : Weights → ℕ → DocRows → List ℕ → List Post
text_posts w d rows texts = word_posts d w.text (rows.titles + BEHIND_TITLE) texts

-- the posts of a document, by the numbers that were cut
cut : (w : Weights) (d : ℕ) (rows : DocRows) (ns facets titles texts : List ℕ) → facets ≡ take rows.facets ns → titles ≡ take rows.titles (title_numbers rows ns) → texts ≡ take rows.texts (text_numbers rows ns)
    → posts_of_doc w d rows ns ≡ facet_posts d w.facet facets ++ title_posts w d titles ++ text_posts w d rows texts
cut w d rows ns facets titles texts a b e = rw (a, b, e) refl

-- and by the calls that cut them
posts_cut : (c : After-split_at-3) → posts_of_doc c.args.weights c.args.doc c.args.rows c.args.numbers.now
    ≡ facet_posts c.args.doc c.args.weights.facet c.split_at.result.0.now ++ title_posts c.args.weights c.args.doc c.split_at-2.result.0.now ++ text_posts c.args.weights c.args.doc c.args.rows c.split_at-3.result.0.now
posts_cut c =
    let titles = c.split_at-2.ensures.front ∙ ap (take c.args.rows.titles) c.split_at.ensures.back in
    let texts = c.split_at-3.ensures.front ∙ ap (take c.args.rows.texts) (c.split_at-2.ensures.back ∙ ap (drop c.args.rows.titles) c.split_at.ensures.back) in
    cut c.args.weights c.args.doc c.args.rows c.args.numbers.now c.split_at.result.0.now c.split_at-2.result.0.now c.split_at-3.result.0.now c.split_at.ensures.front titles texts

pub fill_facets-requires : goal.fill_facets-requires
fill_facets-requires c =
    let facets = c.split_at.result.0.now in
    let titles = c.split_at-2.result.0.now in
    let texts = c.split_at-3.result.0.now in
    let e = posts_cut (goal.at.fill_facets-requires c).After-split_at-3 in
    can_front c.args.places.now c.args.blocks.now (facet_posts c.args.doc c.args.weights.facet facets) (title_posts c.args.weights c.args.doc titles)
    (can_front c.args.places.now c.args.blocks.now _ (text_posts c.args.weights c.args.doc c.args.rows texts) (subst (CanTake c.args.places.now c.args.blocks.now) e c.requires.room))

pub fill_words-requires-clause-room : goal.fill_words-requires-clause-room
fill_words-requires-clause-room c =
    let facets = c.split_at.result.0.now in
    let titles = c.split_at-2.result.0.now in
    let texts = c.split_at-3.result.0.now in
    let e = posts_cut (goal.at.fill_words-requires-clause-room c).After-split_at-3 in
    can_behind c.args.places.now c.args.blocks.now c.fill_facets.new.blocks (facet_posts c.args.doc c.args.weights.facet facets) (title_posts c.args.weights c.args.doc titles)
    (can_front c.args.places.now c.args.blocks.now _ (text_posts c.args.weights c.args.doc c.args.rows texts) (subst (CanTake c.args.places.now c.args.blocks.now) e c.requires.room))
    c.fill_facets.ensures

pub fill_words-requires-2-clause-room : goal.fill_words-requires-2-clause-room
fill_words-requires-2-clause-room c =
    let facets = c.split_at.result.0.now in
    let titles = c.split_at-2.result.0.now in
    let texts = c.split_at-3.result.0.now in
    let e = posts_cut (goal.at.fill_words-requires-2-clause-room c).After-split_at-3 in
    can_behind c.args.places.now c.args.blocks.now c.fill_words.new.blocks (facet_posts c.args.doc c.args.weights.facet facets ++ title_posts c.args.weights c.args.doc titles) (text_posts c.args.weights c.args.doc c.args.rows texts)
    (subst (CanTake c.args.places.now c.args.blocks.now) e c.requires.room)
    (taken-append c.args.places.now c.args.blocks.now c.fill_facets.new.blocks c.fill_words.new.blocks (facet_posts c.args.doc c.args.weights.facet facets) (title_posts c.args.weights c.args.doc titles) c.fill_facets.ensures c.fill_words.ensures)

pub returns-clause-taken : goal.returns-clause-taken
returns-clause-taken c =
    let facets = c.split_at.result.0.now in
    let titles = c.split_at-2.result.0.now in
    let texts = c.split_at-3.result.0.now in
    let e = posts_cut (goal.at.returns-clause-taken c).After-split_at-3 in
    subst (λ ps. AreTaken c.args.places.now ps c.args.blocks.now c.fill_words-2.new.blocks) (sym e)
    (taken-append c.args.places.now c.args.blocks.now c.fill_words.new.blocks c.fill_words-2.new.blocks (facet_posts c.args.doc c.args.weights.facet facets ++ title_posts c.args.weights c.args.doc titles) (text_posts c.args.weights c.args.doc c.args.rows texts)
    (taken-append c.args.places.now c.args.blocks.now c.fill_facets.new.blocks c.fill_words.new.blocks (facet_posts c.args.doc c.args.weights.facet facets) (title_posts c.args.weights c.args.doc titles) c.fill_facets.ensures c.fill_words.ensures)
    c.fill_words-2.ensures)
