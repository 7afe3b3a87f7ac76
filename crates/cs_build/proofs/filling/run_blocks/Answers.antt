use Rattle.std.proofs.Common.{◌≡◌, [], length, map, ap, sym, subst, ◌∙◌}
use Rattle.std.specs.Prelude.{filter}
use Rattle.std.proofs.lemmas.List.{with_items_is}
use Rattle.cs_cols.specs.declared.cols.Cols.{Cols}
use Rattle.cs_build.specs.RowColumns.{posts_in}
use Rattle.cs_build.specs.WordRuns.{AreFilled, CanTake, is_within}
use Rattle.cs_build.proofs.ColumnLemmas.{below_words}
use Rattle.cs_build.proofs.FillLemmas.{all_posts, can_all}
use Rattle.cs_build.proofs.filling.run_blocks.Goals as goal

pub fill-requires-clause-room : goal.fill-requires-clause-room
fill-requires-clause-room c =
    let posts = posts_in c.args.form.now c.args.numbers.now in
    let below = below_words c.args.words c.args.form.now c.args.numbers.now c.requires.form c.requires.below in
    subst (λ places. CanTake places c.deref_mut.result.now posts) (sym c.deref.ensures.value) (subst (λ blocks. CanTake c.in_ok-places.places.items blocks posts) (sym c.deref_mut.ensures.value)
    (can_all c.in_ok-places.places.items c.in_ok-blocks.blocks.items c.args.runs.now c.args.words posts c.requires.spans c.in_ok-places.ensures c.in_ok-blocks.ensures below c.requires.counted))

pub returns : goal.returns
returns c =
    let posts = posts_in c.args.form.now c.args.numbers.now in
    let below = below_words c.args.words c.args.form.now c.args.numbers.now c.requires.form c.requires.below in
    let same = with_items_is c.in_ok-blocks.blocks c.fill.new.blocks (c.fill.auto.blocks ∙ ap length c.deref_mut.ensures.value ∙ sym c.in_ok-blocks.blocks.ok.0) in
    let filled : AreFilled [] c.args.runs.now c.deref_mut.result.now = subst (AreFilled [] c.args.runs.now) (sym c.deref_mut.ensures.value) c.in_ok-blocks.ensures in
    subst (λ blocks. map (λ (b : Cols). b.posts) blocks ≡ map (λ run. filter (is_within run) posts) c.args.runs.now) (sym same)
    (all_posts posts c.args.runs.now c.fill.new.blocks (c.fill.ensures c.args.runs.now c.args.words [] c.requires.spans (c.deref.ensures.value ∙ c.in_ok-places.ensures) below filled))
