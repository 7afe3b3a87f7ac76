use Rattle.std.proofs.Common.{◌≡◌, List, ℕ, length, map, Some, None, Ok, sym, ap, subst, ◌∙◌}
use Rattle.std.specs.Prelude.{All}
use Rattle.std.specs.List.{zip}
use Rattle.std.specs.Option.{ForSome}
use Rattle.cs_base.specs.declared.content.doc.Post.{Post}
use Rattle.cs_cols.specs.declared.cols.Cols.{Cols}
use Rattle.cs_model_index.specs.Images.{Image}
use Rattle.cs_file.specs.ImageRead.{ImageRead, read_image}
use Rattle.cs_file.specs.ImageSteps.{AreBlocksRead, AreTitlesRead, IsFilled, parts_break}
use Rattle.cs_file.specs.Indexes.{IndexView, IsIndex}
use Rattle.cs_file.specs.WholeImages.{IsChangeBy, IsFileImage, ReadsImage, image_at, image_break}
use Rattle.cs_file.specs.Writable.{CanBeWritten}
use Rattle.cs_file.proofs.ImageStepLemmas.{filled_read, image_exact, image_read, made_image, parts_changed, reads_along, reads_stood}
use Rattle.cs_file.proofs.ImageWritten.{image_file, image_fits}
use Rattle.cs_file.proofs.index.Index.image.Given as given
use Rattle.cs_file.proofs.index.Index.image.Goals as goal

pub returns-in_err-titles-clause-unchanged : goal.returns-in_err-titles-clause-unchanged
returns-in_err-titles-clause-unchanged g c = λ b t s.
    let i = c.args.self.now in
    let e = c.in_err-titles.field-0.0 in
    let r = c.from_residual-in_err-titles.result in
    (reads_stood i b r s (reads_along i b e r (c.in_err-titles.ensures.changed b t) c.from_residual-in_err-titles.ensures.1)).1

pub returns-in_err-blocks-clause-exact : goal.returns-in_err-blocks-clause-exact
returns-in_err-blocks-clause-exact g c = λ b t.
    let i = c.args.self.now in
    let e = c.in_err-blocks.field-0.0 in
    let r = c.from_residual-in_err-blocks.result in
    let same = c.in_ok-titles.ensures.bytes in
    let read = subst (λ o. AreTitlesRead i o c.in_ok-titles.titles i.docs) (sym same) c.in_ok-titles.ensures.ok in
    reads_along i b e r (c.in_err-blocks.ensures.changed c.in_ok-titles.titles read b (same ∙ t)) c.from_residual-in_err-blocks.ensures.1

pub returns-in_err-blocks-clause-unchanged : goal.returns-in_err-blocks-clause-unchanged
returns-in_err-blocks-clause-unchanged g c = λ b t s.
    let i = c.args.self.now in
    let e = c.in_err-blocks.field-0.0 in
    let r = c.from_residual-in_err-blocks.result in
    let same = c.in_ok-titles.ensures.bytes in
    let read = subst (λ o. AreTitlesRead i o c.in_ok-titles.titles i.docs) (sym same) c.in_ok-titles.ensures.ok in
    (reads_stood i b r s (reads_along i b e r (c.in_err-blocks.ensures.changed c.in_ok-titles.titles read b (same ∙ t)) c.from_residual-in_err-blocks.ensures.1)).1

pub judge_blocks-requires-clause-filled : goal.judge_blocks-requires-clause-filled
judge_blocks-requires-clause-filled g c =
    let i = c.args.self.now in
    subst (λ bs. All IsFilled (zip i.heads (map (λ (x : Cols). x.posts) bs))) (sym c.as_slice-2.ensures)
    (filled_read (subst IsIndex c.self.view_is c.self.invariant.index) c.in_ok-blocks.ensures.ok)

-- the first of rules 18 and 19 that is broken
changed : (g : given.Over) (c : goal.After-drop-words-inside-in_err-judge_blocks g) → ForSome (g.S.Store.bytes c.args.store.now) (λ b. ReadsImage c.args.self.now b c.from_residual-in_err-judge_blocks.result)
changed g c = λ b t.
    let i = c.args.self.now in
    let e = c.in_err-judge_blocks.field-0.0 in
    let rows = subst (λ o. AreBlocksRead i o (map (λ (x : Cols). x.posts) c.in_ok-blocks.blocks) (length i.heads)) c.in_ok-titles.ensures.bytes c.in_ok-blocks.ensures.ok in
    let broken = subst (λ bs. IsChangeBy (parts_break i (map (λ (x : Cols). x.posts) bs)) e) c.as_slice-2.ensures c.in_err-judge_blocks.ensures.exact in
    reads_along i b e c.from_residual-in_err-judge_blocks.result
    (parts_changed (subst IsIndex c.self.view_is c.self.invariant.index) c.requires.fits c.in_ok-titles.ensures.ok rows e broken b t) c.from_residual-in_err-judge_blocks.ensures.1

pub returns-in_err-judge_blocks-clause-exact : goal.returns-in_err-judge_blocks-clause-exact
returns-in_err-judge_blocks-clause-exact g c = changed g c

pub returns-in_err-judge_blocks-clause-unchanged : goal.returns-in_err-judge_blocks-clause-unchanged
returns-in_err-judge_blocks-clause-unchanged g c = λ b t s.
    (reads_stood c.args.self.now b c.from_residual-in_err-judge_blocks.result s
    (changed g c b t)).1

-- all of it was read
index : (g : given.Over) (c : goal.After-result-1 g) → IsIndex c.args.self.now
index g c = subst IsIndex c.self.view_is c.self.invariant.index

abbrev posts : (g : given.Over) → goal.After-result-1 g → List (List Post)
posts g c = map (λ (x : Cols). x.posts) c.in_ok-blocks.blocks

rows : (g : given.Over) (c : goal.After-result-1 g) → AreBlocksRead c.args.self.now (g.S.Store.bytes c.args.store.now) (posts g c) (length c.args.self.now.heads)
rows g c = subst (λ o. AreBlocksRead c.args.self.now o (posts g c) (length c.args.self.now.heads)) c.in_ok-titles.ensures.bytes c.in_ok-blocks.ensures.ok

unbroken : (g : given.Over) (c : goal.After-result-1 g) → parts_break c.args.self.now (posts g c) ≡ None
unbroken g c = subst (λ bs. parts_break c.args.self.now (map (λ (x : Cols). x.posts) bs) ≡ None) c.as_slice-2.ensures c.in_ok-judge_blocks.ensures.exact

read : (g : given.Over) (c : goal.After-result-1 g) → ImageRead c.args.self.now (g.S.Store.bytes c.args.store.now) c.in_ok-titles.titles (posts g c)
read g c = image_read (index g c) c.in_ok-titles.ensures.ok (rows g c) c.in_ok-judge_blocks.ensures.few (unbroken g c)

-- the image as it is seen
abbrev seen : (g : given.Over) → goal.After-result-1 g → Image
seen g c = record {
  titles = c.in_ok-titles.titles;
  words = c.in_ok-words.words;
  heads = c.in_ok-heads.heads;
  blocks = posts g c;
  target = c.self.inside.target;
  weights = c.self.inside.weights;
}

made : (g : given.Over) (c : goal.After-result-1 g) → seen g c ≡ read_image c.args.self.now c.in_ok-titles.titles (posts g c)
made g c = made_image c.args.self.now (c.in_ok-words.ensures.ok ∙ ap (λ (v : IndexView). v.words) c.self.view_is)
    (c.in_ok-heads.ensures ∙ c.as_slice.ensures ∙ ap (λ (v : IndexView). v.heads) c.self.view_is) (ap (λ (v : IndexView). v.target) c.self.view_is)
    (ap (λ (v : IndexView). v.weights) c.self.view_is)

exact : (g : given.Over) (c : goal.After-result-1 g) (b : List ℕ) → g.S.Store.bytes c.args.store.now ≡ Some b
    → (seen g c ≡ image_at c.args.self.now b) × (image_break c.args.self.now b ≡ None)
exact g c b t =
    let p = image_exact (index g c) c.requires.fits c.in_ok-titles.ensures.ok (rows g c) (unbroken g c) b t in
    (made g c ∙ p.0, p.1)

pub returns-clause-exact : goal.returns-clause-exact
returns-clause-exact g c = exact g c

pub returns-clause-stood : goal.returns-clause-stood
returns-clause-stood g c = λ b t s. (reads_stood c.args.self.now b (Ok (seen g c)) s (exact g c b t)).0

pub returns-clause-accepted : goal.returns-clause-accepted
returns-clause-accepted g c = subst IsFileImage (sym (made g c)) (image_file c.args.self.now (index g c) _ _ _ (read g c))

pub returns-clause-writable : goal.returns-clause-writable
returns-clause-writable g c = subst CanBeWritten (sym (made g c)) (image_fits c.args.self.now (index g c) _ _ _ (read g c))
