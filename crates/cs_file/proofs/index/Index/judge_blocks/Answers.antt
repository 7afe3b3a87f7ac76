use Rattle.std.proofs.Common.{◌≡◌, ◌≤◌, length, map, sym, ap, ◌∙◌, arith}
use Rattle.std.proofs.lemmas.List.{length-map}
use Rattle.cs_base.specs.declared.content.limits.TheConstants.{MAX_WORDS}
use Rattle.cs_cols.specs.declared.cols.Cols.{Cols}
use Rattle.cs_file.specs.ImageSteps.{parts_break}
use Rattle.cs_file.specs.Indexes.{IndexView}
use Rattle.cs_file.proofs.ImageParts.{Laid, judged_along, parting_broken, parts_count, parts_judged, places}
use Rattle.cs_file.proofs.index.Index.judge_blocks.Goals as goal
use Rattle.cs_file.proofs.index.Index.judge_blocks.Goals.{After-deref}

-- as many parts as heads
count : (c : After-deref) → length c.in_ok-parts.parts.items ≡ length c.as_slice-heads.result.now
count c =
    let posts = map (λ (x : Cols). x.posts) c.args.blocks.now in
    let one : length c.as_slice-heads.result.now ≡ length posts =
    omega (arith, ap length c.as_slice-heads.ensures, ap (λ (v : IndexView). length v.heads) c.self.view_is, c.requires.one_each, length-map c.args.blocks.now (λ (x : Cols). x.posts)) in
    ap length c.in_ok-parts.ensures ∙ parts_count c.as_slice-heads.result.now posts one

few : (c : After-deref) → length c.in_ok-parts.parts.items ≤ MAX_WORDS
few c = let p = places _ c.self.invariant.index in let blocks = p.blocks in omega (arith, blocks, count c, ap length c.as_slice-heads.ensures)

at : (c : After-deref) → Laid c.args.self.now c.self.inside.target c.as_slice.result.now c.as_slice-heads.result.now c.entries-entries.result
at c = record {
  target_is = ap (λ (v : IndexView). v.target) c.self.view_is;
  words_are = c.as_slice.ensures ∙ ap (λ (v : IndexView). v.words) c.self.view_is;
  heads_are = c.as_slice-heads.ensures ∙ ap (λ (v : IndexView). v.heads) c.self.view_is;
  first_is = c.entries-entries.ensures.first;
  size_is = c.entries-entries.ensures.size;
}

pub bad_part-place-requires-clause-few : goal.bad_part-place-requires-clause-few
bad_part-place-requires-clause-few c = omega (arith, few c, ap length c.deref.ensures.value)

pub returns-in_err-unchanged-clause-exact : goal.returns-in_err-unchanged-clause-exact
returns-in_err-unchanged-clause-exact c =
    let d = (goal.at.returns-in_err-unchanged-clause-exact c).After-deref in
    let posts = map (λ (x : Cols). x.posts) c.args.blocks.now in
    let e = c.in_err-unchanged.field-0.0 in
    judged_along (parts_break c.args.self.now posts) e c.from_residual-in_err-unchanged.result
    (parting_broken (at d) posts c.requires.filled (c.deref.ensures.value ∙ c.in_ok-parts.ensures) c.bad_part-place.result e c.bad_part-place.ensures c.in_err-unchanged.ensures.judged)
    c.from_residual-in_err-unchanged.ensures.1

pub bad_bound-requires-clause-few : goal.bad_bound-requires-clause-few
bad_bound-requires-clause-few c = let d = (goal.at.bad_bound-requires-clause-few c).After-deref in omega (arith, few d, ap length c.deref-2.ensures.value)

pub bad_bound-requires-clause-count : goal.bad_bound-requires-clause-count
bad_bound-requires-clause-count c = let d = (goal.at.bad_bound-requires-clause-count c).After-deref in omega (arith, count d, ap length c.deref-2.ensures.value)

pub returns-clause-exact : goal.returns-clause-exact
returns-clause-exact c =
    let d = (goal.at.returns-clause-exact c).After-deref in
    let posts = map (λ (x : Cols). x.posts) c.args.blocks.now in
    let same : c.deref-2.result.now ≡ c.deref.result.now = c.deref-2.ensures.value ∙ sym c.deref.ensures.value in
    parts_judged (at d) posts c.requires.filled (c.deref.ensures.value ∙ c.in_ok-parts.ensures) c.bad_part-place.result c.bad_bound.result c.deref-2.result.now
    c.unchanged-2.result same c.bad_part-place.ensures c.in_ok-unchanged.ensures.judged c.bad_bound.ensures c.unchanged-2.ensures.judged
