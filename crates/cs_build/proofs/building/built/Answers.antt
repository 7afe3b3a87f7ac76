use Rattle.std.proofs.Common.{◌≡◌, ◌<◌, ◌≤◌, List, length, map, sym, subst, ap, ◌∙◌, arith}
use Rattle.std.specs.Prelude.{filter}
use Rattle.std.specs.List.{AllByRecursion, zip}
use Rattle.cs_base.specs.declared.content.doc.Post.{Post}
use Rattle.cs_base.specs.declared.content.doc.Row.{Row}
use Rattle.cs_base.specs.declared.content.limits.TheConstants.{MAX_ROWS}
use Rattle.cs_cols.specs.declared.cols.Cols.{Cols}
use Rattle.cs_model_index.specs.Images.{count_in}
use Rattle.cs_model_index.specs.Numbered.{numbered, rows_at}
use Rattle.cs_vocab.specs.Ranges.{AreNumbers}
use Rattle.cs_build.specs.RowColumns.{posts_in}
use Rattle.cs_build.specs.WordRuns.{AreParted, AreSpans, is_within, run_head}
use Rattle.cs_build.proofs.AssembleLemmas.{spans_kept, few_kept, counted_kept, inside_kept, rows_kept, as_many, image_made}
use Rattle.cs_build.proofs.ColumnLemmas.{columns_many, numbers_are, posts_numbered}
use Rattle.cs_build.proofs.building.built.Goals as goal
use Rattle.cs_build.proofs.building.built.Goals.{In_ok-runs, In_ok-blocks}

-- the posts, and the rows that they stand for
abbrev posts : In_ok-runs → List Post
posts c = posts_in c.rows.inside.form c.rows.inside.numbers

abbrev rows : In_ok-runs → List Row
rows c = rows_at c.rows.inside.words (posts c)

same_posts : (c : In_ok-runs) → numbered c.rows.inside.words (rows c) ≡ posts c
same_posts c = posts_numbered c.rows.inside.words c.rows.inside.numbers c.rows.inside.form c.rows.invariant

-- the runs are the partition of the words
parted : (c : In_ok-runs) → AreParted c.args.target c.rows.inside.words (count_in (rows c)) c.in_ok-runs.runs.items
parted c =
    let ws = c.rows.inside.words in
    c.in_ok-runs.ensures (rows c) (subst (λ ns. AreNumbers ws ns (map (λ r. r.word) (rows c))) (sym c.as_slice.ensures) (numbers_are ws c.rows.inside.numbers c.rows.inside.form c.rows.invariant))

filled : (c : In_ok-blocks) → map (λ (b : Cols). b.posts) c.in_ok-blocks.blocks.items ≡ map (λ run. filter (is_within run) (posts_in c.rows.inside.form c.rows.inside.numbers)) c.in_ok-runs.runs.items
filled c = rw (c.deref.ensures.value, c.as_slice-2.ensures) at c.in_ok-blocks.ensures

pub runs_of-requires-clause-few : goal.runs_of-requires-clause-few
runs_of-requires-clause-few c = omega (arith, ap length c.as_slice.ensures, columns_many c.rows.inside.words c.rows.inside.numbers c.rows.inside.form c.rows.invariant, ap length c.rows.view_is, c.requires.few)

pub run_blocks-requires-clause-spans : goal.run_blocks-requires-clause-spans
run_blocks-requires-clause-spans c =
    let r = (goal.at.run_blocks-requires-clause-spans c).In_ok-runs in
    subst (λ rs. AreSpans 0 rs c.len-2.result) (sym c.deref.ensures.value) (spans_kept c.rows.inside.words (rows r) (posts r) c.args.target c.in_ok-runs.runs.items c.rows.invariant.words (same_posts r) (parted r) c.len-2.result c.len-2.ensures.value)

pub run_blocks-requires-clause-few : goal.run_blocks-requires-clause-few
run_blocks-requires-clause-few c =
    let r = (goal.at.run_blocks-requires-clause-few c).In_ok-runs in
    omega (arith, few_kept c.rows.inside.words (rows r) (posts r) c.args.target c.in_ok-runs.runs.items c.rows.invariant.words (same_posts r) (parted r), ap length c.deref.ensures.value, c.len-2.ensures.value)

pub run_blocks-requires-clause-counted : goal.run_blocks-requires-clause-counted
run_blocks-requires-clause-counted c =
    let r = (goal.at.run_blocks-requires-clause-counted c).In_ok-runs in
    rw (c.deref.ensures.value, c.as_slice-2.ensures) (counted_kept c.rows.inside.words (rows r) (posts r) c.args.target c.in_ok-runs.runs.items c.rows.invariant.words (same_posts r) (parted r))

pub run_heads-requires-clause-each : goal.run_heads-requires-clause-each
run_heads-requires-clause-each c =
    let r = (goal.at.run_heads-requires-clause-each c).In_ok-runs in
    let b = filled (goal.at.run_heads-requires-clause-each c).In_ok-blocks in
    ap length c.deref-2.ensures.value ∙ as_many c.rows.inside.words (rows r) (posts r) c.args.target c.in_ok-runs.runs.items c.rows.invariant.words (same_posts r) (parted r) c.in_ok-blocks.blocks.items b ∙ sym (ap length c.deref-3.ensures.value)

pub run_heads-requires-clause-inside : goal.run_heads-requires-clause-inside
run_heads-requires-clause-inside c =
    let r = (goal.at.run_heads-requires-clause-inside c).In_ok-runs in
    subst (AllByRecursion (λ run. run.lo < length c.rows.inside.words)) (sym c.deref-2.ensures.value) (inside_kept c.rows.inside.words (rows r) (posts r) c.args.target c.in_ok-runs.runs.items c.rows.invariant.words (same_posts r) (parted r))

pub run_heads-requires-clause-few : goal.run_heads-requires-clause-few
run_heads-requires-clause-few c =
    let r = (goal.at.run_heads-requires-clause-few c).In_ok-runs in
    let b = filled (goal.at.run_heads-requires-clause-few c).In_ok-blocks in
    let few : length (rows r) ≤ MAX_ROWS = omega (arith, ap length c.rows.view_is, c.requires.few) in
    subst (AllByRecursion (λ b. length b.posts ≤ MAX_ROWS)) (sym c.deref-3.ensures.value) (rows_kept c.rows.inside.words (rows r) (posts r) c.args.target c.in_ok-runs.runs.items c.rows.invariant.words (same_posts r) (parted r) c.in_ok-blocks.blocks.items b MAX_ROWS few)

pub returns-clause-ok : goal.returns-clause-ok
returns-clause-ok c =
    let r = (goal.at.returns-clause-ok c).In_ok-runs in
    let b = filled (goal.at.returns-clause-ok c).In_ok-blocks in
    let h : c.in_ok-heads.heads.items ≡ map (run_head c.rows.inside.words) (zip c.in_ok-runs.runs.items (map (λ (b : Cols). b.posts) c.in_ok-blocks.blocks.items)) =
    rw (c.deref-2.ensures.value, c.deref-3.ensures.value) at c.in_ok-heads.ensures in
    rw (← c.rows.view_is, c.from_vec.ensures, c.from_vec-2.ensures) (image_made c.rows.inside.words (rows r) (posts r) c.args.target c.in_ok-runs.runs.items c.rows.invariant.words (same_posts r) (parted r) c.in_ok-blocks.blocks.items b c.in_ok-heads.heads.items c.args.titles c.args.weights h)
