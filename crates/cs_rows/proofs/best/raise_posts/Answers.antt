use Rattle.std.proofs.Common.{◌≡◌, ◌<◌, ◌∙◌, ◌++◌, ap, cond, subst, Bool, length, get_or, arith, length-set}
use Rattle.std.specs.Prelude.{filter, max, slice_index}
use Rattle.std.proofs.lemmas.List.{get_or_default, take_all}
use Rattle.cs_base.specs.declared.content.doc.Post.{Post}
use Rattle.cs_tables.specs.WordCounts.{is_chosen}
use Rattle.cs_rows.specs.BestScores.{HasBestScores}
use Rattle.cs_rows.proofs.BestLemmas.{raised_where}
use Rattle.cs_rows.proofs.best.raise_posts.Goals as goal

pub loop-row-preserved : goal.loop-row-preserved
loop-row-preserved c =
    let i = c.loop-row.row-index in
    let rows = c.args.rows.now in
    let best = c.loop-row.best in
    let none : Post = record { doc = 0; word = 0; pos = 0; score = 0 } in
    let p : Post = get_or rows i none in
    let t : Post → Bool = is_chosen c.args.words.0 c.args.words.1 c.args.listed.now in
    let below = c.requires.known i none c.loop-row-test.true in
    let inside : p.doc < length best = omega (arith, below, c.loop-row.invariant.len) in
    let entry : c.entry_of.result ≡ cond (t p) p.score 0 = c.entry_of.ensures ∙ ap (λ b. cond b p.score 0) c.are_chosen-counts.ensures in
    let is : c.max.result ≡ max (slice_index best p.doc) (cond (t p) p.score 0) = omega (arith, c.max.ensures, entry) in
    record {
      best = λ seen has. raised_where t seen rows best i p c.max.result c.loop-row-test.true
          (get_or_default rows i none p c.loop-row-test.true) inside is (c.loop-row.invariant.best seen has);
      len = length-set best p.doc c.max.result ∙ c.loop-row.invariant.len;
    }

pub returns-clause-best : goal.returns-clause-best
returns-clause-best c = λ seen has.
    let t : Post → Bool = is_chosen c.args.words.0 c.args.words.1 c.args.listed.now in
    subst (λ rs. HasBestScores (seen ++ filter t rs) c.loop-row.best) (take_all c.loop-row.row-index c.args.rows.now (omega (arith, c.loop-row-test.false)))
    (c.loop-row.invariant.best seen has)
