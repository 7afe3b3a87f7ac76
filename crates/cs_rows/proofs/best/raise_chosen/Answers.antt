use Rattle.std.proofs.Common.{◌≡◌, ℕ, ◌<◌, ◌&&◌, ◌∙◌, ◌++◌, ap, cond, subst, Bool, false, List, length, get_or, arith, length-set}
use Rattle.std.specs.Prelude.{max, nat_le, nat_lt, slice_index}
use Rattle.cs_base.specs.declared.content.doc.Post.{Post}
use Rattle.cs_tables.specs.WordCounts.{is_chosen}
use Rattle.cs_rows.specs.BestScores.{HasBestScores}
use Rattle.cs_rows.proofs.BestLemmas.{own_chosen, raised_row, raised_rows}
use Rattle.cs_rows.proofs.best.raise_chosen.Goals as goal

-- ---- all words are of these
pub returns-then-are_within-clause-best : goal.returns-then-are_within-clause-best
returns-then-are_within-clause-best c = λ rows are seen has.
    subst (λ (xs : List Post). HasBestScores (seen ++ xs) c.raise_listed.new.best)
    (own_chosen c.args.words.0 c.args.words.1 c.args.listed.now rows c.args.docs.now c.args.row_words.now c.args.scores.now are
    (c.are_within.ensures c.if-are_within.true))
    (c.raise_listed.ensures.best rows c.args.row_words.now are seen has)

-- ---- row by row
pub loop-i-preserved : goal.loop-i-preserved
loop-i-preserved c =
    let i = c.loop-i.i in
    let docs = c.args.docs.now in
    let words = c.args.row_words.now in
    let scores = c.args.scores.now in
    let best = c.loop-i.best in
    let lo = c.args.words.0 in
    let hi = c.args.words.1 in
    let t : ℕ → ℕ → Bool = λ d w. (nat_le lo w && nat_lt w hi) && get_or c.args.listed.now d false in
    let below = c.requires.known i 0 c.loop-i-test.true in
    let inside : slice_index docs i < length best = omega (arith, below, c.loop-i.invariant.len) in
    let entry : c.entry_of.result ≡ cond (t (slice_index docs i) (slice_index words i)) (slice_index scores i) 0 = c.entry_of.ensures
    ∙ ap (λ b. cond b (slice_index scores i) 0) c.are_chosen-counts.ensures in
    let is : c.max.result ≡ max (slice_index best (slice_index docs i))
    (cond (t (slice_index docs i) (slice_index words i)) (slice_index scores i) 0) = omega (arith, c.max.ensures, entry) in
    record {
      best = λ rows are seen has. raised_row t seen rows docs words scores best i c.max.result are c.loop-i-test.true inside is
          (c.loop-i.invariant.best rows are seen has);
      len = length-set best (slice_index docs i) c.max.result ∙ c.loop-i.invariant.len;
    }

pub returns-clause-best : goal.returns-clause-best
returns-clause-best c = λ rows are seen has.
    raised_rows (is_chosen c.args.words.0 c.args.words.1 c.args.listed.now) seen rows c.args.docs.now c.args.row_words.now c.args.scores.now c.loop-i.best
    c.loop-i.i are (omega (arith, c.loop-i-test.false)) (c.loop-i.invariant.best rows are seen has)
