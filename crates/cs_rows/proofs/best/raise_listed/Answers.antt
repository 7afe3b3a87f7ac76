use Rattle.std.proofs.Common.{◌≡◌, ℕ, ◌<◌, ◌∙◌, cond, Bool, false, length, get_or, arith, length-set}
use Rattle.std.specs.Prelude.{max, slice_index}
use Rattle.cs_tables.specs.WordCounts.{is_of_listed}
use Rattle.cs_rows.proofs.BestLemmas.{raised_row, raised_rows}
use Rattle.cs_rows.proofs.best.raise_listed.Goals as goal

pub loop-i-preserved : goal.loop-i-preserved
loop-i-preserved c =
    let i = c.loop-i.i in
    let docs = c.args.docs.now in
    let scores = c.args.scores.now in
    let best = c.loop-i.best in
    let doc = slice_index docs i in
    let t : ℕ → ℕ → Bool = λ d w. get_or c.args.listed.now d false in
    let below = c.requires.known i 0 c.loop-i-test.true in
    let inside : doc < length best = omega (arith, below, c.loop-i.invariant.len) in
    let is : c.max.result ≡ max (slice_index best doc) (cond (get_or c.args.listed.now doc false) (slice_index scores i) 0) =
    omega (arith, c.max.ensures, c.entry_of.ensures) in
    record {
      best = λ rows words are seen has. raised_row t seen rows docs words scores best i c.max.result are c.loop-i-test.true inside is
          (c.loop-i.invariant.best rows words are seen has);
      len = length-set best doc c.max.result ∙ c.loop-i.invariant.len;
    }

pub returns-clause-best : goal.returns-clause-best
returns-clause-best c = λ rows words are seen has.
    raised_rows (is_of_listed c.args.listed.now) seen rows c.args.docs.now words c.args.scores.now c.loop-i.best c.loop-i.i are
    (omega (arith, c.loop-i-test.false)) (c.loop-i.invariant.best rows words are seen has)
