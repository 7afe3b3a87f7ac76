use Rattle.std.proofs.Common.{◌+◌, ◌∙◌, arith, take}
use Rattle.cs_cols.proofs.Columns.{post}
use Rattle.cs_tables.proofs.PlacesLemmas.{counted_all, counted_on, listed_there}
use Rattle.cs_tables.proofs.WordCountsLemmas.{as_many}
use Rattle.cs_tables.proofs.word_counts.see_rows.Goals as goal

pub see_found-requires-clause-seen : goal.see_found-requires-clause-seen
see_found-requires-clause-seen c =
    let l = c.loop-from in
    let found = c.find_listed-found in
    record {
      sized = omega (arith, l.invariant.sized, c.requires.sized);
      even = c.requires.even;
      known = listed_there c.args.low c.args.high c.args.rows l.from (l.from + c.min.result) (take found.result found.new.places) (omega arith)
          (omega (arith, c.min.ensures, c.loop-from-test.true)) found.ensures.found;
    }

pub loop-from-preserved : goal.loop-from-preserved
loop-from-preserved c =
    let l = c.loop-from in
    let found = c.find_listed-found in
    record {
      counted = λ posts has.
          counted_on c.args.low c.args.high c.args.rows posts has (post 0 0 0 0) l.from (l.from + c.min.result) (take found.result found.new.places)
          c.args.marks.now l.marks c.see_found.new.marks (omega arith) (omega (arith, c.min.ensures, c.loop-from-test.true)) found.ensures.found
          c.see_found.ensures (l.invariant.counted posts has);
      sized = c.see_found.ensures.sized ∙ l.invariant.sized;
      within = omega (arith, c.min.ensures, c.loop-from-test.true);
    }

pub returns : goal.returns
returns c = record {
  counted = λ posts has.
      counted_all c.args.low c.args.high c.args.rows.listed.now posts c.loop-from.from c.args.marks.now c.loop-from.marks
      (omega (arith, c.loop-from-test.false, as_many c.args.low c.args.high c.args.rows posts has)) (c.loop-from.invariant.counted posts has);
  sized = c.loop-from.invariant.sized;
}
