use Rattle.std.proofs.Common.{◌+◌, ◌≤◌, ℕ, Bool, length, take, arith}
use Rattle.std.proofs.lemmas.Bool.{and_parts}
use Rattle.cs_cols.proofs.FoundPlaces.{places_within}
use Rattle.cs_block.specs.ColumnsView.{seen_columns}
use Rattle.cs_block.specs.Sought.{passes, row_with}
use Rattle.cs_block.proofs.SoughtLemmas.{rows_on}
use Rattle.cs_block.proofs.sought.add_sought.Goals as goal

pub add_rows-requires-clause-known : goal.add_rows-requires-clause-known
add_rows-requires-clause-known c =
    let row = row_with c.args.head.now (seen_columns c.args.columns.now) c.args.docs.now in
    let t : ℕ → Bool = λ i. passes c.args.wanted.now.whole c.args.wanted.now.words.0 c.args.wanted.now.words.1 c.args.wanted.now.listed.now (row i) in
    let places = take c.find_rows-found.result c.find_rows-found.new.places in
    let from = c.loop-from.from in
    let docs = length c.args.docs.now in
    let within : from + c.min.result ≤ docs = omega (arith, c.min.ensures, c.loop-from-test.true) in
    places_within t from (from + c.min.result) docs places (omega arith) within c.find_rows-found.ensures.found

pub loop-from-preserved : goal.loop-from-preserved
loop-from-preserved c =
    let inv = c.loop-from.invariant in
    let t = passes c.args.wanted.now.whole c.args.wanted.now.words.0 c.args.wanted.now.words.1 c.args.wanted.now.listed.now in
    let row = row_with c.args.head.now (seen_columns c.args.columns.now) c.args.docs.now in
    let places = take c.find_rows-found.result c.find_rows-found.new.places in
    let from = c.loop-from.from in
    let to = from + c.min.result in
    record {
      added = rows_on t row c.args.into.now.items c.loop-from.into.items c.add_rows.new.into.items from to places (omega arith) c.find_rows-found.ensures.found
          c.in_ok-kept.ensures.added inv.added;
      kept = λ e all.
          let both = and_parts c.loop-from.kept c.in_ok-kept.field-0 e in
          c.in_ok-kept.ensures.kept both.1 (inv.kept both.0 all);
      within = omega (arith, c.min.ensures, c.loop-from-test.true);
    }
