use Rattle.std.proofs.Common.{◌≡◌, ◌+◌, ◌≤◌, length, take}
use Rattle.cs_cols.specs.SpanPlaces.{places_where}
use Rattle.cs_block.specs.ColumnsView.{seen_columns}
use Rattle.cs_block.specs.Sought.{is_sought, row_with}
use Rattle.cs_block.proofs.sought.find_rows.Given as goal

abbrev pub invariant-loop-i : goal.invariant-loop-i
invariant-loop-i l = record {
  found : take l.found l.places ≡ places_where (λ i. is_sought l.lo l.hi l.listed (row_with l.head (seen_columns l.columns) l.docs i)) l.from l.i;
  few : l.found + l.from ≤ l.i;
  len : length l.places ≡ length l.fn.places;
}
