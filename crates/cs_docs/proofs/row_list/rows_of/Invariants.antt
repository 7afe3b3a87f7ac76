use Rattle.std.proofs.Common.{◌≡◌, ◌≤◌, ◌++◌, length, drop}
use Rattle.std.specs.List.{All}
use Rattle.cs_base.specs.declared.content.limits.TheConstants.{MAX_ROWS}
use Rattle.cs_docs.specs.Listing.{listed_rows, HasUtf8Word}
use Rattle.cs_docs.proofs.row_list.rows_of.Given as goal

abbrev pub invariant-loop-number : goal.invariant-loop-number
invariant-loop-number l = record {
  told : listed_rows l.weights 0 l.docs ≡ l.rows.items ++ listed_rows l.weights l.number (drop l.number l.docs);
  few : length l.rows.items ≤ MAX_ROWS;
  text : All HasUtf8Word l.rows.items;
}
