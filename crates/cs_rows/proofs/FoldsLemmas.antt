-- What a query's levels mean, one step down.
--
--   linked_rows-is, part_rows-is      the rows of these, by those of what they hold
use Rattle.std.proofs.Common.{◌≡◌, List, map}
use Rattle.cs_base.specs.declared.content.doc.Row.{Row}
use Rattle.cs_base.specs.declared.content.query.Atom.TheFolds.{fold_out-Linked, fold_out-Part}
use Rattle.cs_base.specs.declared.content.query.Linked.{Linked, out-Linked}
use Rattle.cs_base.specs.declared.content.query.Part.{Part, out-Part}
use Rattle.cs_model.specs.Answers.{PartRows, LinkedRows, atom_rows, chain_rows, linked_rows, part_rows, query_parts, rows_of_atom, rows_of_linked}
use Rattle.cs_model.specs.Answers.{rows_of_chain, rows_of_part, union_of}
use Rattle.cs_model.specs.Corpus.{Corpus}

module _ (k : Corpus) where
  pub linked_rows-is : (l : Linked) → rows_of_linked k l ≡ record { link = (out-Linked l).link; rows = rows_of_atom k (out-Linked l).atom }
  linked_rows-is l = fold_out-Linked (List Row) (List Row) LinkedRows PartRows (List PartRows) (atom_rows k) chain_rows linked_rows part_rows query_parts l

  pub part_rows-is : (p : Part) → rows_of_part k p ≡ record { excluded = (out-Part p).excluded; rows = union_of (map (rows_of_chain k) (out-Part p).chains) }
  part_rows-is p = fold_out-Part (List Row) (List Row) LinkedRows PartRows (List PartRows) (atom_rows k) chain_rows linked_rows part_rows query_parts p
