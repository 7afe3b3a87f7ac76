use Rattle.std.proofs.Common.{◌≡◌, map, take}
use Rattle.cs_base.specs.declared.content.doc.Row.{Row}
use Rattle.cs_vocab.specs.Gathering.{IsGathering, gathered}
use Rattle.cs_live.proofs.settling.numbered_rows.Given as goal

abbrev pub invariant-loop-row : goal.invariant-loop-row
invariant-loop-row l = record {
  words : gathered l.gathering ≡ map (λ (r : Row). r.word) (take l.row-index l.rows);
  is : IsGathering l.gathering;
}
