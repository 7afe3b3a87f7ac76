use Rattle.std.proofs.Common.{◌*◌, map}
use Rattle.std.specs.Prelude.{sum, IfSome}
use Rattle.cs_base.specs.declared.content.scores.TheConstants.{MAX_ROW_SCORE}
use Rattle.cs_model_kept.specs.Due.{met_of_part}
use Rattle.cs_rows.specs.IndexReading.{division, WhereStood}
use Rattle.cs_rows.specs.KnownHits.{AreHitsOfWords}
use Rattle.cs_rows.specs.Steps.{IsBaseOf}
use Rattle.cs_rows.proofs.EvaluationLemmas.{HitsSoFar}
use Rattle.cs_rows.proofs.WalkLemmas.{ListWalk}
use Rattle.cs_rows.proofs.steps.hits_of_parts.Given as goal

abbrev pub invariant-loop-part : goal.invariant-loop-part
invariant-loop-part g l = let v = division (g.I.Source.view l.index).index in record {
  walk : ListWalk g.S.Store.bytes g.S.Store.lent g.S.Store.faults g.S.Store.reads
      (g.I.Source.view l.index).index (met_of_part v) l.parts (sum (map (met_of_part v) l.parts)) l.fn.store l.store l.part-index;
  within : IsBaseOf (g.I.Source.view l.index).docs (MAX_ROW_SCORE * l.part-index) l.hits;
  told : WhereStood (g.S.Store.bytes l.fn.store) (g.I.Source.view l.index).index
      (λ b. IfSome l.known (AreHitsOfWords ((g.I.Source.view l.index).stock b))
      → HitsSoFar ((g.I.Source.view l.index).stock b) l.parts l.part-index l.hits);
}
