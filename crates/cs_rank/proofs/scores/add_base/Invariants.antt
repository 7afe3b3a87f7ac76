use Rattle.std.proofs.Common.{◌≡◌, ◌≤◌, ◌<◌, ℕ, map, take, length, get_or}
use Rattle.std.specs.Vec.{vec_len, vec_capacity}
use Rattle.cs_base.specs.declared.content.doc.Scored.{Scored}
use Rattle.cs_base.specs.declared.content.doc.Base.TheVariants.{Listed}
use Rattle.cs_rank.specs.DocScores.{with_base, PassedBelow}
use Rattle.cs_rank.proofs.scores.add_base.Given as goal

abbrev pub invariant-loop-h : goal.invariant-loop-h
invariant-loop-h l = record {
  few : vec_len l.scored ≤ l.h-index;
  room : length l.best ≤ vec_capacity l.scored;
  done : l.scored.items ≡ map (with_base (Listed l.listed)) (take l.h-index l.best);
  passed : (k : ℕ) (e : Scored) → l.h-index ≤ k → k < length l.best → PassedBelow l.listed l.place (get_or l.best k e).doc;
}
