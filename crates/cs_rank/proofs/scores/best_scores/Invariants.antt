use Rattle.std.proofs.Common.{◌≡◌, ◌<◌, ◌≤◌, ◌++◌, length, map, drop, take, get_or, All}
use Rattle.cs_base.specs.declared.content.doc.Scored.{Scored}
use Rattle.cs_base.specs.declared.content.scores.TheConstants.{MAX_ROW_SCORE}
use Rattle.cs_rank.specs.Groups.{group, groups, scored_row}
use Rattle.cs_rank.proofs.scores.best_scores.Given as goal

abbrev pub invariant-loop-i : goal.invariant-loop-i
invariant-loop-i l = record {
  whole : groups (map scored_row l.rows.posts) ≡ take l.last l.best.items ++ group l.current (drop l.i (map scored_row l.rows.posts));
  held : (d : Scored) → get_or l.best.items l.last d ≡ l.current;
  small : All (λ h. h.score ≤ MAX_ROW_SCORE) l.best.items;
  now : l.current.score ≤ MAX_ROW_SCORE;
  near : l.last < l.i;
  within : l.last < length l.docs;
  even : length l.best.items ≡ length l.docs;
}
