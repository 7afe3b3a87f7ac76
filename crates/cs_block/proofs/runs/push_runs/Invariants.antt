use Rattle.std.proofs.Common.{◌-◌}
use Rattle.cs_block.specs.ColumnsView.{seen_columns}
use Rattle.cs_block.specs.Pass.{HasPushed}
use Rattle.cs_block.proofs.runs.push_runs.Given as goal

abbrev pub invariant-loop-reached : goal.invariant-loop-reached
invariant-loop-reached l = HasPushed l.weights l.head l.docs (seen_columns l.columns) l.reached.rows l.reached.at l.reached.last l.reached.before l.initial.into.posts
    l.into.posts l.into.room

abbrev pub decreases-loop-reached : goal.decreases-loop-reached
decreases-loop-reached l = l.head.rows - l.reached.rows
