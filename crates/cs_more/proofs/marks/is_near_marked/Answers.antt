use Rattle.std.proofs.Common.{◌+◌, ◌∙◌, sym}
use Rattle.cs_model_excerpts.specs.OwnWords.{is_neighbour}
use Rattle.cs_more.proofs.NearMarks.{near_from, near_on}
use Rattle.cs_more.proofs.marks.is_near_marked.Goals as goal

pub loop-i-init : goal.loop-i-init
loop-i-init c = near_from c.args.kept.now c.args.place c.saturating_sub-low.result c.saturating_sub-low.ensures

pub loop-i-preserved : goal.loop-i-preserved
loop-i-preserved c = near_on (is_neighbour c.args.kept.now c.args.place) _ c.loop-i.i (c.saturating_sub-low.result + 17) c.loop-i-test.true (sym c.is_neighbour.ensures ∙ c.if-is_neighbour.false) c.loop-i.invariant
