use Rattle.std.proofs.Common.{sym, subst}
use Rattle.cs_build.specs.WordRuns.{AreCountsBy}
use Rattle.cs_model_index.specs.Images.{count_in}
use Rattle.cs_build.proofs.PartLemmas.{agree}
use Rattle.cs_build.proofs.building.runs_of.Goals as goal

pub returns : goal.returns
returns c = λ rows ns.
    c.in_ok-runs.ensures (count_in rows) (subst (λ counts. AreCountsBy c.args.words.now counts (count_in rows)) (sym c.deref.ensures.value)
    (agree c.args.words.now c.len.ensures.sorted rows c.args.numbers.now c.in_ok-counts.counts.items c.len.result c.len.ensures.value ns c.in_ok-counts.ensures))
