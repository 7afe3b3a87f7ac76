use Rattle.std.proofs.Common.{ap, refl, rules}
use Rattle.cs_top.specs.LiveAnswering.{live_standing}
use Rattle.cs_top.proofs.LiveOverLemmas.{comes_leaves, comes_so, standing_so}
use Rattle.cs_top.proofs.live.asking.outcome_now.Goals as goal

pub returns-clause-comes : goal.returns-clause-comes
returns-clause-comes g c =
    let then = c.outcome_of.new.answerer in
    comes_so c.args.params.now c.outcome_of.result (live_standing c.args.live.now c.args.index.name.now (g.F.Files.held c.args.files.now))
    (live_standing then.live.now then.index.name.now (g.F.Files.held then.files.now)) _
    (standing_so _ _ _ _ _ _ (search rules) (ap (λ l. l.1.1.0) c.outcome_of.ensures.stays.lent) (search rules)) c.outcome_of.ensures.comes

pub returns-clause-right : goal.returns-clause-right
returns-clause-right g c b s over = c.outcome_of.ensures.right s.corpus (b, s, over, refl)

pub returns-clause-live : goal.returns-clause-live
returns-clause-live g c b s over = (comes_leaves c.args.params.now c.outcome_of.result _ _ (returns-clause-comes g c)).over b s over
