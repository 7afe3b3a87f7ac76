use Rattle.std.proofs.Common.{subst}
use Rattle.cs_live.specs.Lives.{IsLiveKept}
use Rattle.cs_live.proofs.ChangedLemmas.{state_is}
use Rattle.cs_live.proofs.live.Live.changes.Goals as goal

pub returns-clause-state : goal.returns-clause-state
returns-clause-state c b cs s stands behind changed =
    let kept : IsLiveKept c.args.self.now = subst IsLiveKept c.self.view_is c.self.invariant in
    state_is c.args.self.now kept.live.state b stands cs behind s changed
