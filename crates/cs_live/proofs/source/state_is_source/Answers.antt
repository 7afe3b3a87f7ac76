use Rattle.std.proofs.Common.{subst}
use Rattle.cs_live.specs.States.{IsState}
use Rattle.cs_live.proofs.StateLemmas.{state_source}
use Rattle.cs_live.proofs.source.state_is_source.Goals as goal

pub returns : goal.returns
returns c = state_source c.args.state.now (subst IsState c.state.view_is c.state.invariant)
