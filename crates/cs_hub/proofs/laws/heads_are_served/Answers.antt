use Rattle.cs_hub.proofs.UnreadHeads.{heads-served}
use Rattle.cs_hub.proofs.laws.heads_are_served.Goals as goal

pub returns : goal.returns
returns c = heads-served
