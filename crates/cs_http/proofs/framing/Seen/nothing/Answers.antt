use Rattle.cs_http.proofs.LookLemmas.{seen_nothing}
use Rattle.cs_http.proofs.framing.Seen.nothing.Goals as goal

pub returns-clause-seen : goal.returns-clause-seen
returns-clause-seen c = seen_nothing
