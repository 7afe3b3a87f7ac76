use Rattle.std.proofs.lemmas.Result.{on_ok_weaker}
use Rattle.cs_live.proofs.FetchedLemmas.{fetched_ranged, fetched_sought, fetched_stood}
use Rattle.cs_live.proofs.source.StateSource.fetch_sought.Goals as goal

pub returns-clause-ranged : goal.returns-clause-ranged
returns-clause-ranged g c = on_ok_weaker c.fetch_now.result (fetched_ranged c.args.self.now c.fetch_now.ensures.is) c.fetch_now.ensures.fetched

pub returns-clause-sought : goal.returns-clause-sought
returns-clause-sought g c = on_ok_weaker c.fetch_now.result (fetched_sought c.args.self.now c.fetch_now.ensures.is) c.fetch_now.ensures.fetched

pub returns-clause-stood : goal.returns-clause-stood
returns-clause-stood g c b tells stands =
    on_ok_weaker c.fetch_now.result (fetched_stood c.args.self.now c.fetch_now.ensures.is b tells stands c.requires.in_range) c.fetch_now.ensures.fetched
