use Rattle.std.proofs.Common.{◌∙◌}
use Rattle.cs_http.specs.Looking.{open_line}
use Rattle.cs_http.proofs.LookLemmas.{old_of, put_seen}
use Rattle.cs_http.proofs.framing.Seen.put.Goals as goal

pub returns-clause-found : goal.returns-clause-found
returns-clause-found c = λ before is.
    let old = old_of before c.args.self is in
    c.within_limit.ensures.found ∙ put_seen before c.args.self c.args.byte c.with.result old c.requires.other (c.with.ensures (open_line before) old.tail)
