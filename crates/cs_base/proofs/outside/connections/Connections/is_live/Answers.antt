use Rattle.std.proofs.Common.{◌<◌, ◌≤◌, length, arith, ap, ◌∙◌, sym}
use Rattle.std.proofs.lemmas.Bool.Decides.{nat_tests}
use Rattle.cs_base.proofs.Connected.{is_live, isnt_live}
use Rattle.cs_base.proofs.outside.connections.Connections.is_live.Goals as goal

pub returns-in-Some : goal.returns-in-Some
returns-in-Some c =
    let found = rw c.deref.ensures.value at c.in-Some.ensures.lookup in
    let within : c.args.conn < length c.args.self.now.list.items = grind (arith, nat_tests, found.0) in
    ap (λ x. x.live) found.1 ∙ is_live c.args.self.now.list.items c.args.conn c.in-Some.connection.now within

pub returns-in-None : goal.returns-in-None
returns-in-None c =
    let found = rw c.deref.ensures.value at c.in-None.ensures.lookup in
    let past : length c.args.self.now.list.items ≤ c.args.conn = grind (arith, nat_tests, found.0) in
    sym (isnt_live c.args.self.now.list.items c.args.conn past)
