use Rattle.std.proofs.Common.{◌<◌, ◌≤◌, length, refl, arith}
use Rattle.std.proofs.lemmas.Bool.Decides.{nat_tests}
use Rattle.cs_base.proofs.Connected.{ended, ended_none}
use Rattle.cs_base.proofs.outside.connections.Connections.end.Goals as goal

pub returns-in-Some : goal.returns-in-Some
returns-in-Some c =
    let found = c.in-Some.ensures.item in
    let within : c.args.conn < length c.args.self.now.list.items = grind (arith, nat_tests, found.0) in
    ended c.args.self.now.list.items c.args.conn c.in-Some.connection.now _ within c.in-Some.ensures.value refl refl refl

pub returns-in_default : goal.returns-in_default
returns-in_default c =
    let found = c.in_default.ensures.item in
    let past : length c.args.self.now.list.items ≤ c.args.conn = grind (arith, nat_tests, found.0) in
    ended_none c.args.self.now.list.items c.args.conn past
