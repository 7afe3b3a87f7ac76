use Rattle.std.proofs.Common.{◌<◌, ◌≤◌, [], length, arith, ap, ◌∙◌, sym}
use Rattle.std.specs.Option.{option_map, unwrap_or}
use Rattle.std.proofs.lemmas.Bool.Decides.{nat_tests}
use Rattle.cs_base.specs.outside.ScriptParts.{sent_of}
use Rattle.cs_base.proofs.Connected.{sent_is, nothing_sent}
use Rattle.cs_base.proofs.outside.connections.Connections.sent.Goals as goal

pub returns-in-Some-sent : goal.returns-in-Some-sent
returns-in-Some-sent c =
    let found = rw c.deref.ensures.value at c.in-Some.ensures.lookup in
    let within : c.args.conn < length c.args.self.now.list.items = grind (arith, nat_tests, found.0) in
    c.as_slice.ensures.value ∙ sym (ap (λ o. unwrap_or (option_map (λ v. v.items) o) []) c.in-Some-sent.is) ∙ ap (λ x. unwrap_or (sent_of x) []) found.1
    ∙ sent_is c.args.self.now.list.items c.args.conn c.in-Some.connection.now within

pub returns-in-None-sent : goal.returns-in-None-sent
returns-in-None-sent c =
    let found = rw c.deref.ensures.value at c.in-Some.ensures.lookup in
    let within : c.args.conn < length c.args.self.now.list.items = grind (arith, nat_tests, found.0) in
    sym (ap (λ o. unwrap_or (option_map (λ v. v.items) o) []) c.in-None-sent.is) ∙ ap (λ x. unwrap_or (sent_of x) []) found.1
    ∙ sent_is c.args.self.now.list.items c.args.conn c.in-Some.connection.now within

pub returns-in-None : goal.returns-in-None
returns-in-None c =
    let found = rw c.deref.ensures.value at c.in-None.ensures.lookup in
    let past : length c.args.self.now.list.items ≤ c.args.conn = grind (arith, nat_tests, found.0) in
    nothing_sent c.args.self.now.list.items c.args.conn past
