use Rattle.std.proofs.Common.{◌≤◌, ◌<◌, arith, rules, subst}
use Rattle.std.proofs.lemmas.Grind.{common_steps}
use Rattle.std.specs.BTreeMap.{Updates, get}
use Rattle.std.specs.Ordering.{nat_cmp}
use Rattle.std.specs.Prelude.{Some}
use Rattle.cs_hub.specs.HubFollowing.{slots_of}
use Rattle.cs_hub.specs.Rounds.{IsAdded}
use Rattle.cs_hub.proofs.ConnectionSlots.{added}
use Rattle.cs_hub.proofs.slots.Core.add.Goals as goal

pub returns-clause-added : goal.returns-clause-added
returns-clause-added c =
    let m = c.self.inside.lines in
    let n = c.self.inside.end in
    let m' = c.insert.new.self in
    let n' = c.max-self-inside.result in
    let put : Updates nat_cmp m m' c.args.conn (Some c.args.line) = search rules in
    let more : n ≤ n' = grind (arith, common_steps, c.max-self-inside.ensures) in
    let within : c.args.conn < n' = grind (arith, common_steps, c.max-self-inside.ensures) in
    λ h. subst (λ xs. IsAdded xs c.args.conn c.args.line (slots_of (get nat_cmp m') n')) c.self.view_is
    (added m m' n n' c.args.conn c.args.line c.self.invariant put more within)
