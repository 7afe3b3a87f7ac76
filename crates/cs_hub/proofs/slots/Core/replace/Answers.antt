use Rattle.std.proofs.Common.{◌≡◌, ◌∙◌, ap, rules, slice_set, sym, subst, true}
use Rattle.std.specs.BTreeMap.{get}
use Rattle.std.specs.Ordering.{nat_cmp}
use Rattle.std.specs.Prelude.{Some, is_some}
use Rattle.cs_hub.specs.HubFollowing.{left_at}
use Rattle.cs_hub.proofs.ConnectionSlots.{kept_at, replaced}
use Rattle.cs_hub.proofs.slots.Core.replace.Goals as goal

pub unreachable-requires : goal.unreachable-requires
unreachable-requires c =
    let m = c.self.inside.lines in
    let held : is_some (get nat_cmp m c.args.conn) ≡ true =
    sym (ap is_some (kept_at m c.self.inside.end c.args.self.now c.args.conn c.self.invariant c.self.view_is)) ∙ c.requires.held in
    search (rules, held)

pub returns-clause-value : goal.returns-clause-value
returns-clause-value c =
    kept_at c.self.inside.lines c.self.inside.end c.args.self.now c.args.conn c.self.invariant c.self.view_is ∙ (let e : get nat_cmp c.self.inside.lines c.args.conn ≡ Some c.in-Ok-Some.kept = search rules in e)

pub returns-clause-replaced : goal.returns-clause-replaced
returns-clause-replaced c =
    replaced c.self.inside.lines c.insert.new.self c.self.inside.end c.args.conn c.args.line c.self.invariant c.in-Ok-Some.ensures.updates
    (subst (λ xs. is_some (left_at xs c.args.conn) ≡ true) (sym c.self.view_is) c.requires.held)
    ∙ ap (λ xs. slice_set xs c.args.conn (Some c.args.line)) c.self.view_is
