use Rattle.std.proofs.Common.{true, ◌<◌, ◌≡◌, ◌∙◌, ap, length, rules, slice_set}
use Rattle.std.specs.BTreeMap.{Updates, get}
use Rattle.std.specs.Ordering.{nat_cmp}
use Rattle.std.specs.Prelude.{None, is_some}
use Rattle.cs_hub.proofs.ConnectionSlots.{kept_at, none_in, removed}
use Rattle.cs_hub.proofs.slots.Core.pop.Goals as goal

pub returns-in_default-clause-none : goal.returns-in_default-clause-none
returns-in_default-clause-none c = λ d.
    let m = c.self.inside.lines in
    let none : (0 < length m.entries → ⊥) = λ p. search (rules, p, c.in_default.ensures.variant) in
    kept_at m c.self.inside.end c.args.self.now d c.self.invariant c.self.view_is ∙ none_in m.entries none d

pub returns-clause-some : goal.returns-clause-some
returns-clause-some c =
    let m = c.self.inside.lines in
    let n = c.self.inside.end in
    let conn = c.in-Some.conn in
    let put : Updates nat_cmp m c.pop_first.new.self conn None = search rules in
    let held : is_some (get nat_cmp m conn) ≡ true = search rules in (
      ap is_some (kept_at m n c.args.self.now conn c.self.invariant c.self.view_is) ∙ held,
      removed m c.pop_first.new.self n conn c.self.invariant put ∙ ap (λ xs. slice_set xs conn None) c.self.view_is,
    )
