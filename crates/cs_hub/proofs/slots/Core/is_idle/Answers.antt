use Rattle.std.proofs.Common.{arith, ◌≡◌, ◌∙◌, ap, length, rules}
use Rattle.std.specs.Prelude.{is_some}
use Rattle.cs_hub.proofs.ConnectionSlots.{kept_at, none_in, some_in}
use Rattle.cs_hub.proofs.slots.Core.is_idle.Goals as goal

pub returns-clause-idle : goal.returns-clause-idle
returns-clause-idle c = λ h d.
    let m = c.self.inside.lines in
    let none : length m.entries ≡ 0 = search (rules, h) in
    kept_at m c.self.inside.end c.args.self.now d c.self.invariant c.self.view_is ∙ none_in m.entries (λ p. omega (arith, none, p)) d

pub returns-clause-busy : goal.returns-clause-busy
returns-clause-busy c = λ h.
    let m = c.self.inside.lines in
    let some : (length m.entries ≡ 0 → ⊥) = search (rules, h) in
    let found = some_in m.entries some in
    (found.0, ap is_some (kept_at m c.self.inside.end c.args.self.now found.0 c.self.invariant c.self.view_is) ∙ found.1)
