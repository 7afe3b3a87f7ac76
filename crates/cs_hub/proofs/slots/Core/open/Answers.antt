use Rattle.std.proofs.Common.{inl, inr, refl, subst}
use Rattle.std.specs.Prelude.{Some}
use Rattle.cs_model_serving.specs.Connections.{Left}
use Rattle.cs_hub.specs.Rounds.{Acted}
use Rattle.cs_hub.proofs.ActLemmas.{greets_kept, greets_lighter, greets_refused}
use Rattle.cs_hub.proofs.slots.Core.open.Goals as goal

pub returns-then-add-clause-greets : goal.returns-then-add-clause-greets
returns-then-add-clause-greets g c =
    let s = g.H.Hub.state c.args.hub.now in
    inl (
      subst (λ (l : Left). Acted c.args.self.now c.add.new.self c.args.conn (Some l) s s) c.new.ensures
          (greets_kept c.args.self.now c.add.new.self c.args.conn c.new.result s (c.add.ensures.added c.if-add.true) c.requires.live),
      refl,
    )

pub returns-then-add-clause-lighter : goal.returns-then-add-clause-lighter
returns-then-add-clause-lighter g c = greets_lighter c.args.self.now c.add.new.self c.args.conn c.new.result (c.add.ensures.added c.if-add.true)

pub returns-clause-greets : goal.returns-clause-greets
returns-clause-greets g c =
    inr (
      greets_refused c.args.self.now c.add.new.self c.args.conn (g.H.Hub.state c.args.hub.now) (g.H.Hub.state c.refuse.new.hub)
          (c.add.ensures.same c.if-add.false) c.requires.empty c.refuse.ensures.state,
      c.refuse.ensures.starved,
    )
