use Rattle.std.proofs.Common.{◌∙◌, ap, slice_set}
use Rattle.std.specs.Prelude.{None}
use Rattle.cs_hub.proofs.ConnectionSlots.{removed}
use Rattle.cs_hub.proofs.slots.Core.remove.Goals as goal

pub returns : goal.returns
returns c =
    removed c.self.inside.lines c.remove.new.self c.self.inside.end c.args.conn c.self.invariant c.remove.ensures.updates
    ∙ ap (λ xs. slice_set xs c.args.conn None) c.self.view_is
