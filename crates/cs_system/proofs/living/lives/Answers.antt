use Rattle.std.proofs.Common.{sym, ◌∙◌}
use Rattle.std.specs.FinSet as set
use Rattle.cs_system.proofs.living.lives.Goals as goal

pub returns : goal.returns
returns c = c.is_among.ensures ∙ sym (set.contains-from_list_nat c.args.live.now.items c.args.number)
