use Rattle.std.proofs.Common.{ap, ◌∙◌}
use Rattle.cs_model_kept.specs.KeptList.{is_held}
use Rattle.cs_cache.proofs.FrontLemmas.{held_found}
use Rattle.cs_cache.proofs.answers.Answers.holds.Goals as goal

pub returns : goal.returns
returns c = c.is_some.ensures ∙ held_found c.entry_of_key.result _ c.args.key.now c.entry_of_key.ensures ∙ ap (λ a. is_held a.entries c.args.key.now) c.self.view_is
