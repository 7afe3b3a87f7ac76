use Rattle.std.proofs.Common.{◌∙◌, ap, rules}
use Rattle.std.proofs.lemmas.Fn.{filter_same}
use Rattle.cs_system.specs.Living.{live_of}
use Rattle.cs_system.proofs.LivingLemmas.{forgotten, still_below}
use Rattle.cs_system.proofs.living.forget.Goals as goal

pub returns-clause-live : goal.returns-clause-live
returns-clause-live c = ap live_of (filter_same _ _ _ (λ x b f' k. search rules) _ _ c.retain.ensures.filtered) ∙ forgotten _ _

pub returns-clause-below : goal.returns-clause-below
returns-clause-below c n = still_below c.args.live.now.items c.retain.new.self.items c.args.number n (ap live_of (filter_same _ _ _ (λ x b f' k. search rules) _ _ c.retain.ensures.filtered) ∙ forgotten _ _)
