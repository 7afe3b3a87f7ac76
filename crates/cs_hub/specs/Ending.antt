-- How serving ends, over every hub.
--
--   EndsSo end conns  what the hub tells at this end, with so much room
use Rattle.std.specs.Prelude.{◌≡◌, ◌≢◌, ◌⊎◌, ℕ, ◌<◌, ◌≤◌, true, false}
use Rattle.std.specs.FinSet as set
use Rattle.cs_base.specs.outside.Causes.{Rose}
use Rattle.cs_base.specs.outside.Hub.{Listening}
use Rattle.cs_hub.specs.declared.serving.ServeEnd.{ServeEnd}
use Rattle.cs_hub.specs.declared.serving.ServeEnd.TheVariants.{Done, HubFailed}

-- Done where all connections were opened and none is live, or Over came and none is; HubFailed where the hub failed, before that, and
-- its count never falls; port and room stay
pub record EndsSo (end : ServeEnd) (conns : ℕ) (s s' : Listening) (before now : ℕ) : Type 0 where
  pub done : end ≡ Done → ((c : ℕ) → set.contains s'.live c ≡ false) × ((s'.opened ≡ conns) ⊎ (s'.over ≡ true))
  pub hub_failed : end ≡ HubFailed → Rose before now
  pub only_before_the_end : end ≡ HubFailed → (s'.over ≡ false) × ((s'.opened < conns) ⊎ ((c : ℕ) × (set.contains s'.live c ≡ true)))
  pub quiet : end ≢ HubFailed → now ≡ before
  pub later : before ≤ now
  pub port : s'.port ≡ s.port
  pub room : s'.conns ≡ conns
