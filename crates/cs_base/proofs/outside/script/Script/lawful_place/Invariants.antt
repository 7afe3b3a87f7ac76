use Rattle.std.proofs.Common.{◌≡◌}
use Rattle.cs_base.specs.outside.ScriptedHub.{playable}
use Rattle.cs_base.specs.outside.ScriptParts.{connected, hub_of, left_from, left_in}
use Rattle.cs_base.proofs.outside.script.Script.lawful_place.Given as goal

abbrev pub invariant-loop-place : goal.invariant-loop-place
invariant-loop-place l = playable (hub_of l.conns (connected l.connections)) (left_from l.self l.place) ≡ playable (hub_of l.conns (connected l.connections)) (left_in l.self)
