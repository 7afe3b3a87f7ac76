use Rattle.std.proofs.Common.{take}
use Rattle.std.specs.Prelude.{All}
use Rattle.cs_engine.specs.Asking.{HasNoWord}
use Rattle.cs_engine.proofs.show.are_bare.Given as goal

abbrev pub invariant-loop-name : goal.invariant-loop-name
invariant-loop-name g l = All (HasNoWord (g.I.Source.view l.index).words) (take l.name-index l.names)
