use Rattle.cs_base.proofs.Places.{NoneBefore}
use Rattle.cs_base.proofs.outside.mem_files.place_of.Given as goal

abbrev pub invariant-loop-i : goal.invariant-loop-i
invariant-loop-i l = NoneBefore l.files l.name l.i
