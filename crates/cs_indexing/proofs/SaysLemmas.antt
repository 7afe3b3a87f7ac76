-- A line that is put on standard error.
use Rattle.std.proofs.Common.{ℕ, List}
use Rattle.std.specs.Prelude.{Result, Ok, Err, OnOk, OnErr}
use Rattle.cs_base.specs.outside.Causes.{Counted, Rose}
use Rattle.cs_base.specs.outside.Outside.{Grew, GrewByPrefix}
use Rattle.cs_base.proofs.GrewLemmas.{grew_begun}
use Rattle.cs_indexing.specs.CommandLine.{SaysLine}
use Rattle.cs_indexing.specs.Met.{Wrote}

-- by one call
pub says : {T E : Type 0} (r : Result T E) (w : Wrote) (line : List ℕ) → OnOk r (Grew w.old line w.new) → OnErr r (GrewByPrefix w.old line w.new) → Counted w.before w.now r → SaysLine w line
says (Ok x) w line ok err counted = record { whole = λ _. ok; some = grew_begun w.old line w.new ok }
says (Err e) w line ok err counted = let rose : Rose w.before w.now = counted.failed in record { whole = λ low. absurd (low rose); some = err }
