use Rattle.std.proofs.Common.{◌≡◌, ℕ, ◌<◌, false, [], get_or}
use Rattle.std.specs.Prelude.{not}
use Rattle.std.specs.Str.{is_utf8}
use Rattle.cs_file.specs.Opening.{titles_cut}
use Rattle.cs_file.proofs.titles.bad_title_in.Given as goal

abbrev pub invariant-loop-i : goal.invariant-loop-i
invariant-loop-i l = (k : ℕ) → k < l.i → not (is_utf8 (get_or (titles_cut l.offsets l.bytes) k [])) ≡ false
