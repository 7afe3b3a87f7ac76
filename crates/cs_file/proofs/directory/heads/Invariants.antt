use Rattle.std.proofs.Common.{◌≡◌, ◌-◌, ◌*◌, ◌++◌, drop}
use Rattle.cs_model_index.specs.Layout.{entry_size}
use Rattle.cs_file.specs.Opening.{named_in}
use Rattle.cs_file.proofs.directory.heads.Given as goal

abbrev pub invariant-loop-i : goal.invariant-loop-i
invariant-loop-i l = l.heads.items ++ named_in l.header.two l.words (l.count - l.i) (drop (entry_size l.header.two * l.i) l.bytes)
    ≡ named_in l.header.two l.words l.count l.bytes
