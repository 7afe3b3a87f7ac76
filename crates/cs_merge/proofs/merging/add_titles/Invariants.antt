use Rattle.std.proofs.Common.{◌≡◌, ◌++◌, take}
use Rattle.cs_merge.proofs.merging.add_titles.Given as goal

abbrev pub invariant-loop-title : goal.invariant-loop-title
invariant-loop-title l = l.titles.items ≡ l.fn.titles.items ++ take l.title-index l.more
