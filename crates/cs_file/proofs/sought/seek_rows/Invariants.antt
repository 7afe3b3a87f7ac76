use Rattle.std.proofs.Common.{◌≡◌, ◌++◌, take}
use Rattle.std.specs.Prelude.{filter}
use Rattle.cs_block.specs.Sought.{is_sought}
use Rattle.cs_file.proofs.sought.seek_rows.Given as goal

abbrev pub invariant-loop-i : goal.invariant-loop-i
invariant-loop-i l = l.posts.items ≡ l.fn.posts.items ++ filter (is_sought l.words.0 l.words.1 l.listed) (take l.i l.rows.posts)
