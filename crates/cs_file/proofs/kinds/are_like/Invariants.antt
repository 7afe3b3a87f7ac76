use Rattle.std.proofs.Common.{◌≡◌, true, take}
use Rattle.std.specs.List.{list_all}
use Rattle.cs_model_index.specs.Partitions.{is_alike}
use Rattle.cs_file.proofs.kinds.are_like.Given as goal

abbrev pub invariant-loop-word : goal.invariant-loop-word
invariant-loop-word l = list_all (is_alike l.first) (take l.word-index l.run) ≡ true
