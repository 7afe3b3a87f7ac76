use Rattle.std.proofs.Common.{◌≡◌, ◌++◌, map, drop}
use Rattle.std.specs.Prelude.{filter}
use Rattle.cs_model_excerpts.specs.Excerpts.{is_positive, textual}
use Rattle.cs_model_excerpts.specs.OwnWords.{part_marks}
use Rattle.cs_more.proofs.excerpts.textual_marks.Given as goal

abbrev pub invariant-loop-part : goal.invariant-loop-part
invariant-loop-part l = textual (map (part_marks l.words) (filter is_positive l.parts)) ≡ l.marks.items ++ textual (map (part_marks l.words) (filter is_positive (drop l.part-index l.parts)))
