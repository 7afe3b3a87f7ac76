use Rattle.std.proofs.Common.{◌≡◌, drop}
use Rattle.std.specs.Prelude.{fold}
use Rattle.cs_model_excerpts.specs.OwnWords.{chain_marks, led_marks}
use Rattle.cs_more.proofs.marks.chain_marks.Given as goal

abbrev pub invariant-loop-linked : goal.invariant-loop-linked
invariant-loop-linked l = chain_marks l.words l.chain ≡ fold (led_marks l.words) l.kept.items (drop l.linked-index l.linked-items)
