use Rattle.std.proofs.Common.{◌∙◌}
use Rattle.cs_more.proofs.NearMarks.{no_marks_are}
use Rattle.cs_more.proofs.marks.no_marks.Goals as goal

pub returns : goal.returns
returns c = record { ok = c.in_ok-marks.ensures.items_if_clones_equal (λ y e. e) ∙ no_marks_are c.args.words.now }
