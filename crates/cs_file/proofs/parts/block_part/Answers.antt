use Rattle.std.proofs.Common.{sym, subst, ◌∙◌}
use Rattle.cs_file.specs.Parting.{HasMarks}
use Rattle.cs_file.proofs.MarkedNumbers.{whole_is}
use Rattle.cs_file.proofs.parts.block_part.Goals as goal

pub returns-clause-whole : goal.returns-clause-whole
returns-clause-whole c = c.are_marked.ensures
    ∙ whole_is c.args.words.now c.deref.result.now c.args.head.now.lo c.args.head.now.words
    (subst (HasMarks c.args.words.now c.args.head.now.lo c.args.head.now.words) (sym c.deref.ensures.value) c.in_ok-marks.ensures)
