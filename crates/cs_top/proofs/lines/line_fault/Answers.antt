use Rattle.std.proofs.Common.{sym, arith}
use Rattle.cs_top.proofs.LineTexts.{fault-none, fault-not_utf8}
use Rattle.cs_top.proofs.lines.line_fault.Goals as goal

pub returns-in-Ok : goal.returns-in-Ok
returns-in-Ok c = sym (fault-none c.args.number c.args.line.now (omega arith) c.in-Ok.ensures.cases.1)

pub returns-in-Err : goal.returns-in-Err
returns-in-Err c = sym (fault-not_utf8 c.args.number c.args.line.now (omega arith) c.in-Err.ensures.cases.0)
