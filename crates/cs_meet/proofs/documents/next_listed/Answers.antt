use Rattle.std.proofs.Common.{arith, length, ◌<◌}
use Rattle.cs_meet.proofs.Listed.{none_listed, none_listed_past}
use Rattle.cs_meet.proofs.documents.next_listed.Goals as goal

pub returns-then-i-docs-clause-none : goal.returns-then-i-docs-clause-none
returns-then-i-docs-clause-none c =
    let over = c.pass_over.ensures in
    let within : c.args.i < length c.args.docs.now = omega arith in
    none_listed c.args.docs.now c.args.rows.now.posts c.args.i c.args.from c.requires.ahead c.requires.docs_sorted within c.pass_over.result over.within over.passed

pub returns-else-i-docs-clause-none : goal.returns-else-i-docs-clause-none
returns-else-i-docs-clause-none c k e from below =
    none_listed_past c.args.docs.now c.args.rows.now.posts c.args.i c.args.from c.requires.ahead (omega arith) k e from (omega arith)
