use Rattle.std.proofs.Common.{sym}
use Rattle.cs_build.proofs.LengthLemmas.{code_1, code_2, code_3, code_4, code_5}
use Rattle.cs_build.proofs.heads.code_len.Goals as goal

pub returns-then-n-clause-value : goal.returns-then-n-clause-value
returns-then-n-clause-value c = sym (code_1 c.args.n c.if-n.true)

pub returns-then-n-2-clause-value : goal.returns-then-n-2-clause-value
returns-then-n-2-clause-value c = sym (code_2 c.args.n c.if-n.false c.if-n-2.true)

pub returns-then-n-3-clause-value : goal.returns-then-n-3-clause-value
returns-then-n-3-clause-value c = sym (code_3 c.args.n c.if-n-2.false c.if-n-3.true)

pub returns-then-n-4-clause-value : goal.returns-then-n-4-clause-value
returns-then-n-4-clause-value c = sym (code_4 c.args.n c.if-n-3.false c.if-n-4.true)

pub returns-else-n-4-clause-value : goal.returns-else-n-4-clause-value
returns-else-n-4-clause-value c = sym (code_5 c.args.n c.if-n-4.false)
