use Rattle.std.proofs.Common.{sym, ◌∙◌}
use Rattle.cs_docs.proofs.LoneLemmas.{lone-accepted}
use Rattle.cs_docs.proofs.pieces.check_facets.Goals as goal

pub returns-then-is_some-clause-ok : goal.returns-then-is_some-clause-ok
returns-then-is_some-clause-ok c = lone-accepted c.args.line c.args.column.now (sym c.lone_facet.ensures.lone ∙ sym c.if-is_some.ensures)
