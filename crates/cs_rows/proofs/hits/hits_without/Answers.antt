use Rattle.std.proofs.Common.{◌∙◌, sym, subst}
use Rattle.cs_base.specs.content.Orders.{AreByDoc}
use Rattle.cs_rows.proofs.PresentLemmas.{docs_ascend, every_ascends}
use Rattle.cs_rows.proofs.hits.hits_without.Goals as goal

pub drop_docs-requires-clause-base_sorted : goal.drop_docs-requires-clause-base_sorted
drop_docs-requires-clause-base_sorted g c =
    subst AreByDoc (sym (c.deref.ensures.value ∙ c.in_ok-all-in-All.ensures)) (every_ascends _ (docs_ascend (g.I.Source.view c.args.index.now).present))
