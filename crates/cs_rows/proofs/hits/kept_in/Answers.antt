use Rattle.std.proofs.Common.{◌∙◌, ap, map, sym, subst}
use Rattle.cs_base.specs.declared.content.doc.Scored.{Scored}
use Rattle.cs_base.specs.content.Orders.{AreDocs}
use Rattle.cs_rank.specs.DocScores.{IsBase}
use Rattle.cs_rows.proofs.FoundLemmas.{docs_rise}
use Rattle.cs_rows.proofs.hits.kept_in.Goals as goal

pub keep_docs-requires-clause-docs_sorted : goal.keep_docs-requires-clause-docs_sorted
keep_docs-requires-clause-docs_sorted c =
    subst AreDocs (sym (c.deref.ensures.value ∙ c.in_ok-numbers-in-Listed.ensures ∙ ap (map (λ (h : Scored). h.doc)) c.as_slice.ensures))
    (docs_rise c.in-Listed.hits (subst IsBase c.in-Listed.is c.requires.base).0)
