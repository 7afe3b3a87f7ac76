use Rattle.std.proofs.Common.{◌∙◌, ap, map, sym, subst, List}
use Rattle.cs_base.specs.content.Orders.{docs_of}
use Rattle.cs_base.specs.declared.content.doc.Base.TheVariants as base
use Rattle.cs_base.specs.declared.content.doc.Scored.{Scored}
use Rattle.cs_rank.specs.DocScores.{IsBase}
use Rattle.cs_rows.specs.Steps.{docs_after, with_no_score}
use Rattle.cs_rows.specs.Stocked.{present_docs}
use Rattle.cs_rows.proofs.PartSteps.{left_base, unscored_base, unscored_docs}
use Rattle.cs_rows.proofs.PresentLemmas.{docs_ascend}
use Rattle.cs_rows.proofs.entries.agreeing.Goals as goal

pub returns-then-excluded-clause-base : goal.returns-then-excluded-clause-base
returns-then-excluded-clause-base g c = subst (λ (l : List Scored). IsBase (base.Listed l)) (sym c.in_ok-left.ensures)
    (left_base _ (docs_ascend (g.I.Source.view c.args.index.now).present) c.args.hits.now c.args.rows.posts c.requires.base)

pub returns-clause-docs : goal.returns-clause-docs
returns-clause-docs g c =
    ap (map (λ (h : Scored). h.doc)) (c.in_ok-listed.ensures ∙ ap (map with_no_score) c.deref.ensures.value) ∙ unscored_docs c.in_ok-numbers.numbers.items
    ∙ c.in_ok-numbers.ensures.ok ∙ ap docs_of c.in_ok-kept.ensures.ok
    ∙ ap (λ b. docs_after (present_docs (g.I.Source.view c.args.index.now).present) c.args.hits.now b c.args.rows.posts) (sym c.if-excluded.false)

pub returns-clause-base : goal.returns-clause-base
returns-clause-base g c =
    subst (λ (l : List Scored). IsBase (base.Listed l)) (sym (c.in_ok-listed.ensures ∙ ap (map with_no_score) c.deref.ensures.value))
    (unscored_base c.in_ok-numbers.numbers.items c.in_ok-numbers.ensures.sorted)
