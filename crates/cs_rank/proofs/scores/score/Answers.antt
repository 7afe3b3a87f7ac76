use Rattle.std.proofs.Common.{◌∙◌, ap, sym, subst, map}
use Rattle.cs_base.specs.declared.content.doc.Base.TheVariants.{Listed}
use Rattle.cs_rank.specs.DocScores.{with_base, doc_scores}
use Rattle.cs_base.specs.content.Orders.{docs_of, AreByDoc}
use Rattle.cs_rank.proofs.GroupsLemmas.{best_rise, base_each}
use Rattle.cs_rank.proofs.scores.score.Goals as goal

pub add_base-requires-clause-best_sorted : goal.add_base-requires-clause-best_sorted
add_base-requires-clause-best_sorted c =
    subst (AreByDoc) (sym (c.as_slice-in-Listed.ensures.value ∙ c.in_ok-best.ensures.best)) (best_rise c.args.rows.now.posts)

pub returns-in_ok-scored-in-Listed : goal.returns-in_ok-scored-in-Listed
returns-in_ok-scored-in-Listed c = record {
  ok = c.from_vec-in-Listed.ensures ∙ c.in_ok-scored-in-Listed.ensures
      ∙ ap (map (with_base (Listed c.as_slice.result.now))) (c.as_slice-in-Listed.ensures.value ∙ c.in_ok-best.ensures.best)
      ∙ base_each (Listed c.as_slice.result.now) c.args.rows.now.posts (docs_of c.args.rows.now.posts)
      ∙ ap (λ b. doc_scores b c.args.rows.now.posts) (ap Listed c.as_slice.ensures ∙ sym c.in-Listed.is);
}
