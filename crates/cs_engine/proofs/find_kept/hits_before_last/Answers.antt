use Rattle.std.proofs.Common.{◌≡◌, ◌-◌, List, length, take, ap, ◌∙◌}
use Rattle.std.proofs.lemmas.Result.{IfOk-weaker}
use Rattle.cs_base.specs.declared.content.query.Part.{Part}
use Rattle.cs_base.specs.declared.content.query.Query.{out-Query}
use Rattle.cs_rows.specs.Steps.{end_positive, posts_hits}
use Rattle.cs_engine.proofs.PlansLemmas.{ends_first}
use Rattle.cs_engine.proofs.find_kept.hits_before_last.Goals as goal

pub returns : goal.returns
returns c =
    let q = c.args.query.now in
    let ps = (out-Query q).parts in
    let p = c.end_positive-positive.result in
    let ends : p ≡ end_positive (take (length ps - 1) ps) = c.end_positive-positive.ensures
    ∙ ap (λ (xs : List Part). end_positive (take (length xs - 1) xs)) c.as_slice-parts.ensures in
    IfOk-weaker c.posts_hits.result _ _ (λ x is. is ∙ ap (λ e. posts_hits e c.args.base.now c.args.rows.now.posts) (ends_first q p ends)) c.posts_hits.ensures
