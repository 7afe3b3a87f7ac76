use Rattle.std.proofs.Common.{◌≡◌, ◌++◌, ◌∷◌, [], ◌∙◌, subst}
use Rattle.std.specs.Prelude.{codes, OnOk}
use Rattle.std.specs.Fmt.{decimal}
use Rattle.cs_base.specs.outside.Outside.{Grew}
use Rattle.cs_indexing.proofs.said.put_damage.Goals as goal

pub returns-clause-ok : goal.returns-clause-ok
returns-clause-ok g c =
    let old = g.E.Sink.written c.args.err.now in
    let new = g.E.Sink.written c.put_all.new.err in
    let rule : c.as_bytes-rule.result.now ≡ decimal c.args.rule = c.as_bytes-rule.ensures.value ∙ c.format.ensures.text in
    let at : c.as_bytes-at.result.now ≡ decimal c.args.at = c.as_bytes-at.ensures.value ∙ c.format-2.ensures.text in
    subst (λ x. OnOk c.put_all.result (Grew old (codes "index: rule " ++ (x ++ (codes " at " ++ (decimal c.args.at ++ 10 ∷ [])))) new)) rule
    (subst (λ x. OnOk c.put_all.result (Grew old (codes "index: rule " ++ (c.as_bytes-rule.result.now ++ (codes " at " ++ (x ++ 10 ∷ [])))) new)) at c.put_all.ensures.ok)
