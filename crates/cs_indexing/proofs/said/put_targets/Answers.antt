use Rattle.std.proofs.Common.{◌≡◌, ◌++◌, ◌∙◌, subst}
use Rattle.std.specs.Prelude.{codes, OnOk}
use Rattle.std.specs.Fmt.{decimal}
use Rattle.cs_base.specs.outside.Outside.{Grew}
use Rattle.cs_indexing.proofs.said.put_targets.Goals as goal

pub returns-clause-ok : goal.returns-clause-ok
returns-clause-ok g c =
    let old = g.E.Sink.written c.args.err.now in
    let new = g.E.Sink.written c.put_all.new.err in
    let first : c.as_bytes-first.result.now ≡ decimal c.args.first = c.as_bytes-first.ensures.value ∙ c.format.ensures.text in
    let second : c.as_bytes-second.result.now ≡ decimal c.args.second = c.as_bytes-second.ensures.value ∙ c.format-2.ensures.text in
    subst (λ x. OnOk c.put_all.result (Grew old (codes "merge: targets " ++ (x ++ (codes " and " ++ (decimal c.args.second ++ codes " differ\n")))) new)) first
    (subst (λ x. OnOk c.put_all.result (Grew old (codes "merge: targets " ++ (c.as_bytes-first.result.now ++ (codes " and " ++ (x ++ codes " differ\n")))) new)) second c.put_all.ensures.ok)
