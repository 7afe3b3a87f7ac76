use Rattle.std.proofs.Common.{◌≡◌, ◌++◌, ◌∙◌, subst}
use Rattle.std.specs.Prelude.{codes, OnErr, OnOk}
use Rattle.std.specs.Fmt.{decimal}
use Rattle.cs_base.specs.outside.Outside.{Grew, GrewByPrefix}
use Rattle.cs_top.proofs.ChangeLines.{deleted_pieces}
use Rattle.cs_top.proofs.live.outcomes.put_deleted.Goals as goal

pub returns-clause-ok : goal.returns-clause-ok
returns-clause-ok g c =
    let old = g.O.Sink.written c.args.out.now in
    let new = g.O.Sink.written c.put_all.new.err in
    let changes : c.as_bytes-changes.result.now ≡ decimal c.args.changes = c.as_bytes-changes.ensures.value ∙ c.format.ensures.text in
    subst (λ x. OnOk c.put_all.result (Grew old x new)) (deleted_pieces c.args.changes)
    (subst (λ x. OnOk c.put_all.result (Grew old (codes "{\"state\":" ++ (x ++ codes "}\n")) new)) changes c.put_all.ensures.ok)

pub returns-clause-err : goal.returns-clause-err
returns-clause-err g c =
    let old = g.O.Sink.written c.args.out.now in
    let new = g.O.Sink.written c.put_all.new.err in
    let changes : c.as_bytes-changes.result.now ≡ decimal c.args.changes = c.as_bytes-changes.ensures.value ∙ c.format.ensures.text in
    subst (λ x. OnErr c.put_all.result (GrewByPrefix old x new)) (deleted_pieces c.args.changes)
    (subst (λ x. OnErr c.put_all.result (GrewByPrefix old (codes "{\"state\":" ++ (x ++ codes "}\n")) new)) changes c.put_all.ensures.err)
