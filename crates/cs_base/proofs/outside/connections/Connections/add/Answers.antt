use Rattle.std.proofs.Common.{refl, ap, ◌∙◌, ◌++◌, sym, append-nil}
use Rattle.std.specs.Prelude.{Some}
use Rattle.std.specs.Option.{unwrap_or}
use Rattle.cs_base.proofs.Connected.{added, broke, taken_over}
use Rattle.cs_base.proofs.outside.connections.Connections.add.Goals as goal

pub returns-in-Ok-clause-ok : goal.returns-in-Ok-clause-ok
returns-in-Ok-clause-ok c =
    let was = taken_over c.index_mut-connection.result.now.sent c.new.result c.unwrap_or-sent.result c.new.ensures.items (c.unwrap_or-sent.ensures ∙ ap (λ o. unwrap_or o c.new.result) c.take.ensures.value) in
    added c.args.self.now.list.items c.args.conn c.index_mut-connection.result.now _ c.requires.opened c.index_mut-connection.ensures.value c.args.bytes.now refl refl
    (ap Some (c.in-Ok.ensures.items ∙ ap (λ v. v ++ c.args.bytes.now) was))

pub returns-in-Err-clause-err : goal.returns-in-Err-clause-err
returns-in-Err-clause-err c =
    let was = taken_over c.index_mut-connection.result.now.sent c.new.result c.unwrap_or-sent.result c.new.ensures.items (c.unwrap_or-sent.ensures ∙ ap (λ o. unwrap_or o c.new.result) c.take.ensures.value) in
    broke c.args.self.now.list.items c.args.conn c.index_mut-connection.result.now _ c.requires.opened c.index_mut-connection.ensures.value refl refl
    (ap Some (c.in-Err.ensures.items ∙ was ∙ sym (append-nil _)))
