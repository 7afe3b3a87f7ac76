use Rattle.std.proofs.Common.{refl, ap, ◌∙◌, sym, append-nil}
use Rattle.std.specs.Prelude.{Some}
use Rattle.std.specs.Option.{unwrap_or}
use Rattle.cs_base.proofs.Connected.{broke, taken_over}
use Rattle.cs_base.proofs.outside.connections.Connections.break_off.Goals as goal

pub returns : goal.returns
returns c =
    let was = taken_over c.index_mut-connection.result.now.sent c.new.result c.unwrap_or.result c.new.ensures.items (c.unwrap_or.ensures ∙ ap (λ o. unwrap_or o c.new.result) c.take.ensures.value) in
    broke c.args.self.now.list.items c.args.conn c.index_mut-connection.result.now _ c.requires c.index_mut-connection.ensures.value refl refl (ap Some (was ∙ sym (append-nil _)))
