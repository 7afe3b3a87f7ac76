use Rattle.std.proofs.Common.{◌<◌, subst}
use Rattle.std.specs.Prelude.{All}
use Rattle.cs_base.specs.declared.content.doc.Row.{Row}
use Rattle.cs_live.proofs.SettledLemmas.{ok_keeps, ok_later, same_keeps}
use Rattle.cs_live.proofs.settling.bring_own_in.Goals as goal

pub returns-then-are_later-clause-ok : goal.returns-then-are_later-clause-ok
returns-then-are_later-clause-ok c = same_keeps c.args.state.now c.requires.is c.args.rows.now.items c.requires.waiting

pub returns-then-are_later-clause-later : goal.returns-then-are_later-clause-later
returns-then-are_later-clause-later c = subst (All (λ (r : Row). c.args.doc < r.doc)) c.deref.ensures.value (c.are_later.ensures c.if-are_later.true)

pub returns-clause-ok : goal.returns-clause-ok
returns-clause-ok c = ok_keeps c.args.state.now c.args.rows.now.items c.bring_in.new.state c.bring_in.new.rows.items c.bring_in.result c.bring_in.ensures.ok c.bring_in.ensures.none

pub returns-clause-later : goal.returns-clause-later
returns-clause-later c = ok_later c.args.state.now c.args.rows.now.items c.bring_in.new.state c.bring_in.new.rows.items c.bring_in.result c.args.doc c.bring_in.ensures.none
