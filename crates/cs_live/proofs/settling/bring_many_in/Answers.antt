use Rattle.cs_live.proofs.SettledLemmas.{same_keeps, tried_keeps}
use Rattle.cs_live.proofs.settling.bring_many_in.Goals as goal

pub returns-then-may_wait : goal.returns-then-may_wait
returns-then-may_wait c = same_keeps c.args.state.now c.requires.is c.args.rows.now.items c.requires.waiting

pub returns : goal.returns
returns c =
    tried_keeps c.args.state.now c.args.rows.now.items c.bring_in.new.state c.bring_in.new.rows.items c.bring_in.result c.requires.is c.requires.waiting
    c.bring_in.ensures.ok c.bring_in.ensures.none c.bring_in.ensures.state c.bring_in.ensures.rows
