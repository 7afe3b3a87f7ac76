use Rattle.std.proofs.Common.{◌≡◌, length, rules}
use Rattle.std.proofs.lemmas.List.{nil_from_length}
use Rattle.cs_live.proofs.SettledLemmas.{none_settled}
use Rattle.cs_live.proofs.settling.bring_in.Goals as goal

pub returns-then-is_empty-clause-ok : goal.returns-then-is_empty-clause-ok
returns-then-is_empty-clause-ok c =
    let none : length c.args.rows.now.items ≡ 0 = search rules in
    none_settled c.args.state.now c.requires.is c.args.rows.now.items (nil_from_length c.args.rows.now.items none)
