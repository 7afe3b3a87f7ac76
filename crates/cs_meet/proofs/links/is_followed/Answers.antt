use Rattle.std.proofs.Common.{◌∙◌, arith}
use Rattle.std.proofs.lemmas.Bool.Decides.{nat_tests}
use Rattle.cs_meet.specs.Filters.{stands_behind}
use Rattle.cs_meet.proofs.Judged.{judged_at, judged_past, before_isnt_behind, later_isnt_behind}
use Rattle.cs_meet.proofs.links.is_followed.Goals as goal

pub returns-then-i-len : goal.returns-then-i-len
returns-then-i-len c =
    let r = c.args.row in
    c.is_behind.ensures ∙ judged_at (stands_behind r) _ _ (before_isnt_behind r) (later_isnt_behind r) _ _ c.requires.splits c.requires.sorted (omega arith) c.get.result c.get.ensures

pub returns-else-i-len : goal.returns-else-i-len
returns-else-i-len c =
    let r = c.args.row in
    let none = judged_past (stands_behind r) _ _ (before_isnt_behind r) (later_isnt_behind r) _ _ c.requires.splits (omega arith) r in
    grind (arith, nat_tests, none)
