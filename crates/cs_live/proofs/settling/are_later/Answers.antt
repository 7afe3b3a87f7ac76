use Rattle.std.proofs.Common.{◌≡◌, ◌≤◌, ◌<◌, length, subst, arith, rules}
use Rattle.std.proofs.lemmas.Bool.Decides.{nat_tests}
use Rattle.cs_live.proofs.RemovedLemmas.{all_later}
use Rattle.cs_live.proofs.settling.are_later.Goals as goal

pub returns-then-is_empty : goal.returns-then-is_empty
returns-then-is_empty c e k d lt = absurd (let none : length c.args.rows.now ≡ 0 = search rules in omega (arith, lt, none))

pub returns : goal.returns
returns c e =
    let some : 1 ≤ length c.args.rows.now = search rules in
    let first = c.index-rows-0.result in
    let later : c.args.doc < first.doc = grind (arith, nat_tests, e) in
    all_later c.args.doc c.args.rows.now first c.requires some (subst (λ r. c.args.doc < r.doc) c.index-rows-0.is later)
