use Rattle.std.proofs.Common.{◌<◌, ◌≤◌, length, arith}
use Rattle.std.proofs.lemmas.Bool.Decides.{nat_tests}
use Rattle.cs_meet.proofs.Listed.{listed_at, listed_past}
use Rattle.cs_meet.proofs.documents.is_listed.Goals as goal

pub returns-then-i-docs : goal.returns-then-i-docs
returns-then-i-docs c =
    let within : c.args.i < length c.args.docs.now = omega arith in
    listed_at c.args.docs.now c.args.i c.args.doc c.requires.splits c.requires.sorted within

pub returns-else-i-docs : goal.returns-else-i-docs
returns-else-i-docs c =
    let past : length c.args.docs.now ≤ c.args.i = omega arith in
    let none = listed_past c.args.docs.now c.args.i c.args.doc c.requires.splits past in
    grind (arith, nat_tests, none)
