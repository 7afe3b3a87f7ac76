use Rattle.std.proofs.Common.{◌≡◌, ◌+◌, ◌-◌, arith, subst, ℕ, ◌≤◌, ◌<◌, true, get_or}
use Rattle.cs_base.specs.declared.content.doc.Post.{Post}
use Rattle.cs_meet.specs.Filters.{stands_behind}
use Rattle.cs_meet.specs.RowPlaces.{is_before}
use Rattle.cs_meet.proofs.Judged.{none_until, none_left, before_isnt_behind, far_isnt_behind}
use Rattle.cs_meet.proofs.links.next_behind.Goals as goal

pub returns-then-i-len-clause-none : goal.returns-then-i-len-clause-none
returns-then-i-len-clause-none c =
    let a = c.args.a.now.posts in
    let b = c.args.b.now.posts in
    let x = c.get-post.result in
    let at : c.from.result + 1 ≡ x.pos + 1 = omega arith in
    let over = c.pass_over.ensures in
    none_until stands_behind (λ r. r.doc) (λ r. r.pos - 1) (λ r. r.pos + 1) before_isnt_behind far_isnt_behind a b c.args.i c.args.from c.requires.ahead c.requires.a_sorted (omega arith) x c.get-post.ensures c.pass_over.result over.within
    (subst (λ p. (k : ℕ) (e : Post) → c.args.from ≤ k → k < c.pass_over.result → is_before (get_or b k e) x.doc p ≡ true) at over.passed)

pub returns-else-i-len-clause-none : goal.returns-else-i-len-clause-none
returns-else-i-len-clause-none c k e from below =
    none_left stands_behind (λ r. r.doc) (λ r. r.pos - 1) (λ r. r.pos + 1) before_isnt_behind far_isnt_behind c.args.a.now.posts c.args.b.now.posts c.args.i c.args.from c.requires.ahead (omega arith) k e from (omega arith)
