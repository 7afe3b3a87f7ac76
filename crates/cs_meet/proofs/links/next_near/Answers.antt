use Rattle.std.proofs.Common.{◌≡◌, ◌-◌, arith, subst, ℕ, ◌≤◌, ◌<◌, true, get_or}
use Rattle.std.specs.Prelude.{max}
use Rattle.cs_base.specs.declared.content.doc.Post.{Post}
use Rattle.cs_base.specs.declared.content.limits.TheConstants.{MAX_DISTANCE}
use Rattle.cs_meet.specs.Filters.{is_near}
use Rattle.cs_meet.specs.RowPlaces.{is_before}
use Rattle.cs_meet.proofs.Judged.{none_until, none_left, early_isnt_near, far_isnt_near}
use Rattle.cs_meet.proofs.links.next_near.Goals as goal

pub returns-then-lo-len-clause-none : goal.returns-then-lo-len-clause-none
returns-then-lo-len-clause-none c =
    let a = c.args.a.now.posts in
    let b = c.args.b.now.posts in
    let x = c.get-post.result in
    let at : c.saturating_sub.result ≡ x.pos - MAX_DISTANCE = omega arith in
    let over = c.pass_over.ensures in
    none_until is_near (λ r. r.doc) (λ r. max (r.pos - MAX_DISTANCE) 1) (λ r. r.pos - MAX_DISTANCE) early_isnt_near far_isnt_near a b c.args.lo c.args.from c.requires.ahead c.requires.a_sorted (omega arith) x c.get-post.ensures c.pass_over.result over.within
    (subst (λ p. (k : ℕ) (e : Post) → c.args.from ≤ k → k < c.pass_over.result → is_before (get_or b k e) x.doc p ≡ true) at over.passed)

pub returns-else-lo-len-clause-none : goal.returns-else-lo-len-clause-none
returns-else-lo-len-clause-none c k e from below =
    none_left is_near (λ r. r.doc) (λ r. max (r.pos - MAX_DISTANCE) 1) (λ r. r.pos - MAX_DISTANCE) early_isnt_near far_isnt_near c.args.a.now.posts c.args.b.now.posts c.args.lo c.args.from c.requires.ahead (omega arith) k e from (omega arith)
