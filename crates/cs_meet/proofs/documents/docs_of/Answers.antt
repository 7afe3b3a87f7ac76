use Rattle.std.proofs.Common.{◌-◌, ◌∙◌, ap, arith, get_or}
use Rattle.std.specs.Ordering.{nat_cmp}
use Rattle.std.proofs.lemmas.Grind.{common_steps}
use Rattle.cs_base.specs.content.Members.{members_in}
use Rattle.cs_base.proofs.MembersLemmas.{listing-rises}
use Rattle.cs_meet.proofs.Ascent.{docs_sorted}
use Rattle.cs_meet.proofs.Unlike.{unlike_none, unlike_all, unlike_listed}
use Rattle.cs_meet.proofs.documents.docs_of.Goals as goal

pub returns-then-is_empty-clause-ok : goal.returns-then-is_empty-clause-ok
returns-then-is_empty-clause-ok c =
    let all = c.docs-all.result.now in
    unlike_listed all c.in_ok-docs.docs.items (rw c.docs-all.ensures (docs_sorted c.args.rows.now.posts c.requires))
    (unlike_none all c.in_ok-docs.docs.items (grind (arith, common_steps)) c.in_ok-docs.ensures.items)
    ∙ ap (members_in nat_cmp) c.docs-all.ensures

pub returns-then-is_empty-clause-sorted : goal.returns-then-is_empty-clause-sorted
returns-then-is_empty-clause-sorted c = rw (returns-then-is_empty-clause-ok c) (listing-rises nat_cmp _)

pub returns-clause-ok : goal.returns-clause-ok
returns-clause-ok c =
    let all = c.docs-all.result.now in
    let inv = c.loop-i.invariant in
    unlike_listed all c.truncate.new.self.items (rw c.docs-all.ensures (docs_sorted c.args.rows.now.posts c.requires))
    (unlike_all all c.loop-i.docs.items c.truncate.new.self.items (get_or all (c.loop-i.i - 1) 0) c.loop-i.last c.loop-i.i inv.told (omega arith) (omega (arith, inv.even, inv.within)) inv.current c.truncate.ensures.items)
    ∙ ap (members_in nat_cmp) c.docs-all.ensures

pub returns-clause-sorted : goal.returns-clause-sorted
returns-clause-sorted c = rw (returns-clause-ok c) (listing-rises nat_cmp _)
