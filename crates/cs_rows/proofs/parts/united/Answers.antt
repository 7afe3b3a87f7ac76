use Rattle.std.proofs.Common.{arith, subst}
use Rattle.std.specs.Prelude.{flat_map}
use Rattle.cs_rows.proofs.AlternativesLemmas.{none_popped, of_none, of_popped, union_ordered}
use Rattle.cs_rows.specs.Packing.{IsOrdered}
use Rattle.cs_rows.proofs.parts.united.Goals as goal

pub returns-in-Some : goal.returns-in-Some
returns-in-Some c = of_popped c.args.lists.items c.pop.new.self.items c.in-Some.only c.requires (omega (arith, c.if-len-gt1.false, c.len.ensures, c.args.lists.ok.0))
    c.in-Some.ensures.items

pub returns : goal.returns
returns c = of_none c.args.lists.items c.new.result.posts (none_popped c.args.lists.items c.pop.new.self.items _ c.args.lists.ok.0 c.in-None.ensures.items c.pop.ensures.rest)
    c.new.ensures

pub returns-then-len-gt1 : goal.returns-then-len-gt1
returns-then-len-gt1 c =
    subst (λ ls. IsOrdered (flat_map (λ l. l.posts) ls) c.in_ok-all.all.posts) c.deref.ensures.value
    (union_ordered _ c.in_ok-all.all.posts c.in_ok-all.ensures.ok c.in_ok-all.ensures.sorted)
