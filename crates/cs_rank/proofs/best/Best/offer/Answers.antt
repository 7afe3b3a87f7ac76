use Rattle.std.proofs.Common.{◌≡◌, ◌≤◌, ◌-◌, ◌∙◌, ap, sym, subst, arith, length, take, take_all, [], ◌∷◌, ◌++◌}
use Rattle.std.specs.List.{HoldsAt}
use Rattle.std.specs.List.Sorted.{IsNonDecreasingBy, IsPartitionPoint}
use Rattle.std.specs.Ordering.{ordering_index}
use Rattle.std.specs.declared.cmp.Ordering.TheVariants.{Less, Equal, Greater}
use Rattle.cs_base.specs.content.Orders.{by_rank}
use Rattle.std.specs.Vec.{vec_capacity}
use Rattle.cs_rank.specs.Kept.{first_of}
use Rattle.cs_rank.specs.declared.best.Best.TheInside.{Inside}
use Rattle.cs_rank.proofs.Puts.{first_again, few, searchable, stands, behind, put_in}
use Rattle.cs_rank.proofs.best.Best.offer.Goals as goal
use Rattle.cs_rank.proofs.best.Best.offer.Goals.{then-len-self, else-len-self}

pub returns-in_default-clause-list : goal.returns-in_default-clause-list
returns-in_default-clause-list c =
    let own = c.self.invariant.0 in
    rw (← c.self.view_is)
    (stands c.self.inside.room c.self.inside.list.items own c.in_default.field-0 c.args.s
    (let inside = c.in_default.ensures.bound in let same = c.deref.ensures.len in let ok = c.self.inside.list.ok in omega arith)
    (subst (λ xs. HoldsAt (λ y. by_rank y c.args.s ≡ Equal) xs c.in_default.field-0) c.deref.ensures.value c.in_default.ensures.ok))

pub returns-then-place-self-clause-list : goal.returns-then-place-self-clause-list
returns-then-place-self-clause-list c =
    let own = c.self.invariant.0 in
    let items = c.self.inside.list.items in
    let told = subst (λ xs. IsNonDecreasingBy (λ y. ordering_index (by_rank y c.args.s)) xs → IsPartitionPoint (λ y. by_rank y c.args.s ≡ Less) (λ y. by_rank y c.args.s ≡ Greater) xs c.in-Err.place) c.deref.ensures.value c.in-Err.ensures.position in
    rw (← c.self.view_is)
    (behind c.self.inside.room items own c.in-Err.place c.args.s
    (let inside = c.in-Err.ensures.bound in let same = c.deref.ensures.len in let ok = c.self.inside.list.ok in omega arith)
    (told (searchable c.self.inside.room items own c.args.s)) c.if-place-self.true)

-- the list with room for one more
cut : (c : goal.After-put) → c.if-len-self.self-inside.list.items ≡ take (c.self.inside.room - 1) c.self.inside.list.items
cut c = elim c.if-len-self.branch [
  | then-len-self w ↦ ap (λ (i : Inside). i.list.items) w.self-inside-is ∙ w.pop.ensures.rest ∙ ap (λ n. take (n - 1) c.self.inside.list.items) (sym c.len.ensures ∙ w.if-len-self.true)
  | else-len-self w ↦
      let short : length c.self.inside.list.items ≤ c.self.inside.room - 1 =
      (let most = few c.self.inside.room c.self.inside.list.items c.self.invariant.0 in let ok = c.self.inside.list.ok in let len = c.len.ensures in let other = w.if-len-self.false in grind arith) in
      ap (λ (i : Inside). i.list.items) w.self-inside-is ∙ sym (take_all (c.self.inside.room - 1) c.self.inside.list.items short)
]

same_room : (c : goal.After-put) → c.if-len-self.self-inside.room ≡ c.self.inside.room
same_room c = elim c.if-len-self.branch [
  | then-len-self w ↦ ap (λ (i : Inside). i.room) w.self-inside-is
  | else-len-self w ↦ ap (λ (i : Inside). i.room) w.self-inside-is
]

same_capacity : (c : goal.After-put) → vec_capacity c.if-len-self.self-inside.list ≡ vec_capacity c.self.inside.list
same_capacity c = elim c.if-len-self.branch [
  | then-len-self w ↦ ap (λ (i : Inside). vec_capacity i.list) w.self-inside-is ∙ w.pop.ensures.capacity
  | else-len-self w ↦ ap (λ (i : Inside). vec_capacity i.list) w.self-inside-is
]

placed : (c : goal.After-put) → c.put.new.list.items ≡ first_of c.self.inside.room (c.self.inside.list.items ++ c.args.s ∷ [])
placed c =
    let own = c.self.invariant.0 in
    let items = c.self.inside.list.items in
    let told = subst (λ xs. IsNonDecreasingBy (λ y. ordering_index (by_rank y c.args.s)) xs → IsPartitionPoint (λ y. by_rank y c.args.s ≡ Less) (λ y. by_rank y c.args.s ≡ Greater) xs c.in-Err.place) c.deref.ensures.value c.in-Err.ensures.position in
    put_in c.self.inside.room items own c.in-Err.place c.args.s
    (let inside = c.in-Err.ensures.bound in let same = c.deref.ensures.len in let ok = c.self.inside.list.ok in omega arith)
    (told (searchable c.self.inside.room items own c.args.s)) c.if-len-self.self-inside.list.items c.put.new.list.items
    c.if-place-self.false (cut c) c.put.ensures.items

pub returns-clause-list : goal.returns-clause-list
returns-clause-list c = rw (← c.self.view_is) (placed c)

pub invariant_of-self : goal.invariant_of-self
invariant_of-self c =
    let room = c.self.inside.room in
    let now = c.put.new.list.items in
    let roomy = c.self.invariant.1 in
    let more = c.put.ensures.capacity in (
      subst (λ n. now ≡ first_of n now) (sym (same_room c)) (placed c ∙ first_again room _ ∙ ap (first_of room) (sym (placed c))),
      omega (arith, same_room c, same_capacity c),
    )
