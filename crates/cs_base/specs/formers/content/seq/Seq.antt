-- What the checker asks of `Seq` so that a type may reach itself through it, as queries do.
use mathlib.Core.Path.{◌≡◌, refl, sym}
use mathlib.Core.List.{List, []}
use mathlib.Core.Former.{Former, this, list, via, children}
use base.Stored.{code_map}
use denote.RattleType.{RattleType}
use denote.HoleLaws.{Alike}
use denote.HolePlaces.{Recodes, struct_places, laid}
use denote.Hole.Carrier.{listed, list-listed}
use denote.Hole.Fix.{over}
use denote.Param.Weighed.{Weighed, w_list}
use denote.Model.Placed.{view_places}
use Rattle.std.specs.formers.vec.Vec as vec
use Rattle.std.specs.declared.alloc.Global.{Global}
use Rattle.std.specs.contracts.alloc.Global as heap
use Rattle.std.specs.contracts.impls.GlobalAllocator.TheImpl.{ghosts}
use Rattle.cs_base.specs.declared.content.seq.Seq.TheInside.{Inside}
use Rattle.cs_base.specs.declared.content.seq.Seq.TheView.{view, invariant}
use Rattle.cs_base.specs.contracts.content.seq.Seq as seq
use Rattle.cs_base.specs.contracts.content.seq.Seq.TheInside as inside

-- a `Seq` of X has the shape of a list of X
abbrev pub the_former : Former {0} → Former {0}
the_former shape = list shape

abbrev pub the_weighed : {shape : Former {0}} → Weighed shape → Weighed (the_former shape)
the_weighed weighed = w_list weighed

abbrev pub the_empty : List ⊥
the_empty = []

abbrev pub the_items : (X : Type 0) → List X → List X
the_items X entries = entries

pub the_items_listed : (X : Type 0) (entries : List X) → listed _ (children (the_former this) X entries) ≡ the_items X entries
the_items_listed X entries = list-listed X entries

-- its one field is a `Vec`
abbrev fields : Former {0}
fields = via (vec.the_former this Global) Inside (λ X s. s.entries) (λ X v. record { entries = v }) (λ X s. refl) (λ X v. refl)

module _ (R S : RattleType) (h : R.Denot → S.Denot) where
  pub the_places : Alike R S h → Alike (seq.the_row R) (seq.the_row S) ((the_former this).map R.Denot S.Denot h)
  the_places alike = view_places fields (list this) view (λ X Y k u. refl) (λ X u. refl) R.Denot S.Denot h (seq.the_row R).coded (seq.the_row S).coded
      (invariant R.Denot) (invariant S.Denot) (λ u p q. refl) (λ u p q. refl) (λ u e. tt) (λ u e. tt)
      (over (inside.the_row R)) (over (inside.the_row S))
      (struct_places (inside.the_type R) (inside.the_type S) (vec.mapped h, tt) _ (λ d. refl) refl (laid _ _ _ (vec.the_places heap.the_row ghosts R S h alike), tt))

  pub the_codes_placed : Recodes R S h → Recodes (seq.the_row R) (seq.the_row S) ((the_former this).map R.Denot S.Denot h)
  the_codes_placed same entries = sym (code_map R.coded.code S.coded.code h (λ x. sym (same x)) entries)
