-- The prefix that is being typed, where an atom was attached to parts.
--
--   typed_atom       it is that of the atom
--   typed_other      with another prefix in its place, it is as if that had been attached
use Rattle.std.proofs.Common.{◌≡◌, ℕ, Bool, true, false, List, [], ◌∷◌, ◌++◌, refl, sym, ◌∙◌, ap, Option, Some, None, if◌then◌else◌}
use Rattle.std.specs.Option.{option_map}
use Rattle.cs_base.specs.declared.content.query.Link.{Link}
use Rattle.cs_base.specs.declared.content.query.Query.{Query, roll-Query, out-roll-Query}
use Rattle.cs_base.specs.declared.content.query.Part.{Part, roll-Part, out-Part, out-roll-Part}
use Rattle.cs_base.specs.declared.content.query.Chain.{Chain, roll-Chain, out-Chain, out-roll-Chain}
use Rattle.cs_base.specs.declared.content.query.Linked.{Linked, roll-Linked, out-roll-Linked}
use Rattle.cs_base.specs.declared.content.query.Atom.{Atom, Prefix, out-Atom}
use Rattle.cs_base.specs.declared.content.query.Atom.TheOpen.{Part-F, Chain-F}
use Rattle.cs_model.specs.declared.kinds.Tie.{Tie}
use Rattle.cs_model.specs.declared.kinds.Tie.TheVariants.{Begins, Alternative, Linked as LinkedBy}
use Rattle.cs_model.specs.Grammar.{on_last, chain_of, part_of, with_link, with_chains, attached}
use Rattle.cs_model.specs.Keys.{last_of, prefix_in, last_atom, chain_prefix, chains_prefix, part_prefix, last_prefix, relinked, ended_by, with_prefix}
use Rattle.cs_model.proofs.KeyLemmas.{on_last-append}

-- ---- last entries
pub last_of-push : {X : Type 0} (xs : List X) (x : X) → last_of (xs ++ x ∷ []) ≡ Some x
last_of-push [] x = refl
last_of-push (y ∷ []) x = refl
last_of-push (y ∷ z ∷ xs) x = last_of-push (z ∷ xs) x

last_of-changed : {X : Type 0} (f : X → X) (xs : List X) → last_of (on_last f xs) ≡ option_map f (last_of xs)
last_of-changed f [] = refl
last_of-changed f (x ∷ []) = refl
last_of-changed f (x ∷ y ∷ []) = refl
last_of-changed f (x ∷ y ∷ z ∷ zs) = last_of-changed f (y ∷ z ∷ zs)

on_last-twice : {X : Type 0} (f g h : X → X) → ((x : X) → f (g x) ≡ h x) → (xs : List X) → on_last f (on_last g xs) ≡ on_last h xs
on_last-twice f g h e [] = refl
on_last-twice f g h e (x ∷ []) = ap (λ y. y ∷ []) (e x)
on_last-twice f g h e (x ∷ y ∷ []) = ap (λ z. x ∷ z ∷ []) (e y)
on_last-twice f g h e (x ∷ y ∷ z ∷ zs) = ap (λ l. x ∷ l) (on_last-twice f g h e (y ∷ z ∷ zs))

pub none_some : {X Y : Type 0} (x : X) → None ≡ Some x → Y
none_some x h = absurd (let no : None ≡ Some x = h in cc)

-- ---- the atom at the end
begun_prefix : (a : Atom) → chain_prefix (chain_of a) ≡ prefix_in (out-Atom a)
begun_prefix a = ap (λ (c : Chain-F Atom Chain Linked Part Query). prefix_in (out-Atom (last_atom c.first (last_of c.rest)))) (out-roll-Chain (record { first = a; rest = [] }))

linked_prefix : (l : Link) (a : Atom) (c : Chain) → chain_prefix (with_link l a c) ≡ prefix_in (out-Atom a)
linked_prefix l a c =
    let m : Linked = roll-Linked (record { link = l; atom = a }) in
    ap (λ (c : Chain-F Atom Chain Linked Part Query). prefix_in (out-Atom (last_atom c.first (last_of c.rest)))) (out-roll-Chain (record { first = (out-Chain c).first; rest = (out-Chain c).rest ++ m ∷ [] }))
    ∙ ap (λ o. prefix_in (out-Atom (last_atom (out-Chain c).first o))) (last_of-push (out-Chain c).rest m)
    ∙ ap (λ x. prefix_in (out-Atom x.atom)) (out-roll-Linked (record { link = l; atom = a }))

alternative_prefix : (a : Atom) (cs : List Chain) (p : List ℕ) → chains_prefix (cs ++ chain_of a ∷ []) ≡ Some p → prefix_in (out-Atom a) ≡ Some p
alternative_prefix a [] p h = sym (begun_prefix a) ∙ h
alternative_prefix a (c ∷ []) p h = none_some p h
alternative_prefix a (c ∷ d ∷ cs) p h = none_some p h

link_prefix : (l : Link) (a : Atom) (cs : List Chain) (p : List ℕ) → chains_prefix (on_last (with_link l a) cs) ≡ Some p → prefix_in (out-Atom a) ≡ Some p
link_prefix l a [] p h = none_some p h
link_prefix l a (c ∷ []) p h = sym (linked_prefix l a c) ∙ h
link_prefix l a (c ∷ d ∷ []) p h = none_some p h
link_prefix l a (c ∷ d ∷ e ∷ cs) p h = none_some p h

positive_part : (x : Part-F Atom Chain Linked Part Query) (p : List ℕ) → (if x.excluded then None else chains_prefix x.chains) ≡ Some p → chains_prefix x.chains ≡ Some p
positive_part x p h = cases x.excluded h
  where
    cases : (b : Bool) → (if b then None else chains_prefix x.chains) ≡ Some p → chains_prefix x.chains ≡ Some p
    cases true h = none_some p h
    cases false h = h

changed_part : (f : List Chain → List Chain) (o : Option Part) (p : List ℕ) → part_prefix (option_map (with_chains f) o) ≡ Some p
    → (x : Part) × (chains_prefix (f (out-Part x).chains) ≡ Some p)
changed_part f None p h = none_some p h
changed_part f (Some x) p h =
    let made : Part-F Atom Chain Linked Part Query = record { excluded = (out-Part x).excluded; chains = f (out-Part x).chains } in
    (x, positive_part made p (ap (λ (y : Part-F Atom Chain Linked Part Query). if y.excluded then None else chains_prefix y.chains) (sym (out-roll-Part made)) ∙ h))

attached_prefix : (t : Tie) (a : Atom) (ps : List Part) (p : List ℕ) → part_prefix (last_of (attached t a ps)) ≡ Some p → prefix_in (out-Atom a) ≡ Some p
attached_prefix (Begins e) a ps p h =
    let made : Part-F Atom Chain Linked Part Query = record { excluded = e; chains = chain_of a ∷ [] } in
    sym (begun_prefix a)
    ∙ positive_part made p (ap (λ (y : Part-F Atom Chain Linked Part Query). if y.excluded then None else chains_prefix y.chains) (sym (out-roll-Part made))
    ∙ ap part_prefix (sym (last_of-push ps (part_of e a))) ∙ h)
attached_prefix Alternative a ps p h =
    let x = changed_part (λ cs. cs ++ chain_of a ∷ []) (last_of ps) p (ap part_prefix (sym (last_of-changed (with_chains (λ cs. cs ++ chain_of a ∷ [])) ps)) ∙ h) in
    alternative_prefix a (out-Part x.0).chains p x.1
attached_prefix (LinkedBy l) a ps p h =
    let x = changed_part (on_last (with_link l a)) (last_of ps) p (ap part_prefix (sym (last_of-changed (with_chains (on_last (with_link l a))) ps)) ∙ h) in
    link_prefix l a (out-Part x.0).chains p x.1

pub typed_atom : (t : Tie) (a : Atom) (ps : List Part) (p : List ℕ) → last_prefix (roll-Query (record { parts = attached t a ps })) ≡ Some p → prefix_in (out-Atom a) ≡ Some p
typed_atom t a ps p h = attached_prefix t a ps p (ap (λ q. part_prefix (last_of q.parts)) (sym (out-roll-Query (record { parts = attached t a ps }))) ∙ h)

-- ---- another prefix there
module _ (v : List ℕ) where
  abbrev ending : Chain → Chain
  ending c = ended_by v (out-Chain c).first (out-Chain c).rest

  abbrev change : Part → Part
  change = with_chains (on_last ending)

  begun_other : (a : Atom) → ending (chain_of a) ≡ chain_of (Prefix v)
  begun_other a = ap (λ (c : Chain-F Atom Chain Linked Part Query). ended_by v c.first c.rest) (out-roll-Chain (record { first = a; rest = [] }))

  relinked_push : (a : Atom) (ls : List Linked) (l : Linked) → ended_by v a (ls ++ l ∷ []) ≡ roll-Chain (record { first = a; rest = ls ++ relinked v l ∷ [] })
  relinked_push a [] l = refl
  relinked_push a (x ∷ ls) l = ap (λ (rest : List Linked). roll-Chain (record { first = a; rest = rest })) (on_last-append (relinked v) (x ∷ ls) l)

  linked_other : (l : Link) (a : Atom) (c : Chain) → ending (with_link l a c) ≡ with_link l (Prefix v) c
  linked_other l a c =
      let m : Linked = roll-Linked (record { link = l; atom = a }) in
      ap (λ (c : Chain-F Atom Chain Linked Part Query). ended_by v c.first c.rest) (out-roll-Chain (record { first = (out-Chain c).first; rest = (out-Chain c).rest ++ m ∷ [] }))
      ∙ relinked_push (out-Chain c).first (out-Chain c).rest m
      ∙ ap (λ (x : Linked). roll-Chain (record { first = (out-Chain c).first; rest = (out-Chain c).rest ++ x ∷ [] }))
      (ap (λ x. roll-Linked (record { link = x.link; atom = Prefix v })) (out-roll-Linked (record { link = l; atom = a })))

  changed_other : (f g : List Chain → List Chain) → ((cs : List Chain) → on_last ending (f cs) ≡ g cs) → (x : Part) → change (with_chains f x) ≡ with_chains g x
  changed_other f g e x =
      let made : Part-F Atom Chain Linked Part Query = record { excluded = (out-Part x).excluded; chains = f (out-Part x).chains } in
      ap (λ (y : Part-F Atom Chain Linked Part Query). roll-Part (record { excluded = y.excluded; chains = on_last ending y.chains })) (out-roll-Part made)
      ∙ ap (λ (cs : List Chain). roll-Part (record { excluded = (out-Part x).excluded; chains = cs })) (e (out-Part x).chains)

  attached_other : (t : Tie) (a : Atom) (ps : List Part) → on_last change (attached t a ps) ≡ attached t (Prefix v) ps
  attached_other (Begins e) a ps =
      on_last-append change ps (part_of e a)
      ∙ ap (λ x. ps ++ x ∷ [])
      (ap (λ (y : Part-F Atom Chain Linked Part Query). roll-Part (record { excluded = y.excluded; chains = on_last ending y.chains })) (out-roll-Part (record { excluded = e; chains = chain_of a ∷ [] }))
      ∙ ap (λ (c : Chain). roll-Part (record { excluded = e; chains = c ∷ [] })) (begun_other a))
  attached_other Alternative a ps =
      on_last-twice change (with_chains (λ cs. cs ++ chain_of a ∷ [])) (with_chains (λ cs. cs ++ chain_of (Prefix v) ∷ []))
      (changed_other (λ cs. cs ++ chain_of a ∷ []) (λ cs. cs ++ chain_of (Prefix v) ∷ []) (λ cs. on_last-append ending cs (chain_of a) ∙ ap (λ c. cs ++ c ∷ []) (begun_other a))) ps
  attached_other (LinkedBy l) a ps =
      on_last-twice change (with_chains (on_last (with_link l a))) (with_chains (on_last (with_link l (Prefix v))))
      (changed_other (on_last (with_link l a)) (on_last (with_link l (Prefix v))) (on_last-twice ending (with_link l a) (with_link l (Prefix v)) (linked_other l a))) ps

  pub typed_other : (t : Tie) (a : Atom) (ps : List Part) → with_prefix v (roll-Query (record { parts = attached t a ps })) ≡ roll-Query (record { parts = attached t (Prefix v) ps })
  typed_other t a ps =
      ap (λ q. roll-Query (record { parts = on_last change q.parts })) (out-roll-Query (record { parts = attached t a ps }))
      ∙ ap (λ (ps : List Part). roll-Query (record { parts = ps })) (attached_other t a ps)
