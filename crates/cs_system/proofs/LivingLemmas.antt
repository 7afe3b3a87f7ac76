-- The connections that are live, as they come and go.
use Rattle.std.proofs.Common.{◌≡◌, ℕ, ◌+◌, ◌<◌, Bool, true, false, not, ◌&&◌, ◌||◌, cond, Option, Some, None, refl, sym, ◌∙◌, ap, subst, nat_eq, arith, rules}
use Rattle.std.specs.Prelude.{List, [], ◌∷◌, ◌++◌}
use Rattle.std.specs.List.{filter, list_any}
use Rattle.std.specs.Option.{ForSome}
use Rattle.std.specs.Ordering.{nat_cmp}
use Rattle.std.specs.FinSet as set
use Rattle.std.specs.Cmp.{unsigned_tied}
use Rattle.std.proofs.lemmas.Cmp.{nat_cmp_total}
use Rattle.cs_base.specs.outside.Hub.{Conns, Listening, IsLive, IsOrderly, Talk}
use Rattle.cs_system.specs.Living.{live_of, telling, Lives, AreBelow}

-- one that comes is live beside the others
pub welcomed : (ns : List ℕ) (c : ℕ) → live_of (ns ++ c ∷ []) ≡ set.insert (live_of ns) c
welcomed ns c = set.from_list_push nat_cmp_total set.nat_cmp-IsAntisymmetric ns c

has_not : (b p o : Bool) → cond (not b) (p || (not b && o)) (not b && o) ≡ (not b && (p || o))
has_not true p o = refl
has_not false p o = refl

among : List ℕ → ℕ → Bool
among ns q = list_any (λ y. nat_eq y q) ns

head_goes : (n c q : ℕ) (o : Bool) → nat_eq n c ≡ true → (not (nat_eq q c) && o) ≡ (not (nat_eq q c) && (nat_eq n q || o))
head_goes n c q o is = grind arith

head_stays : (n c q : ℕ) (o : Bool) → nat_eq n c ≡ false → (nat_eq n q || (not (nat_eq q c) && o)) ≡ (not (nat_eq q c) && (nat_eq n q || o))
head_stays n c q o is = grind arith

without : (ns : List ℕ) (c q : ℕ) → list_any (λ y. nat_eq y q) (filter (λ n. not (nat_eq n c)) ns) ≡ (not (nat_eq q c) && list_any (λ y. nat_eq y q) ns)
without [] c q = grind arith
without (n ∷ ns) c q = elim (nat_eq n c) as (λ b. nat_eq n c ≡ b → list_any (λ y. nat_eq y q) (cond (not b) (n ∷ filter (λ n. not (nat_eq n c)) ns) (filter (λ n. not (nat_eq n c)) ns)) ≡ (not (nat_eq q c) && (nat_eq n q || list_any (λ y. nat_eq y q) ns))) [
  | true ↦ λ is. without ns c q ∙ head_goes n c q _ is
  | false ↦ λ is. ap (λ b. nat_eq n q || b) (without ns c q) ∙ head_stays n c q _ is
] refl

-- one that goes is live no more, and the others are
pub forgotten : (ns : List ℕ) (c : ℕ) → live_of (filter (λ n. not (nat_eq n c)) ns) ≡ set.remove (live_of ns) c
forgotten ns c = set.same_set nat_cmp_total set.nat_cmp-IsAntisymmetric _ _ (λ q.
    set.contains-from_list_nat (filter (λ n. not (nat_eq n c)) ns) q ∙ without ns c q
    ∙ sym (set.contains-remove nat_cmp_total (live_of ns) c q ∙ (λ i. not (unsigned_tied q c i) && set.contains-from_list_nat ns q i)))

nobody_lives : (c : ℕ) → Lives [] c → c < 0
nobody_lives c is = cc (set.contains-empty nat_cmp c, is)

-- none are below any number
pub none_below : (ns : List ℕ) → ns ≡ [] → AreBelow 0 ns
none_below ns none = rw none nobody_lives

one_of : (q n : ℕ) (o : Bool) → (nat_eq q n || o) ≡ true → (o ≡ true → q < n) → q < n + 1
one_of q n true is old = omega (arith, old refl)
one_of q n false is old = grind arith

-- with the next number, they lie below the one behind it
pub next_below : (ns ms : List ℕ) (n : ℕ) → live_of ms ≡ set.insert (live_of ns) n → AreBelow n ns → AreBelow (n + 1) ms
next_below ns ms n is below q lives =
    one_of q n (set.contains (live_of ns) q)
    (sym ((λ i. unsigned_tied q n i || set.contains (live_of ns) q)) ∙ sym (set.contains-insert nat_cmp_total (live_of ns) n q) ∙ ap (λ s. set.contains s q) (sym is) ∙ lives) (below q)

and_right : (a b : Bool) → (a && b) ≡ true → b ≡ true
and_right true b is = is
and_right false b is = grind arith

-- with one taken out, they lie where they lay
pub still_below : (ns ms : List ℕ) (c n : ℕ) → live_of ms ≡ set.remove (live_of ns) c → AreBelow n ns → AreBelow n ms
still_below ns ms c n is below q lives =
    below q (and_right _ (set.contains (live_of ns) q) (sym (set.contains-remove nat_cmp_total (live_of ns) c q) ∙ ap (λ s. set.contains s q) (sym is) ∙ lives))
