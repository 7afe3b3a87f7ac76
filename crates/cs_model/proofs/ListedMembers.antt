-- Listings that compute: what a finite map or a set of written members has, in order.
--
--   sorted_entries R es    each entry put at its place, the first of a key staying
--   entries-sorted         they are the entries of the map of es
--   listed R xs            the members of xs, each once, in order
--   members-listed         they are the listing of the set
use Rattle.std.proofs.Common.{◌≡◌, List, [], ◌∷◌, map, length, refl, sym, ap, ◌∙◌, arith}
use Rattle.std.specs.declared.cmp.Ordering.{Ordering}
use Rattle.std.specs.Cmp.{IsTotalOrder}
use Rattle.std.specs.FinMap.{entries, from_entries, empty, len-empty, len-entries, entries-insert}
use Rattle.std.specs.FinMap.Entries.{put}
use Rattle.cs_base.specs.content.Members.{marked, members_in}

none : {A : Type 0} (es : List A) → length es ≡ 0 → es ≡ []
none [] e = refl
none (e ∷ es) h = absurd (omega (arith, h))

module _ {X : Type 0} (R : X → X → Ordering) where
  abbrev pub sorted_entries : {Y : Type 0} → List (X × Y) → List (X × Y)
  sorted_entries [] = []
  sorted_entries (e ∷ es) = put R e.0 e.1 (sorted_entries es)

  pub entries-sorted : {Y : Type 0} → IsTotalOrder R → (es : List (X × Y)) → entries (from_entries {R = R} es) ≡ sorted_entries es
  entries-sorted o [] = none _ (sym (len-entries (empty {R = R})) ∙ len-empty R _)
  entries-sorted o (e ∷ es) = entries-insert o (from_entries es) e.0 e.1 ∙ ap (put R e.0 e.1) (entries-sorted o es)

  abbrev pub listed : List X → List X
  listed xs = map (λ e. e.0) (sorted_entries (map marked xs))

  pub members-listed : IsTotalOrder R → (xs : List X) → members_in R xs ≡ listed xs
  members-listed o xs = ap (map (λ e. e.0)) (entries-sorted o (map marked xs))
