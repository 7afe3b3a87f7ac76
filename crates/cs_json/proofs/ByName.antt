-- Where a facet is put among others.
use Rattle.std.proofs.Common.{◌≡◌, ◌<◌, ℕ, zero, suc, List, [], ◌∷◌, ◌++◌, Bor, Ordering, Less, Equal, Greater, refl, nat_cmp, length, map, take, set, get_or, ap, sym, ◌∙◌, arith}
use Rattle.std.specs.Prelude.{⊤}
use Rattle.std.specs.List.{insert}
use Rattle.std.specs.Cmp.Lexicographic.{slice_cmp}
use Rattle.std.specs.Ordering.{match_ordering}
use Rattle.std.proofs.lemmas.Map.Lookups.{exact_bytes}
use Rattle.serde_json.specs.Data.{Members, member, put}
use Rattle.cs_model.specs.Replies.{FacetShown, table_data}
use Rattle.cs_json.specs.ReplyTokens.{facets_in_order}

-- the name comes behind that of each facet
abbrev pub ComesBehind : List ℕ → List (Bor FacetShown) → Type 0
ComesBehind name [] = ⊤
ComesBehind name (g ∷ gs) = (slice_cmp nat_cmp name g.now.name ≡ Greater) × ComesBehind name gs

-- the members that the facets are, in their order
abbrev pub members : List (Bor FacetShown) → Members
members gs = facets_in_order (map (λ g. g.now) gs)

module _ (f : Bor FacetShown) where
  -- how its name stands to that of another
  abbrev pub beside : Bor FacetShown → Ordering
  beside g = slice_cmp nat_cmp f.now.name g.now.name

  -- the members with it
  abbrev pub placed : List (Bor FacetShown) → Members
  placed gs = put f.now.name (table_data f.now.table) (members gs)

  first : (g : Bor FacetShown) (gs : List (Bor FacetShown)) → beside g ≡ Less → placed (g ∷ gs) ≡ members (f ∷ g ∷ gs)
  first g gs e = ap (λ o. match_ordering o (members (f ∷ g ∷ gs)) (member g.now.name (table_data f.now.table) (members gs)) (member g.now.name (table_data g.now.table) (placed gs))) e

  same : (g : Bor FacetShown) (gs : List (Bor FacetShown)) → beside g ≡ Equal → placed (g ∷ gs) ≡ members (f ∷ gs)
  same g gs e =
      ap (λ o. match_ordering o (members (f ∷ g ∷ gs)) (member g.now.name (table_data f.now.table) (members gs)) (member g.now.name (table_data g.now.table) (placed gs))) e
      ∙ ap (λ k. member k (table_data f.now.table) (members gs)) (sym (exact_bytes f.now.name g.now.name e))

  later : (g : Bor FacetShown) (gs : List (Bor FacetShown)) → beside g ≡ Greater → placed (g ∷ gs) ≡ member g.now.name (table_data g.now.table) (placed gs)
  later g gs e = ap (λ o. match_ordering o (members (f ∷ g ∷ gs)) (member g.now.name (table_data f.now.table) (members gs)) (member g.now.name (table_data g.now.table) (placed gs))) e

  -- behind all facets it's the last
  pub put_last : (gs : List (Bor FacetShown)) → ComesBehind f.now.name gs → members (gs ++ f ∷ []) ≡ placed gs
  put_last [] h = refl
  put_last (g ∷ gs) h = ap (member g.now.name (table_data g.now.table)) (put_last gs h.1) ∙ sym (later g gs h.0)

  -- before the first facet whose name is greater
  pub put_between : (gs : List (Bor FacetShown)) (at : ℕ) (b : Bor FacetShown) → at < length gs → ComesBehind f.now.name (take at gs) → b ≡ get_or gs at b → beside b ≡ Less → members (insert gs at f) ≡ placed gs
  put_between [] at b l h is e = absurd (omega arith)
  put_between (g ∷ gs) zero b l h is e = sym (first g gs (ap beside (sym is) ∙ e))
  put_between (g ∷ gs) (suc at) b l h is e = ap (member g.now.name (table_data g.now.table)) (put_between gs at b (omega arith) h.1 is e) ∙ sym (later g gs h.0)

  -- in the place of the facet with its name
  pub put_over : (gs : List (Bor FacetShown)) (at : ℕ) (b : Bor FacetShown) → at < length gs → ComesBehind f.now.name (take at gs) → b ≡ get_or gs at b → beside b ≡ Equal → members (set gs at f) ≡ placed gs
  put_over [] at b l h is e = absurd (omega arith)
  put_over (g ∷ gs) zero b l h is e = sym (same g gs (ap beside (sym is) ∙ e))
  put_over (g ∷ gs) (suc at) b l h is e = ap (member g.now.name (table_data g.now.table)) (put_over gs at b (omega arith) h.1 is e) ∙ sym (later g gs h.0)

  -- one more facet before it
  pub behind_more : (gs : List (Bor FacetShown)) (at : ℕ) (b : Bor FacetShown) → at < length gs → ComesBehind f.now.name (take at gs) → b ≡ get_or gs at b → beside b ≡ Greater → ComesBehind f.now.name (take (suc at) gs)
  behind_more [] at b l h is e = absurd (omega arith)
  behind_more (g ∷ gs) zero b l h is e = (ap beside (sym is) ∙ e, tt)
  behind_more (g ∷ gs) (suc at) b l h is e = (h.0, behind_more gs at b (omega arith) h.1 is e)
