-- Words that come one by one.
--
--   taken_same       a word that stands there already is taken without being added
--   listed_behind    words that have the same listing, with one more behind them
--   indices_are      each word that came has its index
--   none_gathered    before any came; gathered_one, gathering_one: behind one more
use Rattle.std.proofs.Common.{◌≡◌, ℕ, Bool, true, false, true≢false, ◌||◌, List, [], ◌∷◌, ◌++◌, length, map, refl, sym, ap, subst, ◌∙◌, arith, append-nil, length-append}
use Rattle.std.specs.List.{All, list_any}
use Rattle.std.specs.Ordering.{nat_cmp, eq_by_cmp}
use Rattle.std.specs.Cmp.Lexicographic.{slice_cmp}
use Rattle.std.proofs.lemmas.Cmp.{nat_list_cmp_total}
use Rattle.std.proofs.lemmas.List.{map-append}
use Rattle.std.proofs.lemmas.List.Elements.{All-append, All-from_recursion}
use Rattle.std.proofs.lemmas.List.Folds.{list_any-append, list_any_at}
use Rattle.std.proofs.lemmas.Map.Lookups.{exact_bytes}
use Rattle.cs_base.specs.content.Members.{members_in}
use Rattle.cs_base.proofs.MembersLemmas.{is_member-listed, members-alike}
use Rattle.cs_vocab.specs.Ranges.{IsBelow, IsWordAt, AreNumbers}
use Rattle.cs_vocab.specs.Gathering.{AreWordSlots, HasTaken, IsGathering, gathered}
use Rattle.cs_vocab.specs.declared.gathering.Gathering.{Gathering}
use Rattle.cs_vocab.proofs.WordNumberLemmas.{numbers_kept, word_at}

abbrev listed : List (List ℕ) → List (List ℕ)
listed ws = members_in (slice_cmp nat_cmp) ws

-- a test that a member passes already
passed : (a t b : Bool) → (t ≡ true → a ≡ true) → (a || b) ≡ (a || (t || b))
passed true t b h = refl
passed false true b h = absurd (true≢false (sym (h refl)))
passed false false b h = refl

pub taken_same : (ws : List (List ℕ)) (w : List ℕ) (n : ℕ) → IsWordAt ws n w → HasTaken ws ws w
taken_same ws w n at = record {
  members = λ rest. members-alike (slice_cmp nat_cmp) nat_list_cmp_total exact_bytes (ws ++ rest) (ws ++ w ∷ rest) (λ q.
      let e : List ℕ → Bool = eq_by_cmp (slice_cmp nat_cmp) q in
      list_any-append e ws rest
      ∙ passed (list_any e ws) (e w) (list_any e rest) (λ t. list_any_at e ws n [] at.0 (ap e at.1 ∙ t))
      ∙ sym (list_any-append e ws (w ∷ rest)));
  kept = λ k l. refl;
  longer = omega arith;
  few = omega arith;
}

pub listed_behind : (ws all : List (List ℕ)) (w : List ℕ) → listed ws ≡ listed all → listed (ws ++ w ∷ []) ≡ listed (all ++ w ∷ [])
listed_behind ws all w same = members-alike (slice_cmp nat_cmp) nat_list_cmp_total exact_bytes (ws ++ w ∷ []) (all ++ w ∷ []) (λ q.
    let e : List ℕ → Bool = eq_by_cmp (slice_cmp nat_cmp) q in
    list_any-append e ws (w ∷ [])
    ∙ ap (λ b. b || list_any e (w ∷ [])) (sym (is_member-listed (slice_cmp nat_cmp) nat_list_cmp_total ws q) ∙ ap (list_any e) same ∙ is_member-listed (slice_cmp nat_cmp) nat_list_cmp_total all q)
    ∙ sym (list_any-append e all (w ∷ [])))

-- ---- words one by one

pub indices_are : (g : Gathering) → IsGathering g → AreNumbers g.words.items g.indices.items (gathered g)
indices_are g h = record { told = refl; below = h.below }

pub none_gathered : (g : Gathering) → g.words.items ≡ [] → g.indices.items ≡ [] → AreWordSlots g.slots.items → IsGathering g
none_gathered g ws ns slots = record {
  members = ap listed ws ∙ sym (ap (λ xs. listed (map (word_at g.words.items) xs)) ns);
  below = subst (All (IsBelow (length g.words.items))) (sym ns) (All-from_recursion (IsBelow (length g.words.items)) [] tt);
  few = omega (arith, ap length ws);
  slots = slots;
}

module _ (g h : Gathering) (n : ℕ) (w : List ℕ) (is : IsGathering g) (taken : HasTaken g.words.items h.words.items w) (at : IsWordAt h.words.items n w) (more : h.indices.items ≡ g.indices.items ++ n ∷ []) where
  pub gathered_one : gathered h ≡ gathered g ++ w ∷ []
  gathered_one =
      ap (map (word_at h.words.items)) more
      ∙ map-append (word_at h.words.items) g.indices.items (n ∷ [])
      ∙ ap (λ r. r ++ word_at h.words.items n ∷ []) (numbers_kept g.words.items h.words.items g.indices.items (gathered g) taken.kept taken.longer (indices_are g is)).told
      ∙ ap (λ v. gathered g ++ v ∷ []) at.1

  pub gathering_one : AreWordSlots h.slots.items → IsGathering h
  gathering_one slots = record {
    members = taken_all;
    below = subst (All (IsBelow (length h.words.items))) (sym more)
        (All-append (IsBelow (length h.words.items)) g.indices.items (n ∷ []) (numbers_kept g.words.items h.words.items g.indices.items (gathered g) taken.kept taken.longer (indices_are g is)).below (All-from_recursion (IsBelow (length h.words.items)) (n ∷ []) (at.0, tt)));
    few = omega (arith, is.few, taken.few, ap length more, length-append g.indices.items (n ∷ []));
    slots = slots;
  }
    where
      taken_all : listed h.words.items ≡ listed (gathered h)
      taken_all =
          ap listed (sym (append-nil h.words.items)) ∙ taken.members []
          ∙ listed_behind g.words.items (gathered g) w is.members
          ∙ ap listed (sym gathered_one)
