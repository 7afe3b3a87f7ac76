-- The slots after each call.
--
--   Holds           slots that stand for a list
--   fresh_slot      one more empty slot in front
--   refilled        an entry put over the last slot
--   found_last      the last slot is found under its number
--   last_emptied    nothing put over the last slot
--   emptied_more    one more empty slot in front
--   emptied         empty slots stand for no entries
--   moved           a slot put in front
--   unmoved         where no slot has the key the list stays as it is
--   at_key, find_more       the looking for the slot of a key, step by step
use Rattle.std.proofs.Common.{◌≡◌, ℕ, suc, ◌+◌, ◌-◌, ◌<◌, ◌≤◌, true, false, nat_eq, List, [], ◌∷◌, ◌++◌, length, take, Option, Some, None, IsSome, option_map, refl, sym, ap, subst, ◌∙◌, arith, length-append, append-nil}
use Rattle.std.specs.Cmp.{nat_eq_equiv}
use Rattle.std.specs.List.{AllByRecursion, IsDistinct}
use Rattle.std.specs.Map.{keys_of, lookup, lookup_entry, remove_entry}
use Rattle.std.specs.Str.{bytes_eq}
use Rattle.std.proofs.Math.Seq.{take-append_seam}
use Rattle.std.proofs.lemmas.Bool.Decides.{nat_tests}
use Rattle.std.proofs.lemmas.List.{length-take, take-take, take_all}
use Rattle.std.proofs.lemmas.List.Elements.{filter_map-append}
use Rattle.cs_base.specs.declared.content.doc.Post.{Post}
use Rattle.cs_model_kept.specs.Entries.{EntryOf}
use Rattle.cs_model_kept.specs.KeptList.{KeptOf, found, is_held, to_front}
use Rattle.cs_model_kept.proofs.KeptListLemmas.{front_distinct, keys, put_distinct}
use Rattle.lru.specs.LruCache.{lru_cache, put_entries, promoted, last_entry}
use Rattle.lru.proofs.Splits.{cut_last, last_from}
use Rattle.lru.proofs.Pairs.{last_of_push, lookup-lookup_entry}
use Rattle.cs_cache.specs.Slots.{Slot, entries_in, has_key, IsEmptyLast, AreSlots, IsLastEmptied}
use Rattle.cs_cache.proofs.FrontLemmas.{find-cons, front_cut, front_none, take_first}

abbrev Kept : Type 0
Kept = List ℕ × EntryOf Post

-- slots that stand for this list, which has n of them
pub record Holds (slots : List Slot) (n : ℕ) (list : KeptOf (EntryOf Post)) : Type 0 where
  pub slots_are : AreSlots slots n
  pub value : entries_in slots ≡ list

held-append : (xs ys : List Slot) → entries_in (xs ++ ys) ≡ entries_in xs ++ entries_in ys
held-append = filter_map-append (λ (s : Slot). s.1)

length-held : (es : List Slot) → length (entries_in es) ≤ length es
length-held [] = omega arith
length-held ((k, None) ∷ es) = omega (arith, length-held es)
length-held ((k, Some e) ∷ es) = omega (arith, length-held es)

both_empty : (xs ys : KeptOf (EntryOf Post)) → xs ++ ys ≡ [] → (xs ≡ []) × (ys ≡ [])
both_empty [] ys e = (refl, e)
both_empty (x ∷ xs) ys e = (cc)

-- ---- new slots
pub fresh_slot : (es : List Slot) (n k : ℕ) → lookup_entry (nat_eq k) es ≡ None → length es < n → put_entries nat_eq (lru_cache es n) k None ≡ (k, None) ∷ es
fresh_slot es n k none less = rw (none, take_all (n - 1) es (omega arith))

pub still_none : (es : List Slot) (j k : ℕ) → j < k → lookup_entry (nat_eq k) es ≡ None → lookup_entry (nat_eq k) ((j, None) ∷ es) ≡ None
still_none es j k less none = let other : nat_eq k j ≡ false = grind (arith, nat_tests) in rw other none

pub empty_slots : (es : List Slot) (n : ℕ) → entries_in es ≡ [] → IsEmptyLast es → length es ≡ n → AreSlots es n
unfolding IsDistinct
empty_slots es n none last count = record { empty_last = last; count = count; different = let P : KeptOf (EntryOf Post) → Type 0 = λ l. IsDistinct bytes_eq (keys l) in subst P (sym none) tt }

-- ---- a slot among the others
key_at : (P : ℕ → Type 0) (us : List Slot) (s : Slot) (vs : List Slot) → AllByRecursion P (keys_of (us ++ s ∷ vs)) → P s.0
key_at P [] s vs h = h.0
key_at P (u ∷ us) s vs h = key_at P us s vs h.1

apart : (j k : ℕ) → nat_eq j k ≡ false → nat_eq k j ≡ false
apart j k e = grind (arith, nat_tests)

cut_found : (us : List Slot) (k : ℕ) (v : Option Kept) (vs : List Slot) → IsDistinct nat_eq (keys_of (us ++ (k, v) ∷ vs))
    → (lookup_entry (nat_eq k) (us ++ (k, v) ∷ vs) ≡ Some (k, v)) × (remove_entry (nat_eq k) (us ++ (k, v) ∷ vs) ≡ us ++ vs)
unfolding IsDistinct
cut_found [] k v vs d = (rw (nat_eq_equiv.refl k), rw (nat_eq_equiv.refl k))
cut_found (u ∷ us) k v vs d =
    let other = apart u.0 k (key_at (λ y. nat_eq u.0 y ≡ false) us (k, v) vs d.0) in
    let on = cut_found us k v vs d.1 in
    (rw other on.0, rw other (ap (λ es. u ∷ es) on.1))

-- ---- the last slot
-- in front of a filled last slot all are filled
abbrev FullIf : List Slot → Option Kept → Type 0
FullIf us None = Unit {0}
FullIf us (Some e) = length (entries_in us) ≡ length us

full_more : (k : ℕ) (e : Kept) (us : List Slot) (v : Option Kept) → FullIf us v → FullIf ((k, Some e) ∷ us) v
full_more k e us None h = tt
full_more k e us (Some f) h = omega (arith, h)

front_of : (us : List Slot) (k : ℕ) (v : Option Kept) → IsEmptyLast (us ++ (k, v) ∷ []) → IsEmptyLast us × FullIf us v
front_of [] k None h = (tt, tt)
front_of [] k (Some e) h = (tt, refl)
front_of ((j, None) ∷ us) k None h = ((both_empty _ _ (sym (held-append us ((k, None) ∷ [])) ∙ h)).0, tt)
front_of ((j, None) ∷ us) k (Some e) h = let h' = (both_empty (entries_in us) (e ∷ []) (sym (held-append us ((k, Some e) ∷ [])) ∙ h)).1 in (cc)
front_of ((j, Some f) ∷ us) k v h = let on = front_of us k v h in (on.0, full_more j f us v on.1)

last_cut : (es : List Slot) (s : Slot) → last_entry es ≡ Some s → (us : List Slot) × (es ≡ us ++ s ∷ [])
last_cut [] s h = (cc)
last_cut (a ∷ xs) s h =
    let cut = cut_last a xs in
    let last : last_entry (a ∷ xs) ≡ Some (last_from a xs) = ap last_entry cut.1 ∙ (last_of_push cut.0 (last_from a xs)).0 in
    let same : last_from a xs ≡ s = cc in
    (cut.0, cut.1 ∙ ap (λ x. cut.0 ++ x ∷ []) same)

length-push : (us : List Slot) (s : Slot) → length (us ++ s ∷ []) ≡ length us + 1
length-push us s = length-append us (s ∷ [])

-- what is entries_in in front of the last slot
held_front : (us : List Slot) (k : ℕ) (v : Option Kept) (n : ℕ) → FullIf us v → length (us ++ (k, v) ∷ []) ≡ n → entries_in us ≡ take (n - 1) (entries_in (us ++ (k, v) ∷ []))
held_front us k None n full count =
    let all : entries_in (us ++ (k, None) ∷ []) ≡ entries_in us = held-append us ((k, None) ∷ []) ∙ append-nil (entries_in us) in
    let room : length (entries_in us) ≤ n - 1 = omega (arith, length-held us, length-push us (k, None)) in
    rw all (sym (take_all (n - 1) (entries_in us) room))
held_front us k (Some e) n full count =
    let all : entries_in (us ++ (k, Some e) ∷ []) ≡ entries_in us ++ e ∷ [] = held-append us ((k, Some e) ∷ []) in
    let front : n - 1 ≡ length (entries_in us) = omega (arith, full, length-push us (k, Some e)) in
    rw (all, front) (sym (take-append_seam (entries_in us) (e ∷ [])))

refilled_cut : (us : List Slot) (k : ℕ) (v : Option Kept) (n : ℕ) (e : Kept) → AreSlots (us ++ (k, v) ∷ []) n → is_held (entries_in (us ++ (k, v) ∷ [])) e.0 ≡ false
    → Holds ((k, Some e) ∷ us) n (take n (e ∷ entries_in (us ++ (k, v) ∷ [])))
refilled_cut us k v n e are new =
    let front = front_of us k v are.empty_last in
    let some : 0 < n = omega (arith, are.count, length-push us (k, v)) in
    let value : e ∷ entries_in us ≡ take n (e ∷ entries_in (us ++ (k, v) ∷ [])) = ap (λ rest. e ∷ rest) (held_front us k v n front.1 are.count) ∙ sym (take_first n e (entries_in (us ++ (k, v) ∷ [])) some) in
    let P : KeptOf (EntryOf Post) → Type 0 = λ l. IsDistinct bytes_eq (keys l) in
    record {
      slots_are = record {
        empty_last = front.0;
        count = omega (arith, length-push us (k, v), are.count);
        different = subst P (sym value) (put_distinct n e (entries_in (us ++ (k, v) ∷ [])) new are.different);
      };
      value = value;
    }

pub refilled : (es : List Slot) (n k : ℕ) (v : Option Kept) (e : Kept) → last_entry es ≡ Some (k, v) → IsDistinct nat_eq (keys_of es) → AreSlots es n → is_held (entries_in es) e.0 ≡ false
    → Holds (put_entries nat_eq (lru_cache es n) k (Some e)) n (take n (e ∷ entries_in es))
refilled es n k v e last d are new =
    let cut = last_cut es (k, v) last in
    let P : List Slot → Type 0 = λ xs. IsDistinct nat_eq (keys_of xs) → AreSlots xs n → is_held (entries_in xs) e.0 ≡ false → Holds (put_entries nat_eq (lru_cache xs n) k (Some e)) n (take n (e ∷ entries_in xs)) in
    let at_cut : P (cut.0 ++ (k, v) ∷ []) = λ d' are' new'. let on = cut_found cut.0 k v [] d' in rw (on.0, on.1, append-nil cut.0) (refilled_cut cut.0 k v n e are' new') in
    subst P (sym cut.1) at_cut d are new

pub found_last : (es : List Slot) (k : ℕ) (v : Option Kept) → last_entry es ≡ Some (k, v) → IsDistinct nat_eq (keys_of es) → IsSome (lookup (nat_eq k) es)
found_last es k v last d =
    let cut = last_cut es (k, v) last in
    let P : List Slot → Type 0 = λ xs. IsDistinct nat_eq (keys_of xs) → IsSome (lookup (nat_eq k) xs) in
    let at_cut : P (cut.0 ++ (k, v) ∷ []) = λ d'.
    let at : lookup (nat_eq k) (cut.0 ++ (k, v) ∷ []) ≡ Some v = sym (lookup-lookup_entry (nat_eq k) (cut.0 ++ (k, v) ∷ [])) ∙ ap (option_map (λ s. s.1)) (cut_found cut.0 k v [] d').0 in
    rw at
    in
    subst P (sym cut.1) at_cut d

-- ---- slots that are emptied
pub last_emptied : (es : List Slot) (n k : ℕ) (v : Option Kept) → last_entry es ≡ Some (k, v) → IsDistinct nat_eq (keys_of es) → put_entries nat_eq (lru_cache es n) k None ≡ (k, None) ∷ take (length es - 1) es
last_emptied es n k v last d =
    let cut = last_cut es (k, v) last in
    let P : List Slot → Type 0 = λ xs. IsDistinct nat_eq (keys_of xs) → put_entries nat_eq (lru_cache xs n) k None ≡ (k, None) ∷ take (length xs - 1) xs in
    let front : length (cut.0 ++ (k, v) ∷ []) - 1 ≡ length cut.0 = omega (arith, length-push cut.0 (k, v)) in
    let others : cut.0 ≡ take (length (cut.0 ++ (k, v) ∷ []) - 1) (cut.0 ++ (k, v) ∷ []) = sym (ap (λ m. take m (cut.0 ++ (k, v) ∷ [])) front ∙ take-append_seam cut.0 ((k, v) ∷ [])) in
    let at_cut : P (cut.0 ++ (k, v) ∷ []) = λ d'. let on = cut_found cut.0 k v [] d' in rw (on.0, on.1, append-nil cut.0) (ap (λ us. (k, None) ∷ us) others) in
    subst P (sym cut.1) at_cut d

pub emptied_more : (es new : List Slot) (i : ℕ) → IsLastEmptied es new → i < length es → entries_in (take i es) ≡ [] → entries_in (take (i + 1) new) ≡ []
emptied_more es new i e less none =
    let front : take (suc i) new ≡ (e.0, None) ∷ take i es = ap (take (suc i)) e.1 ∙ ap (λ us. (e.0, None) ∷ us) (take-take i (length es - 1) es (omega (arith, less))) in
    let next : i + 1 ≡ suc i = omega arith in
    ap (λ m. entries_in (take m new)) next ∙ ap entries_in front ∙ none

pub emptied-length : (es new : List Slot) → IsLastEmptied es new → 1 ≤ length es → length new ≡ length es
emptied-length es new e some = omega (arith, ap length e.1, length-take (length es - 1) es)

none_last : (es : List Slot) → entries_in es ≡ [] → IsEmptyLast es
none_last [] h = tt
none_last ((k, None) ∷ es) h = h
none_last ((k, Some e) ∷ es) h = (cc)

pub emptied : (es : List Slot) (n : ℕ) → entries_in es ≡ [] → length es ≡ n → AreSlots es n
emptied es n none count = empty_slots es n none (none_last es none) count

-- ---- the slot of a key goes in front
still_last : (us : List Slot) (k : ℕ) (e : Kept) (vs : List Slot) → IsEmptyLast (us ++ (k, Some e) ∷ vs) → IsEmptyLast (us ++ vs)
still_last [] k e vs h = h
still_last ((j, None) ∷ us) k e vs h = let h' = (both_empty (entries_in us) (e ∷ entries_in vs) (sym (held-append us ((k, Some e) ∷ vs)) ∙ h)).1 in (cc)
still_last ((j, Some f) ∷ us) k e vs h = still_last us k e vs h

moved_cut : (us : List Slot) (k : ℕ) (e : Kept) (vs : List Slot) (n : ℕ) (key : List ℕ) → found (entries_in us) key ≡ None → bytes_eq e.0 key ≡ true → AreSlots (us ++ (k, Some e) ∷ vs) n
    → Holds ((k, Some e) ∷ (us ++ vs)) n (to_front (entries_in (us ++ (k, Some e) ∷ vs)) (Some key))
moved_cut us k e vs n key before same are =
    let P : KeptOf (EntryOf Post) → Type 0 = λ l. IsDistinct bytes_eq (keys l) in
    let whole : entries_in (us ++ (k, Some e) ∷ vs) ≡ entries_in us ++ e ∷ entries_in vs = held-append us ((k, Some e) ∷ vs) in
    let value : e ∷ entries_in (us ++ vs) ≡ to_front (entries_in (us ++ (k, Some e) ∷ vs)) (Some key) =
    ap (λ rest. e ∷ rest) (held-append us vs) ∙ sym (front_cut key (entries_in us) e (entries_in vs) before same (subst P whole are.different)) ∙ ap (λ l. to_front l (Some key)) (sym whole) in
    record {
      slots_are = record {
        empty_last = still_last us k e vs are.empty_last;
        count = omega (arith, are.count, length-append us ((k, Some e) ∷ vs), length-append us vs);
        different = subst P (sym value) (front_distinct (entries_in (us ++ (k, Some e) ∷ vs)) key are.different);
      };
      value = value;
    }

pub moved : (es us : List Slot) (k : ℕ) (e : Kept) (vs : List Slot) (n : ℕ) (key : List ℕ) → es ≡ us ++ (k, Some e) ∷ vs → found (entries_in us) key ≡ None → bytes_eq e.0 key ≡ true
    → IsDistinct nat_eq (keys_of es) → AreSlots es n → Holds (promoted (nat_eq k) es) n (to_front (entries_in es) (Some key))
moved es us k e vs n key cut before same d are =
    let P : List Slot → Type 0 = λ xs. IsDistinct nat_eq (keys_of xs) → AreSlots xs n → Holds (promoted (nat_eq k) xs) n (to_front (entries_in xs) (Some key)) in
    let at_cut : P (us ++ (k, Some e) ∷ vs) = λ d' are'. let on = cut_found us k (Some e) vs d' in rw (on.0, on.1) (moved_cut us k e vs n key before same are') in
    subst P (sym cut) at_cut d are

pub unmoved : (es : List Slot) (key : List ℕ) → found (entries_in es) key ≡ None → entries_in es ≡ to_front (entries_in es) (Some key)
unmoved es key h = sym (front_none (entries_in es) key h)

-- ---- the looking for a key
pub at_key : (key : List ℕ) (o : Option Kept) → has_key key o ≡ true → (e : Kept) × (o ≡ Some e) × (bytes_eq e.0 key ≡ true)
at_key key None h = (cc)
at_key key (Some e) h = (e, refl, h)

find-push : (key : List ℕ) (xs : KeptOf (EntryOf Post)) (e : Kept) → found xs key ≡ None → bytes_eq e.0 key ≡ false → found (xs ++ e ∷ []) key ≡ None
find-push key [] e h miss = rw miss
find-push key (x ∷ xs) e h miss =
    let on = find-cons _ (λ (x : Kept). bytes_eq x.0 key) x xs refl h in
    rw on.0 (find-push key xs e on.1 miss)

at_slot : (key : List ℕ) (rest : KeptOf (EntryOf Post)) (k : ℕ) (o : Option Kept) → found rest key ≡ None → has_key key o ≡ false → found (rest ++ entries_in ((k, o) ∷ [])) key ≡ None
at_slot key rest k None h miss = rw (append-nil rest) h
at_slot key rest k (Some e) h miss = find-push key rest e h miss

pub find_more : (key : List ℕ) (es : List Slot) (s : Slot) → found (entries_in es) key ≡ None → has_key key s.1 ≡ false → found (entries_in (es ++ s ∷ [])) key ≡ None
find_more key es s h miss = ap (λ l. found l key) (held-append es (s ∷ [])) ∙ at_slot key (entries_in es) s.0 s.1 h miss
