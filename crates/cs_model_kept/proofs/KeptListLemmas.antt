-- Good lists of kept entries stay good.
--
--   fronts_stay_good     where an entry comes to the front
--   lists_stay_good      after a query
--   front_distinct, put_distinct      keys that differ stay so
--   held_front           the same keys are held where an entry comes to the front
--   held_are_own         each key has its own entry
use Rattle.std.proofs.Common.{◌≡◌, ℕ, zero, suc, ◌||◌, Bool, true, false, true≢false, not, List, [], ◌∷◌, map, take, cond, refl, sym, ◌∙◌, ap, Option, Some, None, if◌then◌else◌}
use Rattle.std.specs.Prelude.{find}
use Rattle.std.specs.List.{AllByRecursion, IsDistinct}
use Rattle.std.specs.List.Sorted.{IsPermutation}
use Rattle.std.specs.Str.{bytes_eq}
use Rattle.std.specs.Cmp.Lexicographic.{nat_list_eq_equiv}
use Rattle.std.proofs.lemmas.List.Elements.{All-cons, All-head, All-tail, All-take}
use Rattle.std.proofs.lemmas.List.Sorted.{IsPermutation-map, IsPermutation-filter_both, All-permutation, list_any-IsPermutation}
use Rattle.std.proofs.lemmas.Map.Keys.{IsDistinct-cons, IsDistinct-tail, IsDistinct-IsPermutation}
use Rattle.std.proofs.lemmas.Slice.Eq.{bytes_eq-Decides}
use Rattle.cs_base.specs.declared.index.plan.Kept.{Kept}
use Rattle.cs_base.specs.declared.index.plan.Kept.TheVariants as kept
use Rattle.cs_base.specs.declared.index.plan.Plan.TheVariants.{Same}
use Rattle.cs_base.specs.declared.content.query.Query.{Query}
use Rattle.cs_model.specs.Canonical.{canonical}
use Rattle.cs_model.specs.Corpus.{Corpus}
use Rattle.cs_model.specs.Keys.{keys_of}
use Rattle.cs_model.specs.Refusals.{IsOfGrammar}
use Rattle.cs_model_kept.specs.Entries.{Entry, entry_of}
use Rattle.cs_model_kept.specs.KeptList.{KeptOf, KeptList, IsOwn, GoodFor, is_held, found, narrow_or, plan, to_front, used_key, put_in_front, after}
use Rattle.cs_model_kept.specs.KeptListLaws.{FrontsStayGood, ListsStayGood, HeldAreOwn}

abbrev pub keys : {E : Type 0} → KeptOf E → List (List ℕ)
keys held = map (λ e. e.0) held

flips : (x y : List ℕ) → bytes_eq x y ≡ bytes_eq y x
flips x y = nat_list_eq_equiv.symm x y

front_permutes : {E : Type 0} (held : KeptOf E) (key : List ℕ) → IsPermutation held (to_front held (Some key))
front_permutes held key = IsPermutation-filter_both (λ e. bytes_eq e.0 key) (λ e. not (bytes_eq e.0 key)) (λ e. refl) held

pub front_distinct : {E : Type 0} (held : KeptOf E) (key : List ℕ) → IsDistinct bytes_eq (keys held) → IsDistinct bytes_eq (keys (to_front held (Some key)))
front_distinct held key h =
    IsDistinct-IsPermutation bytes_eq flips (keys held) (keys (to_front held (Some key))) (IsPermutation-map (λ e. e.0) held (to_front held (Some key)) (front_permutes held key)) h

pub fronts_stay_good : FrontsStayGood
fronts_stay_good k held None good = good
fronts_stay_good k held (Some key) good = record {
  different = front_distinct held key good.different;
  own = All-permutation (IsOwn k) held (to_front held (Some key)) (front_permutes held key) good.own;
}

pub held_front : {E : Type 0} (held : KeptOf E) (o : Option (List ℕ)) (key : List ℕ) → is_held (to_front held o) key ≡ is_held held key
held_front held None key = refl
held_front held (Some used) key = sym (list_any-IsPermutation (λ e. bytes_eq e.0 key) held (to_front held (Some used)) (front_permutes held used))

-- ---- one entry more
all_other : {E : Type 0} (key : List ℕ) (held : KeptOf E) → is_held held key ≡ false → AllByRecursion (λ y. bytes_eq key y ≡ false) (keys held)
all_other key [] h = tt
all_other key (e ∷ held) h =
    elim (bytes_eq e.0 key) as (λ b. bytes_eq e.0 key ≡ b → (b || is_held held key) ≡ false → AllByRecursion (λ y. bytes_eq key y ≡ false) (keys (e ∷ held))) [
      | true ↦ λ _ no. absurd (true≢false no)
      | false ↦ λ other rest. (flips key e.0 ∙ other, all_other key held rest)
    ] refl h

all_take : {E : Type 0} (key : List ℕ) (n : ℕ) (held : KeptOf E) → AllByRecursion (λ y. bytes_eq key y ≡ false) (keys held) → AllByRecursion (λ y. bytes_eq key y ≡ false) (keys (take n held))
all_take key zero held h = tt
all_take key (suc n) [] h = tt
all_take key (suc n) (f ∷ held) h = (h.0, all_take key n held h.1)

distinct_take : {E : Type 0} (n : ℕ) (held : KeptOf E) → IsDistinct bytes_eq (keys held) → IsDistinct bytes_eq (keys (take n held))
unfolding IsDistinct
distinct_take zero held h = tt
distinct_take (suc n) [] h = tt
distinct_take (suc n) (e ∷ held) h = (all_take e.0 n held h.0, distinct_take n held h.1)

pub put_distinct : {E : Type 0} (room : ℕ) (e : List ℕ × E) (held : KeptOf E) → is_held held e.0 ≡ false → IsDistinct bytes_eq (keys held) → IsDistinct bytes_eq (keys (take room (e ∷ held)))
put_distinct room e held new h = distinct_take room (e ∷ held) (IsDistinct-cons bytes_eq e.0 (keys held) (all_other e.0 held new) h)

put_good : (k : Corpus) (held : KeptList) (room : ℕ) (q : Query) → GoodFor k held → IsOfGrammar q → is_held held (canonical q) ≡ false
    → GoodFor k (take room ((canonical q, entry_of k q) ∷ held))
put_good k held room q good of_grammar new =
    let e : List ℕ × Entry = (canonical q, entry_of k q) in
    record {
      different = put_distinct room e held new good.different;
      own = All-take (IsOwn k) room (e ∷ held) (All-cons (IsOwn k) e held (record { query = q; of_grammar = of_grammar; key = refl; entry = refl }) good.own);
    }

-- where the plan isn't Same, the query isn't held
not_held : (held : KeptList) (q : Query) → ¬ (plan held q ≡ Same) → is_held held (canonical q) ≡ false
unfolding plan
not_held held q other = cases (is_held held (canonical q)) refl
  where
    cases : (b : Bool) → is_held held (canonical q) ≡ b → b ≡ false
    cases true e = absurd (other (ap (λ b. if b then Same else narrow_or held (keys_of q) (find (λ n. is_held held n.key) (keys_of q).narrow)) e))
    cases false e = refl

put_by : (k : Corpus) (held : KeptList) (room : ℕ) (q : Query) (was : Kept) → GoodFor k held → IsOfGrammar q → (was ≡ kept.Kept → is_held held (canonical q) ≡ false)
    → GoodFor k (put_in_front room was (canonical q, entry_of k q) held)
put_by k held room q kept.Had good g new = good
put_by k held room q kept.Kept good g new = put_good k held room q good g (new refl)
put_by k held room q kept.TooLarge good g new = good

pub lists_stay_good : ListsStayGood
unfolding after
lists_stay_good k held room q was good g other =
    let used = used_key (keys_of q) (plan held q) in
    put_by k (to_front held used) room q was (fronts_stay_good k held used good) g (λ e. held_front held used (canonical q) ∙ not_held held q (other e))

-- ---- what is held
pub held_are_own : HeldAreOwn
held_are_own k [] key good h = absurd (true≢false (sym h))
held_are_own k (e ∷ held) key good h =
    elim (bytes_eq e.0 key) as (λ b. bytes_eq e.0 key ≡ b → (b || is_held held key) ≡ true → (q : Query) × IsOfGrammar q × (key ≡ canonical q) × (cond b (Some e) (found held key) ≡ Some (key, entry_of k q))) [
      | true ↦ λ same _.
          let own : IsOwn k e = All-head (IsOwn k) e held good.own in
          let is : e.0 ≡ key = (bytes_eq-Decides e.0 key).0 same in
          (own.query, own.of_grammar, sym is ∙ own.key, ap (λ (p : List ℕ × Entry). Some p) (ap (λ x. (x, e.1)) is ∙ ap (λ x. (key, x)) own.entry))
      | false ↦ λ _ rest. held_are_own k held key (record { different = IsDistinct-tail bytes_eq e.0 (keys held) good.different; own = All-tail (IsOwn k) e held good.own }) rest
    ] refl h
