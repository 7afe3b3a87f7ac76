-- Lists of kept entries, whatever the entries are.
--
--   found_any            a test finds an entry exactly where one passes
--   is_found             a key that is held is found
--   plan_alike           lists that hold the same keys give the same plans
--   same_is_held, not_same    a plan is Same exactly where the query's own key is held
--   others_are_new       where it isn't Same the key is new, an entry in front or not
--   fronts_plan_alike, fronts_use_alike       plans and what they use stay where an entry comes to the front
--   numbers_plan_alike .. numbers_keep_alike  entries told by the numbers of their words, and those of the corpus
use Rattle.std.proofs.Common.{◌≡◌, ℕ, ◌+◌, ◌||◌, Bool, true, false, not, List, [], ◌∷◌, ◌++◌, map, cond, refl, sym, ◌∙◌, ap, Option, Some, None, IsSome, if◌then◌else◌}
use Rattle.std.specs.Prelude.{filter, find, is_some, nat_lt}
use Rattle.std.specs.List.{list_any, take-map}
use Rattle.std.specs.Option.{option_map, option_or, option_and_then}
use Rattle.std.specs.Str.{bytes_eq}
use Rattle.std.proofs.lemmas.List.{map-append, length-map}
use Rattle.std.proofs.lemmas.List.Folds.{find-append}
use Rattle.std.proofs.lemmas.Slice.Eq.{bytes_eq-Decides}
use Rattle.cs_base.specs.declared.content.doc.Post.{Post}
use Rattle.cs_base.specs.declared.content.key.Keys.{Keys}
use Rattle.cs_base.specs.declared.content.key.Narrower.{Narrower}
use Rattle.cs_base.specs.declared.index.plan.Kept.TheVariants as kept
use Rattle.cs_base.specs.declared.index.plan.Plan.TheVariants.{Same, Extend, Fresh}
use Rattle.cs_base.proofs.ListsLemmas.{filter_through, any_through}
use Rattle.cs_model_index.specs.Numbered.{row_of}
use Rattle.cs_model_kept.specs.declared.limits.TheConstants.{MAX_ENTRY_SIZE}
use Rattle.cs_model_kept.specs.Entries.{Entry, EntryOf, entry_at, listed_count}
use Rattle.cs_model_kept.specs.KeptList.{KeptOf, extend_or_fresh, found, is_held, kept_at, narrow_or, plan_by, to_front, used_key}
use Rattle.cs_model_kept.specs.KeptListLaws.{FrontsPlanAlike, FrontsUseAlike, OthersAreNew, NumbersPlanAlike, NumbersUseAlike, NumbersFrontAlike, NumbersPutAlike, NumbersKeepAlike}
use Rattle.cs_model_kept.proofs.KeptListLemmas.{held_front}

-- a test finds an entry exactly where one passes
pub found_any : {X : Type 0} (p : X → Bool) (xs : List X) → is_some (find p xs) ≡ list_any p xs
found_any p [] = refl
found_any p (x ∷ xs) =
    elim (p x) as (λ b. is_some (cond b (Some x) (find p xs)) ≡ (b || list_any p xs)) [
      | true ↦ refl
      | false ↦ found_any p xs
    ]

pub is_found : {E : Type 0} (held : KeptOf E) (key : List ℕ) → is_held held key ≡ true → IsSome (found held key)
is_found held key h = found_any (λ e. bytes_eq e.0 key) held ∙ h

-- ---- lists that hold the same keys
module _ {E F : Type 0} (xs : KeptOf E) (ys : KeptOf F) (alike : (key : List ℕ) → is_held xs key ≡ is_held ys key) where
  extend_alike : (o : Option (List ℕ)) → extend_or_fresh xs o ≡ extend_or_fresh ys o
  extend_alike None = refl
  extend_alike (Some key) = ap (λ b. if b then Extend else Fresh) (alike key)

  narrow_alike : (keys : Keys) (o : Option Narrower) → narrow_or xs keys o ≡ narrow_or ys keys o
  narrow_alike keys None = extend_alike keys.extend
  narrow_alike keys (Some n) = refl

  pub plan_alike : (keys : Keys) → plan_by xs keys ≡ plan_by ys keys
  plan_alike keys =
      let tests : (λ (n : Narrower). is_held xs n.key) ≡ (λ n. is_held ys n.key) = λ i n. alike n.key i in
      ap (λ b. if b then Same else narrow_or xs keys (find (λ n. is_held xs n.key) keys.narrow)) (alike keys.same)
      ∙ ap (λ (t : Narrower → Bool). if is_held ys keys.same then Same else narrow_or xs keys (find t keys.narrow)) tests
      ∙ ap (λ p. if is_held ys keys.same then Same else p) (narrow_alike keys (find (λ n. is_held ys n.key) keys.narrow))

-- ---- the query's own key
module _ {E : Type 0} (held : KeptOf E) (keys : Keys) where
  extend_other : (o : Option (List ℕ)) → ¬ (extend_or_fresh held o ≡ Same)
  extend_other None e = cc
  extend_other (Some key) e = cases (is_held held key) e
    where
      cases : (b : Bool) → ¬ ((if b then Extend else Fresh) ≡ Same)
      cases true e = cc
      cases false e = cc

  narrow_other : (o : Option Narrower) → ¬ (narrow_or held keys o ≡ Same)
  narrow_other None e = extend_other keys.extend e
  narrow_other (Some n) e = cc

  shorter : Option Narrower
  shorter = find (λ n. is_held held n.key) keys.narrow

  pub same_is_held : plan_by held keys ≡ Same → is_held held keys.same ≡ true
  unfolding shorter
  same_is_held e = cases (is_held held keys.same) e
    where
      cases : (b : Bool) → (if b then Same else narrow_or held keys shorter) ≡ Same → b ≡ true
      cases true e = refl
      cases false e = absurd (narrow_other shorter e)

  pub not_same : ¬ (plan_by held keys ≡ Same) → is_held held keys.same ≡ false
  unfolding shorter
  not_same other = cases (is_held held keys.same) other
    where
      cases : (b : Bool) → ¬ ((if b then Same else narrow_or held keys shorter) ≡ Same) → b ≡ false
      cases true other = absurd (other refl)
      cases false other = refl

pub others_are_new : OthersAreNew
others_are_new held key keys other = held_front held key keys.same ∙ not_same held keys other

-- ---- an entry in front
-- where what passes p is always kept by a filter, or never, p finds there what it found, or nothing
find_filter : {X : Type 0} (p a : X → Bool) (c : Bool) → ((x : X) → p x ≡ true → a x ≡ c) → (xs : List X) → find p (filter a xs) ≡ cond c (find p xs) None
find_filter p a true h [] = refl
find_filter p a false h [] = refl
find_filter p a c h (x ∷ xs) = step (p x) (a x) refl refl (h x) (find_filter p a c h xs)
  where
    step : (b d : Bool) → p x ≡ b → a x ≡ d → (p x ≡ true → a x ≡ c) → find p (filter a xs) ≡ cond c (find p xs) None
        → find p (cond d (x ∷ filter a xs) (filter a xs)) ≡ cond c (cond b (Some x) (find p xs)) None
    step true true e f k on = let is : c ≡ true = sym (k e) ∙ f in rw (e, is) refl
    step true false e f k on = let is : c ≡ false = sym (k e) ∙ f in on ∙ rw is refl
    step false true e f k on = rw e on
    step false false e f k on = on

either_found : {X : Type 0} (c : Bool) (o : Option X) → option_or (cond c o None) (cond (not c) o None) ≡ o
either_found true None = refl
either_found true (Some x) = refl
either_found false o = refl

pub found_front : {E : Type 0} (held : KeptOf E) (o : Option (List ℕ)) (key : List ℕ) → found (to_front held o) key ≡ found held key
found_front held None key = refl
found_front {E} held (Some used) key =
    let p : List ℕ × E → Bool = λ e. bytes_eq e.0 key in
    let a : List ℕ × E → Bool = λ e. bytes_eq e.0 used in
    let passes : (e : List ℕ × E) → p e ≡ true → a e ≡ bytes_eq key used = λ e same. ap (λ x. bytes_eq x used) ((bytes_eq-Decides e.0 key).0 same) in
    find-append p (filter a held) (filter (λ e. not (a e)) held)
    ∙ ap (λ o. option_or o (find p (filter (λ e. not (a e)) held))) (find_filter p a (bytes_eq key used) passes held)
    ∙ ap (option_or (cond (bytes_eq key used) (find p held) None)) (find_filter p (λ e. not (a e)) (not (bytes_eq key used)) (λ e same. ap not (passes e same)) held)
    ∙ either_found (bytes_eq key used) (find p held)

pub used_front : {E : Type 0} (held : KeptOf E) (key o : Option (List ℕ)) → option_and_then (found (to_front held key)) o ≡ option_and_then (found held) o
used_front held key None = refl
used_front held key (Some k) = found_front held key k

pub fronts_plan_alike : FrontsPlanAlike
fronts_plan_alike held key keys = plan_alike (to_front held key) held (held_front held key) keys

pub fronts_use_alike : FrontsUseAlike
fronts_use_alike held key keys by_plan = used_front held key (used_key keys by_plan)

-- ---- entries told otherwise
find_through : {X Y : Type 0} (f : X → Y) (p : Y → Bool) (xs : List X) → find p (map f xs) ≡ option_map f (find (λ x. p (f x)) xs)
find_through f p [] = refl
find_through f p (x ∷ xs) =
    elim (p (f x)) as (λ b. cond b (Some (f x)) (find p (map f xs)) ≡ option_map f (cond b (Some x) (find (λ x. p (f x)) xs))) [
      | true ↦ refl
      | false ↦ find_through f p xs
    ]

pub used_at : (ws : List (List ℕ)) (held : KeptOf (EntryOf Post)) (o : Option (List ℕ)) → option_and_then (found (kept_at ws held)) o ≡ option_map (λ e. (e.0, entry_at ws e.1)) (option_and_then (found held) o)
used_at ws held None = refl
used_at ws held (Some key) = find_through (λ e. (e.0, entry_at ws e.1)) (λ e. bytes_eq e.0 key) held

pub numbers_plan_alike : NumbersPlanAlike
numbers_plan_alike ws held keys = plan_alike (kept_at ws held) held (λ key. any_through (λ e. (e.0, entry_at ws e.1)) (λ e. bytes_eq e.0 key) held) keys

pub numbers_use_alike : NumbersUseAlike
numbers_use_alike ws held keys by_plan = used_at ws held (used_key keys by_plan)

pub numbers_front_alike : NumbersFrontAlike
numbers_front_alike ws held None = refl
numbers_front_alike ws held (Some key) =
    let f : List ℕ × EntryOf Post → List ℕ × Entry = λ e. (e.0, entry_at ws e.1) in
    let a : List ℕ × Entry → Bool = λ e. bytes_eq e.0 key in
    ap (λ l. l ++ filter (λ e. not (a e)) (map f held)) (sym (filter_through f a held))
    ∙ ap (λ l. map f (filter (λ e. bytes_eq e.0 key) held) ++ l) (sym (filter_through f (λ e. not (a e)) held))
    ∙ sym (map-append f (filter (λ e. bytes_eq e.0 key) held) (filter (λ e. not (bytes_eq e.0 key)) held))

pub numbers_put_alike : NumbersPutAlike
numbers_put_alike ws held room kept.Had key e = refl
numbers_put_alike ws held room kept.Kept key e = take-map (λ e. (e.0, entry_at ws e.1)) room ((key, e) ∷ held)
numbers_put_alike ws held room kept.TooLarge key e = refl

pub numbers_keep_alike : NumbersKeepAlike
numbers_keep_alike ws e = ap (λ n. if nat_lt MAX_ENTRY_SIZE (n + listed_count e.base) then kept.TooLarge else kept.Kept) (length-map e.rows (row_of ws))
