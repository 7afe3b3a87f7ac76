-- Kept entries of an index: what is found fits, and over the bytes of the index it is what its query needs.
--
--   find_all             what is found passes the test, and what holds of all holds of it
--   same_fits, extend_fits, narrow_fits      over each store, the entry that a plan uses is in range, as its query's own is
--   narrowed_fits        fewer rows are
--   in_stock, from_stock     the query's own entry, over the bytes and over what is read of them
--   same_told, extend_told, narrow_told      over the bytes, the entry that a plan uses is the one that it speaks of
--   behind_fits, kept_behind     what is left behind a reply fits, and is what a request keeps
--   was_had              an entry was had exactly by the plan Same
--   kept_is, after_is, good_behind       over the bytes it is the list after the query, and stays good
use Rattle.std.proofs.Common.{◌≡◌, ℕ, ◌<◌, ◌==◌, Bool, true, false, true≢false, not, List, [], ◌∷◌, length, map, take, cond, get_or, refl, sym, ap, subst}
use Rattle.std.proofs.Common.{◌∙◌, arith, Option, Some, None, IsSome, suc, if◌then◌else◌}
use Rattle.std.specs.Prelude.{All, filter, find, fold, is_some, nat_lt, IfSome}
use Rattle.std.specs.Option.{option_map, option_and_then, unwrap_or}
use Rattle.std.specs.List.{AllByRecursion, Contains}
use Rattle.std.specs.Str.{bytes_eq}
use Rattle.std.proofs.lemmas.Bool.Decides.{nat_tests}
use Rattle.std.proofs.lemmas.List.Elements.{All-append, All-cons, All-filter, All-map, All-take, Contains-get_or, recursion_from_All}
use Rattle.std.proofs.lemmas.Slice.Eq.{bytes_eq-Decides}
use Rattle.cs_base.specs.declared.content.doc.Base.{Base}
use Rattle.cs_base.specs.declared.content.doc.Post.{Post}
use Rattle.cs_base.specs.declared.content.doc.Row.{Row}
use Rattle.cs_base.specs.declared.content.key.Keys.{Keys}
use Rattle.cs_base.specs.declared.content.key.Narrower.{Narrower}
use Rattle.cs_base.specs.declared.content.query.Chain.{Chain, out-Chain}
use Rattle.cs_base.specs.declared.content.query.Part.{Part, out-Part, out-roll-Part}
use Rattle.cs_base.specs.declared.content.query.Query.{Query, out-Query, out-roll-Query}
use Rattle.cs_base.specs.declared.index.plan.Kept.{Kept}
use Rattle.cs_base.specs.declared.index.plan.Kept.TheVariants as kept
use Rattle.cs_base.specs.declared.index.plan.Plan.{Plan}
use Rattle.cs_base.specs.declared.index.plan.Plan.TheVariants.{Same, Narrow, Extend, Fresh}
use Rattle.cs_base.proofs.ListsLemmas.{filter_through}
use Rattle.cs_cache.specs.AnswerList.{AnswerList}
use Rattle.cs_file.specs.Indexes.{IndexView, StandsFor}
use Rattle.cs_model.specs.Answers.{begins}
use Rattle.cs_model.specs.Canonical.{canonical}
use Rattle.cs_model.specs.Corpus.{Corpus}
use Rattle.cs_model.specs.Grammar.{on_last, with_chains}
use Rattle.cs_model.specs.Keys.{keys_of, last_prefix, narrower, narrowers, shorter_words, with_prefix, ended_by}
use Rattle.cs_model.specs.Refusals.{IsOfGrammar}
use Rattle.cs_model.proofs.CanonicalReading.{different}
use Rattle.cs_model_index.specs.Numbered.{rows_at, row_of, word_at}
use Rattle.cs_model_kept.specs.declared.limits.TheConstants.{MAX_ENTRY_SIZE}
use Rattle.cs_model_kept.specs.Entries.{Entry, EntryOf, entry_at, entry_of, kept_entry_size}
use Rattle.cs_model_kept.specs.KeptList.{GoodFor, KeptOf, KeptList, after, found, kept_at, kept_by, kept_fresh, plan, plan_by, put_in_front, to_front}
use Rattle.cs_model_kept.specs.KeptList.{used_entry, used_key, is_same}
use Rattle.cs_model_kept.specs.KeptListLaws.{Finds, Serves, before_last}
use Rattle.cs_model_kept.proofs.FirstParts.{first_parts_stay}
use Rattle.cs_model_kept.proofs.HeldLemmas.{numbers_front_alike, numbers_keep_alike, numbers_plan_alike, numbers_put_alike, numbers_use_alike}
use Rattle.cs_model_kept.proofs.KeptListLemmas.{lists_stay_good}
use Rattle.cs_model_kept.proofs.NarrowLemmas.{entries_narrow}
use Rattle.cs_model_kept.proofs.PlanLemmas.{plans_serve}
use Rattle.cs_model_kept.proofs.ShorterQueries.{shorter_stays}
use Rattle.cs_model_kept.proofs.TypedLemmas.{none_some}
use Rattle.cs_engine.specs.Keeping.{FitsQuery, HoldsGood, IsEntryOver, IsKeptBehind, IsKeptEntry, KeepsFitting, became, entries_behind, fronted, note_plan}
use Rattle.cs_rows.specs.Steps.{entry_with, EntryFits, end_positive, is_in_base, last_is_positive}
use Rattle.cs_rows.specs.Sources.{IsSource, SourceView, seen}
use Rattle.cs_rows.specs.Stocked.{corpus_in}
use Rattle.cs_rows.proofs.RowsInRange.{kept_within}

-- ---- what is found
unsome : {X : Type 0} (a b : X) → Some a ≡ Some b → a ≡ b
unsome a b e = ap (λ o. unwrap_or o a) e

pub find_all : {X : Type 0} (P : X → Type 0) (t : X → Bool) (xs : List X) (x : X) → AllByRecursion P xs → find t xs ≡ Some x → P x × (t x ≡ true)
find_all P t [] x h e = none_some x e
find_all P t (y ∷ ys) x h e =
    elim (t y) as (λ b. t y ≡ b → cond b (Some y) (find t ys) ≡ Some x → P x × (t x ≡ true)) [
      | true ↦ λ passes one. let is : y ≡ x = unsome y x one in (subst P is h.0, ap t (sym is) ∙ passes)
      | false ↦ λ _ rest. find_all P t ys x h.1 rest
    ] refl e

-- ---- another prefix changes neither how many parts there are nor whether the last one is positive
length_changed : {X : Type 0} (f : X → X) (xs : List X) → length (on_last f xs) ≡ length xs
length_changed f [] = refl
length_changed f (x ∷ []) = refl
length_changed f (x ∷ y ∷ ys) = ap suc (length_changed f (y ∷ ys))

abbrev after_part : Bool → Part → Bool
after_part = λ before p. not (out-Part p).excluded

ends_changed : (f : List Chain → List Chain) (b : Bool) (ps : List Part) → fold after_part b (on_last (with_chains f) ps) ≡ fold after_part b ps
ends_changed f b [] = refl
ends_changed f b (p ∷ []) = ap (λ x. not x.excluded) (out-roll-Part (record { excluded = (out-Part p).excluded; chains = f (out-Part p).chains }))
ends_changed f b (p ∷ q ∷ ps) = ends_changed f (not (out-Part p).excluded) (q ∷ ps)

prefix_fits : (i : IndexView) (q : Query) (w : List ℕ) (e : EntryOf Post) → FitsQuery i (with_prefix w q) e → FitsQuery i q e
prefix_fits i q w e fits =
    let change : List Chain → List Chain = on_last (λ c. ended_by w (out-Chain c).first (out-Chain c).rest) in
    let is = out-roll-Query (record { parts = on_last (with_chains change) (out-Query q).parts }) in
    let many : length (out-Query (with_prefix w q)).parts ≡ length (out-Query q).parts = ap (λ x. length x.parts) is
    ∙ length_changed (with_chains change) (out-Query q).parts in
    let ends : last_is_positive (with_prefix w q) ≡ last_is_positive q = ap (λ x. end_positive x.parts) is ∙ ends_changed change false (out-Query q).parts in
    subst (λ n. EntryFits i (last_is_positive q) n e) many (subst (λ b. EntryFits i b (length (out-Query (with_prefix w q)).parts) e) ends fits)

pub narrowed_fits : (i : IndexView) (q : Query) (t : Post → Bool) (e : EntryOf Post) → FitsQuery i q e → FitsQuery i q (entry_with e.base (filter t e.rows))
narrowed_fits i q t e fits = record {
  parts = fits.parts;
  rows = kept_within i t e.rows fits.rows;
  base = fits.base;
  in_base = All-filter t (λ p. is_in_base e.base p ≡ true) e.rows fits.in_base;
}

-- ---- over each store
module _ (i : IndexView) (held : KeptOf (EntryOf Post)) (fit : KeepsFitting i held) where
  found_fits : (key : List ℕ) (e : List ℕ × EntryOf Post) (r : Query) → found held key ≡ Some e → key ≡ canonical r → IsOfGrammar r → FitsQuery i r e.1
  found_fits key e r is own g =
      let f = find_all (IsKeptEntry i) (λ x. bytes_eq x.0 key) held e (recursion_from_All (IsKeptEntry i) held fit) is in
      let same : f.0.query ≡ r = different f.0.query r f.0.of_grammar g (sym f.0.key ∙ (bytes_eq-Decides e.0 key).0 f.1 ∙ own) in
      subst (λ q. FitsQuery i q e.1) same f.0.fits

  module _ (q : Query) (g : IsOfGrammar q) (e : List ℕ × EntryOf Post) where
    pub same_fits : used_entry held (keys_of q) Same ≡ Some e → FitsQuery i q e.1
    same_fits h = found_fits (canonical q) e q h refl g

    pub extend_fits : used_entry held (keys_of q) Extend ≡ Some e → (1 < length (out-Query q).parts) × FitsQuery i (before_last q) e.1
    extend_fits h = cases (nat_lt 1 (length (out-Query q).parts)) refl h
      where
        cases : (b : Bool) → nat_lt 1 (length (out-Query q).parts) ≡ b
            → option_and_then (found held) (if b then Some (canonical (before_last q)) else None) ≡ Some e
            → (1 < length (out-Query q).parts) × FitsQuery i (before_last q) e.1
        cases true l h = (grind (arith, nat_tests), found_fits (canonical (before_last q)) e (before_last q) h refl (first_parts_stay q g))
        cases false l h = none_some e h

    pub narrow_fits : (cut : ℕ) → used_entry held (keys_of q) (Narrow cut) ≡ Some e → IsSome (last_prefix q) × FitsQuery i q e.1
    narrow_fits cut h = by_prefix (last_prefix q) refl h
      where
        by_found : (p : List ℕ) → last_prefix q ≡ Some p → (o : Option Narrower) → find (λ n. n.cut == cut) (map (narrower q) (shorter_words p)) ≡ o
            → option_and_then (found held) (option_map (λ n. n.key) o) ≡ Some e → FitsQuery i q e.1
        by_found p l None is h = none_some e h
        by_found p l (Some n) is h =
            let P : Narrower → Type 0 = λ n. (w : List ℕ) × Contains (shorter_words p) w × (n ≡ narrower q w) in
            let ws = shorter_words p in
            let each : All P (map (narrower q) ws) = All-map P (narrower q) ws (λ k d l. (get_or ws k d, Contains-get_or ws k d l, refl)) in
            let f = find_all P (λ n. n.cut == cut) (map (narrower q) ws) n (recursion_from_All P (map (narrower q) ws) each) is in
            prefix_fits i q f.0.0 e.1 (found_fits n.key e (with_prefix f.0.0 q) h (ap (λ (x : Narrower). x.key) f.0.2) (shorter_stays q p f.0.0 g l f.0.1).0)

        by_prefix : (o : Option (List ℕ)) → last_prefix q ≡ o
            → option_and_then (found held) (option_map (λ n. n.key) (find (λ n. n.cut == cut) (narrowers q o))) ≡ Some e → IsSome o × FitsQuery i q e.1
        by_prefix None l h = none_some e h
        by_prefix (Some p) l h = (refl, by_found p l (find (λ n. n.cut == cut) (map (narrower q) (shorter_words p))) refl h)

-- ---- over the bytes of the index
module _ (b : List ℕ) (v : SourceView) (stands : StandsFor b v.index) (is : IsSource v) (q : Query) (e : EntryOf Post) where
  pub in_stock : IsEntryOver (corpus_in (v.stock b)) (seen v) q e → entry_at (v.stock b).words e ≡ entry_of (corpus_in (v.stock b)) q
  in_stock h = ap (λ ws. entry_at ws e) (sym (is.told b stands).words) ∙ h

  pub from_stock : entry_at (v.stock b).words e ≡ entry_of (corpus_in (v.stock b)) q → IsEntryOver (corpus_in (v.stock b)) (seen v) q e
  from_stock h = ap (λ ws. entry_at ws e) (is.told b stands).words ∙ h

module _ (k : Corpus) (ws : List (List ℕ)) (held : KeptOf (EntryOf Post)) (q : Query) where
  abbrev told : KeptList
  told = kept_at ws held

  finds_told : (by_plan : Plan) (r : Query) (e : List ℕ × EntryOf Post) → Finds k told q by_plan r → used_entry held (keys_of q) by_plan ≡ Some e
      → entry_at ws e.1 ≡ entry_of k r
  finds_told by_plan r e f used =
      let through : Some (e.0, entry_at ws e.1) ≡ Some (canonical r, entry_of k r) =
      ap (option_map (λ x. (x.0, entry_at ws x.1))) (sym used) ∙ sym (numbers_use_alike ws held (keys_of q) by_plan) ∙ ap (option_and_then (found told)) f.key
      ∙ f.entry in
      ap (λ (x : List ℕ × Entry). x.1) (unsome (e.0, entry_at ws e.1) (canonical r, entry_of k r) through)

module _ (c : Corpus) (i : IndexView) (held : KeptOf (EntryOf Post)) (good : HoldsGood c i held) (q : Query) (g : IsOfGrammar q) where
  serves_by : (by_plan : Plan) → by_plan ≡ plan_by held (keys_of q) → Serves c (kept_at i.words held) q by_plan
  unfolding plan
  serves_by by_plan is = subst (Serves c (kept_at i.words held) q) (numbers_plan_alike i.words held (keys_of q) ∙ sym is)
      (plans_serve c (kept_at i.words held) q good g)

  module _ (e : List ℕ × EntryOf Post) where
    pub same_told : Same ≡ plan_by held (keys_of q) → used_entry held (keys_of q) Same ≡ Some e → IsEntryOver c i q e.1
    same_told is used = finds_told c i.words held q Same q e (serves_by Same is) used

    pub extend_told : Extend ≡ plan_by held (keys_of q) → used_entry held (keys_of q) Extend ≡ Some e → IsEntryOver c i (before_last q) e.1
    extend_told is used = finds_told c i.words held q Extend (before_last q) e (serves_by Extend is).3 used

    pub narrow_told : (cut : ℕ) → Narrow cut ≡ plan_by held (keys_of q) → used_entry held (keys_of q) (Narrow cut) ≡ Some e → (p : List ℕ)
        → last_prefix q ≡ Some p → IsEntryOver c i q (entry_with e.1.base (filter (λ post. begins p (word_at i.words post.word)) e.1.rows))
    narrow_told cut is used p typed =
        let s = serves_by (Narrow cut) is in
        let same : s.0 ≡ p = unsome s.0 p (sym s.2 ∙ typed) in
        let law = entries_narrow c q s.0 s.1 s.2 s.3 s.4 in
        let own = finds_told c i.words held q (Narrow cut) (with_prefix s.1 q) e s.6 used in
        let rows : rows_at i.words (filter (λ post. begins p (word_at i.words post.word)) e.1.rows) ≡ (entry_of c q).rows =
        filter_through (row_of i.words) (λ (r : Row). begins p r.word) e.1.rows
        ∙ ap (λ (x : Entry). filter (λ r. begins p r.word) x.rows) own
        ∙ ap (λ v. filter (λ r. begins v r.word) (entry_of c (with_prefix s.1 q)).rows) (sym same) ∙ sym law.0 in
        let base : e.1.base ≡ (entry_of c q).base = ap (λ (x : Entry). x.base) own ∙ sym law.1 in
        ap (λ (rs : List Row). let x : Entry = record { base = e.1.base; rows = rs } in x) rows
        ∙ ap (λ (x : Base). let y : Entry = record { base = x; rows = (entry_of c q).rows } in y) base

-- ---- what is left behind a reply
front_fits : (i : IndexView) (held : KeptOf (EntryOf Post)) (o : Option (List ℕ)) → KeepsFitting i held → KeepsFitting i (to_front held o)
front_fits i held None fit = fit
front_fits i held (Some key) fit =
    let a : List ℕ × EntryOf Post → Bool = λ e. bytes_eq e.0 key in
    let b : List ℕ × EntryOf Post → Bool = λ e. not (bytes_eq e.0 key) in
    All-append (IsKeptEntry i) (filter a held) (filter b held) (All-filter a (IsKeptEntry i) held fit) (All-filter b (IsKeptEntry i) held fit)

put_fits : (i : IndexView) (room : ℕ) (was : Kept) (e : List ℕ × EntryOf Post) (held : KeptOf (EntryOf Post)) → IsKeptEntry i e → KeepsFitting i held
    → KeepsFitting i (put_in_front room was e held)
put_fits i room kept.Had e held own fit = fit
put_fits i room kept.Kept e held own fit = All-take (IsKeptEntry i) room (e ∷ held) (All-cons (IsKeptEntry i) e held own fit)
put_fits i room kept.TooLarge e held own fit = fit

module _ (i : IndexView) (q : Query) (g : IsOfGrammar q) (a : AnswerList) (keys : Keys) (are : keys ≡ keys_of q) (by_plan : Plan)
    (is : by_plan ≡ plan_by a.entries keys) where
  abbrev front : KeptOf (EntryOf Post)
  front = to_front a.entries (used_key keys by_plan)

  pub is_note_plan : by_plan ≡ note_plan q a
  is_note_plan = is ∙ ap (plan_by a.entries) are

  is_fronted : front ≡ fronted q a
  is_fronted = ap (λ k. to_front a.entries (used_key k by_plan)) are ∙ ap (λ p. to_front a.entries (used_key (keys_of q) p)) is_note_plan

  own_key : keys.same ≡ canonical q
  own_key = ap (λ (k : Keys). k.same) are

  own_entry : (e : EntryOf Post) → FitsQuery i q e → IsKeptEntry i (keys.same, e)
  own_entry e fits = record { query = q; of_grammar = g; key = own_key; fits = fits }

  pub behind_fits : KeepsFitting i a.entries → (o : Option (EntryOf Post)) → IfSome o (FitsQuery i q) → KeepsFitting i (entries_behind a keys by_plan o)
  behind_fits fit None own = front_fits i a.entries (used_key keys by_plan) fit
  behind_fits fit (Some e) own = put_fits i a.capacity (kept_fresh e) (keys.same, e) front (own_entry e own)
      (front_fits i a.entries (used_key keys by_plan) fit)

  put_behind : (was : Kept) (e : EntryOf Post) → FitsQuery i q e → (new : AnswerList) → new.entries ≡ put_in_front a.capacity was (keys.same, e) front
      → IsKeptBehind i q was a new
  put_behind kept.Had e own new h = h ∙ is_fronted
  put_behind kept.Kept e own new h = (
    e,
    subst (λ key. IsKeptEntry i (key, e)) own_key (own_entry e own),
    h ∙ ap (λ key. take a.capacity ((key, e) ∷ front)) own_key ∙ ap (λ l. take a.capacity ((canonical q, e) ∷ l)) is_fronted,
  )
  put_behind kept.TooLarge e own new h = h ∙ is_fronted

  pub kept_behind : (o : Option (EntryOf Post)) → IfSome o (FitsQuery i q) → (new : AnswerList) → new.entries ≡ entries_behind a keys by_plan o
      → IsKeptBehind i q (became by_plan o) a new
  kept_behind None own new h = elim (is_same by_plan) as (λ s. IsKeptBehind i q (if s then kept.Had else kept.TooLarge) a new) [
    | true ↦ h ∙ is_fronted
    | false ↦ h ∙ is_fronted
  ]
  kept_behind (Some e) own new h = put_behind (kept_fresh e) e own new h

never_had : (e : EntryOf Post) → ¬ (kept_fresh e ≡ kept.Had)
never_had e h = cases (nat_lt MAX_ENTRY_SIZE (kept_entry_size e)) h
  where
    cases : (b : Bool) → ¬ ((if b then kept.TooLarge else kept.Kept) ≡ kept.Had)
    cases true h = cc
    cases false h = cc

pub was_had : (by_plan : Plan) (o : Option (EntryOf Post)) → (is_same by_plan ≡ true → is_some o ≡ false)
    → (by_plan ≡ Same → became by_plan o ≡ kept.Had) × (became by_plan o ≡ kept.Had → by_plan ≡ Same)
was_had Same None h = (λ _. refl, λ _. refl)
was_had (Narrow cut) None h = (λ same. absurd (let no : Narrow cut ≡ Same = same in cc), λ had. absurd (let no : kept.TooLarge ≡ kept.Had = had in cc))
was_had Extend None h = (λ same. absurd (let no : Extend ≡ Same = same in cc), λ had. absurd (let no : kept.TooLarge ≡ kept.Had = had in cc))
was_had Fresh None h = (λ same. absurd (let no : Fresh ≡ Same = same in cc), λ had. absurd (let no : kept.TooLarge ≡ kept.Had = had in cc))
was_had by_plan (Some e) h = (λ same. absurd (true≢false (h (ap is_same same))), λ had. absurd (never_had e had))

-- ---- of a corpus
module _ (k : Corpus) (i : IndexView) (q : Query) where
  pub fresh_is : (e : EntryOf Post) → IsEntryOver k i q e → kept_fresh e ≡ kept_fresh (entry_of k q)
  fresh_is e own = sym (numbers_keep_alike i.words e) ∙ ap (λ (x : Entry). kept_fresh x) own

  pub kept_is : (by_plan : Plan) (o : Option (EntryOf Post)) → (is_same by_plan ≡ true → is_some o ≡ false)
      → (is_some o ≡ false → is_same by_plan ≡ false → kept_fresh (entry_of k q) ≡ kept.TooLarge) → IfSome o (IsEntryOver k i q)
      → became by_plan o ≡ kept_by by_plan (entry_of k q)
  kept_is Same None h large own = refl
  kept_is Same (Some e) h large own = absurd (true≢false (h refl))
  kept_is (Narrow cut) None h large own = sym (large refl refl)
  kept_is (Narrow cut) (Some e) h large own = fresh_is e own
  kept_is Extend None h large own = sym (large refl refl)
  kept_is Extend (Some e) h large own = fresh_is e own
  kept_is Fresh None h large own = sym (large refl refl)
  kept_is Fresh (Some e) h large own = fresh_is e own

module _ (k : Corpus) (i : IndexView) (q : Query) (g : IsOfGrammar q) (a : AnswerList) (keys : Keys) (are : keys ≡ keys_of q) (by_plan : Plan)
    (is : by_plan ≡ plan_by a.entries keys) where
  abbrev ws : List (List ℕ)
  ws = i.words

  abbrev held : KeptList
  held = kept_at ws a.entries

  plan_is : by_plan ≡ plan held q
  unfolding plan
  plan_is = is ∙ ap (plan_by a.entries) are ∙ sym (numbers_plan_alike ws a.entries (keys_of q))

  abbrev now : KeptList
  now = to_front held (used_key (keys_of q) (plan held q))

  fronts_alike : kept_at ws (to_front a.entries (used_key keys by_plan)) ≡ now
  fronts_alike = sym (numbers_front_alike ws a.entries (used_key keys by_plan)) ∙ ap (λ x. to_front held (used_key x by_plan)) are
      ∙ ap (λ p. to_front held (used_key (keys_of q) p)) plan_is

  pub after_is : (o : Option (EntryOf Post)) → IfSome o (IsEntryOver k i q)
      → kept_at ws (entries_behind a keys by_plan o) ≡ after held a.capacity q (became by_plan o) k
  unfolding after
  after_is None own = elim (is_same by_plan)
      as (λ s. kept_at ws (entries_behind a keys by_plan None) ≡ after held a.capacity q (if s then kept.Had else kept.TooLarge) k) [
        | true ↦ fronts_alike
        | false ↦ fronts_alike
      ]
  after_is (Some e) own =
      let was = kept_fresh e in
      sym (numbers_put_alike ws (to_front a.entries (used_key keys by_plan)) a.capacity was keys.same e)
      ∙ ap (put_in_front a.capacity was (keys.same, entry_at ws e)) fronts_alike
      ∙ ap (λ key. put_in_front a.capacity was (key, entry_at ws e) now) (ap (λ (x : Keys). x.same) are)
      ∙ ap (λ (x : Entry). put_in_front a.capacity was (canonical q, x) now) own

  not_kept : (s : Bool) → ¬ ((if s then kept.Had else kept.TooLarge) ≡ kept.Kept)
  not_kept true h = cc
  not_kept false h = cc

  is_new : (o : Option (EntryOf Post)) → (is_same by_plan ≡ true → is_some o ≡ false) → became by_plan o ≡ kept.Kept → ¬ (plan held q ≡ Same)
  is_new None h was same = absurd (not_kept (is_same by_plan) was)
  is_new (Some e) h was same = true≢false (h (ap is_same (plan_is ∙ same)))

  pub good_behind : HoldsGood k i a.entries → (o : Option (EntryOf Post)) → (is_same by_plan ≡ true → is_some o ≡ false) → IfSome o (IsEntryOver k i q)
      → HoldsGood k i (entries_behind a keys by_plan o)
  good_behind good o h own = subst (GoodFor k) (sym (after_is o own)) (lists_stay_good k held a.capacity q (became by_plan o) good g (is_new o h))
