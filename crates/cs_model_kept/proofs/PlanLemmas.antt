-- Each plan goes on from the entry of the query that it speaks of.
--
--   finds            a key of a query of the grammar that is held has that query's entry
--   found_word       the shorter prefix that is found first
--   narrow_uses      what Narrow uses
--   plans_serve      the law
--   plans_are_held   each plan but Fresh uses an entry that is held
use Rattle.std.proofs.Common.{◌≡◌, ℕ, ◌-◌, ◌<◌, ◌==◌, Bool, true, false, true≢false, List, [], ◌∷◌, ◌++◌, map, take, cond, length, refl, sym, subst, ◌∙◌, ap, arith, Option, Some, None, IsSome, if◌then◌else◌}
use Rattle.std.specs.Prelude.{find, nat_lt}
use Rattle.std.specs.Option.{option_map, option_and_then}
use Rattle.std.specs.List.{Contains}
use Rattle.std.proofs.Math.Seq.{take-append_seam}
use Rattle.std.proofs.lemmas.Bool.Decides.{nat_tests}
use Rattle.std.proofs.lemmas.List.Elements.{All-contains, Contains-append_left, Contains-append_right}
use Rattle.cs_base.specs.declared.content.key.Narrower.{Narrower}
use Rattle.cs_base.specs.declared.index.plan.Plan.{Plan}
use Rattle.cs_base.specs.declared.index.plan.Plan.TheVariants.{Same, Narrow, Extend, Fresh}
use Rattle.cs_base.specs.declared.content.query.Part.{Part}
use Rattle.cs_base.specs.declared.content.query.Query.{Query, roll-Query, out-Query, out-roll-Query, roll-out-Query}
use Rattle.cs_base.proofs.ListsLemmas.{itself, take_init, last_entry}
use Rattle.cs_model.specs.Canonical.{canonical}
use Rattle.cs_model.specs.Corpus.{Corpus}
use Rattle.cs_model.specs.Keys.{keys_of, last_prefix, shorter_words, with_prefix, narrower, narrowers, key_before}
use Rattle.cs_model.specs.Refusals.{IsOfGrammar}
use Rattle.cs_model.proofs.CanonicalReading.{different}
use Rattle.cs_model_kept.specs.Entries.{entry_of}
use Rattle.cs_model_kept.specs.KeptLaws.{followed}
use Rattle.cs_model_kept.specs.KeptList.{KeptOf, KeptList, GoodFor, is_held, found, extend_or_fresh, narrow_or, plan, used_key, used_entry}
use Rattle.cs_model_kept.specs.KeptListLaws.{before_last, Finds, Serves, PlansServe, PlansAreHeld, ShorterAreOfGrammar, FirstPartsAreOfGrammar}
use Rattle.cs_model_kept.proofs.FirstParts.{first_parts_stay}
use Rattle.cs_model_kept.proofs.HeldLemmas.{is_found}
use Rattle.cs_model_kept.proofs.KeptListLemmas.{held_are_own}
use Rattle.cs_model_kept.proofs.NarrowLemmas.{Begins, words_begin}
use Rattle.cs_model_kept.proofs.ShorterQueries.{shorter_stays}
use Rattle.cs_model_kept.proofs.TypedLemmas.{none_some}

pub shorter_are_of_grammar : ShorterAreOfGrammar
shorter_are_of_grammar q p w g h one = shorter_stays q p w g h one

pub first_parts_are_of_grammar : FirstPartsAreOfGrammar
first_parts_are_of_grammar q g = first_parts_stay q g

-- what is found under the key of a query is that query's entry
finds : (k : Corpus) (held : KeptList) (q : Query) (by_plan : Plan) (r : Query) → GoodFor k held → IsOfGrammar r → is_held held (canonical r) ≡ true
    → used_key (keys_of q) by_plan ≡ Some (canonical r) → Finds k held q by_plan r
finds k held q by_plan r good g h key =
    let own = held_are_own k held (canonical r) good h in
    let same : own.0 ≡ r = different own.0 r own.1 g (sym own.2) in
    record { of_grammar = g; key = key; entry = own.3 ∙ ap (λ x. Some (canonical r, entry_of k x)) same }

-- ---- shorter prefixes
record FoundWord (q : Query) (t : Narrower → Bool) (ws : List (List ℕ)) (n : Narrower) : Type 0 where
  word : List ℕ
  among : Contains ws word
  is : n ≡ narrower q word
  passes : t n ≡ true

found_word : (q : Query) (t : Narrower → Bool) (ws : List (List ℕ)) (n : Narrower) → find t (map (narrower q) ws) ≡ Some n → FoundWord q t ws n
found_word q t [] n h = none_some n h
found_word q t (w ∷ ws) n h =
    elim (t (narrower q w)) as (λ b. t (narrower q w) ≡ b → cond b (Some (narrower q w)) (find t (map (narrower q) ws)) ≡ Some n → FoundWord q t (w ∷ ws) n) [
      | true ↦ λ e one.
          let is : narrower q w ≡ n = unsome (narrower q w) n one in
          record { word = w; among = Contains-append_left (w ∷ []) ws w (0, omega arith, refl); is = sym is; passes = ap t (sym is) ∙ e }
      | false ↦ λ e rest.
          let r = found_word q t ws n rest in
          record { word = r.word; among = Contains-append_right (w ∷ []) ws r.word r.among; is = r.is; passes = r.passes }
    ] refl h
  where
    unsome : (a b : Narrower) → Some a ≡ Some b → a ≡ b
    unsome a b e = cc

-- a test that some entry passes finds one
finds_one : (q : Query) (t : Narrower → Bool) (ws : List (List ℕ)) (s : Narrower → Bool) (n : Narrower) → find s (map (narrower q) ws) ≡ Some n → t n ≡ true
    → (m : Narrower) × (find t (map (narrower q) ws) ≡ Some m)
finds_one q t [] s n h e = none_some n h
finds_one q t (w ∷ ws) s n h e =
    elim (t (narrower q w)) as (λ b. t (narrower q w) ≡ b → (m : Narrower) × (cond b (Some (narrower q w)) (find t (map (narrower q) ws)) ≡ Some m)) [
      | true ↦ λ _. (narrower q w, refl)
      | false ↦ λ other. later (s (narrower q w)) (λ rest. finds_one q t ws s n rest e) other h
    ] refl
  where
    unsome : (a b : Narrower) → Some a ≡ Some b → a ≡ b
    unsome a b e = cc

    later : (b : Bool) → (find s (map (narrower q) ws) ≡ Some n → (m : Narrower) × (find t (map (narrower q) ws) ≡ Some m))
        → t (narrower q w) ≡ false → cond b (Some (narrower q w)) (find s (map (narrower q) ws)) ≡ Some n → (m : Narrower) × (find t (map (narrower q) ws) ≡ Some m)
    later true go other one = absurd (true≢false (sym e ∙ ap t (sym (unsome (narrower q w) n one)) ∙ other))
    later false go other rest = go rest

-- beginnings of one length are the same
same_beginning : (p v w : List ℕ) → Begins p v → Begins p w → length v ≡ length w → v ≡ w
same_beginning p v w a b e =
    sym (take-append_seam v a.0) ∙ ap (take (length v)) (sym a.1 ∙ b.1) ∙ ap (λ n. take n (w ++ b.0)) e ∙ take-append_seam w b.0

equal_cuts : (a b : ℕ) → (a == b) ≡ true → a ≡ b
equal_cuts a b h = grind (arith, nat_tests)

-- what Narrow uses: the key of the query with a shorter word in the prefix's place, which is held
record NarrowUses {E : Type 0} (held : KeptOf E) (q : Query) (p : List ℕ) (n : Narrower) : Type 0 where
  word : List ℕ
  among : Contains (shorter_words p) word
  cut : length word ≡ n.cut
  key : used_key (keys_of q) (Narrow n.cut) ≡ Some (canonical (with_prefix word q))
  there : is_held held (canonical (with_prefix word q)) ≡ true

narrow_uses : {E : Type 0} (held : KeptOf E) (q : Query) → IsOfGrammar q → (p : List ℕ) → last_prefix q ≡ Some p → (n : Narrower)
    → find (λ n. is_held held n.key) (map (narrower q) (shorter_words p)) ≡ Some n → NarrowUses held q p n
narrow_uses held q g p h n e =
    let ws = shorter_words p in
    let f = found_word q (λ n. is_held held n.key) ws n e in
    let w = f.word in
    let begins = words_begin p (shorter_stays q p w g h f.among).1 in
    let by_cut = finds_one q (λ m. m.cut == n.cut) ws (λ n. is_held held n.key) n e (itself n.cut) in
    let m = found_word q (λ m. m.cut == n.cut) ws by_cut.0 by_cut.1 in
    let lengths : length m.word ≡ length w = ap (λ (x : Narrower). x.cut) (sym m.is) ∙ equal_cuts by_cut.0.cut n.cut m.passes ∙ ap (λ (x : Narrower). x.cut) f.is in
    let same : m.word ≡ w = same_beginning p m.word w (All-contains (Begins p) ws m.word begins m.among) (All-contains (Begins p) ws w begins f.among) lengths in
    record {
      word = w;
      among = f.among;
      cut = ap (λ (x : Narrower). x.cut) (sym f.is);
      key =
          ap (λ o. option_map (λ (x : Narrower). x.key) (find (λ m. m.cut == n.cut) (narrowers q o))) h
          ∙ ap (option_map (λ (x : Narrower). x.key)) by_cut.1
          ∙ ap (λ (x : Narrower). Some x.key) m.is ∙ ap (λ v. Some (canonical (with_prefix v q))) same;
      there = ap (λ (x : Narrower). is_held held x.key) (sym f.is) ∙ f.passes;
    }

module _ (k : Corpus) (held : KeptList) (q : Query) (good : GoodFor k held) (g : IsOfGrammar q) where
  narrow_serves : (p : List ℕ) → last_prefix q ≡ Some p → (n : Narrower) → find (λ n. is_held held n.key) (map (narrower q) (shorter_words p)) ≡ Some n → Serves k held q (Narrow n.cut)
  narrow_serves p h n e =
      let uses = narrow_uses held q g p h n e in
      let stays = shorter_stays q p uses.word g h uses.among in
      (p, uses.word, h, stays.1, uses.among, uses.cut, finds k held q (Narrow n.cut) (with_prefix uses.word q) good stays.0 uses.there uses.key)

  narrow_any : (o : Option (List ℕ)) → last_prefix q ≡ o → (n : Narrower) → find (λ n. is_held held n.key) (narrowers q o) ≡ Some n → Serves k held q (Narrow n.cut)
  narrow_any None h n e = none_some n e
  narrow_any (Some p) h n e = narrow_serves p h n e

  -- ---- parts
  several : (b : Bool) (key : List ℕ) → nat_lt 1 (length (out-Query q).parts) ≡ b → (if b then Some (canonical (before_last q)) else None) ≡ Some key
      → (1 < length (out-Query q).parts) × (canonical (before_last q) ≡ key)
  several true key h e = (grind (arith, nat_tests), unsome (canonical (before_last q)) key e)
    where
      unsome : (a b : List ℕ) → Some a ≡ Some b → a ≡ b
      unsome a b e = cc
  several false key h e = none_some key e

  last_part : 1 < length (out-Query q).parts → (p : Part) × (q ≡ followed (before_last q) p)
  last_part more = cases (out-Query q).parts refl more
    where
      cases : (ps : List Part) → (out-Query q).parts ≡ ps → 1 < length (out-Query q).parts → (p : Part) × (q ≡ followed (before_last q) p)
      cases [] e more = absurd (omega (arith, more, ap length e))
      cases (p ∷ ps) e more =
          let r = last_entry p ps in
          let whole : (out-Query q).parts ≡ r.0 ++ r.1 ∷ [] = e ∙ r.2 in
          let first : take (length (out-Query q).parts - 1) (out-Query q).parts ≡ r.0 = ap (λ (l : List Part). take (length l - 1) l) whole ∙ take_init r.0 r.1 in (
            r.1,
            sym (roll-out-Query q) ∙ ap (λ (l : List Part). roll-Query (record { parts = l })) (whole ∙ ap (λ l. l ++ r.1 ∷ []) (sym first))
                ∙ ap (λ x. roll-Query (record { parts = x.parts ++ r.1 ∷ [] })) (sym (out-roll-Query (record { parts = take (length (out-Query q).parts - 1) (out-Query q).parts }))),
          )

  extend_serves : (key : List ℕ) → key_before (out-Query q).parts ≡ Some key → is_held held key ≡ true → Serves k held q Extend
  extend_serves key e h =
      let r = several (nat_lt 1 (length (out-Query q).parts)) key refl e in
      let p = last_part r.0 in
      (p.0, p.1, r.0, finds k held q Extend (before_last q) good (first_parts_stay q g) (ap (is_held held) r.1 ∙ h) (e ∙ ap Some (sym r.1)))

  extend_any : (o : Option (List ℕ)) → key_before (out-Query q).parts ≡ o → Serves k held q (extend_or_fresh held o)
  extend_any None e = tt
  extend_any (Some key) e = cases (is_held held key) refl
    where
      cases : (b : Bool) → is_held held key ≡ b → Serves k held q (if b then Extend else Fresh)
      cases true h = extend_serves key e h
      cases false h = tt

  narrow_or_any : (o : Option Narrower) → find (λ n. is_held held n.key) (keys_of q).narrow ≡ o → Serves k held q (narrow_or held (keys_of q) o)
  narrow_or_any None e = extend_any (key_before (out-Query q).parts) refl
  narrow_or_any (Some n) e = narrow_any (last_prefix q) refl n e

  serves : (b : Bool) → is_held held (canonical q) ≡ b → Serves k held q (if b then Same else narrow_or held (keys_of q) (find (λ n. is_held held n.key) (keys_of q).narrow))
  serves true h = finds k held q Same q good g h refl
  serves false h = narrow_or_any (find (λ n. is_held held n.key) (keys_of q).narrow) refl

pub plans_serve : PlansServe
unfolding plan
plans_serve k held q good g = serves k held q good g (is_held held (canonical q)) refl

-- ---- a plan uses what is held
module _ {E : Type 0} (held : KeptOf E) (q : Query) (g : IsOfGrammar q) where
  abbrev pub Uses : Plan → Type 0
  Uses by_plan = ¬ (by_plan ≡ Fresh) → IsSome (used_entry held (keys_of q) by_plan)

  -- by the key that a plan uses
  uses_key : (o : Option (List ℕ)) (key : List ℕ) → o ≡ Some key → is_held held key ≡ true → IsSome (option_and_then (found held) o)
  uses_key o key e h = subst (λ x. IsSome (option_and_then (found held) x)) (sym e) (is_found held key h)

  extend_uses : (o : Option (List ℕ)) → (keys_of q).extend ≡ o → Uses (extend_or_fresh held o)
  extend_uses None e = λ other. absurd (other refl)
  extend_uses (Some key) e = cases (is_held held key) refl
    where
      cases : (b : Bool) → is_held held key ≡ b → Uses (if b then Extend else Fresh)
      cases true h = λ _. uses_key (keys_of q).extend key e h
      cases false h = λ other. absurd (other refl)

  narrow_or_uses : (o : Option Narrower) → find (λ n. is_held held n.key) (keys_of q).narrow ≡ o → Uses (narrow_or held (keys_of q) o)
  narrow_or_uses None e = extend_uses (keys_of q).extend refl
  narrow_or_uses (Some n) e = λ _. by_prefix (last_prefix q) refl e
    where
      by_prefix : (o : Option (List ℕ)) → last_prefix q ≡ o → find (λ n. is_held held n.key) (narrowers q o) ≡ Some n → IsSome (used_entry held (keys_of q) (Narrow n.cut))
      by_prefix None h e = none_some n e
      by_prefix (Some p) h e = let uses = narrow_uses held q g p h n e in uses_key (used_key (keys_of q) (Narrow n.cut)) (canonical (with_prefix uses.word q)) uses.key uses.there

  pub plan_uses : (b : Bool) → is_held held (canonical q) ≡ b → Uses (if b then Same else narrow_or held (keys_of q) (find (λ n. is_held held n.key) (keys_of q).narrow))
  plan_uses true h = λ _. uses_key (Some (canonical q)) (canonical q) refl h
  plan_uses false h = narrow_or_uses (find (λ n. is_held held n.key) (keys_of q).narrow) refl

pub plans_are_held : PlansAreHeld
plans_are_held held q g = plan_uses held q g (is_held held (canonical q)) refl
