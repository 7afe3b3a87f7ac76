-- From a kept entry to the reply.
--
--   viewed               the entry that is lent
--   is_used              each plan but Fresh uses one
--   narrowed_rows        the rows of the words from one number up to another are those of the prefix that has these words
--   IsLast q x, is_last      the part x is the last one of the query q
--   ends_first, ends_last, first_in, first_base, more_told, more_fits, last_met, last_hit      one part more
--   first_parts, more_by_words, all_met      the entry of the first parts, and of all by the last one's words
--   nothing_own, nothing_over        the entry of a query without a part
--   hits_are_in, found_by_entry      the hits of the query's own entry
use Rattle.std.proofs.Common.{◌≡◌, ℕ, ◌+◌, ◌-◌, ◌*◌, ◌≤◌, ◌^◌, Bool, true, false, not, List, [], ◌∷◌, length, map, take, get_or, refl, sym, ap, subst, ◌∙◌, arith}
use Rattle.std.proofs.Common.{length-take, Option, Some, None, IsSome, suc}
use Rattle.std.specs.Prelude.{filter, sum, IfSome}
use Rattle.std.proofs.lemmas.List.{take_all}
use Rattle.std.proofs.lemmas.List.Elements.{All-weaker, recursion_from_All}
use Rattle.std.proofs.lemmas.List.Sums.{sum_by-cons}
use Rattle.cs_base.specs.declared.content.doc.Base.{Base}
use Rattle.cs_base.specs.declared.content.doc.Base.TheVariants as base
use Rattle.cs_base.specs.declared.content.doc.Post.{Post}
use Rattle.cs_base.specs.declared.content.key.Keys.{Keys}
use Rattle.cs_base.specs.declared.content.limits.TheConstants.{MAX_PARTS}
use Rattle.cs_base.specs.declared.content.query.Part.{Part, out-Part}
use Rattle.cs_base.specs.declared.content.query.Query.{Query, out-Query, out-roll-Query}
use Rattle.cs_base.specs.declared.content.scores.TheConstants.{MAX_ROW_SCORE}
use Rattle.cs_base.specs.declared.index.plan.Plan.{Plan}
use Rattle.cs_base.specs.declared.index.plan.Plan.TheVariants.{Fresh}
use Rattle.cs_base.proofs.ListsLemmas.{filter_alike}
use Rattle.cs_file.specs.Indexes.{IndexView, StandsFor}
use Rattle.cs_model.specs.Answers.{begins, parts_of, rows_of_part}
use Rattle.cs_model.specs.Keys.{keys_of, last_of}
use Rattle.cs_model.specs.Refusals.{IsOfGrammar}
use Rattle.cs_model_index.specs.Numbered.{word_at}
use Rattle.cs_model_kept.specs.Due.{Division, met_of_last, met_of_part, met_of_query}
use Rattle.cs_model_kept.specs.Entries.{Entry, EntryOf, base_of}
use Rattle.cs_model_kept.specs.Entries as kept
use Rattle.cs_model_kept.specs.KeptList.{KeptOf, plan_by, used_entry}
use Rattle.cs_model_kept.specs.KeptListLaws.{before_last}
use Rattle.cs_model_kept.proofs.EntryLemmas.{parts_read}
use Rattle.cs_model_kept.proofs.PlanLemmas.{plans_are_held}
use Rattle.cs_rank.specs.DocScores.{IsBase}
use Rattle.cs_vocab.specs.Ranges.{IsRange}
use Rattle.cs_rows.specs.IndexReading.{division, AreWithin, IsWithin}
use Rattle.cs_engine.specs.Keeping.{FitsQuery, IsEntryOver, IsPlanned}
use Rattle.cs_rows.specs.Steps.{entry_with, AreFound, AreHitsOver, EntryFits, IsBaseOf, IsStep, end_positive, last_is_positive, most, posts_hits}
use Rattle.cs_engine.specs.Loose.{IsEntryByWords}
use Rattle.cs_rows.specs.Plain.{AreWordsOf}
use Rattle.cs_rows.specs.Skipping.{hit_of_last, hit_of_part}
use Rattle.cs_rows.specs.Sources.{IsSource, SourceView, seen}
use Rattle.cs_rows.specs.Stocked.{corpus_in, stock_docs, is_between, base_posts}
use Rattle.cs_rows.proofs.EvaluationLemmas.{ends_read, entry_begins, entry_by_hits, entry_ends, entry_unrolled, hits_by, met_query-is, positive_more}
use Rattle.cs_rows.proofs.FoundLemmas.{is_excluded}
use Rattle.cs_engine.proofs.KeepingLemmas.{from_stock, in_stock}
use Rattle.cs_rows.proofs.PartSteps.{base_in, base_weaker, hits_in, nothing_fits, step_told}

-- ---- the entry that is lent
pub record Viewed (o : Option (List ℕ × EntryOf Post)) (e : EntryOf Post) : Type 0 where
  pub kept : List ℕ × EntryOf Post
  pub found : o ≡ Some kept
  pub same : kept.1 ≡ e

pub viewed : (o : Option (List ℕ × EntryOf Post)) → IsSome o → (base : Base) (rows : List Post) → IfSome o (λ e. base ≡ e.1.base)
    → IfSome o (λ e. rows ≡ e.1.rows) → Viewed o (entry_with base rows)
viewed None some base rows b r = absurd cc
viewed (Some e) some base rows b r = record {
  kept = e;
  found = refl;
  same = ap (λ x. entry_with x e.1.rows) (sym b) ∙ ap (entry_with base) (sym r);
}

pub is_used : {i : IndexView} {held : KeptOf (EntryOf Post)} {q : Query} {keys : Keys} {by_plan : Plan} → IsOfGrammar q → IsPlanned i held q keys by_plan
    → ¬ (by_plan ≡ Fresh) → IsSome (used_entry held keys by_plan)
is_used {held = held} {q = q} {by_plan = by_plan} g planned other =
    let own : by_plan ≡ plan_by held (keys_of q) = planned.by_kept ∙ ap (plan_by held) planned.of_query in
    subst (λ k. IsSome (used_entry held k by_plan)) (sym planned.of_query)
    (subst (λ p. IsSome (used_entry held (keys_of q) p)) (sym own) (plans_are_held held q g (λ fresh. other (own ∙ fresh))))

-- ---- a letter more
pub narrowed_rows : (i : IndexView) (p : List ℕ) (lo hi : ℕ) (posts : List Post) → IsRange i.words p lo hi → AreWithin i posts
    → filter (is_between lo hi) posts ≡ filter (λ post. begins p (word_at i.words post.word)) posts
narrowed_rows i p lo hi posts range w =
    let same : Post → Type 0 = λ x. is_between lo hi x ≡ begins p (word_at i.words x.word) in
    filter_alike (is_between lo hi) (λ x. begins p (word_at i.words x.word)) posts
    (recursion_from_All same posts (All-weaker (IsWithin i.docs (length i.words)) same (λ x at. sym (range.holds x.word at.word)) posts w.within))

-- ---- a part more
last_is : (ps : List Part) (p : Part) → 1 ≤ length ps → p ≡ get_or ps (length ps - 1) p → last_of ps ≡ Some p
last_is [] p some at = absurd (omega (arith, some))
last_is (x ∷ []) p some at = let first : length (x ∷ []) - 1 ≡ 0 = omega arith in ap Some (sym (at ∙ ap (λ n. get_or (x ∷ []) n p) first))
last_is (x ∷ y ∷ ys) p some at = let more : length (x ∷ y ∷ ys) - 1 ≡ suc (length (y ∷ ys) - 1) = omega arith in
    last_is (y ∷ ys) p (omega arith) (at ∙ ap (λ n. get_or (x ∷ y ∷ ys) n p) more)

pub record IsLast (q : Query) (x : Part) : Type 0 where
  pub some : 1 ≤ length (out-Query q).parts
  pub at : x ≡ get_or (out-Query q).parts (length (out-Query q).parts - 1) x

pub is_last : {q : Query} {parts : List Part} {x : Part} → 1 ≤ length (out-Query q).parts → parts ≡ (out-Query q).parts → x ≡ get_or parts (length parts - 1) x
    → IsLast q x
is_last {x = x} some are at = record { some = some; at = at ∙ ap (λ (xs : List Part). get_or xs (length xs - 1) x) are }

pub last_met : (v : Division) {q : Query} {x : Part} → IsLast q x → met_of_last v (last_of (out-Query q).parts) ≡ met_of_part v x
last_met v {q = q} {x = x} l = ap (met_of_last v) (last_is (out-Query q).parts x l.some l.at)

pub last_hit : (v : Division) (b : Base) {q : Query} {x : Part} → IsLast q x → hit_of_last v b (last_of (out-Query q).parts) ≡ hit_of_part v b x
last_hit v b {q = q} {x = x} l = ap (hit_of_last v b) (last_is (out-Query q).parts x l.some l.at)

module _ (q : Query) where
  abbrev ps : List Part
  ps = (out-Query q).parts

  abbrev first : List Part
  first = take (length ps - 1) ps

  first_are : (out-Query (before_last q)).parts ≡ first
  first_are = ap (λ x. x.parts) (out-roll-Query (record { parts = first }))

  -- the hits of the first parts
  pub ends_first : (positive : Bool) → positive ≡ end_positive first → positive ≡ last_is_positive (before_last q)
  ends_first positive ends = ends ∙ sym (ap end_positive first_are)

  many_first : length (out-Query (before_last q)).parts ≡ length ps - 1
  many_first = ap length first_are ∙ (let l = length-take (length ps - 1) ps in omega (arith, l))

  pub first_in : {i : IndexView} {e : EntryOf Post} (hits : Base) → FitsQuery i (before_last q) e
      → hits ≡ posts_hits (last_is_positive (before_last q)) e.base e.rows → IsBaseOf i.docs (MAX_ROW_SCORE * (length ps - 1)) hits
  first_in {i = i} {e = e} hits fits are =
      let positive = last_is_positive (before_last q) in
      subst (IsBaseOf i.docs (MAX_ROW_SCORE * (length ps - 1))) (sym are)
      (hits_in i positive (length ps - 1) e (subst (λ n. EntryFits i positive n e) many_first fits))

  small_most : (positive : Bool) (n : ℕ) → n ≤ MAX_PARTS → most positive n ≤ 2 ^ 20
  small_most true n few = omega (arith, few)
  small_most false n few = omega (arith, few)

  pub first_base : {i : IndexView} {e : EntryOf Post} → length ps ≤ MAX_PARTS → FitsQuery i (before_last q) e → IsBase e.base
  first_base {i = i} {e = e} few fits =
      let n = length (out-Query (before_last q)).parts in
      let positive = last_is_positive (before_last q) in
      base_in i.docs (most positive n) e.base (small_most positive n (omega (arith, few, many_first))) fits.base

  -- the last part says whether the query ends in a positive one
  pub ends_last : (x : Part) → IsLast q x → last_is_positive q ≡ not (out-Part x).excluded
  ends_last x l =
      let some = l.some in
      let n = length ps - 1 in
      sym (sym (positive_more ps n x (omega (arith, some)) l.at) ∙ ap end_positive (take_all (n + 1) ps (omega (arith, some))))

  pub more_fits : (i : IndexView) (x : Part) (e : EntryOf Post) → IsLast q x → EntryFits i (not (out-Part x).excluded) (length ps - 1 + 1) e → FitsQuery i q e
  more_fits i x e l fits =
      let some = l.some in
      let many : length ps - 1 + 1 ≡ length ps = omega (arith, some) in
      subst (λ m. EntryFits i (last_is_positive q) m e) many (subst (λ b. EntryFits i b (length ps - 1 + 1) e) (sym (ends_last x l)) fits)

  pub first_parts : (firsts : List Part) → firsts ≡ take (length ps - 1) ps → firsts ≡ (out-Query (before_last q)).parts
  first_parts firsts are = are ∙ sym first_are

  -- the entry of one part more
  pub more_told : (b : List ℕ) (v : SourceView) → StandsFor b v.index → IsSource v → (x : Part) (hits : Base) (now : EntryOf Post) → IsLast q x
      → AreHitsOver (v.stock b) (before_last q) hits
      → IsStep (v.stock b) hits (rows_of_part (corpus_in (v.stock b)) x) now → IsEntryOver (corpus_in (v.stock b)) (seen v) q now
  more_told b v stands is x hits now l over step =
      let k = corpus_in (v.stock b) in
      let n = length ps - 1 in
      let some = l.some in
      let so_far : hits ≡ base_of k (map (rows_of_part k) (take n ps)) = over ∙ ap (base_of k) (parts_read k (before_last q))
      ∙ ap (λ xs. base_of k (map (rows_of_part k) xs)) first_are in
      from_stock b v stands is q now (entry_ends (v.stock b) ps q (n + 1) now refl (omega (arith, some))
      (entry_by_hits (v.stock b) ps n x (omega (arith, some)) l.at hits now so_far step))

-- the entry by the words that the last part asks for
pub more_by_words : (q : Query) (b : List ℕ) (v : SourceView) → StandsFor b v.index → IsSource v → (x : Part) (hits : Base) (lo hi : ℕ) → IsLast q x
    → AreHitsOver (v.stock b) (before_last q) hits
    → (out-Part x).excluded ≡ false → AreWordsOf v (met_of_part (division v.index) x) (λ k. (rows_of_part k x).rows) lo hi → IsEntryByWords b v q hits lo hi
more_by_words q b v stands is x hits lo hi l over last asks =
    let s = v.stock b in
    let posts = filter (is_between lo hi) s.posts in
    more_told q b v stands is x hits (entry_with hits (base_posts hits posts)) l over
    (step_told s (is.told b stands).stocked (stock_docs s) refl hits (rows_of_part (corpus_in s) x) posts (asks.posts b stands) false (is_excluded s x ∙ last))

-- what is read for the last part and for those before it
parts_met : (v : Division) (ps : List Part) → 1 ≤ length ps
    → sum (map (met_of_part v) (take (length ps - 1) ps)) + met_of_last v (last_of ps) ≡ sum (map (met_of_part v) ps)
parts_met v [] some = absurd (omega (arith, some))
parts_met v (x ∷ []) some = let none : length (x ∷ []) - 1 ≡ 0 = omega arith in let one = sum_by-cons (λ n. n) (met_of_part v x) [] in
    ap (λ n. sum (map (met_of_part v) (take n (x ∷ []))) + met_of_part v x) none ∙ omega (arith, one)
parts_met v (x ∷ y ∷ ys) some =
    let f = met_of_part v in
    let more : length (x ∷ y ∷ ys) - 1 ≡ suc (length (y ∷ ys) - 1) = omega arith in
    let rest = parts_met v (y ∷ ys) (omega arith) in
    let front = sum_by-cons (λ n. n) (f x) (map f (take (length (y ∷ ys) - 1) (y ∷ ys))) in
    let whole = sum_by-cons (λ n. n) (f x) (map f (y ∷ ys)) in
    ap (λ n. sum (map f (take n (x ∷ y ∷ ys))) + met_of_last v (last_of (y ∷ ys))) more ∙ omega (arith, rest, front, whole)

pub all_met : (v : Division) (q : Query) (parts : List Part) → parts ≡ (out-Query q).parts → 1 ≤ length parts
    → sum (map (met_of_part v) (take (length parts - 1) parts)) + met_of_last v (last_of (out-Query q).parts) ≡ met_of_query v q
all_met v q parts are some = ap (λ (xs : List Part). sum (map (met_of_part v) (take (length parts - 1) parts)) + met_of_last v (last_of xs)) (sym are)
    ∙ parts_met v parts some ∙ ap (λ (xs : List Part). sum (map (met_of_part v) xs)) are ∙ sym (met_query-is v q)

-- ---- queries without a part
module _ (q : Query) (parts : List Part) (are : parts ≡ (out-Query q).parts) (none : length parts ≡ 0) (e : EntryOf Post)
    (is_nothing : e ≡ record { base = base.All; rows = [] }) where
  pub nothing_own : (i : IndexView) → FitsQuery i q e
  nothing_own i = subst (λ xs. EntryFits i (end_positive xs) (length xs) e) (sym (no_parts parts none) ∙ are) (nothing_fits i e is_nothing)
    where
      no_parts : (xs : List Part) → length xs ≡ 0 → xs ≡ []
      no_parts [] h = refl
      no_parts (x ∷ xs) h = absurd (omega (arith, h))

  pub nothing_over : (b : List ℕ) (v : SourceView) → StandsFor b v.index → IsSource v → IsEntryOver (corpus_in (v.stock b)) (seen v) q e
  nothing_over b v stands is = from_stock b v stands is q e
      (entry_ends (v.stock b) parts q 0 e are (omega (arith, none)) (entry_begins (v.stock b) parts e is_nothing))

-- ---- hits by the query's own entry
module _ (v : SourceView) (q : Query) (e : EntryOf Post) (positive : Bool) (ends : positive ≡ last_is_positive q) (hits : Base)
    (are : hits ≡ posts_hits positive e.base e.rows) where
  pub hits_are_in : FitsQuery (seen v) q e → length (out-Query q).parts ≤ MAX_PARTS → IsBaseOf v.docs (MAX_ROW_SCORE * MAX_PARTS) hits
  hits_are_in fits few =
      let n = length (out-Query q).parts in
      base_weaker v.docs (MAX_ROW_SCORE * n) (MAX_ROW_SCORE * MAX_PARTS) hits (omega (arith, few))
      (subst (IsBaseOf v.docs (MAX_ROW_SCORE * n)) (sym are) (hits_in (seen v) positive n e (subst (λ p. EntryFits (seen v) p n e) (sym ends) fits)))

  pub found_by_entry : (b : List ℕ) → StandsFor b v.index → IsSource v → IsEntryOver (corpus_in (v.stock b)) (seen v) q e → AreFound (v.stock b) q hits e.rows
  found_by_entry b stands is own =
      let s = v.stock b in
      let k = corpus_in s in
      let told = in_stock b v stands is q e own ∙ entry_unrolled k q in
      let from : positive ≡ kept.ends_positive (parts_of k q) = ends ∙ ends_read k (out-Query q).parts ∙ ap kept.ends_positive (sym (parts_read k q)) in
      record {
        base = are ∙ hits_by s (parts_of k q) positive e from told;
        rows = ap (λ (x : Entry). x.rows) told;
      }
