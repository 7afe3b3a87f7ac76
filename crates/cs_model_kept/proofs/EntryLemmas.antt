-- The entry of one part more, and what an entry tells of hits.
--
--   hits_are            the hits out of an entry are those of its parts
--   listed_base         as a base, the hits of parts are listed as they are
--   entry_more          the entry of one part more by hits and rows
--   extended_is         and by the entry before it
--   steps_are           the entry of parts is what one step for each of them gives
--   entries_extend      the entry of a query followed by a part
use Rattle.std.proofs.Common.{arith, ◌-◌, take, get_or, ◌≡◌, ℕ, ◌+◌, ◌==◌, ◌&&◌, ◌||◌, Bool, true, false, true≢false, not, List, [], ◌∷◌, ◌++◌, length, map, cond, refl, sym, ◌∙◌, ap, subst, append_assoc, if◌then◌else◌}
use Rattle.std.specs.Prelude.{Some, filter, sum, find, fold, nat_lt}
use Rattle.std.specs.Option.{option_map, unwrap_or}
use Rattle.std.specs.List.{All, list_any, list_all}
use Rattle.std.specs.List.Sorted.{IsStrictlySortedBy}
use Rattle.std.specs.Ordering.{nat_cmp, eq_by_cmp}
use Rattle.std.specs.Cmp.{nat_cmp_total}
use Rattle.std.specs.FinMap.{nat_cmp-IsAntisymmetric, keys}
use Rattle.std.proofs.lemmas.Bool.Decides.{nat_tests}
use Rattle.std.proofs.lemmas.List.{append-nil, map-append}
use Rattle.std.proofs.lemmas.List.Sums.{fold-append}
use Rattle.std.proofs.lemmas.List.Elements.{filter-append, recursion_from_All}
use Rattle.std.proofs.lemmas.List.Folds.{list_any_at, list_all-append}
use Rattle.std.proofs.lemmas.List.Kept.{IsStrictlySortedBy-filter}
use Rattle.std.proofs.lemmas.Map.Views.{any-filter_same}
use Rattle.cs_base.specs.declared.content.doc.Base.{Base}
use Rattle.cs_base.specs.declared.content.doc.Base.TheVariants as base
use Rattle.cs_base.specs.declared.content.doc.Row.{Row}
use Rattle.cs_base.specs.declared.content.doc.Scored.{Scored}
use Rattle.cs_base.specs.declared.content.query.Query.{Query, out-Query, roll-out-Query}
use Rattle.cs_base.specs.declared.content.query.Part.{Part}
use Rattle.cs_base.proofs.MembersLemmas.{all_then, keys-rise, members_are}
use Rattle.cs_base.specs.content.Bases.{base_score}
use Rattle.cs_base.proofs.ListsLemmas.{all_of, map_alike, filter_alike, filter_twice, filter_through, any_through, all_stay, and_true, same_number, itself, number_tie, any_tie, own_members, take_init, last_entry}
use Rattle.cs_model.specs.Answers.{PartRows, in_doc, is_listed, agrees, row_docs, hits, pairs, last_rows, greatest_score, parts_of, rows_of_part, score, scored}
use Rattle.cs_model.specs.Corpus.{Corpus}
use Rattle.cs_model.proofs.AnswersLemmas.{query_rolled}
use Rattle.cs_model_kept.specs.Entries.{Entry, scored_hits, base_of, ends_positive, before_typed, entry, entry_of, over, hits_of, listed, is_begun, is_hit, without, entry_after, extended}
use Rattle.cs_model_kept.specs.KeptLaws.{HitsAreOver, BasesListHits, EntriesExtend, EntriesAreSteps, followed}

-- ---- one part more
module _ (k : Corpus) (done : List PartRows) (p : PartRows) where
  all_one : (d : ℕ) → list_all (agrees d) (done ++ p ∷ []) ≡ (list_all (agrees d) done && agrees d p)
  all_one d = list_all-append (agrees d) done (p ∷ []) ∙ ap (λ b. list_all (agrees d) done && b) (and_true (agrees d p))

  pub hits_more : hits k (done ++ p ∷ []) ≡ filter (λ d. agrees d p) (hits k done)
  hits_more =
      filter_alike (λ d. list_all (agrees d) (done ++ p ∷ [])) (λ d. list_all (agrees d) done && agrees d p) (keys k.titles) (all_of (λ d. list_all (agrees d) (done ++ p ∷ []) ≡ (list_all (agrees d) done && agrees d p)) all_one (keys k.titles))
      ∙ filter_twice (λ d. list_all (agrees d) done) (λ d. agrees d p) (keys k.titles)

last_more : (done : List PartRows) (p : PartRows) → last_rows (done ++ p ∷ []) ≡ last_rows (p ∷ [])
last_more [] p = refl
last_more (a ∷ []) p = refl
last_more (a ∷ b ∷ done) p = last_more (b ∷ done) p

pub ends_more : (done : List PartRows) (p : PartRows) → ends_positive (done ++ p ∷ []) ≡ not p.excluded
ends_more [] p = refl
ends_more (a ∷ []) p = refl
ends_more (a ∷ b ∷ done) p = ends_more (b ∷ done) p

pub before_more : (done : List PartRows) (p : PartRows) → before_typed (done ++ p ∷ []) ≡ (if not p.excluded then done else done ++ p ∷ [])
before_more done p =
    ap (λ b. if b then take (length (done ++ p ∷ []) - 1) (done ++ p ∷ []) else done ++ p ∷ []) (ends_more done p)
    ∙ ap (λ (ps : List PartRows). if not p.excluded then ps else done ++ p ∷ []) (take_init done p)

-- what a part adds to a score
abbrev gives : ℕ → PartRows → ℕ
gives d p = greatest_score (filter (in_doc d) p.rows)

score_split : (d : ℕ) (done : List PartRows) (p : PartRows) → score (done ++ p ∷ []) d ≡ fold ◌+◌ (score done d) (map (gives d) (cond (not p.excluded) (p ∷ []) []))
score_split d done p =
    let positive : PartRows → Bool = λ p. not p.excluded in
    ap (λ xs. sum (map (gives d) xs)) (filter-append positive done (p ∷ []))
    ∙ ap sum (map-append (gives d) (filter positive done) (filter positive (p ∷ [])))
    ∙ fold-append ◌+◌ 0 (map (gives d) (filter positive done)) (map (gives d) (filter positive (p ∷ [])))

score_positive : (d : ℕ) (done : List PartRows) (p : PartRows) → p.excluded ≡ false → score (done ++ p ∷ []) d ≡ score done d + gives d p
score_positive d done p e = score_split d done p ∙ ap (λ b. fold ◌+◌ (score done d) (map (gives d) (cond (not b) (p ∷ []) []))) e

score_excluded : (d : ℕ) (done : List PartRows) (p : PartRows) → p.excluded ≡ true → score (done ++ p ∷ []) d ≡ score done d
score_excluded d done p e = score_split d done p ∙ ap (λ b. fold ◌+◌ (score done d) (map (gives d) (cond (not b) (p ∷ []) []))) e

-- ---- rows and their documents
find_own : (f : ℕ → Scored) → ((d : ℕ) → (f d).doc ≡ d) → (ds : List ℕ) (d : ℕ) → list_any (λ e. e == d) ds ≡ true → find (λ h. h.doc == d) (map f ds) ≡ Some (f d)
find_own f h [] d m = absurd (true≢false (sym m))
find_own f h (x ∷ ds) d m =
    ap (λ y. cond (y == d) (Some (f x)) (find (λ h. h.doc == d) (map f ds))) (h x)
    ∙ elim (x == d) as (λ b. x == d ≡ b → (b || list_any (λ e. e == d) ds) ≡ true → cond b (Some (f x)) (find (λ h. h.doc == d) (map f ds)) ≡ Some (f d)) [
      | true ↦ λ e _. ap (λ y. Some (f y)) (same_number x d e)
      | false ↦ λ e r. find_own f h ds d r
    ] refl m

-- of a listed document all rows are kept
kept_of_doc : (ds : List ℕ) (d : ℕ) (rows : List Row) → is_listed ds d ≡ true → filter (in_doc d) (filter (λ r. is_listed ds r.doc) rows) ≡ filter (in_doc d) rows
kept_of_doc ds d [] m = refl
kept_of_doc ds d (r ∷ rows) m =
    elim (r.doc == d) as (λ b. r.doc == d ≡ b → filter (in_doc d) (cond (is_listed ds r.doc) (r ∷ kept) kept) ≡ cond b (r ∷ filter (in_doc d) rows) (filter (in_doc d) rows)) [
      | true ↦ λ e.
          ap (λ x. filter (in_doc d) (cond (is_listed ds x) (r ∷ kept) kept)) (same_number r.doc d e)
          ∙ ap (λ b. filter (in_doc d) (cond b (r ∷ kept) kept)) m
          ∙ ap (λ b. cond b (r ∷ filter (in_doc d) kept) (filter (in_doc d) kept)) e
          ∙ ap (λ l. r ∷ l) (kept_of_doc ds d rows m)
      | false ↦ λ e. passed (is_listed ds r.doc) e ∙ kept_of_doc ds d rows m
    ] refl
  where
    kept : List Row
    kept = filter (λ r. is_listed ds r.doc) rows

    passed : (b : Bool) → r.doc == d ≡ false → filter (in_doc d) (cond b (r ∷ kept) kept) ≡ filter (in_doc d) kept
    passed true e = ap (λ b. cond b (r ∷ filter (in_doc d) kept) (filter (in_doc d) kept)) e
    passed false e = refl

-- each row is in its own document
own_doc : (rows : List Row) → All (λ r. list_any (in_doc r.doc) rows ≡ true) rows
own_doc rows k r l = list_any_at (in_doc (get_or rows k r).doc) rows k r l (itself (get_or rows k r).doc)

both_again : (t c : Bool) → (t && c) ≡ ((t && c) && t)
both_again true true = refl
both_again true false = refl
both_again false c = refl

second_true : (t c : Bool) → (t && c) ≡ true → c ≡ true
second_true true c h = h
second_true false c h = absurd (true≢false (sym h))

pub base_more : (k : Corpus) (done : List PartRows) (p : PartRows) → base_of k (done ++ p ∷ []) ≡ base.Listed (scored_hits k (done ++ p ∷ []))
base_more k [] p = refl
base_more k (a ∷ done) p = refl

begun_base : (k : Corpus) (done : List PartRows) → base_of k done ≡ (if is_begun (base_of k done) then base.Listed (scored_hits k done) else base.All)
begun_base k [] = refl
begun_base k (a ∷ done) = refl

pub listed_base : BasesListHits
listed_base k [] = ap (map (λ (d : ℕ). let h : Scored = record { doc = d; score = 0 } in h)) (sym (all_stay (keys k.titles)))
listed_base k (p ∷ ps) = refl

module _ (k : Corpus) (done : List PartRows) (p : PartRows) where
  abbrev ds : List ℕ
  ds = hits k done

  abbrev now : List ℕ
  now = hits k (done ++ p ∷ [])

  has_row : ℕ → Bool
  has_row d = list_any (in_doc d) p.rows

  rises : IsStrictlySortedBy nat_cmp now
  rises = IsStrictlySortedBy-filter nat_cmp (λ d. list_all (agrees d) (done ++ p ∷ [])) (keys k.titles) (keys-rise nat_cmp k.titles)

  module _ (e : p.excluded ≡ false) where
    hits_positive : now ≡ filter (λ d. list_any (in_doc d) p.rows) ds
    hits_positive = hits_more k done p ∙ ap (λ b. filter (λ d. if b then not (list_any (in_doc d) p.rows) else list_any (in_doc d) p.rows) ds) e

    pairs_positive : pairs k (done ++ p ∷ []) ≡ filter (λ r. is_listed now r.doc) p.rows
    pairs_positive = ap (filter (λ r. is_listed now r.doc)) (last_more done p ∙ ap (λ b. if b then [] else p.rows) e)

    is_now : (q : ℕ) → is_listed now q ≡ (list_any (in_doc q) p.rows && is_listed ds q)
    is_now q =
        ap (λ hs. is_listed hs q) hits_positive
        ∙ any-filter_same (λ x. x == q) (λ d. list_any (in_doc d) p.rows) (list_any (in_doc q) p.rows) (λ x same. ap (λ y. list_any (in_doc y) p.rows) (same_number x q same)) ds

    -- the documents of the pairs are the hits
    pair_docs : row_docs (filter (λ r. is_listed now r.doc) p.rows) ≡ now
    pair_docs =
        let kept = filter (λ r. is_listed now r.doc) p.rows in
        sym (members_are nat_cmp nat_cmp_total nat_cmp-IsAntisymmetric now (map (λ r. r.doc) kept) rises (λ q.
        any_tie q now ∙ is_now q ∙ both_again (list_any (in_doc q) p.rows) (is_listed ds q)
        ∙ ap (λ b. b && list_any (in_doc q) p.rows) (sym (is_now q))
        ∙ ap (λ b. is_listed now q && b) (same_rows q p.rows)
        ∙ sym (any-filter_same (λ r. eq_by_cmp nat_cmp q r.doc) (λ r. is_listed now r.doc) (is_listed now q) (λ r same. ap (is_listed now) (same_number r.doc q (sym (number_tie q r.doc) ∙ same))) p.rows)
        ∙ sym (any_through (λ r. r.doc) (eq_by_cmp nat_cmp q) kept)))
      where
        same_rows : (q : ℕ) (rows : List Row) → list_any (in_doc q) rows ≡ list_any (λ r. eq_by_cmp nat_cmp q r.doc) rows
        same_rows q [] = refl
        same_rows q (r ∷ rows) = ap (λ b. b || list_any (in_doc q) rows) (sym (number_tie q r.doc)) ∙ ap (λ b. eq_by_cmp nat_cmp q r.doc || b) (same_rows q rows)

    so_far : (done : List PartRows) (d : ℕ) → is_listed (hits k done) d ≡ true → base_score (base_of k done) d ≡ score done d
    so_far [] d m = refl
    so_far (a ∷ done) d m = ap (λ o. unwrap_or (option_map (λ (h : Scored). h.score) o) 0) (find_own (scored (a ∷ done)) (λ d. refl) (hits k (a ∷ done)) d m)

    -- the pairs over the base are the hits with their scores
    over_hits : over (base_of k done) (pairs k (done ++ p ∷ [])) ≡ scored_hits k (done ++ p ∷ [])
    over_hits =
        let kept = filter (λ r. is_listed now r.doc) p.rows in
        let one : (d : ℕ) → is_listed now d ≡ true → (let h : Scored = record { doc = d; score = base_score (base_of k done) d + greatest_score (filter (in_doc d) kept) } in h) ≡ scored (done ++ p ∷ []) d = λ d m.
        ap (λ (n : ℕ). let h : Scored = record { doc = d; score = n + greatest_score (filter (in_doc d) kept) } in h) (so_far done d (second_true (list_any (in_doc d) p.rows) (is_listed ds d) (sym (is_now d) ∙ m)))
        ∙ ap (λ rows. let h : Scored = record { doc = d; score = score done d + greatest_score rows } in h) (kept_of_doc now d p.rows m)
        ∙ ap (λ (n : ℕ). let h : Scored = record { doc = d; score = n } in h) (sym (score_positive d done p e)) in
        ap (over (base_of k done)) pairs_positive
        ∙ ap (map (λ d. record { doc = d; score = base_score (base_of k done) d + greatest_score (filter (in_doc d) kept) })) pair_docs
        ∙ map_alike (λ d. record { doc = d; score = base_score (base_of k done) d + greatest_score (filter (in_doc d) kept) }) (scored (done ++ p ∷ [])) now
        (all_then (λ d. is_listed now d ≡ true) (λ d. (let h : Scored = record { doc = d; score = base_score (base_of k done) d + greatest_score (filter (in_doc d) kept) } in h) ≡ scored (done ++ p ∷ []) d) one now (recursion_from_All (λ d. is_listed now d ≡ true) now (own_members now)))

    rows_positive : pairs k (done ++ p ∷ []) ≡ filter (is_hit (scored_hits k done)) p.rows
    rows_positive =
        pairs_positive
        ∙ filter_alike (λ r. is_listed now r.doc) (is_hit (scored_hits k done)) p.rows
        (all_then (λ r. list_any (in_doc r.doc) p.rows ≡ true) (λ r. is_listed now r.doc ≡ is_hit (scored_hits k done) r) (λ r own.
        is_now r.doc ∙ ap (λ b. b && is_listed ds r.doc) own ∙ sym (any_through (scored done) (λ h. h.doc == r.doc) ds)) p.rows
        (recursion_from_All (λ r. list_any (in_doc r.doc) p.rows ≡ true) p.rows (own_doc p.rows)))

  module _ (e : p.excluded ≡ true) where
    hits_excluded : now ≡ filter (λ d. not (list_any (in_doc d) p.rows)) ds
    hits_excluded = hits_more k done p ∙ ap (λ b. filter (λ d. if b then not (list_any (in_doc d) p.rows) else list_any (in_doc d) p.rows) ds) e

    dropped : scored_hits k (done ++ p ∷ []) ≡ without p.rows (scored_hits k done)
    dropped =
        let left = filter (λ d. not (list_any (in_doc d) p.rows)) ds in
        ap (map (scored (done ++ p ∷ []))) hits_excluded
        ∙ map_alike (scored (done ++ p ∷ [])) (scored done) left (all_of (λ d. scored (done ++ p ∷ []) d ≡ scored done d) (λ d. ap (λ (n : ℕ). let h : Scored = record { doc = d; score = n } in h) (score_excluded d done p e)) left)
        ∙ filter_through (scored done) (λ h. not (list_any (in_doc h.doc) p.rows)) ds

    no_pairs : pairs k (done ++ p ∷ []) ≡ []
    no_pairs = ap (filter (λ r. is_listed now r.doc)) (last_more done p ∙ ap (λ b. if b then [] else p.rows) e)

  abbrev made : Base → List Row → Entry
  made b rows = record { base = b; rows = rows }

  entry_is : entry k (done ++ p ∷ []) ≡ made (base_of k (if not p.excluded then done else done ++ p ∷ [])) (pairs k (done ++ p ∷ []))
  entry_is = ap (λ ps. made (base_of k ps) (pairs k (done ++ p ∷ []))) (before_more done p)

  pub entry_more : entry k (done ++ p ∷ []) ≡ entry_after (is_begun (base_of k done)) (scored_hits k done) p
  entry_more =
      entry_is
      ∙ elim p.excluded as (λ b. p.excluded ≡ b → made (base_of k (if not b then done else done ++ p ∷ [])) (pairs k (done ++ p ∷ [])) ≡ (if b then made (base.Listed (without p.rows (scored_hits k done))) [] else made (if is_begun (base_of k done) then base.Listed (scored_hits k done) else base.All) (filter (is_hit (scored_hits k done)) p.rows))) [
        | true ↦ λ e. ap (λ b. made b (pairs k (done ++ p ∷ []))) (base_more k done p ∙ ap base.Listed (dropped e)) ∙ ap (made (base.Listed (without p.rows (scored_hits k done)))) (no_pairs e)
        | false ↦ λ e. ap (λ b. made b (pairs k (done ++ p ∷ []))) (begun_base k done) ∙ ap (made (if is_begun (base_of k done) then base.Listed (scored_hits k done) else base.All)) (rows_positive e)
      ] refl

  hits_known : hits_of (ends_positive (done ++ p ∷ [])) (entry k (done ++ p ∷ [])) ≡ base_of k (done ++ p ∷ [])
  hits_known =
      ap (λ b. hits_of b (entry k (done ++ p ∷ []))) (ends_more done p)
      ∙ ap (hits_of (not p.excluded)) entry_is
      ∙ elim p.excluded as (λ b. p.excluded ≡ b → hits_of (not b) (made (base_of k (if not b then done else done ++ p ∷ [])) (pairs k (done ++ p ∷ []))) ≡ base_of k (done ++ p ∷ [])) [
        | true ↦ λ e. refl
        | false ↦ λ e. ap base.Listed (over_hits e) ∙ sym (base_more k done p)
      ] refl

-- ---- the laws
pub hits_are : HitsAreOver
hits_are k [] = refl
hits_are k (p ∷ ps) =
    let r = last_entry p ps in
    subst (λ xs. hits_of (ends_positive xs) (entry k xs) ≡ base_of k xs) (sym r.2) (hits_known k r.0 r.1)

module _ (k : Corpus) where
  pub extended_is : (done : List PartRows) (p : PartRows) → entry k (done ++ p ∷ []) ≡ extended k (ends_positive done) (entry k done) p
  extended_is done p =
      entry_more k done p
      ∙ ap (λ hs. entry_after (is_begun (base_of k done)) hs p) (sym (listed_base k done))
      ∙ ap (λ b. entry_after (is_begun b) (listed k b) p) (sym (hits_are k done))

  abbrev step : Bool × Entry → PartRows → Bool × Entry
  step so_far p = (not p.excluded, extended k so_far.0 so_far.1 p)

  steps_from : (done ps : List PartRows) → fold step (ends_positive done, entry k done) ps ≡ (ends_positive (done ++ ps), entry k (done ++ ps))
  steps_from done [] = ap (λ xs. (ends_positive xs, entry k xs)) (sym (append-nil done))
  steps_from done (p ∷ ps) =
      ap (λ e. fold step (not p.excluded, e) ps) (sym (extended_is done p))
      ∙ ap (λ b. fold step (b, entry k (done ++ p ∷ [])) ps) (sym (ends_more done p))
      ∙ steps_from (done ++ p ∷ []) ps
      ∙ ap (λ xs. (ends_positive xs, entry k xs)) (append_assoc done (p ∷ []) ps)

pub entries_are_steps : EntriesAreSteps
entries_are_steps k ps = (extended_is k ps, steps_from k [] ps)

-- ---- queries
module _ (k : Corpus) where
  pub parts_read : (q : Query) → parts_of k q ≡ map (rows_of_part k) (out-Query q).parts
  parts_read q = ap (parts_of k) (sym (roll-out-Query q)) ∙ query_rolled k (out-Query q).parts

  parts_followed : (q : Query) (p : Part) → parts_of k (followed q p) ≡ parts_of k q ++ rows_of_part k p ∷ []
  parts_followed q p =
      query_rolled k ((out-Query q).parts ++ p ∷ [])
      ∙ map-append (rows_of_part k) (out-Query q).parts (p ∷ [])
      ∙ ap (λ ps. ps ++ rows_of_part k p ∷ []) (sym (parts_read q))

  begun_parts : (ps : List Part) → is_begun (base_of k (map (rows_of_part k) ps)) ≡ nat_lt 0 (length ps)
  begun_parts [] = refl
  begun_parts (p ∷ ps) = grind (arith, nat_tests)

pub entries_extend : EntriesExtend
unfolding entry_of
entries_extend k q p =
    ap (entry k) (parts_followed k q p)
    ∙ entry_more k (parts_of k q) (rows_of_part k p)
    ∙ ap (λ b. entry_after b (scored_hits k (parts_of k q)) (rows_of_part k p)) (ap (λ ps. is_begun (base_of k ps)) (parts_read k q) ∙ begun_parts k (out-Query q).parts)
