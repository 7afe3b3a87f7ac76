-- Wide ranges of words, and what a query asks by one.
--
--   by_range, by_entry       a query that asks for a wide range alone: its last part, and its own entry
--   too_large        that is larger than may be kept
--   wide_held        of words of which what is counted is held there are so many rows
--   wide_range, wide_fits      what is counted in every document is to be held
--   range_counts     its hits and its table by what is found of the range
--   alone_met        what is read for the words is within what is read for the query
use Rattle.std.proofs.Common.{◌≡◌, ℕ, ◌+◌, ◌-◌, ◌*◌, ◌≤◌, ◌<◌, ◌==◌, ◌&&◌, ◌||◌, Bool, true, false, true≢false, not, inl, inr, Option, Some, None}
use Rattle.std.proofs.Common.{List, [], ◌∷◌, length, map, take, get_or, refl, sym, ap, subst, ◌∙◌, arith}
use Rattle.std.specs.Prelude.{filter, sum, IfSome}
use Rattle.std.specs.List.{AllByRecursion, list_any}
use Rattle.std.proofs.lemmas.Bool.{and_parts, eqb-true}
use Rattle.std.proofs.lemmas.List.Elements.{recursion_from_All}
use Rattle.std.proofs.lemmas.List.Filters.{length-filter_both}
use Rattle.std.proofs.lemmas.List.Sums.{sum_by-cons}
use Rattle.cs_base.specs.declared.content.doc.Base.{Base}
use Rattle.cs_base.specs.declared.content.doc.Base.TheVariants as base
use Rattle.cs_base.specs.declared.content.doc.Post.{Post}
use Rattle.cs_base.specs.declared.content.query.Part.{Part}
use Rattle.cs_base.specs.declared.content.query.Query.{Query, out-Query}
use Rattle.cs_base.specs.declared.content.scores.TheConstants.{MAX_ROW_SCORE}
use Rattle.cs_file.specs.Indexes.{StandsFor}
use Rattle.cs_model_kept.specs.Due.{met_of_part, met_of_query}
use Rattle.cs_model_kept.specs.Entries.{base_of, listed_count}
use Rattle.cs_model_kept.specs.KeptListLaws.{before_last}
use Rattle.cs_model_kept.proofs.EntryLemmas.{parts_read}
use Rattle.cs_model.specs.Answers.{rows_of_part}
use Rattle.cs_model_kept.specs.Entries.{entry_of}
use Rattle.cs_model_kept.specs.KeptList.{kept_fresh}
use Rattle.cs_model_kept.specs.declared.limits.TheConstants.{MAX_ENTRY_SIZE}
use Rattle.cs_base.specs.declared.index.plan.Kept.TheVariants as kept
use Rattle.cs_tables.specs.WordCounts.{WordCountsView}
use Rattle.cs_rows.specs.IndexReading.{division}
use Rattle.cs_rows.specs.Blockwise.{HasFound, IsWideFound}
use Rattle.cs_rows.specs.Counting.{in_listed}
use Rattle.cs_engine.specs.declared.held.HeldKind.TheVariants as kinds
use Rattle.cs_engine.specs.HeldRanges.{AreHeldOver, IsHeldOver, IsHoldingOver, is_kind, is_range}
use Rattle.cs_engine.specs.declared.finding.CountedWords.{CountedWords}
use Rattle.cs_engine.specs.declared.held.HeldRange.{HeldRange}
use Rattle.cs_engine.specs.declared.held.Holding.{Holding}
use Rattle.cs_engine.specs.declared.held.Holding.TheVariants as holding
use Rattle.cs_rows.specs.Sources.{IsSource, SourceView, met_in, seen}
use Rattle.cs_engine.specs.Loose.{AreCountsFor, AreLastWords, IsEntryByWords}
use Rattle.cs_rows.specs.Steps.{AreHitsOver, IsBaseOf}
use Rattle.cs_rows.specs.Stocked.{Stock, base_posts, corpus_in, is_between}
use Rattle.cs_engine.specs.Finding.{AreWide, AsksAlone, AsksRange}
use Rattle.cs_rows.proofs.CountingLemmas.{listed_all}
use Rattle.cs_rows.proofs.EvaluationLemmas.{met_query-is}
use Rattle.cs_engine.proofs.LooseLemmas.{found_counts, large_entry}
use Rattle.cs_rows.proofs.OverSources.{all_there}
use Rattle.cs_engine.proofs.PlansLemmas.{IsLast, ends_last, first_parts, more_by_words}

-- ---- what is asked
module _ (v : SourceView) (q : Query) (lo hi : ℕ) (asks : AsksRange v q lo hi) where
  abbrev ps : List Part
  ps = (out-Query q).parts

  one : length ps ≡ 1
  one = ap length asks.alone ∙ refl

  last : IsLast q asks.part
  last = record { some = omega (arith, one); at = sym (ap (λ (xs : List Part). get_or xs (length xs - 1) asks.part) asks.alone) }

  pub by_range : AreLastWords (seen v) q base.All lo hi
  by_range = record {
    some = omega (arith, one);
    positive = ends_last q asks.part last ∙ ap not asks.positive;
    ordered = asks.words.ordered;
    within = asks.words.within;
    base = tt;
  }

  module _ (b : List ℕ) (stands : StandsFor b v.index) (is : IsSource v) where
    none_before : AreHitsOver (v.stock b) (before_last q) base.All
    none_before =
        let k = corpus_in (v.stock b) in
        let none : [] ≡ (out-Query (before_last q)).parts = first_parts q [] (sym (ap (λ (xs : List Part). take (length xs - 1) xs) asks.alone)) in
        sym (ap (base_of k) (parts_read k (before_last q)) ∙ ap (λ (xs : List Part). base_of k (map (rows_of_part k) xs)) (sym none))

    pub by_entry : IsEntryByWords b v q base.All lo hi
    by_entry = more_by_words q b v stands is asks.part base.All lo hi last none_before asks.positive asks.words

    pub too_large : MAX_ENTRY_SIZE < length (filter (is_between lo hi) (v.stock b).posts) → kept_fresh (entry_of (corpus_in (v.stock b)) q) ≡ kept.TooLarge
    too_large many =
        let has = listed_all v.present v.present refl in
        large_entry v q base.All lo hi by_range v.present has b stands is by_entry (filter (is_between lo hi) (v.stock b).posts)
        (sym (all_there b v stands is lo hi v.present refl)) (omega (arith, many))

    pub range_counts : (hits : Base) (counts : WordCountsView) → HasFound base.All (filter (is_between lo hi) (v.stock b).posts) hits counts
        → AreCountsFor v b q hits counts
    range_counts hits counts over = found_counts v q base.All lo hi by_range b stands is by_entry hits counts over

-- what is read for them is what is read for the query
pub alone_met : (v : SourceView) (q : Query) {parts : List Part} {lo hi : ℕ} → parts ≡ (out-Query q).parts → AsksAlone v parts lo hi
    → met_in v lo hi ≤ met_of_query (division v.index) q
alone_met v q {parts} {lo} {hi} are asks =
    let d = division v.index in
    let one = sum_by-cons (λ n. n) (met_of_part d asks.part) [] in
    let all : met_of_query d q ≡ met_of_part d asks.part + sum [] = met_query-is d q
    ∙ ap (λ (ps : List Part). sum (map (met_of_part d) ps)) (sym are ∙ asks.alone) ∙ one in
    let few = asks.words.few in
    omega (arith, few, all)

-- ---- what is held, and what is to be held
module _ (s : Stock) (lo hi : ℕ) where
  by_what : (w : Holding) → is_kind kinds.Counted w ≡ true → IsHoldingOver s lo hi w → MAX_ENTRY_SIZE < length (filter (is_between lo hi) s.posts)
  by_what (holding.Rows rows) is over = absurd (true≢false (sym is))
  by_what (holding.Counted hits counts) is over = over.many
  by_what (holding.Blocks blocks) is over = absurd (true≢false (sym is))

  by_held : (r : HeldRange) → is_range lo hi kinds.Counted r ≡ true → IsHeldOver s r → MAX_ENTRY_SIZE < length (filter (is_between lo hi) s.posts)
  by_held r is over =
      let parts = and_parts (r.low == lo && r.high == hi) (is_kind kinds.Counted r.what) is in
      let ends = and_parts (r.low == lo) (r.high == hi) parts.0 in
      by_what r.what parts.1 (subst (λ l. IsHoldingOver s l hi r.what) (eqb-true r.low lo ends.0)
      (subst (λ h. IsHoldingOver s r.low h r.what) (eqb-true r.high hi ends.1) over))

  any_wide : (held : List HeldRange) → list_any (is_range lo hi kinds.Counted) held ≡ true → AllByRecursion (IsHeldOver s) held
      → MAX_ENTRY_SIZE < length (filter (is_between lo hi) s.posts)
  any_wide [] any over = absurd (true≢false (sym any))
  any_wide (r ∷ rs) any over =
      elim (is_range lo hi kinds.Counted r) as (λ b. is_range lo hi kinds.Counted r ≡ b → (b || list_any (is_range lo hi kinds.Counted) rs) ≡ true
      → MAX_ENTRY_SIZE < length (filter (is_between lo hi) s.posts)) [
        | true ↦ λ is rest. by_held r is over.0
        | false ↦ λ is rest. any_wide rs rest over.1
      ] refl any

pub wide_held : (v : SourceView) (lo hi : ℕ) (held : List HeldRange) → AreWide v held lo hi → (b : List ℕ) → StandsFor b v.index
    → AreHeldOver (v.stock b) held → MAX_ENTRY_SIZE < length (filter (is_between lo hi) (v.stock b).posts)
wide_held v lo hi held wide b stands over = elim wide [
  | inl many ↦ many b stands
  | inr any ↦ any_wide (v.stock b) lo hi held any (recursion_from_All (IsHeldOver (v.stock b)) held over)
]

-- where there are counted words, they are these, and every document is a hit
abbrev IsCountedIn : Base → ℕ → ℕ → WordCountsView → CountedWords → Type 0
IsCountedIn hits lo hi counts r = (hits ≡ base.All) × (r ≡ record { low = lo; high = hi; counts = counts })

module _ (hits : Base) (lo hi : ℕ) (counts : WordCountsView) where
  pub wide_range : (posts : List Post) (listed : List Bool) (found : Base) (o : Option CountedWords) → IfSome o (IsCountedIn hits lo hi counts)
      → MAX_ENTRY_SIZE < length (filter (in_listed listed) (filter (is_between lo hi) posts)) + listed_count hits
      → HasFound hits (base_posts hits (filter (is_between lo hi) posts)) found counts
      → IfSome o (λ r. IsWideFound (filter (is_between r.low r.high) posts) found r.counts)
  wide_range posts listed found None none many has = tt
  wide_range posts listed found (Some r) some many has =
      let rows = filter (is_between lo hi) posts in
      let fewer = length-filter_both (in_listed listed) (λ p. not (in_listed listed p)) (λ p. refl) rows in
      let none : listed_count hits ≡ 0 = ap listed_count some.0 in
      subst (λ (x : CountedWords). IsWideFound (filter (is_between x.low x.high) posts) found x.counts) (sym some.1)
      (record { found = subst (λ x. HasFound x (base_posts x rows) found counts) some.0 has; many = omega (arith, fewer, none, many) })

  pub wide_fits : (docs words : ℕ) (found : Base) (o : Option CountedWords) → IfSome o (IsCountedIn hits lo hi counts) → counts.high ≤ words
      → ((n : ℕ) → IsBaseOf docs (MAX_ROW_SCORE * n) hits → IsBaseOf docs (MAX_ROW_SCORE * (n + 1)) found)
      → IfSome o (λ r. (r.counts.high ≤ words) × IsBaseOf docs MAX_ROW_SCORE found)
  wide_fits docs words found None none few fits = tt
  wide_fits docs words found (Some r) some few fits =
      (subst (λ (x : CountedWords). x.counts.high ≤ words) (sym some.1) few, fits 0 (subst (IsBaseOf docs (MAX_ROW_SCORE * 0)) (sym some.0) tt))
