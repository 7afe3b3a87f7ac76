-- The hits of a query and one part more that asks for some words, off a table of best scores.
--
--   none_added       all documents add nothing
--   over_in, most_more      scores over a base in range, also of one part more than there may be
--   best_more        the best scores of one block more
--   best_found       after all blocks they are those of the rows that are asked for
--   scored_are       the hits of that table
--   behind_words     are those behind the part
use Rattle.std.proofs.Common.{◌≡◌, ℕ, ◌+◌, ◌*◌, ◌<◌, ◌≤◌, ◌^◌, Bool, true, false, not, List, [], ◌∷◌, ◌++◌, length, map, get_or, refl, sym, ap, subst, ◌∙◌}
use Rattle.std.proofs.Common.{arith, if◌then◌else◌}
use Rattle.std.specs.Prelude.{All, filter}
use Rattle.std.specs.List.{AllByRecursion}
use Rattle.std.specs.List.Sorted.{IsStrictlySortedBy}
use Rattle.std.specs.declared.cmp.Ordering.TheVariants.{Less}
use Rattle.std.proofs.lemmas.List.Elements.{All-map, All-weaker}
use Rattle.cs_base.specs.content.Orders.{AreByDoc, by_doc, docs_of}
use Rattle.cs_base.specs.declared.content.doc.Base.{Base}
use Rattle.cs_base.specs.declared.content.doc.Base.TheVariants as base
use Rattle.cs_base.specs.declared.content.doc.Post.{Post}
use Rattle.cs_base.specs.declared.content.doc.Scored.{Scored}
use Rattle.cs_base.specs.declared.content.limits.TheConstants.{MAX_PARTS}
use Rattle.cs_base.specs.declared.content.query.Part.{Part, out-Part}
use Rattle.cs_base.specs.declared.content.scores.TheConstants.{MAX_ROW_SCORE}
use Rattle.cs_file.specs.Indexes.{StandsFor, AreMet}
use Rattle.cs_model.specs.Answers.{rows_of_part}
use Rattle.cs_model_kept.specs.Due.{met_of_part}
use Rattle.cs_rank.specs.DocScores.{doc_scores, with_base}
use Rattle.cs_rank.proofs.GroupsLemmas.{base_each}
use Rattle.cs_tables.specs.WordCounts.{is_chosen}
use Rattle.cs_rows.specs.IndexReading.{division, AreWithin, IsWithin, run_of}
use Rattle.cs_rows.specs.Counting.{AreListed, in_listed}
use Rattle.cs_rows.specs.BestScores.{HasBestScores, hits_in}
use Rattle.cs_rows.specs.Plain.{AreWordsOf}
use Rattle.cs_rows.specs.Sources.{IsSource, SourceView, seen}
use Rattle.cs_rows.specs.Steps.{entry_with, IsBaseOf, IsHitOf, most}
use Rattle.cs_rows.specs.Stocked.{corpus_in, stock_docs, is_between, base_posts}
use Rattle.cs_rows.proofs.BestLemmas.{alike_best, hits_are}
use Rattle.cs_rows.proofs.CountingLemmas.{flat_more}
use Rattle.cs_rows.proofs.FoundLemmas.{is_excluded}
use Rattle.cs_rows.proofs.PartSteps.{AreHitsBehind, base_small, step_told}
use Rattle.cs_rows.proofs.RowsInRange.{kept_within}
use Rattle.cs_rows.proofs.OverSources.{chosen_alike, listed_asked, source_within}

-- ---- scores over a base
pub none_added : (found : List Scored) → map (with_base base.All) found ≡ found
none_added [] = refl
none_added (h ∷ found) =
    let e : 0 + h.score ≡ h.score = omega arith in
    ap (λ n. let s : Scored = record { doc = h.doc; score = n } in s ∷ map (with_base base.All) found) e ∙ ap (λ l. h ∷ l) (none_added found)

later_as : (b : Base) (h : Scored) (hs : List Scored) → AllByRecursion (λ y. by_doc h y ≡ Less) hs
    → AllByRecursion (λ y. by_doc (with_base b h) y ≡ Less) (map (with_base b) hs)
later_as b h [] up = tt
later_as b h (x ∷ hs) up = (up.0, later_as b h hs up.1)

over_rises : (b : Base) (hs : List Scored) → AreByDoc hs → AreByDoc (map (with_base b) hs)
unfolding IsStrictlySortedBy
over_rises b [] up = tt
over_rises b (h ∷ hs) up = (later_as b h hs up.0, over_rises b hs up.1)

pub over_in : (docs n : ℕ) (b : Base) (found : List Scored) → IsBaseOf docs (MAX_ROW_SCORE * n) b → IsBaseOf docs MAX_ROW_SCORE (base.Listed found)
    → IsBaseOf docs (MAX_ROW_SCORE * (n + 1)) (base.Listed (map (with_base b) found))
over_in docs n b found fits has = (
  over_rises b found has.0,
  All-map (IsHitOf docs (MAX_ROW_SCORE * (n + 1))) (with_base b) found (λ k d l.
      let h = has.1 k d l in
      let score = h.score in
      let low = base_small docs (MAX_ROW_SCORE * n) (get_or found k d).doc b fits in
      record { doc = h.doc; score = omega (arith, low, score) }),
)

pub most_more : (positive : Bool) → most positive (MAX_PARTS + 1) ≤ 2 ^ 20
most_more true = omega arith
most_more false = omega arith

-- ---- the table
module _ (b : List ℕ) (v : SourceView) (stands : StandsFor b v.index) (is : IsSource v) (lo hi : ℕ) (listed : List Bool) where
  abbrev asked : List Post
  asked = filter (is_between lo hi) (v.stock b).posts

  abbrev rows : List Post
  rows = filter (in_listed listed) asked

  abbrev run : ℕ → ℕ → List Post
  run first k = run_of (v.blocks b) first k (is_chosen lo hi listed)

  pub best_more : (first k : ℕ) (old new : List ℕ) → first ≤ k → k < length v.index.heads
      → ((seen : List Post) → HasBestScores seen old → HasBestScores (seen ++ filter (is_chosen lo hi listed) (get_or (v.blocks b) k [])) new)
      → HasBestScores (run_of (v.blocks b) first k (is_chosen lo hi listed)) old
      → HasBestScores (run_of (v.blocks b) first (k + 1) (is_chosen lo hi listed)) new
  best_more first k old new le lt step h =
      let count = (is.told b stands).count in
      subst (λ rs. HasBestScores rs new) (sym (flat_more (filter (is_chosen lo hi listed)) (v.blocks b) first k le (omega (arith, lt, count))))
      (step (run first k) h)

  pub best_found : (first last : ℕ) (best : List ℕ) → AreMet v.index.heads (v.before lo) (v.before hi) first last
      → HasBestScores (run_of (v.blocks b) first last (is_chosen lo hi listed) ++ filter (is_chosen lo hi listed) v.held) best
      → HasBestScores (filter (in_listed listed) (filter (is_between lo hi) (v.stock b).posts)) best
  best_found first last best met has =
      alike_best (run first last ++ filter (is_chosen lo hi listed) v.held) rows best (chosen_alike b v stands is first last lo hi listed met) has

  module _ (hits : Base) (lists : AreListed v.present hits listed) where
    asked_within : AreWithin (seen v) asked
    asked_within = kept_within (seen v) (is_between lo hi) (v.stock b).posts (source_within b v stands is)

    pub rows_are : filter (in_listed listed)
        (filter (is_between lo hi) (v.stock b).posts) ≡ base_posts hits (filter (is_between lo hi) (v.stock b).posts)
    rows_are = listed_asked b v stands is lo hi hits listed lists

    pub scored_are : (best : List ℕ) (next : List Scored) → length best ≡ v.docs
        → HasBestScores (filter (in_listed listed) (filter (is_between lo hi) (v.stock b).posts)) best
        → next ≡ map (with_base hits) (hits_in 0 best)
        → next ≡ doc_scores hits (base_posts hits (filter (is_between lo hi) (v.stock b).posts))
    scored_are best next long has next_is =
        let w = kept_within (seen v) (in_listed listed) asked asked_within in
        let known : All (λ p. p.doc < length best) rows = All-weaker (IsWithin v.docs (length v.words)) (λ p. p.doc < length best)
        (λ p h. let doc = h.doc in omega (arith, doc, long)) rows w.within in
        let scored : All (λ p. 1 ≤ p.score) rows = All-weaker (IsWithin v.docs (length v.words)) (λ p. 1 ≤ p.score) (λ p h. h.score_from) rows w.within in
        next_is ∙ ap (map (with_base hits)) (hits_are rows best has known scored) ∙ base_each hits rows (docs_of rows) ∙ ap (doc_scores hits) rows_are

-- ---- the hits behind the part
pub behind_words : (b : List ℕ) (v : SourceView) → StandsFor b v.index → IsSource v → (x : Part) (hits : Base) (lo hi : ℕ) (next : List Scored)
    → (out-Part x).excluded ≡ false → AreWordsOf v (met_of_part (division v.index) x) (λ k. (rows_of_part k x).rows) lo hi
    → next ≡ doc_scores hits (base_posts hits (filter (is_between lo hi) (v.stock b).posts))
    → AreHitsBehind (v.stock b) hits (rows_of_part (corpus_in (v.stock b)) x) (base.Listed next)
behind_words b v stands is x hits lo hi next positive asks next_is =
    let s = v.stock b in
    let posts = filter (is_between lo hi) s.posts in
    let excluded = is_excluded s x ∙ positive in
    record {
      e = entry_with hits (base_posts hits posts);
      step = step_told s (is.told b stands).stocked (stock_docs s) refl hits (rows_of_part (corpus_in s) x) posts (asks.posts b stands) false excluded;
      are = ap base.Listed next_is ∙ ap (λ x. if not x then base.Listed (doc_scores hits (base_posts hits posts)) else hits) (sym excluded);
    }
