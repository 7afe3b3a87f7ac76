-- One part more: the hits of an entry, and the entry behind a part.
--
--   base_in, base_small, scores_in     a base in range is one for scores, each of which is small, and so are scores over it
--   hits_in                the hits of an entry in range
--   hits_told              the hits of posts are those of the rows that they stand for
--   listed_told            the hits of a base, as a list
--   kept_posts             posts of a stock in a base are those of its documents
--   in_base_within         and they are in range
--   step_told              the entry behind a part is that of its rows
--   step_within            and it is in range
--   AreHitsBehind s hits p next     the hits of the entry behind a part
--   docs_more, unscored_docs, base_sorted     the documents of a base, without scores
use Rattle.std.proofs.Common.{◌≡◌, ℕ, ◌+◌, ◌-◌, ◌*◌, ◌<◌, ◌≤◌, ◌^◌, ◌==◌, Bool, true, false, true≢false, not, List, [], ◌∷◌, ◌++◌, length, map, get_or}
use Rattle.std.proofs.Common.{refl, sym, ap, subst, ◌∙◌, arith, if◌then◌else◌}
use Rattle.std.specs.Prelude.{All, filter}
use Rattle.std.specs.List.{list_any}
use Rattle.std.specs.Ordering.{nat_cmp}
use Rattle.std.specs.Cmp.{nat_cmp_total}
use Rattle.std.specs.FinMap.{nat_cmp-IsAntisymmetric}
use Rattle.std.proofs.lemmas.List.Elements.{All-nil, All-filter, All-map, All-weaker, recursion_from_All, filter_passes}
use Rattle.std.proofs.lemmas.List.Kept.{IsStrictlySortedBy-filter}
use Rattle.cs_base.specs.content.Members.{members_in}
use Rattle.cs_base.specs.content.Orders.{AreDocs, AreByDoc, by_doc, docs_of}
use Rattle.cs_base.specs.declared.content.doc.Base.{Base}
use Rattle.cs_base.specs.declared.content.doc.Base.TheVariants as base
use Rattle.cs_base.specs.declared.content.doc.Post.{Post}
use Rattle.cs_base.specs.declared.content.doc.Row.{Row}
use Rattle.cs_base.specs.declared.content.doc.Scored.{Scored}
use Rattle.cs_base.proofs.MembersLemmas.{all_then, listing-rises}
use Rattle.cs_base.proofs.ListsLemmas.{all_of, map_alike, filter_through, filter_alike, any_through}
use Rattle.cs_base.specs.content.Bases.{base_score}
use Rattle.cs_base.specs.declared.content.scores.TheConstants.{MAX_ROW_SCORE}
use Rattle.cs_docs.proofs.TextLemmas.{All-members}
use Rattle.cs_file.specs.Indexes.{IndexView}
use Rattle.cs_meet.specs.Filters.{keep_docs, drop_docs, is_of}
use Rattle.cs_meet.specs.Filters as meet
use Rattle.cs_model.specs.Answers.{PartRows, hits, in_doc, is_listed, greatest_score}
use Rattle.cs_model.specs.Answers as answers
use Rattle.cs_model_kept.specs.Entries.{Entry, EntryOf, entry_at, hits_of, is_begun, is_hit, over, without}
use Rattle.cs_model_kept.specs.Entries as kept
use Rattle.cs_rank.specs.DocScores.{IsBase, best_row, greatest, of_doc, doc_scores, with_base}
use Rattle.cs_rows.specs.IndexReading.{AreWithin, HasRows, IsWithin}
use Rattle.cs_rows.specs.Steps.{docs_after, posts_hits, posts_after, with_no_score, IsHitOf, IsBaseOf, EntryFits, IsStep, is_in_base}
use Rattle.cs_model_index.specs.Numbered.{row_of, rows_at}
use Rattle.cs_rows.specs.Stocked.{IsKnown, IsStocked, Stock, corpus_in, stock_docs, every, base_hits, base_docs, base_posts}
use Rattle.cs_rows.proofs.FoundLemmas.{docs_rise, scored_rise, found_small, greatest_small}
use Rattle.cs_rows.proofs.HitsLemmas.{ds_rise, greatest_of, hits_excluded, hits_positive, kept_docs, own_docs}
use Rattle.cs_rows.proofs.PresentLemmas.{every_ascends, is_titled, posts_are_in}
use Rattle.cs_rows.proofs.RowsInRange.{kept_within, none_within}
use Rattle.cs_rows.proofs.UnionLemmas.{picked_known}

-- ---- in range
pub base_in : (docs bound : ℕ) (b : Base) → bound ≤ 2 ^ 20 → IsBaseOf docs bound b → IsBase b
base_in docs bound base.All l h = tt
base_in docs bound (base.Listed hs) l h = (h.0, λ k d m. let at = h.1 k d m in let s = at.score in omega (arith, s, l))

pub base_weaker : (docs m n : ℕ) (b : Base) → m ≤ n → IsBaseOf docs m b → IsBaseOf docs n b
base_weaker docs m n base.All l h = tt
base_weaker docs m n (base.Listed hs) l h = (h.0, λ k d e. let at = h.1 k d e in record { doc = at.doc; score = (let s = at.score in omega (arith, s, l)) })

every_in : (docs bound : ℕ) (ds : List ℕ) → All (λ d. d < docs) ds → All (IsHitOf docs bound) (every ds)
every_in docs bound ds below = All-map (IsHitOf docs bound) with_no_score ds (λ k d l. record { doc = below k d l; score = omega arith })

pub listed_in : (docs bound : ℕ) (ds : List ℕ) → AreDocs ds → All (λ d. d < docs) ds → (b : Base) → IsBaseOf docs bound b
    → AreByDoc (base_hits ds b) × All (IsHitOf docs bound) (base_hits ds b)
listed_in docs bound ds up below base.All h = (every_ascends ds up, every_in docs bound ds below)
listed_in docs bound ds up below (base.Listed hs) h = h

pub base_small : (docs bound d : ℕ) (b : Base) → IsBaseOf docs bound b → base_score b d ≤ bound
base_small docs bound d base.All h = omega arith
base_small docs bound d (base.Listed hs) h = found_small bound d hs
    (recursion_from_All (λ h. h.score ≤ bound) hs (All-weaker (IsHitOf docs bound) (λ h. h.score ≤ bound) (λ x at. at.score) hs h.1))

below : (i : IndexView) (posts : List Post) → All (IsWithin i.docs (length i.words)) posts → All (λ d. d < i.docs) (docs_of posts)
below i posts within = All-members nat_cmp nat_cmp_total nat_cmp-IsAntisymmetric (λ d. d < i.docs) (map (λ p. p.doc) posts)
    (All-map (λ d. d < i.docs) (λ p. p.doc) posts (All-weaker (IsWithin i.docs (length i.words)) (λ p. p.doc < i.docs) (λ p h. h.doc) posts within))

best_small : (i : IndexView) (posts : List Post) → All (IsWithin i.docs (length i.words)) posts → (d : ℕ)
    → greatest (map (λ p. p.score) (of_doc d posts)) ≤ MAX_ROW_SCORE
best_small i posts within d =
    greatest_small (of_doc d posts) (recursion_from_All (λ p. p.score ≤ MAX_ROW_SCORE) (of_doc d posts)
    (All-filter (λ p. p.doc == d) (λ p. p.score ≤ MAX_ROW_SCORE) posts
    (All-weaker (IsWithin i.docs (length i.words)) (λ p. p.score ≤ MAX_ROW_SCORE) (λ p h. h.score_to) posts within)))

pub nothing_fits : (i : IndexView) (e : EntryOf Post) → e ≡ record { base = base.All; rows = [] } → EntryFits i false 0 e
nothing_fits i e is = subst (EntryFits i false 0) (sym is)
    (record { parts = λ f. absurd (true≢false (sym f)); rows = none_within i; base = tt; in_base = All-nil _ })

-- the scores of rows in any order over a base in range
pub scores_in : (i : IndexView) (n : ℕ) (b : Base) (rows : List Post) → 1 ≤ n → IsBaseOf i.docs (MAX_ROW_SCORE * (n - 1)) b
    → All (IsWithin i.docs (length i.words)) rows → IsBaseOf i.docs (MAX_ROW_SCORE * n) (base.Listed (doc_scores b rows))
scores_in i n b rows some fits within = (
  scored_rise (λ d. with_base b (best_row rows d)) (λ d. refl) (docs_of rows) (listing-rises nat_cmp (map (λ p. p.doc) rows)),
  All-map (IsHitOf i.docs (MAX_ROW_SCORE * n)) (λ d. with_base b (best_row rows d)) (docs_of rows) (λ k d l.
      let at = get_or (docs_of rows) k d in
      let low = base_small i.docs (MAX_ROW_SCORE * (n - 1)) at b fits in
      let best = best_small i rows within at in
      record { doc = below i rows within k d l; score = omega (arith, low, best, some) }),
)

-- the hits of an entry in range
pub hits_in : (i : IndexView) (positive : Bool) (n : ℕ) (e : EntryOf Post) → EntryFits i positive n e
    → IsBaseOf i.docs (MAX_ROW_SCORE * n) (posts_hits positive e.base e.rows)
hits_in i false n e fits = fits.base
hits_in i true n e fits = scores_in i n e.base e.rows (fits.parts refl) fits.base fits.rows.within

-- ---- hits by posts and by rows
rows_docs : (ws : List (List ℕ)) (ps : List Post) → map (λ r. r.doc) (rows_at ws ps) ≡ map (λ p. p.doc) ps
rows_docs ws [] = refl
rows_docs ws (p ∷ ps) = ap (λ l. p.doc ∷ l) (rows_docs ws ps)

over_told : (ws : List (List ℕ)) (b : Base) (posts : List Post) → doc_scores b posts ≡ over b (rows_at ws posts)
over_told ws base.All posts =
    ap (map (λ d. with_base base.All (best_row posts d))) (ap (members_in nat_cmp) (sym (rows_docs ws posts)))
    ∙ map_alike _ _ (answers.row_docs (rows_at ws posts))
    (all_of _ (λ d. ap (λ (n : ℕ). let h : Scored = record { doc = d; score = 0 + n } in h)
    (greatest_of ws (of_doc d posts) ∙ ap greatest_score (filter_through (row_of ws) (in_doc d) posts))) (answers.row_docs (rows_at ws posts)))
over_told ws (base.Listed hs) posts =
    ap (map (λ d. with_base (base.Listed hs) (best_row posts d))) (ap (members_in nat_cmp) (sym (rows_docs ws posts)))
    ∙ map_alike _ _ (answers.row_docs (rows_at ws posts))
    (all_of _ (λ d. ap (λ (n : ℕ). let h : Scored = record { doc = d; score = base_score (base.Listed hs) d + n } in h)
    (greatest_of ws (of_doc d posts) ∙ ap greatest_score (filter_through (row_of ws) (in_doc d) posts))) (answers.row_docs (rows_at ws posts)))

pub hits_told : (ws : List (List ℕ)) (positive : Bool) (e : EntryOf Post) → posts_hits positive e.base e.rows ≡ hits_of positive (entry_at ws e)
hits_told ws true e = ap base.Listed (over_told ws e.base e.rows)
hits_told ws false e = refl

pub listed_told : (s : Stock) (b : Base) → base_hits (stock_docs s) b ≡ kept.listed (corpus_in s) b
listed_told s base.All = refl
listed_told s (base.Listed hs) = refl

-- posts of a stock are of its documents
pub kept_posts : (s : Stock) → IsStocked s → {rows : List Row} {posts : List Post} → HasRows s rows posts → (ds : List ℕ) → ds ≡ stock_docs s → (b : Base)
    → base_posts b posts ≡ keep_docs posts (base_docs ds b)
kept_posts s stocked {rows} {posts} has ds same b =
    posts_are_in ds b posts (all_then (IsKnown s) (λ p. is_listed ds p.doc ≡ true)
    (λ p h. ap (λ xs. is_listed xs p.doc) same ∙ is_titled s.titles p.doc ∙ h.doc) posts (picked_known s posts stocked has.picked.among))

-- ---- the entry behind a part
module _ (s : Stock) (stocked : IsStocked s) (ds : List ℕ) (same : ds ≡ stock_docs s) (b : Base) (p : PartRows) (posts : List Post) (has : HasRows s p.rows posts) where
  abbrev outs : List Scored
  outs = kept.listed (corpus_in s) b

  listed_by : base_hits ds b ≡ kept.listed (corpus_in s) b
  listed_by = ap (λ xs. base_hits xs b) same ∙ listed_told s b

  dropped : drop_docs (base_hits ds b) posts ≡ without p.rows outs
  dropped =
      ap (λ l. drop_docs l posts) listed_by
      ∙ filter_alike (λ h. not (list_any (is_of h) posts)) (λ h. not (list_any (in_doc h.doc) p.rows)) outs
      (all_of _ (λ h. ap not (sym (any_through (row_of s.words) (in_doc h.doc) posts) ∙ ap (list_any (in_doc h.doc)) has.is)) outs)

  kept_told : rows_at s.words (base_posts b posts) ≡ filter (is_hit outs) p.rows
  kept_told =
      ap (rows_at s.words) (kept_posts s stocked has ds same b)
      ∙ ap (λ l. rows_at s.words (keep_docs posts (map (λ h. h.doc) l))) listed_by
      ∙ ap (rows_at s.words) (filter_alike (λ r. list_any (meet.is_of_doc r) (map (λ h. h.doc) outs)) (λ r. is_hit outs (row_of s.words r)) posts
      (all_of _ (λ r. any_through (λ (h : Scored). h.doc) (meet.is_of_doc r) outs) posts))
      ∙ filter_through (row_of s.words) (is_hit outs) posts ∙ ap (filter (is_hit outs)) has.is

  pub step_told : (excluded : Bool) → p.excluded ≡ excluded → IsStep s b p (posts_after ds b excluded posts)
  step_told true e =
      ap (λ (l : List Scored). let x : Entry = record { base = base.Listed l; rows = [] } in x) dropped
      ∙ ap (λ x. if x then record { base = base.Listed (without p.rows outs); rows = [] }
      else record { base = if is_begun b then base.Listed outs else base.All; rows = filter (is_hit outs) p.rows }) (sym e)
  step_told false e =
      ap (λ (l : List Row). let x : Entry = record { base = b; rows = l } in x) kept_told
      ∙ ap (λ (x : Base). let y : Entry = record { base = x; rows = filter (is_hit outs) p.rows } in y) (own b)
      ∙ ap (λ x. if x then record { base = base.Listed (without p.rows outs); rows = [] }
      else record { base = if is_begun b then base.Listed outs else base.All; rows = filter (is_hit outs) p.rows }) (sym e)
    where
      own : (b : Base) → b ≡ (if is_begun b then base.Listed (kept.listed (corpus_in s) b) else base.All)
      own base.All = refl
      own (base.Listed l) = refl

in_hits : (b : Base) (posts : List Post) → All (λ p. is_in_base b p ≡ true) (base_posts b posts)
in_hits base.All posts = λ k d l. refl
in_hits (base.Listed hs) posts = λ k d l.
    let docs = map (λ (h : Scored). h.doc) hs in
    sym (any_through (λ (h : Scored). h.doc) (meet.is_of_doc (get_or (keep_docs posts docs) k d)) hs)
    ∙ filter_passes (λ r. list_any (meet.is_of_doc r) docs) posts k d l

pub in_base_within : (i : IndexView) (b : Base) (posts : List Post) → AreWithin i posts → AreWithin i (base_posts b posts)
in_base_within i base.All posts w = w
in_base_within i (base.Listed hs) posts w = kept_within i (λ r. list_any (meet.is_of_doc r) (map (λ h. h.doc) hs)) posts w

pub step_within : (i : IndexView) (ds : List ℕ) → AreDocs ds → All (λ d. d < i.docs) ds → (b : Base) (excluded : Bool) (posts : List Post) → AreWithin i posts
    → (n : ℕ) → IsBaseOf i.docs (MAX_ROW_SCORE * n) b → EntryFits i (not excluded) (n + 1) (posts_after ds b excluded posts)
step_within i ds up known b true posts w n fits =
    let all = listed_in i.docs (MAX_ROW_SCORE * n) ds up known b fits in
    let keeps : Scored → Bool = λ h. not (list_any (is_of h) posts) in
    record {
      parts = λ e. omega arith;
      rows = none_within i;
      base = base_weaker i.docs (MAX_ROW_SCORE * n) (MAX_ROW_SCORE * (n + 1)) (base.Listed (drop_docs (base_hits ds b) posts)) (omega arith)
          (IsStrictlySortedBy-filter by_doc keeps (base_hits ds b) all.0, All-filter keeps (IsHitOf i.docs (MAX_ROW_SCORE * n)) (base_hits ds b) all.1);
      in_base = All-nil _;
    }
step_within i ds up known b false posts w n fits =
    record {
      parts = λ e. omega arith;
      rows = in_base_within i b posts w;
      base = (let e : n ≡ n + 1 - 1 = omega arith in subst (λ m. IsBaseOf i.docs (MAX_ROW_SCORE * m) b) e fits);
      in_base = in_hits b posts;
    }

-- the hits of an entry behind a part: next are those of a query of these hits and of the part p
pub record AreHitsBehind (s : Stock) (hits : Base) (p : PartRows) (next : Base) : Type 0 where
  pub e : EntryOf Post
  pub step : IsStep s hits p e
  pub are : next ≡ posts_hits (not p.excluded) e.base e.rows

-- ---- hits without their scores
module _ (s : Stock) (stocked : IsStocked s) (ds : List ℕ) (same : ds ≡ stock_docs s) (done : List PartRows) (p : PartRows) (posts : List Post)
    (has : HasRows s p.rows posts) (b : Base) (lists : base_docs ds b ≡ hits (corpus_in s) done) where
  dropped_docs : map (λ h. h.doc) (drop_docs (base_hits ds b) posts) ≡ filter (λ d. not (list_any (in_doc d) (rows_at s.words posts))) (base_docs ds b)
  dropped_docs =
      ap (map (λ (h : Scored). h.doc)) (filter_alike (λ h. not (list_any (is_of h) posts)) (λ h. not (list_any (in_doc h.doc) (rows_at s.words posts)))
      (base_hits ds b) (all_of _ (λ h. ap not (sym (any_through (row_of s.words) (in_doc h.doc) posts))) (base_hits ds b)))
      ∙ filter_through (λ (h : Scored). h.doc) (λ d. not (list_any (in_doc d) (rows_at s.words posts))) (base_hits ds b)

  pub docs_more : (excluded : Bool) → p.excluded ≡ excluded → docs_after ds b excluded posts ≡ hits (corpus_in s) (done ++ p ∷ [])
  docs_more true e = dropped_docs ∙ ap (filter (λ d. not (list_any (in_doc d) (rows_at s.words posts)))) lists ∙ sym (hits_excluded s done p posts has.is e)
  docs_more false e =
      ap docs_of (kept_posts s stocked has ds same b)
      ∙ ap (λ ds. docs_of (keep_docs posts ds)) lists
      ∙ kept_docs s.words posts (hits (corpus_in s) done) (ds_rise s done)
      ∙ sym (hits_positive s done p posts has.is e)

-- ---- bases without scores
pub unscored_base : (ds : List ℕ) → AreDocs ds → IsBase (base.Listed (map with_no_score ds))
unscored_base ds up = (scored_rise with_no_score (λ d. refl) ds up, All-map (λ h. h.score ≤ 2 ^ 20) with_no_score ds (λ k d l. omega arith))

pub left_base : (ds : List ℕ) → AreDocs ds → (b : Base) (posts : List Post) → IsBase b → IsBase (base.Listed (drop_docs (base_hits ds b) posts))
left_base ds up b posts h =
    let keeps : Scored → Bool = λ h. not (list_any (is_of h) posts) in
    let all = all_listed b h in
    (IsStrictlySortedBy-filter by_doc keeps (base_hits ds b) all.0, All-filter keeps (λ h. h.score ≤ 2 ^ 20) (base_hits ds b) all.1)
  where
    all_listed : (b : Base) → IsBase b → AreByDoc (base_hits ds b) × All (λ h. h.score ≤ 2 ^ 20) (base_hits ds b)
    all_listed base.All h = unscored_base ds up
    all_listed (base.Listed hs) h = h

pub unscored_docs : (ds : List ℕ) → map (λ h. h.doc) (map with_no_score ds) ≡ ds
unscored_docs ds = own_docs with_no_score (λ d. refl) ds

pub base_sorted : (ds : List ℕ) → AreDocs ds → (b : Base) → IsBase b → AreDocs (base_docs ds b)
base_sorted ds up base.All h = docs_rise (every ds) (every_ascends ds up)
base_sorted ds up (base.Listed hs) h = docs_rise hs h.0
