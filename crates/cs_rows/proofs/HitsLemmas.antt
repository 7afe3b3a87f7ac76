-- Hits and pairs of one more part.
--
--   hits_more         the hits of one more part, among those so far
--   kept_pairs        the rows of one more positive part in the hits so far are the pairs
--   hits_positive, hits_excluded      the hits that one more part leaves
--   kept_docs         the documents of the rows in the hits so far
--   listed_docs       a base that lists the hits so far has their documents
use Rattle.std.proofs.Common.{◌≡◌, ℕ, ◌==◌, ◌&&◌, ◌||◌, max, Bool, true, false, not, List, [], ◌∷◌, ◌++◌, map, get_or, refl, sym, ◌∙◌, ap}
use Rattle.std.proofs.Common.{if◌then◌else◌}
use Rattle.std.specs.Prelude.{filter}
use Rattle.std.specs.List.{All, AllByRecursion, list_any, list_all}
use Rattle.std.specs.Ordering.{nat_cmp, eq_by_cmp}
use Rattle.std.specs.Cmp.{nat_cmp_total}
use Rattle.std.specs.FinMap.{nat_cmp-IsAntisymmetric, keys}
use Rattle.std.proofs.Math.Bool.{and_comm}
use Rattle.std.proofs.lemmas.List.Elements.{recursion_from_All}
use Rattle.std.proofs.lemmas.List.Folds.{list_any_at, list_all-append}
use Rattle.std.proofs.lemmas.List.Kept.{IsStrictlySortedBy-filter}
use Rattle.std.proofs.lemmas.Map.Views.{any-filter_same}
use Rattle.cs_base.specs.content.Orders.{AreDocs, docs_of}
use Rattle.cs_base.specs.declared.content.doc.Base.{Base}
use Rattle.cs_base.specs.declared.content.doc.Post.{Post}
use Rattle.cs_base.specs.declared.content.doc.Scored.{Scored}
use Rattle.cs_base.proofs.MembersLemmas.{all_then, keys-rise, members_are}
use Rattle.cs_base.proofs.ListsLemmas.{all_of, filter_twice, and_true, same_number, itself, number_tie, any_tie, filter_through, filter_alike, any_through}
use Rattle.cs_meet.specs.Filters.{keep_docs}
use Rattle.cs_meet.specs.Filters as meet
use Rattle.cs_model.specs.Answers.{PartRows, in_doc, is_listed, agrees, hits, pairs, last_rows, greatest_score, scored}
use Rattle.cs_model.specs.Corpus.{Corpus}
use Rattle.cs_rank.specs.DocScores.{greatest}
use Rattle.cs_model_index.specs.Numbered.{row_of, rows_at}
use Rattle.cs_model_kept.specs.Entries.{scored_hits}
use Rattle.cs_rows.specs.Stocked.{Stock, corpus_in, base_hits, base_docs, stock_docs}

-- ---- one more part

all_one : (d : ℕ) (done : List PartRows) (p : PartRows) → list_all (agrees d) (done ++ p ∷ []) ≡ (list_all (agrees d) done && agrees d p)
all_one d done p = list_all-append (agrees d) done (p ∷ []) ∙ ap (λ b. list_all (agrees d) done && b) (and_true (agrees d p))

pub hits_more : (k : Corpus) (done : List PartRows) (p : PartRows) → hits k (done ++ p ∷ []) ≡ filter (λ d. agrees d p) (hits k done)
hits_more k done p =
    filter_alike (λ d. list_all (agrees d) (done ++ p ∷ [])) (λ d. list_all (agrees d) done && agrees d p) (keys k.titles)
    (all_of (λ d. list_all (agrees d) (done ++ p ∷ []) ≡ (list_all (agrees d) done && agrees d p)) (λ d. all_one d done p) (keys k.titles))
    ∙ filter_twice (λ d. list_all (agrees d) done) (λ d. agrees d p) (keys k.titles)

last_more : (done : List PartRows) (p : PartRows) → last_rows (done ++ p ∷ []) ≡ last_rows (p ∷ [])
last_more [] p = refl
last_more (a ∷ []) p = refl
last_more (a ∷ b ∷ done) p = last_more (b ∷ done) p

-- ---- posts and documents

pub own_docs : (f : ℕ → Scored) → ((d : ℕ) → (f d).doc ≡ d) → (ds : List ℕ) → map (λ h. h.doc) (map f ds) ≡ ds
own_docs f h [] = refl
own_docs f h (d ∷ ds) = ap (λ x. x ∷ map (λ h. h.doc) (map f ds)) (h d) ∙ ap (λ l. d ∷ l) (own_docs f h ds)

pub greatest_of : (ws : List (List ℕ)) (ps : List Post) → greatest (map (λ p. p.score) ps) ≡ greatest_score (rows_at ws ps)
greatest_of ws [] = refl
greatest_of ws (p ∷ ps) = ap (max p.score) (greatest_of ws ps)

module _ (ws : List (List ℕ)) (posts : List Post) where
  -- a document has a row where it has a post
  has_post : (d : ℕ) → list_any (in_doc d) (rows_at ws posts) ≡ list_any (λ p. p.doc == d) posts
  has_post d = any_through (row_of ws) (in_doc d) posts

  own_doc : All (λ p. list_any (in_doc p.doc) (rows_at ws posts) ≡ true) posts
  own_doc k p l = has_post (get_or posts k p).doc ∙ list_any_at (λ q. q.doc == (get_or posts k p).doc) posts k p l (itself (get_or posts k p).doc)

  -- the documents of the kept rows
  pub kept_docs : (ds : List ℕ) → AreDocs ds → docs_of (keep_docs posts ds) ≡ filter (λ d. list_any (in_doc d) (rows_at ws posts)) ds
  kept_docs ds up =
      let t : ℕ → Bool = λ d. list_any (in_doc d) (rows_at ws posts) in
      let kept = keep_docs posts ds in
      sym (members_are nat_cmp nat_cmp_total nat_cmp-IsAntisymmetric (filter t ds) (map (λ p. p.doc) kept) (IsStrictlySortedBy-filter nat_cmp t ds up) (λ q.
      let is_q : (k : ℕ) → eq_by_cmp nat_cmp q k ≡ true → t k ≡ t q = λ k e. ap t (same_number k q (sym (number_tie q k) ∙ e)) in
      let in_q : (p : Post) → eq_by_cmp nat_cmp q p.doc ≡ true
      → list_any (meet.is_of_doc p) ds ≡ list_any (λ e. e == q) ds = λ p e. ap (λ x. list_any (λ y. y == x) ds)
      (same_number p.doc q (sym (number_tie q p.doc) ∙ e)) in
      any-filter_same (eq_by_cmp nat_cmp q) t (t q) is_q ds
      ∙ ap (λ b. t q && b) (any_tie q ds)
      ∙ and_comm (t q) (list_any (λ e. e == q) ds)
      ∙ ap (λ b. list_any (λ e. e == q) ds && b) (has_post q ∙ any_same q posts)
      ∙ sym (any-filter_same (λ p. eq_by_cmp nat_cmp q p.doc) (λ p. list_any (meet.is_of_doc p) ds) (list_any (λ e. e == q) ds) in_q posts)
      ∙ sym (any_through (λ p. p.doc) (eq_by_cmp nat_cmp q) kept)))
    where
      any_same : (q : ℕ) (ps : List Post) → list_any (λ p. p.doc == q) ps ≡ list_any (λ p. eq_by_cmp nat_cmp q p.doc) ps
      any_same q [] = refl
      any_same q (p ∷ ps) = ap (λ b. b || list_any (λ p. p.doc == q) ps) (sym (number_tie q p.doc)) ∙ ap (λ b. eq_by_cmp nat_cmp q p.doc || b) (any_same q ps)

-- hits ascend
pub ds_rise : (s : Stock) (done : List PartRows) → AreDocs (hits (corpus_in s) done)
ds_rise s done =
    let ks = keys (corpus_in s).titles in
    IsStrictlySortedBy-filter nat_cmp (λ d. list_all (agrees d) done) ks (keys-rise nat_cmp s.titles)

module _ (s : Stock) (done : List PartRows) (p : PartRows) (posts : List Post) (is : rows_at s.words posts ≡ p.rows) where
  abbrev k : Corpus
  k = corpus_in s

  abbrev ds : List ℕ
  ds = hits k done

  pub hits_positive : p.excluded ≡ false → hits k (done ++ p ∷ []) ≡ filter (λ d. list_any (in_doc d) (rows_at s.words posts)) ds
  hits_positive e =
      hits_more k done p
      ∙ ap (λ b. filter (λ d. if b then not (list_any (in_doc d) p.rows) else list_any (in_doc d) p.rows) ds) e
      ∙ ap (λ rows. filter (λ d. list_any (in_doc d) rows) ds) (sym is)

  pub hits_excluded : p.excluded ≡ true → hits k (done ++ p ∷ []) ≡ filter (λ d. not (list_any (in_doc d) (rows_at s.words posts))) ds
  hits_excluded e =
      hits_more k done p
      ∙ ap (λ b. filter (λ d. if b then not (list_any (in_doc d) p.rows) else list_any (in_doc d) p.rows) ds) e
      ∙ ap (λ rows. filter (λ d. not (list_any (in_doc d) rows)) ds) (sym is)

  -- the rows of the part in the hits so far are the pairs
  pub kept_pairs : p.excluded ≡ false → rows_at s.words (keep_docs posts ds) ≡ pairs k (done ++ p ∷ [])
  kept_pairs e =
      let t : ℕ → Bool = λ d. list_any (in_doc d) (rows_at s.words posts) in
      let now = hits k (done ++ p ∷ []) in
      let each : AllByRecursion (λ r. list_any (meet.is_of_doc r) ds ≡ is_listed now r.doc) posts =
      all_then (λ r. t r.doc ≡ true) (λ r. list_any (meet.is_of_doc r) ds ≡ is_listed now r.doc) (λ r own.
      sym (ap (λ hs. list_any (λ e. e == r.doc) hs) (hits_positive e)
      ∙ any-filter_same (λ e. e == r.doc) t (t r.doc) (λ x same. ap t (same_number x r.doc same)) ds
      ∙ ap (λ b. b && list_any (λ e. e == r.doc) ds) own)) posts (recursion_from_All (λ r. t r.doc ≡ true) posts (own_doc s.words posts)) in
      ap (rows_at s.words) (filter_alike (λ r. list_any (meet.is_of_doc r) ds) (λ r. is_listed now r.doc) posts each)
      ∙ filter_through (row_of s.words) (λ r. is_listed now r.doc) posts
      ∙ ap (filter (λ r. is_listed now r.doc)) (is ∙ sym (last_more done p ∙ ap (λ b. if b then [] else p.rows) e))

  module _ (b : Base) (lists : base_hits (stock_docs s) b ≡ scored_hits k done) where
    pub listed_docs : base_docs (stock_docs s) b ≡ ds
    listed_docs = ap (map (λ h. h.doc)) lists ∙ own_docs (scored done) (λ d. refl) ds
