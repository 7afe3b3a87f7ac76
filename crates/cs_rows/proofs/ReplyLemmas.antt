-- The lists of a reply.
--
--   titled               the title of a document that there is
--   first_there, words_shown      the first words of a table are there, and how they are shown
--   facet_kept           the rows of a facet in the documents of a base
--   reply_made           what answers a request is its reply
use Rattle.std.proofs.Common.{◌≡◌, ℕ, zero, suc, ◌<◌, List, [], ◌∷◌, ◌++◌, length, map, take, drop, get_or, refl, sym, ◌∙◌, ap, subst, append-nil}
use Rattle.std.specs.Prelude.{filter}
use Rattle.std.specs.Option.{unwrap_or}
use Rattle.std.specs.List.{All, AllByRecursion, take-map}
use Rattle.std.specs.List.Sorted.{IsStrictlySortedBy}
use Rattle.std.specs.Ordering.{nat_cmp}
use Rattle.std.specs.Cmp.Lexicographic.{slice_cmp}
use Rattle.std.proofs.lemmas.List.{length-map}
use Rattle.std.proofs.lemmas.List.Elements.{All-from_recursion}
use Rattle.std.proofs.lemmas.List.Kept.{IsStrictlySortedBy-filter}
use Rattle.std.proofs.lemmas.Option.{slice_get-get_or}
use Rattle.cs_base.specs.content.Members.{members_in}
use Rattle.cs_base.specs.content.Orders.{by_row, by_rank}
use Rattle.cs_base.specs.declared.content.doc.Base.{Base}
use Rattle.cs_base.specs.declared.content.doc.Post.{Post}
use Rattle.cs_base.specs.declared.content.doc.Row.{Row}
use Rattle.cs_base.proofs.MembersLemmas.{listed_itself}
use Rattle.cs_base.proofs.OrdersLemmas.{by_row_total, by_row_exact}
use Rattle.cs_base.proofs.ListsLemmas.{all_of, map_alike, filter_through}
use Rattle.cs_meet.specs.Filters.{keep_docs}
use Rattle.cs_model.specs.Answers.{PartRows, begins, is_listed, hits, pairs, ranked, table_of, facet_part}
use Rattle.cs_model.specs.Answers as answers
use Rattle.cs_model.specs.Collection.{named}
use Rattle.cs_model.specs.Corpus.{Corpus, by_number}
use Rattle.cs_model.specs.Replies.{Reply, Shown, HitShown, FacetShown}
use Rattle.cs_model.specs.Requests.{Request, reply_of, reply_to, shown_of, hit_shown, facet_shown}
use Rattle.cs_tables.specs.declared.tables.Completion.{Completion as Numbered}
use Rattle.cs_tables.specs.TableListings.{post_table}
use Rattle.cs_model_index.specs.Numbered.{word_at, row_of, rows_at}
use Rattle.cs_model_kept.specs.Entries.{scored_hits}
use Rattle.cs_rows.specs.Stocked.{Stock, corpus_in, base_hits, base_docs, stock_docs, named_at, shown_at, named_rows, named_rows_in, facet_at, title_at, IsStocked}
use Rattle.cs_rows.proofs.VocabLemmas.{rows_rise}
use Rattle.cs_rows.proofs.ListedLemmas.{get_numbered}
use Rattle.cs_rows.proofs.HitsLemmas.{kept_pairs, listed_docs}
use Rattle.cs_rows.proofs.AtomsLemmas.{words_known}
use Rattle.cs_rows.proofs.TableLemmas.{table_through, table_known}

-- ---- titles

pub titled : (titles : List (List ℕ)) (d : ℕ) (blank : List ℕ) → d < length titles → title_at (by_number titles) d ≡ get_or titles d blank
titled titles d blank h = ap (λ o. unwrap_or o []) (get_numbered titles d ∙ slice_get-get_or titles d blank h)

take_all_of : {X : Type 0} (P : X → Type 0) (n : ℕ) (xs : List X) → AllByRecursion P xs → AllByRecursion P (take n xs)
take_all_of P zero xs h = tt
take_all_of P (suc n) [] h = tt
take_all_of P (suc n) (x ∷ xs) h = (h.0, take_all_of P n xs h.1)

-- the first words of a table are there
pub first_there : (ws : List (List ℕ)) → IsStrictlySortedBy (slice_cmp nat_cmp) ws → (posts : List Post) → AllByRecursion (λ p. p.word < length ws) posts
    → (cut : ℕ) (first : List Numbered) → first ≡ take cut (post_table posts) → All (λ c. c.word < length ws) first
first_there ws up posts known cut first is =
    subst (All (λ c. c.word < length ws)) (sym is)
    (All-from_recursion (λ c. c.word < length ws) (take cut (post_table posts))
    (take_all_of (λ c. c.word < length ws) cut (post_table posts) (table_known ws up posts known)))

module _ (s : Stock) (kept : IsStocked s) where
  -- the first words of a table, as they are shown
  pub words_shown : (posts : List Post) (cut : ℕ) (first : List Numbered) → AllByRecursion (λ p. p.word < length s.words) posts
      → first ≡ take cut (post_table posts) → map (shown_at s.words) first ≡ map shown_of (take cut (table_of (rows_at s.words posts)))
  words_shown posts cut first known is =
      ap (map (shown_at s.words)) is
      ∙ sym (through (take cut (post_table posts)))
      ∙ ap (map shown_of) (sym (take-map (named_at s.words) cut (post_table posts)) ∙ ap (take cut) (table_through s.words kept.words posts known))
    where
      through : (cs : List Numbered) → map shown_of (map (named_at s.words) cs) ≡ map (shown_at s.words) cs
      through [] = refl
      through (c ∷ cs) = ap (λ l. shown_at s.words c ∷ l) (through cs)

  pub table_total : (posts : List Post) → AllByRecursion (λ p. p.word < length s.words) posts
      → length (post_table posts) ≡ length (table_of (rows_at s.words posts))
  table_total posts known = sym (length-map (post_table posts) (named_at s.words)) ∙ ap length (table_through s.words kept.words posts known)

  -- the rows of a facet in the documents of a base
  pub facet_kept : (b : Base) (name : List ℕ) (posts found : List Post) → rows_at s.words posts ≡ named_rows s name
      → found ≡ keep_docs posts (base_docs (stock_docs s) b) → rows_at s.words found ≡ named_rows_in s b name
  facet_kept b name posts found is kept_is =
      ap (rows_at s.words) kept_is ∙ filter_through (row_of s.words) (λ r. is_listed (base_docs (stock_docs s) b) r.doc) posts
      ∙ ap (filter (λ r. is_listed (base_docs (stock_docs s) b) r.doc)) is

module _ (s : Stock) (kept : IsStocked s) (ps : List PartRows) (b : Base) (posts : List Post)
    (lists : base_hits (stock_docs s) b ≡ scored_hits (corpus_in s) ps) where
  abbrev k : Corpus
  k = corpus_in s

  module _ (name : List ℕ) where
    abbrev asked_posts : List Post
    asked_posts = filter (λ p. begins (named name []) (word_at s.words p.word)) s.posts

    asked_is : rows_at s.words asked_posts ≡ named_rows s name
    asked_is = filter_through (row_of s.words) (λ r. begins (named name []) r.word) s.posts

    facet_is : rows_at s.words asked_posts ≡ (facet_part k name).rows
    facet_is =
        asked_is
        ∙ listed_itself by_row by_row_total by_row_exact (named_rows s name)
        (IsStrictlySortedBy-filter by_row (λ r. begins (named name []) r.word) (rows_at s.words s.posts)
        (rows_rise s.words kept.words s.posts (words_known s s.posts kept.known) kept.sorted))
        ∙ ap (members_in by_row) (sym (append-nil (named_rows s name)))

    facet_pairs : named_rows_in s b name ≡ pairs k (ps ++ facet_part k name ∷ [])
    facet_pairs =
        sym (facet_kept s kept b name asked_posts (keep_docs asked_posts (base_docs (stock_docs s) b)) asked_is refl)
        ∙ ap (λ ds. rows_at s.words (keep_docs asked_posts ds)) (listed_docs s ps (facet_part k name) asked_posts facet_is b lists)
        ∙ kept_pairs s ps (facet_part k name) asked_posts facet_is refl

  facets_are : (cut : ℕ) (names : List (List ℕ)) → map (facet_at s b cut) names ≡ map (facet_shown k ps cut) names
  facets_are cut names =
      map_alike (facet_at s b cut) (facet_shown k ps cut) names (all_of (λ name. facet_at s b cut name ≡ facet_shown k ps cut name) (λ name.
      ap (λ (rows : List Row). let f : FacetShown = record { name = name; table = map shown_of (take cut (table_of rows)) } in f) (facet_pairs name)) names)

  pub reply_made : rows_at s.words posts ≡ pairs k ps → (r : Request) → ps ≡ answers.parts_of k r.query
      → (c : List Shown) (f : List FacetShown) (h : List HitShown) (tc th : ℕ)
      → c ≡ map shown_of (take r.completions (table_of (rows_at s.words posts)))
      → f ≡ map (facet_at s b r.completions) r.facets
      → h ≡ map (hit_shown k) (take r.hits (drop r.offset (members_in by_rank (base_hits (stock_docs s) b))))
      → tc ≡ length (table_of (rows_at s.words posts))
      → th ≡ length (base_hits (stock_docs s) b)
      → ◌≡◌ {A = Reply} (record { completions = c; facets = f; hits = h; total_completions = tc; total_hits = th }) (reply_of k r)
  unfolding reply_of
  reply_made pairs_are r parts c f h tc th c_is f_is h_is tc_is th_is =
      let by : List Shown → List FacetShown → List HitShown → ℕ → ℕ
      → Reply = λ c f h tc th. record { completions = c; facets = f; hits = h; total_completions = tc; total_hits = th } in
      let c2 : c ≡ map shown_of (take r.completions (answers.table k ps)) = c_is ∙ ap (λ rows. map shown_of (take r.completions (table_of rows))) pairs_are in
      let f2 : f ≡ map (facet_shown k ps r.completions) r.facets = f_is ∙ facets_are r.completions r.facets in
      let h2 : h ≡ map (hit_shown k) (take r.hits (drop r.offset (ranked k ps))) = h_is
      ∙ ap (λ hs. map (hit_shown k) (take r.hits (drop r.offset (members_in by_rank hs)))) lists in
      let tc2 : tc ≡ length (answers.table k ps) = tc_is ∙ ap (λ rows. length (table_of rows)) pairs_are in
      let th2 : th ≡ length (hits k ps) = th_is ∙ ap length lists ∙ length-map (hits k ps) (answers.scored ps) in
      ap (λ x. by x f h tc th) c2 ∙ ap (λ x. by (map shown_of (take r.completions (answers.table k ps))) x h tc th) f2
      ∙ ap (λ x. by (map shown_of (take r.completions (answers.table k ps))) (map (facet_shown k ps r.completions) r.facets) x tc th) h2
      ∙ ap (λ x. by (map shown_of (take r.completions (answers.table k ps))) (map (facet_shown k ps r.completions) r.facets)
      (map (hit_shown k) (take r.hits (drop r.offset (ranked k ps)))) x th) tc2
      ∙ ap (λ x. by (map shown_of (take r.completions (answers.table k ps))) (map (facet_shown k ps r.completions) r.facets)
      (map (hit_shown k) (take r.hits (drop r.offset (ranked k ps)))) (length (answers.table k ps)) x) th2
      ∙ ap (λ qs. reply_to k qs r) parts
