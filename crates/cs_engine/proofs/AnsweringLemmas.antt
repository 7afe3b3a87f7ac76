-- Replies over an index.
--
--   few_docs, few_words, words_there     numbers of posts and words of an index, as tables need them
--   first_in          the first words of a table are words of the index
--   shown_in          the hits that are shown have documents of the index
--   hits_few          there are no more hits than documents
--   words_as_shown, facet_told, title_told, reply_told     what is shown, over the bytes of the index
--   shown_more, docs_more     one more is shown
use Rattle.std.proofs.Common.{◌≡◌, ℕ, ◌+◌, ◌<◌, ◌≤◌, ◌^◌, List, [], ◌∷◌, ◌++◌, length, map, take, drop, get_or, refl, sym, ap, subst, ◌∙◌, arith}
use Rattle.std.specs.Prelude.{All}
use Rattle.std.specs.List.{AllByRecursion}
use Rattle.std.specs.List.Sorted.{IsStrictlySortedBy}
use Rattle.std.proofs.lemmas.List.{append_assoc, get_or_default, length-map, map-append}
use Rattle.std.proofs.lemmas.List.Elements.{All-weaker, All-take, All-drop, All-map, recursion_from_All}
use Rattle.cs_base.specs.content.Members.{members_in}
use Rattle.cs_base.specs.content.Orders.{AreByDoc, AreDocs, by_rank}
use Rattle.cs_base.specs.declared.content.doc.Base.{Base}
use Rattle.cs_base.specs.declared.content.doc.Post.{Post}
use Rattle.cs_base.specs.declared.content.doc.Scored.{Scored}
use Rattle.cs_base.proofs.OrdersLemmas.{by_rank_total, by_rank_exact, lt-from_Less}
use Rattle.cs_docs.proofs.TextLemmas.{All-members}
use Rattle.cs_file.specs.Indexes.{StandsFor}
use Rattle.cs_meet.proofs.Passes.{next_is}
use Rattle.cs_meet.specs.Filters.{keep_docs}
use Rattle.cs_model.specs.Answers.{parts_of, table_of}
use Rattle.cs_model.specs.Replies.{Reply, Shown, HitShown, FacetShown}
use Rattle.cs_model.specs.Requests.{Request, hit_shown, reply_of, shown_of}
use Rattle.cs_model_kept.specs.Entries.{scored_hits}
use Rattle.cs_model_kept.specs.Entries as kept
use Rattle.cs_model_kept.proofs.EntryLemmas.{listed_base}
use Rattle.cs_tables.specs.declared.tables.Completion.{Completion as Numbered}
use Rattle.cs_tables.specs.TableListings.{post_table}
use Rattle.cs_rows.specs.IndexReading.{AreWithin, IsWithin, HasRows}
use Rattle.cs_rows.specs.Sources.{IsSource, SourceView, seen}
use Rattle.cs_rows.specs.Steps.{AreFound, IsBaseOf, IsHitOf}
use Rattle.cs_model_index.specs.Numbered.{rows_at}
use Rattle.cs_rows.specs.Stocked.{Stock, corpus_in, base_docs, stock_docs, facet_at, base_hits, named_rows, present_docs, shown_at, title_at}
use Rattle.cs_rows.proofs.FoundLemmas.{docs_rise}
use Rattle.cs_rows.proofs.ReplyLemmas.{facet_kept, first_there, reply_made, table_total, words_shown}
use Rattle.cs_rows.proofs.PartSteps.{listed_in, listed_told}
use Rattle.cs_rows.proofs.PresentLemmas.{docs_ascend, docs_below}

module _ (v : SourceView) (is : IsSource v) where
  pub few_docs : (posts : List Post) → AreWithin (seen v) posts → All (λ p. p.doc < 2 ^ 20) posts
  few_docs posts w = All-weaker (IsWithin v.docs (length v.words)) (λ p. p.doc < 2 ^ 20)
      (λ p h. let d = h.doc in let few = is.few_docs in omega (arith, d, few)) posts w.within

  pub few_words : (posts : List Post) → AreWithin (seen v) posts → All (λ p. p.word < 2 ^ 22) posts
  few_words posts w = All-weaker (IsWithin v.docs (length v.words)) (λ p. p.word < 2 ^ 22)
      (λ p h. let d = h.word in let few = is.few_words in omega (arith, d, few)) posts w.within

  pub words_there : (posts : List Post) → AreWithin (seen v) posts → AllByRecursion (λ p. p.word < length v.words) posts
  words_there posts w = recursion_from_All (λ p. p.word < length v.words) posts
      (All-weaker (IsWithin v.docs (length v.words)) (λ p. p.word < length v.words) (λ p h. h.word) posts w.within)

  pub first_in : (posts : List Post) → AreWithin (seen v) posts → (cut : ℕ) (first : List Numbered) → first ≡ take cut (post_table posts)
      → All (λ c. c.word < length v.words) first
  first_in posts w cut first are = first_there v.words is.ascending posts (words_there posts w) cut first are

  abbrev there : List ℕ
  there = present_docs v.present

  hits_listed : (bound : ℕ) (b : Base) → IsBaseOf v.docs bound b → AreByDoc (base_hits there b) × All (IsHitOf v.docs bound) (base_hits there b)
  hits_listed bound b fits = listed_in v.docs bound there (docs_ascend v.present) (docs_below v.present is.long) b fits

  pub shown_in : (bound : ℕ) (b : Base) (all : List Scored) (o h : ℕ) → all ≡ base_hits (present_docs v.present) b → IsBaseOf v.docs bound b
      → (first : List Scored) → first ≡ take h (drop o (members_in by_rank all)) → All (λ h. h.doc < v.docs) first
  shown_in bound b all o h are fits first is_first =
      let P : Scored → Type 0 = λ h. h.doc < v.docs in
      let each : All P all = subst (All P) (sym are) (All-weaker (IsHitOf v.docs bound) P (λ x at. at.doc) (base_hits there b) (hits_listed bound b fits).1) in
      subst (All P) (sym is_first) (All-take P h (drop o (members_in by_rank all))
      (All-drop P o (members_in by_rank all) (All-members by_rank by_rank_total by_rank_exact P all each)))

  ascend_few : (lo n d : ℕ) (ds : List ℕ) → lo ≤ d → AreDocs (d ∷ ds) → AllByRecursion (λ x. x < n) (d ∷ ds) → length (d ∷ ds) + lo ≤ n
  unfolding IsStrictlySortedBy
  ascend_few lo n d [] l up h = omega (arith, l, h.0)
  ascend_few lo n d (e ∷ ds) l up h =
      let next = lt-from_Less d e up.0.0 in
      let rest = ascend_few (lo + 1) n e ds (omega (arith, l, next)) up.1 h.1 in
      omega (arith, rest)

  docs_few : (n : ℕ) (ds : List ℕ) → AreDocs ds → All (λ d. d < n) ds → length ds ≤ n
  docs_few n [] up h = omega arith
  docs_few n (d ∷ ds) up h = let few = ascend_few 0 n d ds (omega arith) up (recursion_from_All (λ x. x < n) (d ∷ ds) h) in omega (arith, few)

  pub hits_few : (bound : ℕ) (b : Base) (all : List Scored) → all ≡ base_hits (present_docs v.present) b → IsBaseOf v.docs bound b → length all ≤ 2 ^ 20
  hits_few bound b all are fits =
      let ls = base_hits there b in
      let in_all = hits_listed bound b fits in
      let few = docs_few v.docs (map (λ h. h.doc) ls) (docs_rise ls in_all.0)
      (All-map (λ d. d < v.docs) (λ h. h.doc) ls (All-weaker (IsHitOf v.docs bound) (λ h. h.doc < v.docs) (λ x at. at.doc) ls in_all.1)) in
      let most = is.few_docs in
      omega (arith, few, most, length-map ls (λ (h : Scored). h.doc), ap length are)

module _ (b : List ℕ) (v : SourceView) (stands : StandsFor b v.index) (is : IsSource v) where
  abbrev s : Stock
  s = v.stock b

  own_words : (posts : List Post) → AreWithin (seen v) posts → AllByRecursion (λ p. p.word < length s.words) posts
  own_words posts w = subst (λ ws. AllByRecursion (λ (p : Post). p.word < length ws) posts) (is.told b stands).words (words_there v is posts w)

  pub words_as_shown : (posts : List Post) → AreWithin (seen v) posts → (ws : List (List ℕ)) → ws ≡ v.words → (cut : ℕ) (first : List Numbered)
      → first ≡ take cut (post_table posts) → (shown : List Shown) → shown ≡ map (shown_at ws) first
      → shown ≡ map shown_of (take cut (table_of (rows_at s.words posts)))
  words_as_shown posts w ws same cut first are shown shown_is =
      shown_is ∙ ap (λ x. map (shown_at x) first) (same ∙ (is.told b stands).words)
      ∙ words_shown s (is.told b stands).stocked posts cut first (own_words posts w) are

  pub total_told : (posts : List Post) → AreWithin (seen v) posts → length (post_table posts) ≡ length (table_of (rows_at s.words posts))
  total_told posts w = table_total s (is.told b stands).stocked posts (own_words posts w)

  pub facet_told : (base : Base) (cut : ℕ) (name copied : List ℕ) (rows posts : List Post) (words : List Shown) → copied ≡ name
      → HasRows s (named_rows s name) rows → posts ≡ keep_docs rows (base_docs (present_docs v.present) base)
      → words ≡ map shown_of (take cut (table_of (rows_at s.words posts)))
      → ◌≡◌ {A = FacetShown} (record { name = copied; table = words }) (facet_at s base cut name)
  facet_told base cut name copied rows posts words same has are words_is =
      let of_rows = facet_kept s (is.told b stands).stocked base name rows posts has.is
      (are ∙ ap (λ ds. keep_docs rows (base_docs ds base)) (is.told b stands).docs) in
      ap (λ m. let f : FacetShown = record { name = m; table = words } in f) same
      ∙ ap (λ (t : List Shown). let f : FacetShown = record { name = name; table = t } in f)
      (words_is ∙ ap (λ rs. map shown_of (take cut (table_of rs))) of_rows)

  pub title_told : (h : Scored) (title : List ℕ) → title ≡ title_at s.titles h.doc
      → ◌≡◌ {A = HitShown} (record { doc = h.doc; score = h.score; title = title }) (hit_shown (corpus_in s) h)
  title_told h title is_title = ap (λ t. let x : HitShown = record { doc = h.doc; score = h.score; title = t } in x) is_title

  pub reply_told : (r : Request) (hits : Base) (posts : List Post) → AreFound s r.query hits posts → AreWithin (seen v) posts
      → (c : List Shown) (f : List FacetShown) (h : List HitShown) (tc th : ℕ) (all : List Scored)
      → c ≡ map shown_of (take r.completions (table_of (rows_at s.words posts)))
      → f ≡ map (facet_at s hits r.completions) r.facets
      → h ≡ map (hit_shown (corpus_in s)) (take r.hits (drop r.offset (members_in by_rank all)))
      → tc ≡ length (post_table posts)
      → th ≡ length all
      → all ≡ base_hits (present_docs v.present) hits
      → ◌≡◌ {A = Reply} (record { completions = c; facets = f; hits = h; total_completions = tc; total_hits = th }) (reply_of (corpus_in s) r)
  reply_told r hits posts found w c f h tc th all c_is f_is h_is tc_is th_is are =
      let k = corpus_in s in
      let ps = parts_of k r.query in
      let here : all ≡ base_hits (stock_docs s) hits = are ∙ ap (λ ds. base_hits ds hits) (is.told b stands).docs in
      let lists : base_hits (stock_docs s) hits ≡ scored_hits k ps = listed_told s hits ∙ ap (kept.listed k) found.base
      ∙ listed_base k ps in
      reply_made s (is.told b stands).stocked ps hits posts lists found.rows r refl c f h tc th
      c_is f_is (h_is ∙ ap (λ hs. map (hit_shown k) (take r.hits (drop r.offset (members_in by_rank hs)))) here)
      (tc_is ∙ total_told posts w) (th_is ∙ ap length here)

-- one more is shown
pub shown_more : {X Y : Type 0} (f : X → Y) (whole shown now : List Y) (xs : List X) (i : ℕ) (d : X) (y : Y) → i < length xs → y ≡ f (get_or xs i d)
    → now ≡ shown ++ y ∷ [] → whole ≡ shown ++ map f (drop i xs) → whole ≡ now ++ map f (drop (i + 1) xs)
shown_more f whole shown now xs i d y l is more so_far =
    let x = get_or xs i d in
    so_far ∙ ap (λ r. shown ++ map f r) (next_is xs i x l (get_or_default xs i d x l))
    ∙ sym (append_assoc shown (f x ∷ []) (map f (drop (i + 1) xs))) ∙ ap (λ z. (shown ++ z ∷ []) ++ map f (drop (i + 1) xs)) (sym is)
    ∙ ap (λ l. l ++ map f (drop (i + 1) xs)) (sym more)

pub docs_more : (shown now : List HitShown) (hs : List Scored) (i : ℕ) (d : Scored) (x : HitShown) → i < length hs → x.doc ≡ (get_or hs i d).doc
    → now ≡ shown ++ x ∷ [] → map (λ h. h.doc) hs ≡ map (λ s. s.doc) shown ++ map (λ h. h.doc) (drop i hs)
    → map (λ h. h.doc) hs ≡ map (λ s. s.doc) now ++ map (λ h. h.doc) (drop (i + 1) hs)
docs_more shown now hs i d x l is more so_far =
    let doc : HitShown → ℕ = λ s. s.doc in
    shown_more (λ (h : Scored). h.doc) (map (λ h. h.doc) hs) (map doc shown) (map doc now) hs i d x.doc l is
    (ap (map doc) more ∙ map-append doc shown (x ∷ [])) so_far
