-- The rows of a source, over the bytes that its index stands for.
--
--   source_within    the rows of the stock are in range
--   run_chosen       the rows that are chosen in a run of blocks that hold some words are those chosen of all blocks
--   chosen_among, chosen_alike, chosen_long, chosen_countable     with those in memory: they are rows of the stock, they have the members of
--                    those asked for, they are as many, and they are countable
--   run_countable    and so are those of a run of blocks
--   posts_counted, blocks_counted    one block more is counted
--   chosen_table     their table
--   listed_asked     the rows of some words in listed documents
--   all_there        each row's document is there
use Rattle.std.proofs.Common.{◌≡◌, ℕ, ◌+◌, ◌-◌, ◌<◌, ◌≤◌, ◌&&◌, Bool, true, false, List, [], ◌∷◌, ◌++◌, length, get_or, take, drop, refl, sym, ap, ap₂, subst}
use Rattle.std.proofs.Common.{◌∙◌, arith}
use Rattle.std.specs.Prelude.{All, filter, flat_map}
use Rattle.std.specs.List.{Contains, list_any}
use Rattle.std.specs.Ordering.{eq_by_cmp}
use Rattle.std.specs.Cmp.{Equal-is, tied_itself}
use Rattle.std.proofs.lemmas.List.Elements.{All-filter, All-weaker, filter-append, recursion_from_All}
use Rattle.std.proofs.lemmas.List.Folds.{list_any_at}
use Rattle.std.proofs.lemmas.Map.Views.{Contains-from_any}
use Rattle.cs_base.specs.declared.content.doc.Base.{Base}
use Rattle.cs_base.specs.declared.content.doc.Post.{Post}
use Rattle.cs_base.proofs.ListsLemmas.{all_stay, filter_alike, filter_twice}
use Rattle.cs_base.proofs.MembersLemmas.{all_then}
use Rattle.cs_file.specs.Indexes.{AreMet, StandsFor}
use Rattle.cs_model.specs.Answers.{is_listed}
use Rattle.cs_tables.specs.TableListings.{post_table}
use Rattle.cs_tables.specs.WordCounts.{AreCountable, HasCounted, WordCountsView, chosen, is_chosen}
use Rattle.cs_tables.proofs.WordCountsLemmas.{front_countable}
use Rattle.cs_rows.specs.Counting.{AreListed, counted_rows, in_listed}
use Rattle.cs_rows.specs.IndexReading.{AreWithin, IsWithin, by_post}
use Rattle.cs_rows.specs.Sources.{IsSource, SourceView, is_there, all_rows, seen}
use Rattle.cs_rows.specs.Stocked.{IsKnown, is_between, base_posts, present_docs}
use Rattle.cs_rows.proofs.AlikeLemmas.{any_filter, table_alike}
use Rattle.cs_rows.proofs.CountingLemmas.{flat_more, kept_listed}
use Rattle.cs_rows.proofs.PresentLemmas.{is_present, is_titled, posts_are_in, present_below}
use Rattle.cs_rows.proofs.RowsInRange.{kept_within}
use Rattle.cs_rows.proofs.StockLemmas.{by_post_exact, by_post_total}

among_alike : (xs ys : List Post) → ((t : Post → Bool) → list_any t xs ≡ list_any t ys) → All (Contains ys) xs
among_alike xs ys alike k d l =
    let x = get_or xs k d in
    Contains-from_any (λ p q e. by_post_exact p q ((Equal-is (by_post p q)).0 e)) x ys
    (sym (alike (eq_by_cmp by_post x)) ∙ list_any_at (eq_by_cmp by_post x) xs k d l ((Equal-is (by_post x x)).1 (tied_itself by_post_total x)))

flat_twice : (p q : Post → Bool) (bs : List (List Post)) → flat_map (filter (λ x. p x && q x)) bs ≡ filter q (flat_map (filter p) bs)
flat_twice p q [] = refl
flat_twice p q (b ∷ bs) = ap₂ (λ x y. x ++ y) (filter_twice p q b) (flat_twice p q bs) ∙ sym (filter-append q (filter p b) (flat_map (filter p) bs))

module _ (b : List ℕ) (v : SourceView) (stands : StandsFor b v.index) (is : IsSource v) where
  abbrev posts : List Post
  posts = (v.stock b).posts

  abbrev flat : List Post
  flat = flat_map (λ block. block) (v.blocks b)

  -- the document of a known row is there
  known_there : (p : Post) → IsKnown (v.stock b) p → is_there v.present p ≡ true
  known_there p h = sym (is_present v.present p.doc) ∙ ap (λ ds. is_listed ds p.doc) (is.told b stands).docs ∙ is_titled (v.stock b).titles p.doc ∙ h.doc

  pub source_within : AreWithin (seen v) (v.stock b).posts
  source_within =
      let told = is.told b stands in
      let st = told.stocked in
      let long = is.long in
      let words = ap length told.words in
      record {
        sorted = st.sorted;
        within = All-weaker (IsKnown (v.stock b)) (IsWithin v.docs (length v.words))
            (λ x h.
            let doc = present_below v.present x.doc (known_there x h) in
            let word = h.word in
            record { doc = omega (arith, doc, long); word = omega (arith, word, words); score_from = h.score_from; score_to = h.score_to })
            (v.stock b).posts st.known;
      }

  -- ---- the rows of some words in listed documents
  module _ (first last lo hi : ℕ) (listed : List Bool) (met : AreMet v.index.heads (v.before lo) (v.before hi) first last) where
    abbrev t : Post → Bool
    t = is_chosen lo hi listed

    pub run_chosen : counted_rows (v.blocks b) first last lo hi listed ≡ filter (is_chosen lo hi listed) (flat_map (λ block. block) (v.blocks b))
    run_chosen =
        let p = is_between lo hi in
        let q = in_listed listed in
        flat_twice p q (take (last - first) (drop first (v.blocks b))) ∙ ap (filter q) (sym ((is.told b stands).run lo hi first last met))
        ∙ sym (filter_twice p q flat)

    both : counted_rows (v.blocks b) first last lo hi listed ++ filter t v.held ≡ filter t (all_rows v b)
    both = ap (λ xs. xs ++ filter t v.held) run_chosen ∙ sym (filter-append t flat v.held)

    pub chosen_among : All (Contains (v.stock b).posts) (counted_rows (v.blocks b) first last lo hi listed ++ filter (is_chosen lo hi listed) v.held)
    chosen_among = subst (All (Contains posts)) (sym both)
        (All-filter t (Contains posts) (all_rows v b) (among_alike (all_rows v b) posts (is.told b stands).alike))

    pub chosen_alike : (u : Post → Bool)
        → list_any u (counted_rows (v.blocks b) first last lo hi listed ++ filter (is_chosen lo hi listed) v.held)
        ≡ list_any u (filter (in_listed listed) (filter (is_between lo hi) (v.stock b).posts))
    chosen_alike u = ap (list_any u) both ∙ any_filter u t (all_rows v b) ∙ (is.told b stands).alike (λ x. t x && u x) ∙ sym (any_filter u t posts)
        ∙ ap (list_any u) (filter_twice (is_between lo hi) (in_listed listed) posts)

    pub chosen_long : length (counted_rows (v.blocks b) first last lo hi listed ++ filter (is_chosen lo hi listed) v.held)
        ≡ length (filter (in_listed listed) (filter (is_between lo hi) (v.stock b).posts))
    chosen_long = ap length both ∙ (is.told b stands).long t ∙ ap length (filter_twice (is_between lo hi) (in_listed listed) posts)

    pub chosen_countable : AreCountable (counted_rows (v.blocks b) first last lo hi listed ++ filter (is_chosen lo hi listed) v.held)
    chosen_countable = (is.told b stands).countable first last lo hi listed met.ordered met.within

    pub chosen_table : post_table (counted_rows (v.blocks b) first last lo hi listed ++ filter (is_chosen lo hi listed) v.held)
        ≡ post_table (filter (in_listed listed) (filter (is_between lo hi) (v.stock b).posts))
    chosen_table = table_alike (counted_rows (v.blocks b) first last lo hi listed ++ filter (is_chosen lo hi listed) v.held)
        (filter (in_listed listed) (filter (is_between lo hi) (v.stock b).posts)) chosen_alike

  pub run_countable : (first last lo hi : ℕ) (listed : List Bool) → first ≤ last → last ≤ length v.index.heads
      → AreCountable (counted_rows (v.blocks b) first last lo hi listed)
  run_countable first last lo hi listed up within =
      front_countable (counted_rows (v.blocks b) first last lo hi listed) (filter (is_chosen lo hi listed) v.held)
      ((is.told b stands).countable first last lo hi listed up within)

  pub posts_counted : (first k lo hi : ℕ) (listed : List Bool) (rows : List Post) (old new : WordCountsView) → first ≤ k → k < length v.index.heads
      → rows ≡ filter (is_chosen lo hi listed) (get_or (v.blocks b) k [])
      → ((seen : List Post) → AreCountable (seen ++ rows) → HasCounted seen old → HasCounted (seen ++ rows) new)
      → HasCounted (counted_rows (v.blocks b) first k lo hi listed) old → HasCounted (counted_rows (v.blocks b) first (k + 1) lo hi listed) new
  posts_counted first k lo hi listed rows old new le lt same step h =
      let count = (is.told b stands).count in
      let before = counted_rows (v.blocks b) first k lo hi listed in
      let more : counted_rows (v.blocks b) first (k + 1) lo hi listed ≡ before ++ rows
      = flat_more (chosen lo hi listed) (v.blocks b) first k le (omega (arith, lt, count)) ∙ ap (λ rs. before ++ rs) (sym same) in
      let all = run_countable first (k + 1) lo hi listed (omega (arith, le)) (omega (arith, lt)) in
      subst (λ rs. HasCounted rs new) (sym more) (step before (subst AreCountable more all) h)

  pub blocks_counted : (first k lo hi : ℕ) (listed : List Bool) (old new : WordCountsView) → first ≤ k → k < length v.index.heads → old.low ≡ lo
      → old.high ≡ hi
      → ((seen : List Post) → AreCountable (seen ++ chosen old.low old.high listed (get_or (v.blocks b) k [])) → HasCounted seen old
      → HasCounted (seen ++ chosen old.low old.high listed (get_or (v.blocks b) k [])) new)
      → HasCounted (counted_rows (v.blocks b) first k lo hi listed) old → HasCounted (counted_rows (v.blocks b) first (k + 1) lo hi listed) new
  blocks_counted first k lo hi listed old new le lt low high step h =
      let block = get_or (v.blocks b) k [] in
      let Steps : ℕ → ℕ → Type 0 = λ l u. (seen : List Post) → AreCountable (seen ++ chosen l u listed block) → HasCounted seen old
      → HasCounted (seen ++ chosen l u listed block) new in
      posts_counted first k lo hi listed (chosen lo hi listed block) old new le lt refl (subst (Steps lo) high (subst (λ l. Steps l old.high) low step)) h

  -- ---- listed documents
  -- the rows of some words in the documents that a base lists
  pub listed_asked : (lo hi : ℕ) (hits : Base) (listed : List Bool) → AreListed v.present hits listed
      → filter (in_listed listed) (filter (is_between lo hi) (v.stock b).posts) ≡ base_posts hits (filter (is_between lo hi) (v.stock b).posts)
  listed_asked lo hi hits listed has =
      let asked = filter (is_between lo hi) posts in
      let told = is.told b stands in
      let known : All (IsKnown (v.stock b)) asked = All-filter (is_between lo hi) (IsKnown (v.stock b)) posts told.stocked.known in
      let w = kept_within (seen v) (is_between lo hi) posts source_within in
      kept_listed (seen v) v.present is.long hits listed asked has w
      ∙ sym (posts_are_in (present_docs v.present) hits asked
      (all_then (IsKnown (v.stock b)) (λ p. is_listed (present_docs v.present) p.doc ≡ true) (λ p h. is_present v.present p.doc ∙ known_there p h) asked
      (recursion_from_All (IsKnown (v.stock b)) asked known)))

  pub all_there : (lo hi : ℕ) (listed : List Bool) → listed ≡ v.present
      → filter (in_listed listed) (filter (is_between lo hi) (v.stock b).posts) ≡ filter (is_between lo hi) (v.stock b).posts
  all_there lo hi listed same =
      let asked = filter (is_between lo hi) posts in
      let each : All (λ p. in_listed listed p ≡ true) asked = All-filter (is_between lo hi) (λ p. in_listed listed p ≡ true) posts
      (All-weaker (IsKnown (v.stock b)) (λ p. in_listed listed p ≡ true) (λ p h. ap (λ l. get_or l p.doc false) same ∙ known_there p h) posts
      (is.told b stands).stocked.known) in
      filter_alike (in_listed listed) (λ p. true) asked (recursion_from_All (λ p. in_listed listed p ≡ true) asked each) ∙ all_stay asked
