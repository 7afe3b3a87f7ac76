-- The rows of a range of words, counted block by block.
--
--   listed_all           All lists each document that is there
--   flat_more            one block more
--   whole_apart          no post of the blocks stands twice
--   countable            the rows that are counted are countable
--   counted_alike, counted_long     they have the members of those asked for, and are as many
--   kept_listed, all_listed     the rows in listed documents
use Rattle.std.proofs.Common.{◌≡◌, ℕ, suc, ◌+◌, ◌-◌, ◌<◌, ◌≤◌, ◌==◌, ◌&&◌, Bool, true, false, cond, List, [], ◌∷◌, ◌++◌, length, get_or}
use Rattle.std.proofs.Common.{take, drop, replicate, refl, sym, ap, ap₂, subst, ◌∙◌, arith, append-nil, length-take, length-drop, get_or-drop}
use Rattle.std.proofs.Common.{get_or-take}
use Rattle.std.specs.Prelude.{All, filter, flat_map, nat_lt}
use Rattle.std.specs.List.{list_any}
use Rattle.std.specs.List.Sorted.{IsStrictlySortedBy}
use Rattle.std.proofs.lemmas.Bool.{ltb-true, ltb-false}
use Rattle.std.proofs.lemmas.Bool.Decides.{nat_tests}
use Rattle.std.proofs.lemmas.Grind.{flat_map-append}
use Rattle.std.proofs.lemmas.List.{take_all, take_more, get_or-replicate}
use Rattle.std.proofs.lemmas.List.Elements.{All-nil, All-head, All-tail, All-append, All-filter, All-weaker, filter-append, recursion_from_All}
use Rattle.std.proofs.lemmas.List.Kept.{IsStrictlySortedBy-filter}
use Rattle.cs_base.specs.content.Orders.{AreSorted, by_place}
use Rattle.cs_base.specs.declared.content.doc.Base.{Base}
use Rattle.cs_base.specs.declared.content.doc.Base.TheVariants as base
use Rattle.cs_base.specs.declared.content.doc.Post.{Post}
use Rattle.cs_base.specs.declared.content.limits.TheConstants.{MAX_DOCS}
use Rattle.cs_base.specs.declared.index.block.BlockHead.{BlockHead}
use Rattle.cs_base.proofs.MembersLemmas.{any_listed, all_then}
use Rattle.cs_base.proofs.ListsLemmas.{all_stay, filter_twice, filter_alike}
use Rattle.cs_file.specs.Indexes.{IndexView, IsIndex, StandsFor, AreMet, block_posts}
use Rattle.cs_file.proofs.HeadsLemmas.{heads_rise}
use Rattle.cs_file.proofs.PostsLemmas.{block_words, posts_between}
use Rattle.cs_file.proofs.StoodLemmas.{stood_block, stood_count}
use Rattle.cs_meet.specs.Filters.{keep_docs}
use Rattle.cs_model.specs.Answers.{is_listed}
use Rattle.cs_model_index.specs.Images.{image_posts}
use Rattle.cs_model_index.specs.Sections.{image_of}
use Rattle.cs_tables.specs.TableListings.{with_word}
use Rattle.cs_tables.specs.WordCounts.{AreCountable, is_chosen}
use Rattle.cs_rows.specs.Counting.{AreListed, counted_rows, in_listed}
use Rattle.cs_rows.specs.IndexReading.{AreWithin, IsWithin, by_post, stock_of}
use Rattle.cs_rows.specs.Steps.{with_no_score}
use Rattle.cs_rows.specs.Stocked.{base_docs, is_between, present_docs}
use Rattle.cs_rows.proofs.AlikeLemmas.{any_filter}
use Rattle.cs_rows.proofs.DistinctLemmas.{Apart, apart_append, apart_none, apart_sorted, long_alike}
use Rattle.cs_rows.proofs.HitsLemmas.{own_docs}
use Rattle.cs_rows.proofs.PresentLemmas.{is_present}
use Rattle.cs_rows.proofs.RowsInRange.{kept_within}
use Rattle.cs_rows.proofs.StockLemmas.{by_post_total, by_post_exact, stock_fits, stocked, within_block}

-- ---- which documents are listed
pub listed_all : (present all : List Bool) → all ≡ present → AreListed present base.All all
listed_all present all are = record {
  long = ap length are;
  each = λ d lt. ap (λ l. get_or l d false) are ∙ sym (is_present present d)
      ∙ ap (λ ds. is_listed ds d) (sym (own_docs with_no_score (λ x. refl) (present_docs present)));
}

-- ---- one block
-- what is made of the blocks from number first up to k, and of one block more
pub flat_more : (f : List Post → List Post) (bs : List (List Post)) (first k : ℕ) → first ≤ k → k < length bs
    → flat_map f (take (k + 1 - first) (drop first bs)) ≡ flat_map f (take (k - first) (drop first bs)) ++ f (get_or bs k [])
flat_more f bs first k le lt =
    let rest = drop first bs in
    let e : k + 1 - first ≡ (k - first) + 1 = omega (arith, le) in
    let inside : k - first < length rest = omega (arith, lt, le, length-drop first bs) in
    let at : first + (k - first) ≡ k = omega (arith, le) in
    let there : get_or rest (k - first) [] ≡ get_or bs k [] = get_or-drop first bs (k - first) [] ∙ ap (λ n. get_or bs n []) at in
    ap (λ n. flat_map f (take n rest)) e ∙ ap (flat_map f) (take_more rest (k - first) [] inside)
    ∙ flat_map-append f (take (k - first) rest) (get_or rest (k - first) [] ∷ [])
    ∙ ap (λ x. flat_map f (take (k - first) rest) ++ x) (append-nil (f (get_or rest (k - first) [])) ∙ ap f there)

-- ---- rows of many blocks
sorted_nil : AreSorted []
unfolding IsStrictlySortedBy
sorted_nil = tt

no_word : (w : ℕ) (xs : List Post) → All (λ p. p.word == w ≡ false) xs → with_word w xs ≡ []
no_word w [] h = refl
no_word w (x ∷ xs) h =
    ap (λ b. cond b (x ∷ with_word w xs) (with_word w xs)) (All-head (λ p. p.word == w ≡ false) x xs h)
    ∙ no_word w xs (All-tail (λ p. p.word == w ≡ false) x xs h)

flat_all : (P : Post → Type 0) (t : Post → Bool) (bs : List (List Post)) → ((k : ℕ) → k < length bs → All P (get_or bs k [])) → All P (flat_map (filter t) bs)
flat_all P t [] h = All-nil P
flat_all P t (b ∷ bs) h = All-append P (filter t b) (flat_map (filter t) bs) (All-filter t P b (h 0 (omega arith)))
    (flat_all P t bs (λ k lt. h (suc k) (omega (arith, lt))))

-- each block is in order, with words from one number up to another, and a later block has later words
record AreParted (bs : List (List Post)) (from to : ℕ → ℕ) : Type 0 where
  sorted : (k : ℕ) → k < length bs → AreSorted (get_or bs k [])
  words : (k : ℕ) → k < length bs → All (λ p. (from k ≤ p.word) × (p.word < to k)) (get_or bs k [])
  later : (j k : ℕ) → j < k → k < length bs → to j ≤ from k

parted_rest : (b : List Post) (bs : List (List Post)) (from to : ℕ → ℕ) → AreParted (b ∷ bs) from to → AreParted bs (λ k. from (suc k)) (λ k. to (suc k))
parted_rest b bs from to p = record {
  sorted = λ k lt. p.sorted (suc k) (omega (arith, lt));
  words = λ k lt. p.words (suc k) (omega (arith, lt));
  later = λ j k up lt. p.later (suc j) (suc k) (omega (arith, up)) (omega (arith, lt));
}

apart_from : (w n : ℕ) → w < n → (p : Post) → n ≤ p.word → p.word == w ≡ false
apart_from w n lt p le = (let up : w < p.word = omega (arith, lt, le) in grind (arith, nat_tests))

apart_to : (w n : ℕ) → n ≤ w → (p : Post) → p.word < n → p.word == w ≡ false
apart_to w n le p lt = (let up : p.word < w = omega (arith, lt, le) in grind (arith, nat_tests))

words_in_order : (t : Post → Bool) (bs : List (List Post)) (from to : ℕ → ℕ) → AreParted bs from to → (w : ℕ) → AreSorted (with_word w (flat_map (filter t) bs))
words_in_order t [] from to p w = sorted_nil
words_in_order t (b ∷ bs) from to p w =
    let here = filter t b in
    let rest = flat_map (filter t) bs in
    let both : with_word w (here ++ rest) ≡ with_word w here ++ with_word w rest = filter-append (λ p. p.word == w) here rest in
    elim (nat_lt w (to 0)) as (λ c. nat_lt w (to 0) ≡ c → AreSorted (with_word w (here ++ rest))) [
      | true ↦ λ e.
          let lt = ltb-true w (to 0) e in
          let high : All (λ p. to 0 ≤ p.word) rest = flat_all (λ p. to 0 ≤ p.word) t bs (λ k l.
          let up = p.later 0 (suc k) (omega arith) (omega (arith, l)) in
          All-weaker (λ p. (from (suc k) ≤ p.word) × (p.word < to (suc k))) (λ p. to 0 ≤ p.word) (λ x h. omega (arith, h.0, up)) (get_or bs k [])
          (p.words (suc k) (omega (arith, l)))) in
          let none : with_word w rest ≡ [] = no_word w rest
          (All-weaker (λ p. to 0 ≤ p.word) (λ p. p.word == w ≡ false) (λ x h. apart_from w (to 0) lt x h) rest high) in
          subst AreSorted (sym (both ∙ ap (λ l. with_word w here ++ l) none ∙ append-nil (with_word w here)))
          (IsStrictlySortedBy-filter by_place (λ p. p.word == w) here (IsStrictlySortedBy-filter by_place t b (p.sorted 0 (omega arith))))
      | false ↦ λ e.
          let le = ltb-false w (to 0) e in
          let low : All (λ p. p.word < to 0) here = All-filter t (λ p. p.word < to 0) b
          (All-weaker (λ p. (from 0 ≤ p.word) × (p.word < to 0)) (λ p. p.word < to 0) (λ x h. h.1) b (p.words 0 (omega arith))) in
          let none : with_word w here ≡ [] = no_word w here
          (All-weaker (λ p. p.word < to 0) (λ p. p.word == w ≡ false) (λ x h. apart_to w (to 0) le x h) here low) in
          subst AreSorted (sym (both ∙ ap (λ l. l ++ with_word w rest) none))
          (words_in_order t bs (λ k. from (suc k)) (λ k. to (suc k)) (parted_rest b bs from to p) w)
    ] refl

blocks_apart : (t : Post → Bool) (bs : List (List Post)) (from to : ℕ → ℕ) → AreParted bs from to → Apart (flat_map (filter t) bs)
blocks_apart t [] from to p = apart_none
blocks_apart t (b ∷ bs) from to p =
    let here = filter t b in
    let rest = flat_map (filter t) bs in
    let low : All (λ p. p.word < to 0) here = All-filter t (λ p. p.word < to 0) b
    (All-weaker (λ p. (from 0 ≤ p.word) × (p.word < to 0)) (λ p. p.word < to 0) (λ x h. h.1) b (p.words 0 (omega arith))) in
    let high : All (λ p. to 0 ≤ p.word) rest = flat_all (λ p. to 0 ≤ p.word) t bs (λ k l.
    let up = p.later 0 (suc k) (omega arith) (omega (arith, l)) in
    All-weaker (λ p. (from (suc k) ≤ p.word) × (p.word < to (suc k))) (λ p. to 0 ≤ p.word) (λ x h. omega (arith, h.0, up)) (get_or bs k [])
    (p.words (suc k) (omega (arith, l)))) in
    apart_append (to 0) here rest (apart_sorted here (IsStrictlySortedBy-filter by_place t b (p.sorted 0 (omega arith))))
    (blocks_apart t bs (λ k. from (suc k)) (λ k. to (suc k)) (parted_rest b bs from to p))
    (recursion_from_All (λ p. p.word < to 0) here low) (recursion_from_All (λ p. to 0 ≤ p.word) rest high)

flat_filter : (t : Post → Bool) (bs : List (List Post)) → flat_map (filter t) bs ≡ filter t (flat_map (λ block. block) bs)
flat_filter t [] = refl
flat_filter t (b ∷ bs) = ap (λ x. filter t b ++ x) (flat_filter t bs) ∙ sym (filter-append t b (flat_map (λ block. block) bs))

-- posts in listed documents
pub kept_listed : (i : IndexView) (present : List Bool) → length present ≡ i.docs → (base : Base) (listed : List Bool) (posts : List Post)
    → AreListed present base listed → AreWithin i posts → filter (in_listed listed) posts ≡ keep_docs posts (base_docs (present_docs present) base)
kept_listed i present long base listed posts has w =
    let docs = base_docs (present_docs present) base in
    filter_alike (in_listed listed) (λ p. is_listed docs p.doc) posts
    (all_then (IsWithin i.docs (length i.words)) (λ p. in_listed listed p ≡ is_listed docs p.doc)
    (λ p h. let doc = h.doc in has.each p.doc (omega (arith, doc, long))) posts
    (recursion_from_All (IsWithin i.docs (length i.words)) posts w.within))

module _ (b : List ℕ) (i : IndexView) (stands : StandsFor b i) (is : IsIndex i) where
  abbrev blocks : List (List Post)
  blocks = (image_of b).blocks

  abbrev none : BlockHead
  none = record { lo = 0; words = 0; rows = 0; len = 0; facet = false; least = 0; greatest = 0 }

  -- the blocks from number first up to last
  cut_at : (first last k : ℕ) → first ≤ last → last ≤ length i.heads → k < length (take (last - first) (drop first blocks))
      → (get_or (take (last - first) (drop first blocks)) k [] ≡ block_posts b (first + k)) × (first + k < last)
  cut_at first last k le within lt =
      let count = stood_count b i stands in
      let l1 = length-drop first blocks in
      let l2 = length-take (last - first) (drop first blocks) in
      let inside : k < last - first = omega (arith, lt, l1, l2) in
      (get_or-take (last - first) (drop first blocks) k [] inside ∙ get_or-drop first blocks k [], omega (arith, inside, le))

  parted : (first last : ℕ) → first ≤ last → last ≤ length i.heads
      → AreParted (take (last - first) (drop first blocks)) (λ k. (get_or i.heads (first + k) none).lo)
      (λ k. (get_or i.heads (first + k) none).lo + (get_or i.heads (first + k) none).words)
  parted first last le within = record {
    sorted = λ k lt. let at = cut_at first last k le within lt in
        subst AreSorted (sym at.0) (within_block b i stands is (first + k) (omega (arith, at.1, within))).sorted;
    words = λ k lt.
        let at = cut_at first last k le within lt in
        let l : first + k < length i.heads = omega (arith, at.1, within) in
        let h = get_or i.heads (first + k) none in
        subst (All (λ p. (h.lo ≤ p.word) × (p.word < h.lo + h.words))) (sym at.0)
        (block_words h i.docs (block_posts b (first + k)) _ (stood_block b i stands is (first + k) none l));
    later = λ j k up lt. let at = cut_at first last k le within lt in
        heads_rise i is (first + j) (first + k) none (omega (arith, up)) (omega (arith, at.1, within));
  }

  -- no post of the blocks stands twice
  pub whole_apart : (t : Post → Bool) → Apart (filter t (image_posts (image_of b)))
  whole_apart t =
      let n = length i.heads in
      let count = stood_count b i stands in
      let whole : take (n - 0) (drop 0 blocks) ≡ blocks = take_all (n - 0) blocks (omega (arith, count)) in
      subst Apart (ap (flat_map (filter t)) whole ∙ flat_filter t blocks)
      (blocks_apart t (take (n - 0) (drop 0 blocks)) _ _ (parted 0 n (omega arith) (omega arith)))

  pub countable : (first last lo hi : ℕ) (listed : List Bool) → first ≤ last → last ≤ length i.heads
      → AreCountable (counted_rows blocks first last lo hi listed)
  countable first last lo hi listed le within = record {
    ordered = words_in_order (is_chosen lo hi listed) (take (last - first) (drop first blocks)) _ _ (parted first last le within);
    few_docs = flat_all (λ p. p.doc < MAX_DOCS) (is_chosen lo hi listed) (take (last - first) (drop first blocks)) (λ k lt.
        let at = cut_at first last k le within lt in
        let few = is.few_docs in
        subst (All (λ p. p.doc < MAX_DOCS)) (sym at.0)
        (All-weaker (IsWithin i.docs (length i.words)) (λ p. p.doc < MAX_DOCS) (λ x h. let d = h.doc in omega (arith, d, few)) (block_posts b (first + k))
        (within_block b i stands is (first + k) (omega (arith, at.1, within))).within));
  }

  flat_twice : (p q : Post → Bool) (bs : List (List Post)) → flat_map (filter (λ x. p x && q x)) bs ≡ filter q (flat_map (filter p) bs)
  flat_twice p q [] = refl
  flat_twice p q (b ∷ bs) = ap₂ (λ x y. x ++ y) (filter_twice p q b) (flat_twice p q bs) ∙ sym (filter-append q (filter p b) (flat_map (filter p) bs))

  -- the posts that are counted have the members of those asked for
  pub counted_alike : (first last lo hi : ℕ) (listed : List Bool) → AreMet i.heads lo hi first last → (t : Post → Bool)
      → list_any t (counted_rows blocks first last lo hi listed) ≡ list_any t (filter (in_listed listed) (filter (is_between lo hi) (stock_of b).posts))
  counted_alike first last lo hi listed met t =
      let p = is_between lo hi in
      let q = in_listed listed in
      let all = image_posts (image_of b) in
      let whole : counted_rows blocks first last lo hi listed ≡ filter q (filter p all) = flat_twice p q (take (last - first) (drop first blocks))
      ∙ ap (filter q) (sym (posts_between b i stands is lo hi first last met)) in
      ap (list_any t) whole ∙ any_filter t q (filter p all) ∙ any_filter (λ x. q x && t x) p all
      ∙ sym (any_listed by_post by_post_total by_post_exact (λ x. p x && (q x && t x)) all)
      ∙ sym (any_filter t q (filter p (stock_of b).posts) ∙ any_filter (λ x. q x && t x) p (stock_of b).posts)

  -- and there are as many
  pub counted_long : (first last lo hi : ℕ) (listed : List Bool) → AreMet i.heads lo hi first last
      → length (counted_rows blocks first last lo hi listed) ≡ length (filter (in_listed listed) (filter (is_between lo hi) (stock_of b).posts))
  counted_long first last lo hi listed met =
      let up = (stocked b i stands is).sorted in
      long_alike (counted_rows blocks first last lo hi listed) (filter (in_listed listed) (filter (is_between lo hi) (stock_of b).posts))
      (blocks_apart (is_chosen lo hi listed) (take (last - first) (drop first blocks)) _ _ (parted first last met.ordered met.within))
      (IsStrictlySortedBy-filter by_place (in_listed listed) (filter (is_between lo hi) (stock_of b).posts)
      (IsStrictlySortedBy-filter by_place (is_between lo hi) (stock_of b).posts up))
      (counted_alike first last lo hi listed met)

  -- the posts that are read of an index file are in its range
  pub stock_within : AreWithin i (stock_of b).posts
  stock_within = record { sorted = (stocked b i stands is).sorted; within = stock_fits b i stands is }

  -- of all documents each post is in one
  pub all_listed : (lo hi : ℕ)
      → filter (in_listed (replicate i.docs true)) (filter (is_between lo hi) (stock_of b).posts) ≡ filter (is_between lo hi) (stock_of b).posts
  all_listed lo hi =
      let all = replicate i.docs true in
      let asked = filter (is_between lo hi) (stock_of b).posts in
      let w = kept_within i (is_between lo hi) (stock_of b).posts stock_within in
      filter_alike (in_listed all) (λ p. true) asked
      (all_then (IsWithin i.docs (length i.words)) (λ p. in_listed all p ≡ true) (λ p h. get_or-replicate i.docs p.doc true false h.doc) asked
      (recursion_from_All (IsWithin i.docs (length i.words)) asked w.within))
      ∙ all_stay asked

-- a vector whose slice was lent lists the same documents
pub listed_in : {present : List Bool} (hits : Base) (items lent : List Bool) → AreListed present hits items → lent ≡ items → AreListed present hits lent
listed_in {present} hits items lent lists is = subst (AreListed present hits) (sym is) lists
