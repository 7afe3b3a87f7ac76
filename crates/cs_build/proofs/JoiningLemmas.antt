-- Posts with new numbers, and the image that is made of their blocks.
--
--   all_front, all_behind     what holds of each of two lists
--   map_map                   two maps are one
--   held_next, held_end       the posts of blocks, block by block
--   moved_next                and moved posts
--   joined_words              the new numbers of all words
--   all_moved                 what holds of moved posts
--   docs_known                documents of joined posts have titles
--   all_numbered              posts are those of their rows
--   numbers_told              the numbers are those of the words
--   words_listed              the words are those of the rows in order
--   ordered_blocks            posts that are in order in each block are those of the rows in order
--   parted_listed             no row stands twice, so the words are parted alike by the rows in order
use Rattle.std.proofs.Common.{◌≡◌, ℕ, ◌+◌, ◌<◌, ◌≤◌, Bool, true, false, not, cond, List, [], ◌∷◌, ◌++◌, length, map, drop, get_or, refl, sym, ◌∙◌, ap, ap₂, subst, arith, length-append}
use Rattle.std.specs.Prelude.{filter}
use Rattle.std.specs.List.{All, AllByRecursion, list_any}
use Rattle.std.specs.List.Sorted.{IsStrictlySortedBy}
use Rattle.std.specs.Ordering.{nat_cmp, eq_by_cmp}
use Rattle.std.specs.Cmp.Lexicographic.{slice_cmp}
use Rattle.std.specs.FinMap.{contains_key}
use Rattle.std.specs.Str.{bytes_eq}
use Rattle.std.proofs.Math.Seq.{get_or-append-add}
use Rattle.std.proofs.lemmas.List.{drop_all, drop_more, get_or_append_left, length-map, map-append}
use Rattle.std.proofs.lemmas.List.Elements.{All-from_recursion, All-map, recursion_from_All}
use Rattle.cs_base.specs.content.Members.{members_in}
use Rattle.cs_base.specs.content.Orders.{by_row, by_spot}
use Rattle.cs_base.specs.declared.content.doc.Post.{Post}
use Rattle.cs_base.specs.declared.content.doc.Row.{Row}
use Rattle.cs_base.proofs.ListsLemmas.{all_of, any_through, map_alike}
use Rattle.cs_base.proofs.MembersLemmas.{listing-rises, members_are}
use Rattle.cs_base.proofs.OrdersLemmas.{by_row_exact, by_row_total}
use Rattle.cs_cols.specs.declared.cols.Cols.{Cols}
use Rattle.cs_model.specs.Corpus.{IsCorpus, by_number, distinct_words}
use Rattle.cs_model_index.specs.Images.{Image, count_in, image_posts}
use Rattle.cs_model_index.specs.Numbered.{HasWord, numbered, post_of, row_of, rows_at, word_at}
use Rattle.cs_model_index.proofs.CorpusLemmas.{known_words}
use Rattle.cs_model_index.proofs.CorpusSizes.{title_there}
use Rattle.cs_model_index.proofs.Listings.{any_listed, each_listed, filter_members, listed_few}
use Rattle.cs_model_index.proofs.NumberedLemmas.{numbered_of_rows, posts_ascend}
use Rattle.cs_vocab.specs.Ranges.{AreNumbers, IsBelow}
use Rattle.cs_build.specs.Building.{corpus_of_rows}
use Rattle.cs_build.specs.Joining.{by_numbers, held_posts, joined_posts, moved_post}
use Rattle.cs_build.specs.WordRuns.{AreParted, is_within}
use Rattle.cs_build.specs.declared.parting.Run.{Run}
use Rattle.cs_build.proofs.BlockOrder.{by_numbers_exact, by_numbers_total, posts_up}
use Rattle.cs_build.proofs.MadeLemmas.{same_words}

-- ---- lists
pub all_front : {X : Type 0} (P : X → Type 0) (xs ys : List X) → All P (xs ++ ys) → All P xs
all_front P xs ys h k d lt = subst P (get_or_append_left xs ys d k lt) (h k d (let l = length-append xs ys in omega (arith, lt, l)))

pub all_behind : {X : Type 0} (P : X → Type 0) (xs ys : List X) → All P (xs ++ ys) → All P ys
all_behind P xs ys h k d lt = subst P (get_or-append-add xs ys k d) (h (length xs + k) d (let l = length-append xs ys in omega (arith, lt, l)))

pub map_map : {X Y Z : Type 0} (f : X → Y) (g : Y → Z) (xs : List X) → map g (map f xs) ≡ map (λ x. g (f x)) xs
map_map f g [] = refl
map_map f g (x ∷ xs) = ap (λ l. g (f x) ∷ l) (map_map f g xs)

-- those that pass a test and those that don't are all
both_parts : {X : Type 0} (t : X → Bool) (xs : List X) → length (filter t xs) + length (filter (λ x. not (t x)) xs) ≡ length xs
both_parts t [] = omega arith
both_parts t (x ∷ xs) =
    let rest = both_parts t xs in
    elim (t x) as (λ b. length (cond b (x ∷ filter t xs) (filter t xs)) + length (cond (not b) (x ∷ filter (λ y. not (t y)) xs) (filter (λ y. not (t y)) xs)) ≡ length (x ∷ xs)) [
      | true ↦ omega (arith, rest)
      | false ↦ omega (arith, rest)
    ]

-- ---- blocks
pub held_next : (bs : List Cols) (k : ℕ) (b : Cols) → k < length bs → b ≡ get_or bs k b → held_posts (drop k bs) ≡ b.posts ++ held_posts (drop (k + 1) bs)
held_next bs k b lt is = ap held_posts (drop_more bs k b lt ∙ ap (λ x. x ∷ drop (k + 1) bs) (sym is))

pub held_end : (bs : List Cols) (k : ℕ) → length bs ≤ k → held_posts (drop k bs) ≡ []
held_end bs k le = ap held_posts (drop_all k bs le)

pub moved_next : (shift : List ℕ) (n : ℕ) (bs : List Cols) (k : ℕ) (b : Cols) → k < length bs → b ≡ get_or bs k b
    → map (moved_post shift n) (held_posts (drop k bs)) ≡ map (moved_post shift n) b.posts ++ map (moved_post shift n) (held_posts (drop (k + 1) bs))
moved_next shift n bs k b lt is = ap (map (moved_post shift n)) (held_next bs k b lt is) ∙ map-append (moved_post shift n) b.posts (held_posts (drop (k + 1) bs))

-- ---- joined posts
pub joined_words : (a : Image) (first : List ℕ) (b : Image) (second : List ℕ)
    → map (λ p. p.word) (joined_posts a first b second) ≡ map (λ p. get_or first p.word 0) (image_posts a) ++ map (λ p. get_or second p.word 0) (image_posts b)
joined_words a first b second =
    map-append (λ (p : Post). p.word) (map (moved_post first 0) (image_posts a)) (map (moved_post second (length a.titles)) (image_posts b))
    ∙ ap₂ (λ x y. x ++ y) (map_map (moved_post first 0) (λ p. p.word) (image_posts a)) (map_map (moved_post second (length a.titles)) (λ p. p.word) (image_posts b))

all_mapped : {X Y : Type 0} (f : X → Y) (P : Y → Type 0) (xs : List X) → AllByRecursion P (map f xs) → AllByRecursion (λ x. P (f x)) xs
all_mapped f P [] h = tt
all_mapped f P (x ∷ xs) h = (h.0, all_mapped f P xs h.1)

mapped_all : {X Y : Type 0} (f : X → Y) (P : Y → Type 0) (xs : List X) → AllByRecursion (λ x. P (f x)) xs → AllByRecursion P (map f xs)
mapped_all f P [] h = tt
mapped_all f P (x ∷ xs) h = (h.0, mapped_all f P xs h.1)

-- what holds of moved posts
pub all_moved : (shift : List ℕ) (n : ℕ) (P : Post → Type 0) (posts : List Post) → All P (map (moved_post shift n) posts) → All (λ p. P (moved_post shift n p)) posts
all_moved shift n P posts h = All-from_recursion (λ p. P (moved_post shift n p)) posts (all_mapped (moved_post shift n) P posts (recursion_from_All P (map (moved_post shift n) posts) h))

-- ---- rows and their image
module _ (ws : List (List ℕ)) (posts : List Post) (below : All (λ p. p.word < length ws) posts) (words : ws ≡ distinct_words (rows_at ws posts)) where
  abbrev rows : List Row
  rows = rows_at ws posts

  abbrev listed : List Row
  listed = members_in by_row (rows_at ws posts)

  up : IsStrictlySortedBy (slice_cmp nat_cmp) ws
  up = subst (IsStrictlySortedBy (slice_cmp nat_cmp)) (sym words) (listing-rises (slice_cmp nat_cmp) (map (λ r. r.word) (rows_at ws posts)))

  pub all_numbered : numbered ws (rows_at ws posts) ≡ posts
  all_numbered = numbered_of_rows ws posts up (recursion_from_All (λ p. p.word < length ws) posts below)

  pub numbers_told : (numbers : List ℕ) → numbers ≡ map (λ p. p.word) posts → AreNumbers ws numbers (map (λ r. r.word) (rows_at ws posts))
  numbers_told numbers are = record {
    told = ap (map (word_at ws)) are ∙ map_map (λ (p : Post). p.word) (word_at ws) posts ∙ sym (map_map (row_of ws) (λ r. r.word) posts);
    below = subst (All (IsBelow (length ws))) (sym are) (All-map (IsBelow (length ws)) (λ (p : Post). p.word) posts below);
  }

  pub docs_known : (titles : List (List ℕ)) → IsCorpus (corpus_of_rows titles (members_in by_row (rows_at ws posts))) → All (λ p. p.doc < length titles) posts
  docs_known titles is =
      let each = each_listed by_row by_row_total by_row_exact (λ r. contains_key (by_number titles) r.doc ≡ true) rows (recursion_from_All (λ r. contains_key (by_number titles) r.doc ≡ true) listed is.of_docs) in
      All-from_recursion (λ p. p.doc < length titles) posts (inside posts (all_mapped (row_of ws) (λ r. contains_key (by_number titles) r.doc ≡ true) posts each))
    where
      inside : (ps : List Post) → AllByRecursion (λ p. contains_key (by_number titles) p.doc ≡ true) ps → AllByRecursion (λ p. p.doc < length titles) ps
      inside [] h = tt
      inside (p ∷ ps) h = (title_there titles p.doc h.0, inside ps h.1)

  pub words_listed : ws ≡ distinct_words (members_in by_row (rows_at ws posts))
  words_listed = words ∙ sym (same_words rows)

  known : AllByRecursion (HasWord ws) listed
  known = subst (λ x. AllByRecursion (HasWord x) listed) (sym words_listed) (known_words listed)

  -- the posts in order
  in_order_posts : IsStrictlySortedBy by_spot listed → numbered ws listed ≡ members_in by_numbers posts
  in_order_posts spots =
      members_are by_numbers by_numbers_total by_numbers_exact (numbered ws listed) posts (posts_up (numbered ws listed) (posts_ascend ws up listed known spots))
      (λ q.
      any_through (post_of ws) (eq_by_cmp by_numbers q) listed
      ∙ any_listed by_row by_row_total by_row_exact (λ r. eq_by_cmp by_numbers q (post_of ws r)) rows
      ∙ sym (any_through (post_of ws) (eq_by_cmp by_numbers q) rows)
      ∙ ap (list_any (eq_by_cmp by_numbers q)) all_numbered)

  -- and those of each block
  pub ordered_blocks : IsStrictlySortedBy by_spot (members_in by_row (rows_at ws posts)) → (runs : List Run) (blocks ordered : List Cols) → map (λ b. b.posts) blocks ≡ map (λ run. filter (is_within run) posts) runs
      → map (λ b. b.posts) ordered ≡ map (λ b. members_in by_numbers b.posts) blocks → map (λ b. b.posts) ordered ≡ map (λ run. filter (is_within run) (numbered ws (members_in by_row (rows_at ws posts)))) runs
  ordered_blocks spots runs blocks ordered are in_order =
      in_order
      ∙ sym (map_map (λ (b : Cols). b.posts) (members_in by_numbers) blocks)
      ∙ ap (map (members_in by_numbers)) are
      ∙ map_map (λ (run : Run). filter (is_within run) posts) (members_in by_numbers) runs
      ∙ map_alike (λ run. members_in by_numbers (filter (is_within run) posts)) (λ run. filter (is_within run) (numbered ws listed)) runs
      (all_of (λ run. members_in by_numbers (filter (is_within run) posts) ≡ filter (is_within run) (numbered ws listed))
      (λ run. sym (filter_members by_numbers by_numbers_total by_numbers_exact (is_within run) posts) ∙ ap (filter (is_within run)) (sym (in_order_posts spots))) runs)

  module _ (once : length posts ≤ length (members_in by_row (rows_at ws posts))) where
    counts_at : (w : List ℕ) → count_in rows w ≡ count_in listed w
    counts_at w =
        let t : Row → Bool = λ r. bytes_eq r.word w in
        let other : Row → Bool = λ r. not (bytes_eq r.word w) in
        let few : length (filter t listed) ≤ length (filter t rows) = omega (arith, ap length (filter_members by_row by_row_total by_row_exact t rows), listed_few by_row by_row_total by_row_exact (filter t rows)) in
        let others : length (filter other listed) ≤ length (filter other rows) =
        omega (arith, ap length (filter_members by_row by_row_total by_row_exact other rows), listed_few by_row by_row_total by_row_exact (filter other rows)) in
        let many : length rows ≡ length posts = length-map posts (row_of ws) in
        let a : length (filter t rows) + length (filter other rows) ≡ length rows = both_parts t rows in
        let b : length (filter t listed) + length (filter other listed) ≡ length listed = both_parts t listed in
        omega (arith, few, others, many, a, b, once)

    counts : count_in rows ≡ count_in listed
    counts = λ i w. counts_at w i

    pub parted_listed : (target : ℕ) (runs : List Run) → AreParted target ws (count_in (rows_at ws posts)) runs → AreParted target ws (count_in (members_in by_row (rows_at ws posts))) runs
    parted_listed target runs p = subst (λ count. AreParted target ws count runs) counts p
