-- Posts of the index as they are now.
--
--   now_append, now_flat, now_pieces    piece by piece
--   chosen_now, all_now                 those that pass a test, and what holds of all
--   between_now                         those of some words
--   now_rises                           they are in order
--   sorted_behind                       posts of later documents behind those of earlier ones
--   block_now                           the documents of a block's posts
--   take_map, drop_map, get_map, flat_through, flat_same, flat_parts, taken_parts, dropped_parts    lists of blocks
use Rattle.std.proofs.Common.{◌≡◌, ℕ, zero, suc, ◌<◌, ◌≤◌, Bool, true, false, cond, List, [], ◌∷◌, ◌++◌, length, get_or, take, drop, map}
use Rattle.std.proofs.Common.{refl, sym, ap, ap₂, subst, ◌∙◌, arith}
use Rattle.std.specs.Prelude.{All, filter, flat_map}
use Rattle.std.specs.List.{AllByRecursion}
use Rattle.std.specs.List.Sorted.{IsStrictlySortedBy}
use Rattle.std.specs.Ordering.{nat_cmp, ordering_then}
use Rattle.std.specs.declared.cmp.Ordering.{Ordering}
use Rattle.std.specs.declared.cmp.Ordering.TheVariants.{Less, Equal, Greater}
use Rattle.std.proofs.lemmas.Bool.Decides.{nat_tests}
use Rattle.std.proofs.lemmas.List.{map-append}
use Rattle.std.proofs.lemmas.List.Elements.{All-filter, All-from_recursion, filter-append, recursion_from_All}
use Rattle.std.proofs.lemmas.List.Kept.{IsStrictlySortedBy-filter}
use Rattle.std.proofs.lemmas.Map.Keys.{Less-from_sorted}
use Rattle.cs_base.specs.content.Orders.{AreDocs, AreSorted, by_place}
use Rattle.cs_base.specs.declared.content.doc.Post.{Post}
use Rattle.cs_base.proofs.ListsLemmas.{filter_alike, filter_through}
use Rattle.cs_base.proofs.MembersLemmas.{all_then}
use Rattle.cs_base.proofs.OrdersLemmas.{Less-from_lt}
use Rattle.cs_rows.specs.Sources.{is_there}
use Rattle.cs_rows.specs.Stocked.{is_between}
use Rattle.cs_live.specs.States.{now_posts, rank, renumbered}
use Rattle.cs_live.proofs.NumberLemmas.{between_by, rank_at}

-- ---- posts
module _ (shift : List ℕ) (present : List Bool) where
  pub now_append : (xs ys : List Post) → now_posts shift present (xs ++ ys) ≡ now_posts shift present xs ++ now_posts shift present ys
  now_append xs ys = ap (map (renumbered shift)) (filter-append (is_there present) xs ys) ∙ map-append (renumbered shift) (filter (is_there present) xs) (filter (is_there present) ys)

  pub now_flat : (bs : List (List Post)) → flat_map (λ block. block) (map (now_posts shift present) bs) ≡ now_posts shift present (flat_map (λ block. block) bs)
  now_flat [] = refl
  now_flat (b ∷ bs) = ap (λ l. now_posts shift present b ++ l) (now_flat bs) ∙ sym (now_append b (flat_map (λ block. block) bs))

  pub now_pieces : (f : List Post → List Post) (bs : List (List Post)) → now_posts shift present (flat_map f bs) ≡ flat_map (λ b. now_posts shift present (f b)) bs
  now_pieces f [] = refl
  now_pieces f (b ∷ bs) = now_append (f b) (flat_map f bs) ∙ ap (λ l. now_posts shift present (f b) ++ l) (now_pieces f bs)

  -- two tests of posts that agree
  pub chosen_now : (t u : Post → Bool) (posts : List Post) → All (λ p. u (renumbered shift p) ≡ t p) posts
      → filter u (now_posts shift present posts) ≡ now_posts shift present (filter t posts)
  chosen_now t u posts agree =
      sym (filter_through (renumbered shift) u (filter (is_there present) posts))
      ∙ ap (map (renumbered shift)) (filter_alike (λ p. u (renumbered shift p)) t (filter (is_there present) posts)
      (recursion_from_All (λ p. u (renumbered shift p) ≡ t p) (filter (is_there present) posts) (All-filter (is_there present) (λ p. u (renumbered shift p) ≡ t p) posts agree))
      ∙ swapped posts)
    where
      swapped : (xs : List Post) → filter t (filter (is_there present) xs) ≡ filter (is_there present) (filter t xs)
      swapped [] = refl
      swapped (x ∷ xs) =
          let rest = swapped xs in
          elim (t x) as (λ b. t x ≡ b → filter t (cond (is_there present x) (x ∷ filter (is_there present) xs) (filter (is_there present) xs))
          ≡ filter (is_there present) (cond b (x ∷ filter t xs) (filter t xs))) [
            | true ↦ λ e. elim (is_there present x) as (λ c. filter t (cond c (x ∷ filter (is_there present) xs) (filter (is_there present) xs))
                ≡ cond c (x ∷ filter (is_there present) (filter t xs)) (filter (is_there present) (filter t xs))) [
                  | true ↦ ap (λ b. cond b (x ∷ filter t (filter (is_there present) xs)) (filter t (filter (is_there present) xs))) e ∙ ap (λ l. x ∷ l) rest
                  | false ↦ rest
                ]
            | false ↦ λ e. elim (is_there present x) as (λ c. filter t (cond c (x ∷ filter (is_there present) xs) (filter (is_there present) xs))
                ≡ filter (is_there present) (filter t xs)) [
                  | true ↦ ap (λ b. cond b (x ∷ filter t (filter (is_there present) xs)) (filter t (filter (is_there present) xs))) e ∙ rest
                  | false ↦ rest
                ]
          ] refl

  pub all_now : (P Q : Post → Type 0) (posts : List Post) → ((p : Post) → is_there present p ≡ true → P p → Q (renumbered shift p)) → All P posts
      → All Q (now_posts shift present posts)
  all_now P Q posts f h = All-from_recursion Q (now_posts shift present posts) (go posts (recursion_from_All P posts h))
    where
      go : (xs : List Post) → AllByRecursion P xs → AllByRecursion Q (now_posts shift present xs)
      go [] h = tt
      go (x ∷ xs) h =
          let rest = go xs h.1 in
          elim (is_there present x) as (λ b. is_there present x ≡ b → AllByRecursion Q (map (renumbered shift) (cond b (x ∷ filter (is_there present) xs) (filter (is_there present) xs)))) [
            | true ↦ λ e. (f x e h.0, rest)
            | false ↦ λ e. rest
          ] refl

-- a post of the index has one of the words where its new word is one of them
pub between_now : (shift : List ℕ) → AreDocs shift → (lo hi : ℕ) (p : Post) → p.word < length shift
    → is_between lo hi (renumbered shift p) ≡ is_between (rank shift lo) (rank shift hi) p
between_now shift up lo hi p lt =
    between_by (get_or shift p.word 0) lo hi p.word (rank shift lo) (rank shift hi) (rank_at shift up lo p.word 0 lt) (rank_at shift up hi p.word 0 lt)

-- ---- one order
less_new : (shift : List ℕ) → AreDocs shift → (m n : ℕ) → m < n → n < length shift → nat_cmp (get_or shift m 0) (get_or shift n 0) ≡ Less
less_new shift up m n lt l = Less-from_sorted nat_cmp shift m n 0 up lt l

is_less : (x y : ℕ) → nat_cmp x y ≡ Less → x < y
is_less x y h = grind (arith, nat_tests)

place_new : (a b : Ordering) (shift : List ℕ) → AreDocs shift → (m n : ℕ) → n < length shift → ordering_then a (ordering_then b (nat_cmp m n)) ≡ Less
    → ordering_then a (ordering_then b (nat_cmp (get_or shift m 0) (get_or shift n 0))) ≡ Less
place_new Less b shift up m n l h = refl
place_new Greater b shift up m n l h = h
place_new Equal Less shift up m n l h = refl
place_new Equal Greater shift up m n l h = h
place_new Equal Equal shift up m n l h = less_new shift up m n (is_less m n h) l

now_rest : (shift : List ℕ) → AreDocs shift → (p : Post) (ps : List Post) → AllByRecursion (λ q. q.word < length shift) ps
    → AllByRecursion (λ q. by_place p q ≡ Less) ps → AllByRecursion (λ q. by_place (renumbered shift p) q ≡ Less) (map (renumbered shift) ps)
now_rest shift up p [] l h = tt
now_rest shift up p (q ∷ ps) l h = (place_new (nat_cmp p.doc q.doc) (nat_cmp p.pos q.pos) shift up p.word q.word l.0 h.0, now_rest shift up p ps l.1 h.1)

pub new_rises : (shift : List ℕ) → AreDocs shift → (ps : List Post) → AllByRecursion (λ q. q.word < length shift) ps → AreSorted ps → AreSorted (map (renumbered shift) ps)
unfolding IsStrictlySortedBy
new_rises shift up [] l h = tt
new_rises shift up (p ∷ ps) l h = (now_rest shift up p ps l.1 h.0, new_rises shift up ps l.1 h.1)

pub now_rises : (shift : List ℕ) (present : List Bool) → AreDocs shift → (ps : List Post) → All (λ q. q.word < length shift) ps → AreSorted ps
    → AreSorted (now_posts shift present ps)
now_rises shift present up ps l h =
    new_rises shift up (filter (is_there present) ps)
    (recursion_from_All (λ q. q.word < length shift) (filter (is_there present) ps) (All-filter (is_there present) (λ q. q.word < length shift) ps l))
    (IsStrictlySortedBy-filter by_place (is_there present) ps h)

less_doc : (p q : Post) (n : ℕ) → p.doc < n → n ≤ q.doc → by_place p q ≡ Less
less_doc p q n lt le = ap (λ o. ordering_then o (ordering_then (nat_cmp p.pos q.pos) (nat_cmp p.word q.word))) (Less-from_lt p.doc q.doc (omega (arith, lt, le)))

behind_rest : (n : ℕ) (p : Post) (xs ys : List Post) → p.doc < n → AllByRecursion (λ q. by_place p q ≡ Less) xs → AllByRecursion (λ q. n ≤ q.doc) ys
    → AllByRecursion (λ q. by_place p q ≡ Less) (xs ++ ys)
behind_rest n p [] ys lt h k = all_then (λ q. n ≤ q.doc) (λ q. by_place p q ≡ Less) (λ q le. less_doc p q n lt le) ys k
behind_rest n p (x ∷ xs) ys lt h k = (h.0, behind_rest n p xs ys lt h.1 k)

-- posts of earlier documents in front of posts of later ones
pub sorted_behind : (n : ℕ) (xs ys : List Post) → AreSorted xs → AreSorted ys → AllByRecursion (λ p. p.doc < n) xs → AllByRecursion (λ q. n ≤ q.doc) ys → AreSorted (xs ++ ys)
unfolding IsStrictlySortedBy
sorted_behind n [] ys up_x up_y a b = up_y
sorted_behind n (x ∷ xs) ys up_x up_y a b = (behind_rest n x xs ys a.0 up_x.0 b, sorted_behind n xs ys up_x.1 up_y a.1 b)

-- ---- blocks
pub take_map : {X Y : Type 0} (f : X → Y) (n : ℕ) (xs : List X) → take n (map f xs) ≡ map f (take n xs)
take_map f zero xs = refl
take_map f (suc n) [] = refl
take_map f (suc n) (x ∷ xs) = ap (λ l. f x ∷ l) (take_map f n xs)

pub drop_map : {X Y : Type 0} (f : X → Y) (n : ℕ) (xs : List X) → drop n (map f xs) ≡ map f (drop n xs)
drop_map f zero xs = refl
drop_map f (suc n) [] = refl
drop_map f (suc n) (x ∷ xs) = drop_map f n xs

pub flat_through : (f g : List Post → List Post) (bs : List (List Post)) → flat_map f (map g bs) ≡ flat_map (λ b. f (g b)) bs
flat_through f g [] = refl
flat_through f g (b ∷ bs) = ap (λ l. f (g b) ++ l) (flat_through f g bs)

pub flat_same : (f g : List Post → List Post) (bs : List (List Post)) → AllByRecursion (λ b. f b ≡ g b) bs → flat_map f bs ≡ flat_map g bs
flat_same f g [] h = refl
flat_same f g (b ∷ bs) h = ap₂ (λ x y. x ++ y) h.0 (flat_same f g bs h.1)

pub get_map : (f : List Post → List Post) → f [] ≡ [] → (bs : List (List Post)) (k : ℕ) → get_or (map f bs) k [] ≡ f (get_or bs k [])
get_map f none [] k = sym none
get_map f none (b ∷ bs) zero = refl
get_map f none (b ∷ bs) (suc k) = get_map f none bs k

-- the posts that a block has now are of documents of which it had some before
pub block_now : (shift : List ℕ) (present : List Bool) (P : ℕ → Type 0) (bs : List (List Post)) (k : ℕ) → All (λ p. P p.doc) (get_or bs k [])
    → All (λ p. P p.doc) (get_or (map (now_posts shift present) bs) k [])
block_now shift present P bs k h =
    subst (All (λ p. P p.doc)) (sym (get_map (now_posts shift present) refl bs k))
    (all_now shift present (λ p. P p.doc) (λ p. P p.doc) (get_or bs k []) (λ p e q. q) h)

-- what holds of all posts of blocks holds of those of some
pub flat_parts : (P : Post → Type 0) (bs : List (List Post)) → AllByRecursion P (flat_map (λ b. b) bs) → AllByRecursion (λ b. All P b) bs
flat_parts P [] h = tt
flat_parts P (b ∷ bs) h = (All-from_recursion P b (front b (flat_map (λ b. b) bs) h), flat_parts P bs (back b (flat_map (λ b. b) bs) h))
  where
    front : (xs ys : List Post) → AllByRecursion P (xs ++ ys) → AllByRecursion P xs
    front [] ys h = tt
    front (x ∷ xs) ys h = (h.0, front xs ys h.1)

    back : (xs ys : List Post) → AllByRecursion P (xs ++ ys) → AllByRecursion P ys
    back [] ys h = h
    back (x ∷ xs) ys h = back xs ys h.1

pub taken_parts : (Q : List Post → Type 0) (n : ℕ) (bs : List (List Post)) → AllByRecursion Q bs → AllByRecursion Q (take n bs)
taken_parts Q zero bs h = tt
taken_parts Q (suc n) [] h = tt
taken_parts Q (suc n) (b ∷ bs) h = (h.0, taken_parts Q n bs h.1)

pub dropped_parts : (Q : List Post → Type 0) (n : ℕ) (bs : List (List Post)) → AllByRecursion Q bs → AllByRecursion Q (drop n bs)
dropped_parts Q zero bs h = h
dropped_parts Q (suc n) [] h = tt
dropped_parts Q (suc n) (b ∷ bs) h = dropped_parts Q n bs h.1
