-- How far a union of lists has come.
--
--   posts_in lists, list_at     the posts of each list
--   flat lists                  all of them, list by list
--   left lists heads            how many posts aren't taken
--   IsMerged                    what is found of those that are
--   HasFront                    the list whose front is the least
--   front_is, none_left         the root names it, or no list has a front
--   merged_first, merged_more, merged_all      before the first post, behind one more, and behind the last
use Rattle.std.proofs.Common.{◌≡◌, ◌≢◌, ℕ, zero, suc, ◌+◌, ◌-◌, ◌*◌, ◌/◌, ◌%◌, ◌^◌, ◌<◌, ◌≤◌, ◌||◌, Bool, true, false, List, [], ◌∷◌, ◌++◌, length, map, get_or, set, take, replicate, cond, append-nil, Some, inl, inr, refl, sym, ◌∙◌, ap, subst, arith}
use Rattle.std.specs.Prelude.{All, flat_map, nat_eq, nat_le, nat_lt}
use Rattle.std.specs.List.{AllByRecursion, find, list_any}
use Rattle.std.specs.List.Sorted.{IsStrictlySortedBy}
use Rattle.std.specs.declared.cmp.Ordering.TheVariants.{Less}
use Rattle.std.proofs.lemmas.Grind.{flat_map-append}
use Rattle.std.proofs.lemmas.List.{take_more, length-map, get_or-map, get_or-replicate, get_or-set_other, get_or-set_same, get_or_default, length-append, length-set}
use Rattle.std.proofs.lemmas.List.Elements.{All-append, All-nil, All-push, All-weaker, recursion_from_All}
use Rattle.std.proofs.lemmas.List.Folds.{flat_map-map, list_any-append}
use Rattle.std.proofs.lemmas.Map.Keys.{Less-from_sorted}
use Rattle.std.proofs.lemmas.Bool.Decides.{nat_tests}
use Rattle.cs_base.specs.declared.content.doc.Post.{Post}
use Rattle.cs_base.specs.content.Orders.{by_place, AreSorted}
use Rattle.cs_base.proofs.OrdersLemmas.{by_place_total, Comes, comes_first, less-from_comes}
use Rattle.cs_cols.specs.declared.cols.Cols.{Cols}
use Rattle.cs_meet.specs.Filters.{IsUnion, shares_place}
use Rattle.cs_meet.specs.Fronts.{AreFronts, IsFrontAt, IsFrontNumber, IsNarrow, IsTree, place_number}
use Rattle.cs_meet.specs.declared.fronts.TheConstants.{MOST_LISTS, NO_FRONT, ROOM}

-- ---- lists of posts
abbrev pub posts_in : List Cols → List (List Post)
posts_in lists = map (λ c. c.posts) lists

pub list_at : (lists : List Cols) (k : ℕ) (l : Cols) → k < length lists → l ≡ get_or lists k l → get_or (posts_in lists) k [] ≡ l.posts
list_at lists k l within is = get_or-map (λ (c : Cols). c.posts) lists k l [] within ∙ ap (λ (c : Cols). c.posts) (sym is)

abbrev pub flat : List (List Post) → List Post
flat all = flat_map (λ l. l) all

flat_all : (P : Post → Type 0) (all : List (List Post)) → ((k : ℕ) → k < length all → All P (get_or all k [])) → All P (flat all)
flat_all P [] each = All-nil P
flat_all P (l ∷ all) each = All-append P l (flat all) (each 0 (omega arith)) (flat_all P all (λ k within. each (suc k) (omega (arith, within))))

-- the first post that passes
find_behind : (f : Post → Bool) (xs ys : List Post) → ((i : ℕ) (e : Post) → i < length xs → f (get_or xs i e) ≡ false) → find f (xs ++ ys) ≡ find f ys
find_behind f [] ys none = refl
find_behind f (x ∷ xs) ys none =
    ap (λ b. cond b (Some x) (find f (xs ++ ys))) (none 0 x (omega arith)) ∙ find_behind f xs ys (λ i e within. none (suc i) e (omega (arith, within)))

find_here : (f : Post → Bool) (xs ys : List Post) (h : ℕ) (p : Post) → h < length xs → p ≡ get_or xs h p → f p ≡ true
    → ((i : ℕ) (e : Post) → i < h → f (get_or xs i e) ≡ false) → find f (xs ++ ys) ≡ Some p
find_here f [] ys h p within is passes none = absurd (omega (arith, within))
find_here f (x ∷ xs) ys zero p within is passes none =
    ap (λ q. cond (f q) (Some q) (find f (xs ++ ys))) (sym is) ∙ ap (λ b. cond b (Some p) (find f (xs ++ ys))) passes
find_here f (x ∷ xs) ys (suc h) p within is passes none =
    ap (λ b. cond b (Some x) (find f (xs ++ ys))) (none 0 x (omega arith))
    ∙ find_here f xs ys h p (omega (arith, within)) is passes (λ i e below. none (suc i) e (omega (arith, below)))

find_flat : (f : Post → Bool) (all : List (List Post)) (k h : ℕ) (p : Post) → k < length all → h < length (get_or all k []) → p ≡ get_or (get_or all k []) h p → f p ≡ true
    → ((i : ℕ) (e : Post) → i < h → f (get_or (get_or all k []) i e) ≡ false)
    → ((j : ℕ) → j < k → (i : ℕ) (e : Post) → i < length (get_or all j []) → f (get_or (get_or all j []) i e) ≡ false) → find f (flat all) ≡ Some p
find_flat f [] k h p within lt is passes own others = absurd (omega (arith, within))
find_flat f (l ∷ all) zero h p within lt is passes own others = find_here f l (flat all) h p lt is passes own
find_flat f (l ∷ all) (suc k) h p within lt is passes own others =
    find_behind f l (flat all) (others 0 (omega arith)) ∙ find_flat f all k h p (omega (arith, within)) lt is passes own (λ j below. others (suc j) (omega (arith, below)))

-- ---- how many are left
abbrev pub left : List (List Post) → List ℕ → ℕ
left [] heads = 0
left (l ∷ all) [] = 0
left (l ∷ all) (h ∷ heads) = (length l - h) + left all heads

pub left_first : (all : List (List Post)) → left all (replicate (length all) 0) ≡ length (flat all)
left_first [] = refl
left_first (l ∷ all) = let rest = left_first all in let long = length-append l (flat all) in omega (arith, rest, long)

pub left_less : (all : List (List Post)) (heads : List ℕ) (k : ℕ) → length heads ≡ length all → k < length all → get_or heads k 0 < length (get_or all k [])
    → left all (set heads k (get_or heads k 0 + 1)) + 1 ≡ left all heads
left_less [] heads k even within more = absurd (omega (arith, within))
left_less (l ∷ all) [] k even within more = absurd (omega (arith, even))
left_less (l ∷ all) (h ∷ heads) zero even within more = omega (arith, more)
left_less (l ∷ all) (h ∷ heads) (suc k) even within more =
    let rest = left_less all heads k (omega (arith, even)) (omega (arith, within)) more in
    omega (arith, rest)

flat_in : (lists : List Cols) → flat (posts_in lists) ≡ flat_map (λ l. l.posts) lists
flat_in lists = flat_map-map (λ (l : List Post). l) (λ (c : Cols). c.posts) lists

pub room_first : (lists : List Cols) (heads : List ℕ) (rows room : ℕ) → heads ≡ replicate (length lists) 0 → rows ≡ length (flat_map (λ l. l.posts) lists) → rows ≤ room
    → left (posts_in lists) heads ≤ room
room_first lists heads rows room is count fits =
    let long : length (posts_in lists) ≡ length lists = length-map lists (λ (c : Cols). c.posts) in
    let all = left_first (posts_in lists) in
    let same : left (posts_in lists) heads ≡ length (flat_map (λ l. l.posts) lists) = ap (left (posts_in lists)) (is ∙ ap (λ n. replicate n 0) (sym long)) ∙ all ∙ ap length (flat_in lists) in
    omega (arith, same, count, fits)

-- how many posts the first lists have
pub rows_more : (lists : List Cols) (i : ℕ) (l : Cols) → i < length lists → l ≡ get_or lists i l
    → length (flat_map (λ c. c.posts) (take (i + 1) lists)) ≡ length (flat_map (λ c. c.posts) (take i lists)) + length l.posts
rows_more lists i l within is =
    let f : Cols → List Post = λ c. c.posts in
    ap (λ ls. length (flat_map f ls)) (take_more lists i l within ∙ ap (λ y. take i lists ++ y ∷ []) (sym is))
    ∙ ap length (flat_map-append f (take i lists) (l ∷ []) ∙ ap (λ ps. flat_map f (take i lists) ++ ps) (append-nil l.posts))
    ∙ length-append (flat_map f (take i lists)) l.posts

sorted_by_list : (lists : List Cols) → AllByRecursion (λ c. AreSorted c.posts) lists → (k : ℕ) → k < length lists → AreSorted (get_or (posts_in lists) k [])
sorted_by_list [] up k within = absurd (omega (arith, within))
sorted_by_list (l ∷ lists) up zero within = up.0
sorted_by_list (l ∷ lists) up (suc k) within = sorted_by_list lists up.1 k (omega (arith, within))

pub sorted_in : (lists : List Cols) → All (λ c. AreSorted c.posts) lists → (k : ℕ) → k < length lists → AreSorted (get_or (posts_in lists) k [])
sorted_in lists up k within = sorted_by_list lists (recursion_from_All (λ (c : Cols). AreSorted c.posts) lists up) k within

-- ---- numbers of places
less_numbers : (x y : Post) → IsNarrow x → IsNarrow y → place_number x < place_number y → Comes x y
less_numbers x y nx ny h =
    let xp = nx.pos in
    let xw = nx.word in
    let yp = ny.pos in
    let yw = ny.word in
    elim (nat_lt x.doc y.doc) as (λ t. nat_lt x.doc y.doc ≡ t → Comes x y) [
      | true ↦ λ t. inl (grind (arith, nat_tests))
      | false ↦ λ t.
          let on : y.doc ≤ x.doc = grind (arith, nat_tests) in
          let doc : x.doc ≡ y.doc = omega (arith, h, on, xp, xw, yp, yw) in
          elim (nat_lt x.pos y.pos) as (λ u. nat_lt x.pos y.pos ≡ u → Comes x y) [
            | true ↦ λ u. inr (doc, inl (grind (arith, nat_tests)))
            | false ↦ λ u.
                let down : y.pos ≤ x.pos = grind (arith, nat_tests) in
                let pos : x.pos ≡ y.pos = omega (arith, h, doc, down, xw, yw) in
                inr (doc, inr (pos, omega (arith, h, doc, pos)))
          ] refl
    ] refl

numbers_less : (x y : Post) → IsNarrow x → IsNarrow y → Comes x y → place_number x < place_number y
numbers_less x y nx ny (inl doc) = let xp = nx.pos in let xw = nx.word in omega (arith, doc, xp, xw)
numbers_less x y nx ny (inr (doc, inl pos)) = let xw = nx.word in omega (arith, doc, pos, xw)
numbers_less x y nx ny (inr (doc, inr (pos, word))) = omega (arith, doc, pos, word)

same_place : (x y : Post) → IsNarrow x → IsNarrow y → place_number x ≡ place_number y → shares_place x y ≡ true
same_place x y nx ny h =
    let xp = nx.pos in
    let xw = nx.word in
    let yp = ny.pos in
    let yw = ny.word in
    let doc : x.doc ≡ y.doc = omega (arith, h, xp, xw, yp, yw) in
    let pos : x.pos ≡ y.pos = omega (arith, h, doc, xw, yw) in
    let word : x.word ≡ y.word = omega (arith, h, doc, pos) in
    grind (arith, nat_tests, doc, pos, word)

comes_elsewhere : (x r : Post) → Comes x r → shares_place r x ≡ false
comes_elsewhere x r h = grind (arith, nat_tests)

comes_later : (x r : Post) → Comes r x → shares_place r x ≡ false
comes_later x r h = grind (arith, nat_tests)

-- ---- the tree
-- a list whose front the root is
pub record HasRoot (n : ℕ) (tree : List ℕ) : Type 0 where
  pub list : ℕ
  pub within : list < n
  pub same : get_or tree (n + list) 0 ≡ get_or tree 1 0

module _ (n : ℕ) (tree : List ℕ) (is : IsTree n tree) where
  first_below : (h : ℕ) → 1 ≤ h → h < n → get_or tree h 0 ≤ get_or tree (2 * h) 0
  first_below h some within = let least = is.least h some within in omega (arith, least)

  second_below : (h : ℕ) → 1 ≤ h → h < n → get_or tree h 0 ≤ get_or tree (2 * h + 1) 0
  second_below h some within = let least = is.least h some within in omega (arith, least)

  root_to : (steps i : ℕ) → i ≤ steps → 1 ≤ i → i < 2 * n → get_or tree 1 0 ≤ get_or tree i 0
  root_to zero i few some within = absurd (omega (arith, few, some))
  root_to (suc steps) i few some within =
      elim (nat_lt 1 i) as (λ t. nat_lt 1 i ≡ t → get_or tree 1 0 ≤ get_or tree i 0) [
        | true ↦ λ t.
            let more : 1 < i = grind (arith, nat_tests) in
            let h = i / 2 in
            let up : get_or tree 1 0 ≤ get_or tree h 0 = root_to steps h (omega (arith, few, more)) (omega (arith, more)) (omega (arith, within, more)) in
            elim (nat_eq (2 * h) i) as (λ u. nat_eq (2 * h) i ≡ u → get_or tree 1 0 ≤ get_or tree i 0) [
              | true ↦ λ u.
                  let even : 2 * h ≡ i = grind (arith, nat_tests) in
                  let down = first_below h (omega (arith, more)) (omega (arith, within, even)) in
                  subst (λ m. get_or tree 1 0 ≤ get_or tree m 0) even (omega (arith, up, down))
              | false ↦ λ u.
                  let other : 2 * h ≢ i = grind (arith, nat_tests) in
                  let odd : 2 * h + 1 ≡ i = omega (arith, other) in
                  let down = second_below h (omega (arith, more)) (omega (arith, within, odd)) in
                  subst (λ m. get_or tree 1 0 ≤ get_or tree m 0) odd (omega (arith, up, down))
            ] refl
        | false ↦ λ t.
            let one : 1 ≡ i = grind (arith, nat_tests) in
            subst (λ m. get_or tree 1 0 ≤ get_or tree m 0) one (omega arith)
      ] refl

  pub root_least : (k : ℕ) → k < n → get_or tree 1 0 ≤ get_or tree (n + k) 0
  root_least k within = root_to (n + k) (n + k) (omega arith) (omega (arith, within)) (omega (arith, within))

  root_from : (steps i : ℕ) → 2 * n ≤ i + steps → 1 ≤ i → i < 2 * n → get_or tree i 0 ≡ get_or tree 1 0 → HasRoot n tree
  root_from zero i few some within same = absurd (omega (arith, few, within))
  root_from (suc steps) i few some within same =
      elim (nat_lt i n) as (λ t. nat_lt i n ≡ t → HasRoot n tree) [
        | true ↦ λ t.
            let inner : i < n = grind (arith, nat_tests) in
            let least = is.least i some inner in
            elim (nat_le (get_or tree (2 * i) 0) (get_or tree (2 * i + 1) 0)) as (λ u. nat_le (get_or tree (2 * i) 0) (get_or tree (2 * i + 1) 0) ≡ u → HasRoot n tree) [
              | true ↦ λ u.
                  let up : get_or tree (2 * i) 0 ≤ get_or tree (2 * i + 1) 0 = grind (arith, nat_tests) in
                  root_from steps (2 * i) (omega (arith, few, some)) (omega (arith, some)) (omega (arith, inner)) (omega (arith, least, up, same))
              | false ↦ λ u.
                  let down : get_or tree (2 * i + 1) 0 < get_or tree (2 * i) 0 = grind (arith, nat_tests) in
                  root_from steps (2 * i + 1) (omega (arith, few, some)) (omega arith) (omega (arith, inner)) (omega (arith, least, down, same))
            ] refl
        | false ↦ λ t.
            let outer : n ≤ i = grind (arith, nat_tests) in
            let at : i ≡ n + (i - n) = omega (arith, outer) in
            record { list = i - n; within = omega (arith, outer, within); same = subst (λ m. get_or tree m 0 ≡ get_or tree 1 0) at same }
      ] refl

  pub has_root : 1 ≤ n → HasRoot n tree
  has_root some = root_from (2 * n) 1 (omega arith) (omega arith) (omega (arith, some)) refl

-- ---- the least front
-- list number k has a front, and the root is its number
pub record HasFront (all : List (List Post)) (head : ℕ → ℕ) (tree : List ℕ) (k : ℕ) : Type 0 where
  pub more : head k < length (get_or all k [])
  pub key : (e : Post) → IsFrontNumber (get_or (get_or all k []) (head k) e) k (get_or tree 1 0)

module _ (n : ℕ) (all : List (List Post)) (head : ℕ → ℕ) (tree : List ℕ) (is : IsTree n tree) (fronts : AreFronts n all head tree) (some : 1 ≤ n)
    (few : n ≤ MOST_LISTS) where
  key_list : (p : Post) (k key : ℕ) → k < n → IsFrontNumber p k key → key % ROOM ≡ k
  key_list p k key within h = let is_key = h.is in omega (arith, few, within, is_key)

  key_low : (p : Post) (k key : ℕ) → k < n → IsFrontNumber p k key → key < NO_FRONT
  key_low p k key within h =
      let is_key = h.is in
      let doc = h.narrow.doc in
      let pos = h.narrow.pos in
      let word = h.narrow.word in
      omega (arith, few, within, is_key, doc, pos, word)

  front_by : (root : HasRoot n tree) (number : ℕ) → number ≡ get_or tree 1 0 % ROOM → number < n → HasFront all head tree number
  front_by root number is_number within =
      let k = root.list in
      let front = fronts k root.within in
      elim (nat_lt (head k) (length (get_or all k []))) as (λ t. nat_lt (head k) (length (get_or all k [])) ≡ t → HasFront all head tree number) [
        | true ↦ λ t.
            let more : head k < length (get_or all k []) = grind (arith, nat_tests) in
            let blank : Post = record { doc = 0; word = 0; pos = 0; score = 0 } in
            let key : (e : Post) → IsFrontNumber (get_or (get_or all k []) (head k) e) k (get_or tree 1 0) =
            λ e. subst (IsFrontNumber (get_or (get_or all k []) (head k) e) k) root.same (front.there e more) in
            let same : k ≡ number = sym (is_number ∙ key_list _ k _ root.within (key blank)) in
            subst (HasFront all head tree) same (record { more = more; key = key })
        | false ↦ λ t.
            let past : get_or tree (n + k) 0 ≡ NO_FRONT = front.past (grind (arith, nat_tests)) in
            let same = root.same in
            absurd (omega (arith, past, same, is_number, within, few))
      ] refl

  pub front_is : (number : ℕ) → number ≡ get_or tree 1 0 % ROOM → number < n → HasFront all head tree number
  front_is number is_number within = front_by (has_root n tree is some) number is_number within

  none_at_root : (root : HasRoot n tree) (number : ℕ) → number ≡ get_or tree 1 0 % ROOM → n ≤ number → get_or tree 1 0 ≡ NO_FRONT
  none_at_root root number is_number past =
      let k = root.list in
      let front = fronts k root.within in
      elim (nat_lt (head k) (length (get_or all k []))) as (λ t. nat_lt (head k) (length (get_or all k [])) ≡ t → get_or tree 1 0 ≡ NO_FRONT) [
        | true ↦ λ t.
            let blank : Post = record { doc = 0; word = 0; pos = 0; score = 0 } in
            let key = subst (IsFrontNumber (get_or (get_or all k []) (head k) blank) k) root.same (front.there blank (grind (arith, nat_tests))) in
            let same = key_list _ k _ root.within key in
            let inside = root.within in
            absurd (omega (arith, same, is_number, past, inside))
        | false ↦ λ t. sym root.same ∙ front.past (grind (arith, nat_tests))
      ] refl

  pub none_left : (number : ℕ) → number ≡ get_or tree 1 0 % ROOM → n ≤ number → (k : ℕ) → k < n → length (get_or all k []) ≤ head k
  none_left number is_number past k within =
      elim (nat_lt (head k) (length (get_or all k []))) as (λ t. nat_lt (head k) (length (get_or all k [])) ≡ t → length (get_or all k []) ≤ head k) [
        | true ↦ λ t.
            let blank : Post = record { doc = 0; word = 0; pos = 0; score = 0 } in
            let low = key_low _ k _ within ((fronts k within).there blank (grind (arith, nat_tests))) in
            let up = root_least n tree is k within in
            let none = none_at_root (has_root n tree is some) number is_number past in
            absurd (omega (arith, low, up, none))
        | false ↦ λ t. grind (arith, nat_tests)
      ] refl

-- ---- posts that are found
or_true : (b : Bool) → (b || true) ≡ true
or_true true = refl
or_true false = refl

any_last : (f : Post → Bool) (posts : List Post) (p : Post) → f p ≡ true → list_any f (posts ++ p ∷ []) ≡ true
any_last f [] p h = ap (λ b. b || false) h
any_last f (x ∷ posts) p h = ap (λ b. f x || b) (any_last f posts p h) ∙ or_true (f x)

pub nothing_sorted : AreSorted []
unfolding IsStrictlySortedBy
nothing_sorted = tt

all_pushed : (P : Post → Type 0) (posts : List Post) (p : Post) → AllByRecursion P posts → P p → AllByRecursion P (posts ++ p ∷ [])
all_pushed P [] p h last = (last, tt)
all_pushed P (x ∷ posts) p h last = (h.0, all_pushed P posts p h.1 last)

sorted_pushed : (posts : List Post) (p : Post) → AreSorted posts → AllByRecursion (λ x. by_place x p ≡ Less) posts → AreSorted (posts ++ p ∷ [])
unfolding IsStrictlySortedBy
sorted_pushed [] p up less = (tt, tt)
sorted_pushed (x ∷ posts) p up less = (all_pushed (λ y. by_place x y ≡ Less) posts p up.0 less.0, sorted_pushed posts p up.1 less.1)

-- of the posts of all lists, those that are found are at places before number `next`
pub record IsFound (all : List (List Post)) (posts : List Post) (next : ℕ) : Type 0 where
  pub sorted : AreSorted posts
  pub first : All (λ p. find (shares_place p) (flat all) ≡ Some p) posts
  pub below : All (λ p. IsNarrow p × (place_number p < next)) posts
  pub reached : (p : Post) → IsNarrow p → place_number p + 1 ≡ next → list_any (shares_place p) posts ≡ true

module _ (all : List (List Post)) (posts : List Post) (next : ℕ) (found : IsFound all posts next) (row : Post) (narrow : IsNarrow row)
    (has : next ≤ place_number row → find (shares_place row) (flat all) ≡ Some row) (near : next ≤ place_number row + 1) where
  abbrev end : ℕ
  end = place_number row + 1

  found_more : next ≤ place_number row → IsFound all (posts ++ row ∷ []) end
  found_more on = record {
    sorted = sorted_pushed posts row found.sorted (recursion_from_All (λ p. by_place p row ≡ Less) posts
        (All-weaker (λ p. IsNarrow p × (place_number p < next)) (λ p. by_place p row ≡ Less)
        (λ p h. let below = h.1 in less-from_comes p row (less_numbers p row h.0 narrow (omega (arith, below, on)))) posts found.below));
    first = All-push (λ p. find (shares_place p) (flat all) ≡ Some p) posts row found.first (has on);
    below = All-push (λ p. IsNarrow p × (place_number p < end)) posts row
        (All-weaker (λ p. IsNarrow p × (place_number p < next)) (λ p. IsNarrow p × (place_number p < end))
        (λ p h. let below = h.1 in (h.0, omega (arith, below, near))) posts found.below) (narrow, omega arith);
    reached = λ p own is. any_last (shares_place p) posts row (same_place p row own narrow (omega (arith, is)));
  }

  found_same : place_number row < next → IsFound all posts end
  found_same below =
      let same : next ≡ end = omega (arith, below, near) in
      subst (IsFound all posts) same found

  pub found_next : (t : Bool) → t ≡ nat_le next (place_number row) → IsFound all (cond t (posts ++ row ∷ []) posts) end
  found_next true is = found_more (grind (arith, nat_tests))
  found_next false is = found_same (grind (arith, nat_tests))

  pub found_keeps : (t : Bool) (p : Post) → list_any (shares_place p) posts ≡ true → list_any (shares_place p) (cond t (posts ++ row ∷ []) posts) ≡ true
  found_keeps true p h = list_any-append (shares_place p) posts (row ∷ []) ∙ ap (λ b. b || list_any (shares_place p) (row ∷ [])) h
  found_keeps false p h = h

-- ---- the union on its way
-- so many posts of each list are taken: each of them shares its place with one that is found, and no front comes before place number next - 1
pub record IsMerged (n : ℕ) (all : List (List Post)) (heads tree : List ℕ) (posts : List Post) (next : ℕ) : Type 0 where
  pub even : length heads ≡ n
  pub least : IsTree n tree
  pub fronts : AreFronts n all (λ k. get_or heads k 0) tree
  pub found : IsFound all posts next
  pub taken : (k : ℕ) → k < n → (i : ℕ) (e : Post) → i < get_or heads k 0 → list_any (shares_place (get_or (get_or all k []) i e)) posts ≡ true
  pub passed : (k : ℕ) → k < n → (i : ℕ) (e : Post) → i < get_or heads k 0
      → IsNarrow (get_or (get_or all k []) i e) × (place_number (get_or (get_or all k []) i e) < next)
  pub ahead : (k : ℕ) → k < n → (e : Post) → get_or heads k 0 < length (get_or all k []) → next ≤ place_number (get_or (get_or all k []) (get_or heads k 0) e) + 1

pub merged_first : (n : ℕ) (all : List (List Post)) (heads tree : List ℕ) (posts : List Post) → heads ≡ replicate n 0 → length heads ≡ n → IsTree n tree
    → AreFronts n all (λ k. 0) tree → posts ≡ [] → IsMerged n all heads tree posts 0
merged_first n all heads tree posts is even least fronts none =
    let zero_at : (k : ℕ) → k < n → get_or heads k 0 ≡ 0 = λ k within. ap (λ hs. get_or hs k 0) is ∙ get_or-replicate n k 0 0 within in
    subst (λ (ps : List Post). IsMerged n all heads tree ps 0) (sym none) (record {
      even = even;
      least = least;
      fronts = λ k within. subst (λ h. IsFrontAt (get_or all k []) h k (get_or tree (n + k) 0)) (sym (zero_at k within)) (fronts k within);
      found = record {
        sorted = nothing_sorted;
        first = All-nil (λ p. find (shares_place p) (flat all) ≡ Some p);
        below = All-nil (λ p. IsNarrow p × (place_number p < 0));
        reached = λ p narrow is. absurd (omega (arith, is));
      };
      taken = λ k within i e lt. absurd (let zero_is = zero_at k within in omega (arith, lt, zero_is));
      passed = λ k within i e lt. absurd (let zero_is = zero_at k within in omega (arith, lt, zero_is));
      ahead = λ k within e more. omega arith;
    })

module _ (n : ℕ) (all : List (List Post)) (heads tree : List ℕ) (posts : List Post) (next : ℕ) (merged : IsMerged n all heads tree posts next)
    (long : n ≡ length all) (few : n ≤ MOST_LISTS) (up : (k : ℕ) → k < n → AreSorted (get_or all k [])) (number : ℕ) (within : number < n)
    (front : HasFront all (λ k. get_or heads k 0) tree number) (row : Post) (is_row : row ≡ get_or (get_or all number []) (get_or heads number 0) row) where
  abbrev head : ℕ
  head = get_or heads number 0

  abbrev list : List Post
  list = get_or all number []

  abbrev heads_on : List ℕ
  heads_on = set heads number (head + 1)

  -- what holds of the number of posts that are taken of this list, and of those of the others
  by_list : (P : ℕ → ℕ → Type 0) → P number (head + 1) → ((k : ℕ) → k ≢ number → k < n → P k (get_or heads k 0)) → (k : ℕ) → k < n → P k (get_or heads_on k 0)
  by_list P own others k k_within =
      elim (nat_eq k number) as (λ t. nat_eq k number ≡ t → P k (get_or heads_on k 0)) [
        | true ↦ λ t.
            let same : number ≡ k = grind (arith, nat_tests) in
            let even = merged.even in
            subst (λ j. P j (get_or heads_on j 0)) same
            (subst (P number) (sym (get_or-set_same heads number (head + 1) 0 (omega (arith, even, within)))) own)
        | false ↦ λ t.
            let apart : k ≢ number = grind (arith, nat_tests) in
            subst (P k) (sym (get_or-set_other heads number k (head + 1) 0 apart)) (others k apart k_within)
      ] refl

  key : IsFrontNumber row number (get_or tree 1 0)
  key = subst (λ p. IsFrontNumber p number (get_or tree 1 0)) (sym is_row) (front.key row)

  row_at : (e : Post) → row ≡ get_or list head e
  row_at e = is_row ∙ get_or_default list head row e front.more

  near_row : next ≤ place_number row + 1
  near_row = subst (λ p. next ≤ place_number p + 1) (sym is_row) (merged.ahead number within row front.more)

  -- no front comes before the row
  no_less : (k : ℕ) → k < n → (e : Post) → get_or heads k 0 < length (get_or all k []) → place_number row ≤ place_number (get_or (get_or all k []) (get_or heads k 0) e)
  no_less k k_within e more =
      let own = key.is in
      let other = ((merged.fronts k k_within).there e more).is in
      let least = root_least n tree merged.least k k_within in
      omega (arith, own, other, least, within, k_within, few)

  -- a front of an earlier list comes behind it
  later_front : (k : ℕ) → k < number → (e : Post) → get_or heads k 0 < length (get_or all k []) → Comes row (get_or (get_or all k []) (get_or heads k 0) e)
  later_front k below e more =
      let k_within : k < n = omega (arith, below, within) in
      let own = key.is in
      let there = (merged.fronts k k_within).there e more in
      let other = there.is in
      let least = root_least n tree merged.least k k_within in
      less_numbers row (get_or (get_or all k []) (get_or heads k 0) e) key.narrow there.narrow (omega (arith, own, other, least, within, below, few))

  -- no post of an earlier list has its place, where none was reached yet
  none_before : next ≤ place_number row → (k : ℕ) → k < number → (i : ℕ) (e : Post) → i < length (get_or all k []) → shares_place row (get_or (get_or all k []) i e) ≡ false
  none_before on k below i e i_within =
      let k_within : k < n = omega (arith, below, within) in
      let l = get_or all k [] in
      let h = get_or heads k 0 in
      elim (nat_lt i h) as (λ t. nat_lt i h ≡ t → shares_place row (get_or l i e) ≡ false) [
        | true ↦ λ t.
            let old = merged.passed k k_within i e (grind (arith, nat_tests)) in
            let less = old.1 in
            comes_elsewhere (get_or l i e) row (less_numbers (get_or l i e) row old.0 key.narrow (omega (arith, less, on)))
        | false ↦ λ t.
            let from : h ≤ i = grind (arith, nat_tests) in
            let front_row = later_front k below e (omega (arith, from, i_within)) in
            elim (nat_lt h i) as (λ u. nat_lt h i ≡ u → shares_place row (get_or l i e) ≡ false) [
              | true ↦ λ u.
                  let next_row = Less-from_sorted by_place l h i e (up k k_within) (grind (arith, nat_tests)) i_within in
                  comes_later (get_or l i e) row (comes_first row (get_or l i e)
                  (by_place_total.trans row (get_or l h e) (get_or l i e) (less-from_comes row (get_or l h e) front_row) next_row))
              | false ↦ λ u.
                  let same : h ≡ i = grind (arith, nat_tests) in
                  subst (λ j. shares_place row (get_or l j e) ≡ false) same (comes_later (get_or l h e) row front_row)
            ] refl
      ] refl

  none_own : (i : ℕ) (e : Post) → i < head → shares_place row (get_or list i e) ≡ false
  none_own i e below =
      let less = subst (λ p. by_place (get_or list i e) p ≡ Less) (sym (row_at e)) (Less-from_sorted by_place list i head e (up number within) below front.more) in
      comes_elsewhere (get_or list i e) row (comes_first (get_or list i e) row less)

  is_first : next ≤ place_number row → find (shares_place row) (flat all) ≡ Some row
  is_first on = find_flat (shares_place row) all number head row (omega (arith, within, long)) front.more is_row (same_place row row key.narrow key.narrow refl) none_own (none_before on)

  pub place_is : (place : ℕ) → place ≡ get_or tree 1 0 / ROOM → place ≡ place_number row
  place_is place is = let own = key.is in omega (arith, is, own, within, few)

  module _ (now : List ℕ) (put : ℕ) (now_tree : IsTree n now) (put_is : IsFrontAt list (head + 1) number put) (put_at : get_or now (n + number) 0 ≡ put)
      (others : (k : ℕ) → k < n → k ≢ number → get_or now (n + k) 0 ≡ get_or tree (n + k) 0) where
    fronts_on : AreFronts n all (λ k. get_or heads_on k 0) now
    fronts_on = by_list (λ k h. IsFrontAt (get_or all k []) h k (get_or now (n + k) 0))
        (subst (IsFrontAt list (head + 1) number) (sym put_at) put_is)
        (λ k apart k_within. subst (IsFrontAt (get_or all k []) (get_or heads k 0) k) (sym (others k k_within apart)) (merged.fronts k k_within))

    ahead_on : (k : ℕ) → k < n → (e : Post) → get_or heads_on k 0 < length (get_or all k []) → place_number row + 1 ≤ place_number (get_or (get_or all k []) (get_or heads_on k 0) e) + 1
    ahead_on = by_list (λ k h. (e : Post) → h < length (get_or all k []) → place_number row + 1 ≤ place_number (get_or (get_or all k []) h e) + 1)
        (λ e more.
        let first = Less-from_sorted by_place list head (head + 1) e (up number within) (omega arith) more in
        let less = subst (λ p. by_place p (get_or list (head + 1) e) ≡ Less) (sym (row_at e)) first in
        let less_number = numbers_less row (get_or list (head + 1) e) key.narrow (put_is.there e more).narrow (comes_first row (get_or list (head + 1) e) less) in
        omega (arith, less_number))
        (λ k apart k_within e more. let up_to = no_less k k_within e more in omega (arith, up_to))

    pub merged_more : (t : Bool) (place : ℕ) → place ≡ get_or tree 1 0 / ROOM → t ≡ nat_le next place
        → IsMerged n all heads_on now (cond t (posts ++ row ∷ []) posts) (place + 1)
    merged_more t place at tested =
        let same = place_is place at in
        let found = found_next all posts next merged.found row key.narrow is_first near_row t (tested ∙ ap (nat_le next) same) in
        let keeps = found_keeps all posts next merged.found row key.narrow is_first near_row t in
        subst (λ m. IsMerged n all heads_on now (cond t (posts ++ row ∷ []) posts) (m + 1)) (sym same) (record {
          even = length-set heads number (head + 1) ∙ merged.even;
          least = now_tree;
          fronts = fronts_on;
          found = found;
          taken = by_list (λ k h. (i : ℕ) (e : Post) → i < h → list_any (shares_place (get_or (get_or all k []) i e)) (cond t (posts ++ row ∷ []) posts) ≡ true)
              (λ i e lt. elim (nat_lt i head) as (λ u. nat_lt i head ≡ u → list_any (shares_place (get_or list i e)) (cond t (posts ++ row ∷ []) posts) ≡ true) [
                | true ↦ λ u. keeps (get_or list i e) (merged.taken number within i e (grind (arith, nat_tests)))
                | false ↦ λ u.
                    let here : head ≡ i = grind (arith, nat_tests) in
                    let own = found.reached row key.narrow refl in
                    subst (λ p. list_any (shares_place p) (cond t (posts ++ row ∷ []) posts) ≡ true) (row_at e ∙ ap (λ j. get_or list j e) here) own
              ] refl)
              (λ k apart k_within i e lt. keeps (get_or (get_or all k []) i e) (merged.taken k k_within i e lt));
          passed = by_list (λ k h. (i : ℕ) (e : Post) → i < h → IsNarrow (get_or (get_or all k []) i e) × (place_number (get_or (get_or all k []) i e) < place_number row + 1))
              (λ i e lt. elim (nat_lt i head) as (λ u. nat_lt i head ≡ u → IsNarrow (get_or list i e) × (place_number (get_or list i e) < place_number row + 1)) [
                | true ↦ λ u.
                    let old = merged.passed number within i e (grind (arith, nat_tests)) in
                    let less = old.1 in
                    (old.0, omega (arith, less, near_row))
                | false ↦ λ u.
                    let here : head ≡ i = grind (arith, nat_tests) in
                    subst (λ p. IsNarrow p × (place_number p < place_number row + 1)) (row_at e ∙ ap (λ j. get_or list j e) here) (key.narrow, omega arith)
              ] refl)
              (λ k apart k_within i e lt.
              let old = merged.passed k k_within i e lt in
              let less = old.1 in
              (old.0, omega (arith, less, near_row)));
          ahead = ahead_on;
        })

pub merged_all : (n : ℕ) (all : List (List Post)) (heads tree : List ℕ) (posts : List Post) (next : ℕ) → IsMerged n all heads tree posts next → n ≡ length all
    → ((k : ℕ) → k < n → length (get_or all k []) ≤ get_or heads k 0) → IsUnion (flat all) posts
merged_all n all heads tree posts next merged long past = record {
  first = merged.found.first;
  placed = flat_all (λ r. list_any (shares_place r) posts ≡ true) all (λ k within i e lt.
      let k_within : k < n = omega (arith, within, long) in
      let behind = past k k_within in
      merged.taken k k_within i e (omega (arith, lt, behind)));
}

-- ---- the same by what the code has read
module _ (lists : List Cols) (heads tree : List ℕ) (posts : List Post) (next : ℕ) (merged : IsMerged (length lists) (posts_in lists) heads tree posts next)
    (few : length lists ≤ MOST_LISTS) (number : ℕ) (is_number : number ≡ get_or tree 1 0 % ROOM) where
  long : length lists ≡ length (posts_in lists)
  long = sym (length-map lists (λ (c : Cols). c.posts))

  pub merged_end : 1 ≤ length lists → length lists ≤ number → IsUnion (flat_map (λ l. l.posts) lists) posts
  merged_end some past =
      subst (λ ps. IsUnion ps posts) (flat_in lists)
      (merged_all (length lists) (posts_in lists) heads tree posts next merged long
      (none_left (length lists) (posts_in lists) (λ k. get_or heads k 0) tree merged.least merged.fronts some few number is_number past))

  module _ (within : number < length lists) (l : Cols) (is_l : l ≡ get_or lists number l) (head : ℕ) (is_head : head ≡ get_or heads number head) where
    here : HasFront (posts_in lists) (λ k. get_or heads k 0) tree number
    here = front_is (length lists) (posts_in lists) (λ k. get_or heads k 0) tree merged.least merged.fronts (omega (arith, within)) few number is_number within

    l_at : get_or (posts_in lists) number [] ≡ l.posts
    l_at = list_at lists number l within is_l

    head_at : get_or heads number 0 ≡ head
    head_at = let even = merged.even in sym (is_head ∙ get_or_default heads number head 0 (omega (arith, within, even)))

    pub head_within : head < length l.posts
    head_within =
        let more = here.more in
        let same = ap length l_at in
        omega (arith, more, same, head_at)

    pub head_small : head < 2 ^ 63
    head_small =
        let small = (merged.fronts number within).small in
        let same = ap length l_at in
        omega (arith, small, same, head_within)

    pub left_next : left (posts_in lists) (set heads number (head + 1)) + 1 ≡ left (posts_in lists) heads
    left_next = subst (λ h. left (posts_in lists) (set heads number (h + 1)) + 1 ≡ left (posts_in lists) heads) head_at
        (left_less (posts_in lists) heads number (merged.even ∙ long) (omega (arith, within, long)) here.more)

    pub merged_next : All (λ c. AreSorted c.posts) lists → (row : Post) → row ≡ get_or l.posts head row → (root place : ℕ) → root ≡ get_or tree 1 root → place ≡ root / ROOM
        → (again : Cols) → again ≡ get_or lists number again → (now : List ℕ) (put : ℕ) → IsTree (length lists) now → IsFrontAt again.posts (head + 1) number put
        → get_or now (length lists + number) 0 ≡ put
        → ((k : ℕ) → k < length lists → k ≢ number → get_or now (length lists + k) 0 ≡ get_or tree (length lists + k) 0)
        → IsMerged (length lists) (posts_in lists) (set heads number (head + 1)) now (cond (nat_le next place) (posts ++ row ∷ []) posts) (place + 1)
    merged_next up row is_row root place is_root is_place again is_again now put now_tree put_is put_at others =
        let len = merged.least.len in
        let root_at : root ≡ get_or tree 1 0 = is_root ∙ get_or_default tree 1 root 0 (omega (arith, len, within)) in
        let row_is : row ≡ get_or (get_or (posts_in lists) number []) (get_or heads number 0) row =
        is_row ∙ ap (λ ps. get_or ps head row) (sym l_at) ∙ ap (λ h. get_or (get_or (posts_in lists) number []) h row) (sym head_at) in
        let put_front : IsFrontAt (get_or (posts_in lists) number []) (get_or heads number 0 + 1) number put =
        subst (λ h. IsFrontAt (get_or (posts_in lists) number []) (h + 1) number put) (sym head_at)
        (subst (λ ps. IsFrontAt ps (head + 1) number put) (sym (list_at lists number again within is_again)) put_is) in
        subst (λ h. IsMerged (length lists) (posts_in lists) (set heads number (h + 1)) now (cond (nat_le next place) (posts ++ row ∷ []) posts) (place + 1)) head_at
        (merged_more (length lists) (posts_in lists) heads tree posts next merged long few (sorted_in lists up) number within here row row_is now put now_tree put_front put_at
        others (nat_le next place) place (is_place ∙ ap (λ r. r / ROOM) root_at) refl)
