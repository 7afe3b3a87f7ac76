-- Rows of several lists brought into one order.
--
--   of_members          what holds of each row of a list holds of those that are among them
--   ordered_itself      rows in order, brought into order
--   ordered_none        no rows
--   union_ordered       a union in order
--   flat_one, flat_more, lists_within     the rows of a list, and of one more; of lists in range
--   of_none, of_one, of_popped, none_popped     of so many lists
--   ListsSoFar          the rows of some lists stand for those of the first chains
--   lists_begin, lists_go_on, lists_end     before the first chain, behind one more, and behind the last
use Rattle.std.proofs.Common.{◌≡◌, ℕ, suc, ◌+◌, ◌-◌, ◌<◌, ◌≤◌, Bool, true, false, true≢false, cond, Option, Some, None, List, [], ◌∷◌, ◌++◌, length, map, take, get_or, refl, sym, ap, ap₂, subst, ◌∙◌, append-nil}
use Rattle.std.proofs.Common.{arith, length-take}
use Rattle.std.specs.Prelude.{flat_map}
use Rattle.std.specs.List.{All, AllByRecursion, Any, Contains, find, list_any}
use Rattle.std.specs.List.Sorted.{IsStrictlySortedBy}
use Rattle.std.specs.Ordering.{eq_by_cmp}
use Rattle.std.proofs.lemmas.Grind.{flat_map-append}
use Rattle.std.proofs.lemmas.List.{length-append, map-append, take_all, take_more}
use Rattle.std.proofs.lemmas.List.Elements.{All-append, All-contains, All-nil, All-weaker, Contains-append_left, Contains-append_right, Contains-get_or}
use Rattle.std.proofs.lemmas.List.Elements.{recursion_from_All}
use Rattle.std.proofs.lemmas.List.Folds.{Any-from_list_any, list_any_at}
use Rattle.cs_base.specs.content.Orders.{AreSorted, by_row}
use Rattle.cs_base.specs.declared.content.doc.Post.{Post}
use Rattle.cs_base.specs.declared.content.doc.Row.{Row}
use Rattle.cs_base.specs.declared.content.query.Chain.{Chain}
use Rattle.cs_base.specs.declared.content.query.Part.{Part, out-Part}
use Rattle.cs_base.proofs.ListsLemmas.{any_through}
use Rattle.cs_base.proofs.MembersLemmas.{all_then, members_are}
use Rattle.cs_base.proofs.OrdersLemmas.{by_row_exact, by_row_total}
use Rattle.cs_cols.specs.declared.cols.Cols.{Cols}
use Rattle.cs_meet.specs.Filters.{IsUnion, shares_place}
use Rattle.cs_model.specs.Answers.{PartRows, rows_of_chain, rows_of_part, union_of}
use Rattle.cs_model.specs.Corpus.{Corpus}
use Rattle.cs_model_index.specs.Numbered.{row_of, rows_at}
use Rattle.cs_file.specs.Indexes.{IndexView}
use Rattle.cs_rows.specs.IndexReading.{AreWithin, HasRows, IsWithin}
use Rattle.cs_rows.specs.Packing.{IsOrdered}
use Rattle.cs_rows.specs.Stocked.{IsStocked, Stock, corpus_in}
use Rattle.cs_rows.proofs.FoldsLemmas.{part_rows-is}
use Rattle.cs_rows.proofs.UnionLemmas.{one_post, picked_words}
use Rattle.cs_rows.proofs.VocabLemmas.{rows_rise}

-- ---- among others
pub of_members : (P : Post → Type 0) (rows posts : List Post) → All (Contains rows) posts → All P rows → All P posts
of_members P rows posts among h = λ k d lt. All-contains P rows (get_or posts k d) h (among k d lt)

own_members : (posts : List Post) → All (Contains posts) posts
own_members posts = λ k d lt. Contains-get_or posts k d lt

in_front : (xs ys : List Post) → All (Contains (xs ++ ys)) xs
in_front xs ys = λ k d lt. Contains-append_left xs ys (get_or xs k d) (Contains-get_or xs k d lt)

in_back : (xs ys : List Post) → All (Contains (xs ++ ys)) ys
in_back xs ys = λ k d lt. Contains-append_right xs ys (get_or ys k d) (Contains-get_or ys k d lt)

-- ---- one list and two
pub ordered_itself : (posts : List Post) → AreSorted posts → IsOrdered posts posts
ordered_itself posts up = record { sorted = up; among = own_members posts; alike = λ all up_all inside t. refl }

nothing_sorted : AreSorted []
unfolding IsStrictlySortedBy
nothing_sorted = tt

pub ordered_none : IsOrdered [] []
ordered_none = ordered_itself [] nothing_sorted

-- ---- a union
both_ways : (a b : Bool) → (a ≡ true → b ≡ true) → (b ≡ true → a ≡ true) → a ≡ b
both_ways true b there back = sym (there refl)
both_ways false true there back = back refl
both_ways false false there back = refl

abbrev has_value : Option Post → Bool
has_value None = false
has_value (Some x) = true

abbrev value_or : Post → Option Post → Post
value_or d None = d
value_or d (Some x) = x

found_in : (f : Post → Bool) (rows : List Post) (p : Post) → find f rows ≡ Some p → Contains rows p
found_in f [] p is = absurd (true≢false (sym (ap has_value is)))
found_in f (x ∷ rows) p is =
    elim (f x) as (λ b. cond b (Some x) (find f rows) ≡ Some p → Contains (x ∷ rows) p) [
      | true ↦ λ here. (0, omega arith, ap (value_or x) here)
      | false ↦ λ there. Contains-append_right (x ∷ []) rows p (found_in f rows p there)
    ] is

union_among : (rows posts : List Post) → IsUnion rows posts → All (Contains rows) posts
union_among rows posts union = All-weaker (λ p. find (shares_place p) rows ≡ Some p) (Contains rows) (λ p is. found_in (shares_place p) rows p is) posts union.first

module _ (rows posts : List Post) (union : IsUnion rows posts) (t : Post → Bool) where
  any_back : Any (λ p. t p ≡ true) posts → list_any t rows ≡ true
  any_back (k, p, lt, at, passed) = any_at t rows p (All-contains (Contains rows) posts p (union_among rows posts union) (k, lt, at)) passed
    where
      any_at : (t : Post → Bool) (rows : List Post) (p : Post) → Contains rows p → t p ≡ true → list_any t rows ≡ true
      any_at t rows p (k, lt, at) passed = list_any_at t rows k p lt (ap t at ∙ passed)

  module _ (all : List Post) (up : AreSorted all) (inside : All (Contains all) rows) where
    any_there : Any (λ r. t r ≡ true) rows → list_any t posts ≡ true
    any_there (k, r, lt, at, passed) =
        from_shared r (k, lt, at) passed (Any-from_list_any (shares_place r) posts (All-contains (λ r. list_any (shares_place r) posts ≡ true) rows r union.placed (k, lt, at)))
      where
        from_shared : (r : Post) → Contains rows r → t r ≡ true → Any (λ p. shares_place r p ≡ true) posts → list_any t posts ≡ true
        from_shared r has passed (j, p, lt, at, shared) =
            let known = All-contains (Contains rows) posts p (union_among rows posts union) (j, lt, at) in
            let same : r ≡ p = one_post all up r p (All-contains (Contains all) rows r inside has) (All-contains (Contains all) rows p inside known) shared in
            list_any_at t posts j p lt (ap t (at ∙ sym same) ∙ passed)

    any_union : list_any t posts ≡ list_any t rows
    any_union = both_ways (list_any t posts) (list_any t rows) (λ h. any_back (Any-from_list_any t posts h)) (λ h. any_there (Any-from_list_any t rows h))

pub union_ordered : (rows posts : List Post) → IsUnion rows posts → AreSorted posts → IsOrdered rows posts
union_ordered rows posts union up =
    record { sorted = up; among = union_among rows posts union; alike = λ all up_all inside t. any_union rows posts union t all up_all inside }

-- ---- lists
abbrev pub flat : List Cols → List Post
flat lists = flat_map (λ l. l.posts) lists

pub flat_one : (l : Cols) → flat (l ∷ []) ≡ l.posts
flat_one l = append-nil l.posts

pub flat_more : (lists : List Cols) (l : Cols) → flat (lists ++ l ∷ []) ≡ flat lists ++ l.posts
flat_more lists l = flat_map-append (λ (x : Cols). x.posts) lists (l ∷ []) ∙ ap (λ xs. flat lists ++ xs) (append-nil l.posts)

-- ---- one list or none
sorted_at : (lists : List Cols) (k : ℕ) (l : Cols) → All (λ l. AreSorted l.posts) lists → k < length lists → l ≡ get_or lists k l → AreSorted l.posts
sorted_at lists k l up lt is = subst (λ (x : Cols). AreSorted x.posts) (sym is) (up k l lt)

pub of_none : (lists : List Cols) (posts : List Post) → length lists < 1 → posts ≡ [] → IsOrdered (flat lists) posts
of_none [] posts few is = subst (IsOrdered []) (sym is) ordered_none
of_none (x ∷ lists) posts few is = absurd (omega (arith, few))

pub of_one : (lists : List Cols) (l : Cols) (posts : List Post) → All (λ l. AreSorted l.posts) lists → length lists < 2 → 1 ≤ length lists → l ≡ get_or lists 0 l
    → posts ≡ l.posts → IsOrdered (flat lists) posts
of_one [] l posts up few some is same = absurd (omega (arith, some))
of_one (x ∷ []) l posts up few some is same =
    let own = sorted_at (x ∷ []) 0 l up (omega arith) is in
    subst (IsOrdered (flat (x ∷ []))) (sym same)
    (subst (λ rows. IsOrdered rows l.posts) (sym (flat_one x ∙ ap (λ (y : Cols). y.posts) (sym is))) (ordered_itself l.posts own))
of_one (x ∷ y ∷ lists) l posts up few some is same = absurd (omega (arith, few))

-- a list that was taken out alone, or none
pub of_popped : (lists rest : List Cols) (l : Cols) → All (λ l. AreSorted l.posts) lists → length lists ≤ 1 → lists ≡ rest ++ l ∷ [] → IsOrdered (flat lists) l.posts
of_popped lists [] l up few is =
    subst (λ ls. IsOrdered (flat ls) l.posts) (sym is)
    (of_one (l ∷ []) l l.posts (subst (All (λ l. AreSorted l.posts)) is up) (omega arith) (omega arith) refl refl)
of_popped lists (x ∷ rest) l up few is = absurd (let long = ap length is ∙ ap suc (length-append rest (l ∷ [])) in omega (arith, few, long))

pub none_popped : (lists rest : List Cols) (m : ℕ) → m ≡ length lists → lists ≡ rest ++ [] → rest ≡ take (m - 1) lists → length lists < 1
none_popped lists rest m long same is =
    let a = ap length same ∙ length-append rest [] in
    let b = ap length is ∙ length-take (m - 1) lists in
    omega (arith, long, a, b)

flat_holds : (P : Post → Type 0) (lists : List Cols) → AllByRecursion (λ l. All P l.posts) lists → All P (flat lists)
flat_holds P [] h = All-nil P
flat_holds P (l ∷ lists) h = All-append P l.posts (flat lists) h.0 (flat_holds P lists h.1)

pub lists_within : (i : IndexView) (lists : List Cols) (found : List Post) → All (λ l. AreWithin i l.posts) lists → IsOrdered (flat lists) found
    → AreWithin i found
lists_within i lists found within o =
    let P : Post → Type 0 = IsWithin i.docs (length i.words) in
    let each = all_then (λ (l : Cols). AreWithin i l.posts) (λ l. All P l.posts) (λ l h. h.within) lists
    (recursion_from_All (λ l. AreWithin i l.posts) lists within) in
    record { sorted = o.sorted; within = of_members P (flat lists) found o.among (flat_holds P lists each) }

-- ---- the rows of chains
module _ (s : Stock) (chains : List Chain) where
  abbrev k : Corpus
  k = corpus_in s

  -- one list for each of them
  pub record ListsSoFar (i : ℕ) (posts : List Post) : Type 0 where
    pub rows : rows_at s.words posts ≡ flat_map (λ rows. rows) (map (rows_of_chain k) (take i chains))
    pub among : All (Contains s.posts) posts

  pub lists_begin : (posts : List Post) → posts ≡ [] → ListsSoFar 0 posts
  lists_begin posts is = record { rows = ap (rows_at s.words) is; among = subst (All (Contains s.posts)) (sym is) (All-nil (Contains s.posts)) }

  pub lists_go_on : (i : ℕ) (x : Chain) → i < length chains → x ≡ get_or chains i x → (posts next now : List Post) → ListsSoFar i posts
      → HasRows s (rows_of_chain k x) next → now ≡ posts ++ next → ListsSoFar (i + 1) now
  lists_go_on i x l at posts next now so_far more is =
      let f : Chain → List Row = rows_of_chain k in
      let taken : map f (take (i + 1) chains) ≡ map f (take i chains) ++ f x ∷ [] =
      ap (map f) (take_more chains i x l) ∙ map-append f (take i chains) (get_or chains i x ∷ []) ∙ ap (λ y. map f (take i chains) ++ f y ∷ []) (sym at) in
      record {
        rows = ap (rows_at s.words) is ∙ map-append (row_of s.words) posts next ∙ ap₂ (λ a b. a ++ b) so_far.rows (more.is ∙ sym (append-nil (f x)))
            ∙ sym (flat_map-append (λ rows. rows) (map f (take i chains)) (f x ∷ [])) ∙ ap (flat_map (λ rows. rows)) (sym taken);
        among = subst (All (Contains s.posts)) (sym is) (All-append (Contains s.posts) posts next so_far.among more.picked.among);
      }

  pub lists_end : IsStocked s → (p : Part) → chains ≡ (out-Part p).chains → (i : ℕ) (posts found : List Post) → length chains ≤ i → ListsSoFar i posts
      → IsOrdered posts found → HasRows s (rows_of_part k p).rows found
  lists_end stocked p are i posts found l so_far o =
      let among = of_members (Contains s.posts) posts found o.among so_far.among in
      record {
        is = members_are by_row by_row_total by_row_exact (rows_at s.words found) (flat_map (λ rows. rows) (map (rows_of_chain k) (take i chains)))
            (rows_rise s.words stocked.words found (picked_words s found stocked among) o.sorted)
            (λ q.
            any_through (row_of s.words) (eq_by_cmp by_row q) found
            ∙ o.alike s.posts stocked.sorted so_far.among (λ p. eq_by_cmp by_row q (row_of s.words p))
            ∙ sym (any_through (row_of s.words) (eq_by_cmp by_row q) posts)
            ∙ ap (list_any (eq_by_cmp by_row q)) so_far.rows)
            ∙ ap (λ cs. union_of (map (rows_of_chain k) cs)) (take_all i chains l ∙ are) ∙ sym (ap (λ (r : PartRows). r.rows) (part_rows-is k p));
        picked = record { sorted = o.sorted; among = among };
      }
