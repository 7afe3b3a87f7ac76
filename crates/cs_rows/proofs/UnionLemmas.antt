-- Alternatives, and chains of linked atoms, by the posts that stand for their rows.
--
--   one_post         of sorted posts one alone has a document, position and word
--   linked_phrase, linked_near    links of rows are links of posts
use Rattle.std.proofs.Common.{◌≡◌, ℕ, ◌+◌, ◌-◌, ◌<◌, ◌==◌, ◌&&◌, ◌||◌, true, false, true≢false, not, List, [], ◌∷◌, length, map, drop}
use Rattle.std.proofs.Common.{drop-cons, add-one, get_or, refl, sym, ◌∙◌, ap, subst, arith}
use Rattle.std.specs.Prelude.{nat_lt, nat_le}
use Rattle.std.specs.List.{All, AllByRecursion, Contains, list_any}
use Rattle.std.specs.Ordering.{nat_cmp, ordering_then, is_lt}
use Rattle.std.specs.declared.cmp.Ordering.{Ordering}
use Rattle.std.specs.declared.cmp.Ordering.TheVariants.{Less, Equal}
use Rattle.std.proofs.lemmas.Bool.{and_parts}
use Rattle.std.proofs.lemmas.Bool.Decides.{nat_tests}
use Rattle.std.proofs.lemmas.List.{get_or_default}
use Rattle.std.proofs.lemmas.List.Elements.{recursion_from_All}
use Rattle.std.proofs.lemmas.Map.Keys.{Less-from_sorted}
use Rattle.cs_base.specs.content.Orders.{by_place, AreSorted}
use Rattle.cs_base.specs.declared.content.doc.Post.{Post}
use Rattle.cs_base.specs.declared.content.doc.Row.{Row}
use Rattle.cs_base.specs.declared.content.query.Linked.{Linked, out-Linked}
use Rattle.cs_base.specs.declared.content.query.Link.{Link}
use Rattle.cs_base.specs.declared.content.query.Link.TheVariants.{Phrase, Near}
use Rattle.cs_base.proofs.MembersLemmas.{all_then}
use Rattle.cs_base.proofs.ListsLemmas.{filter_through, filter_alike, any_through}
use Rattle.cs_meet.specs.Filters.{shares_place, follow, near, stands_behind, is_near}
use Rattle.cs_model.specs.Answers.{LinkedRows, is_linked, linked_to, chained, rows_of_linked, rows_of_atom}
use Rattle.cs_model_index.specs.Numbered.{row_of, rows_at}
use Rattle.cs_rows.specs.Stocked.{Stock, corpus_in, linked_posts, IsKnown, IsStocked, IsPicked}
use Rattle.cs_rows.proofs.AtomsLemmas.{picked_again}
use Rattle.cs_rows.proofs.FoldsLemmas.{linked_rows-is}
use Rattle.cs_vocab.proofs.RangesLemmas.{three_ways}

-- ---- one post at a place

tie_numbers : (x y : ℕ) → (x == y) ≡ true → nat_cmp x y ≡ Equal
tie_numbers x y h = grind (arith, nat_tests)

tie_back : (x y : ℕ) → (x == y) ≡ true → nat_cmp y x ≡ Equal
tie_back x y h = grind (arith, nat_tests)

tied : (a b c : Ordering) → a ≡ Equal → b ≡ Equal → c ≡ Equal → ordering_then a (ordering_then b c) ≡ Equal
tied a b c p q r = ap (λ o. ordering_then o (ordering_then b c)) p ∙ ap (λ o. ordering_then o c) q ∙ r

module _ (x y : Post) (same : shares_place x y ≡ true) where
  doc_same : (y.doc == x.doc) ≡ true
  doc_same = (and_parts _ _ same).0

  pos_same : (y.pos == x.pos) ≡ true
  pos_same = (and_parts _ _ (and_parts (y.doc == x.doc) _ same).1).0

  word_same : (y.word == x.word) ≡ true
  word_same = (and_parts (y.pos == x.pos) _ (and_parts (y.doc == x.doc) _ same).1).1

  tied_on : by_place y x ≡ Equal
  tied_on = tied (nat_cmp y.doc x.doc) (nat_cmp y.pos x.pos) (nat_cmp y.word x.word) (tie_numbers _ _ doc_same) (tie_numbers _ _ pos_same)
      (tie_numbers _ _ word_same)

  tied_over : by_place x y ≡ Equal
  tied_over = tied (nat_cmp x.doc y.doc) (nat_cmp x.pos y.pos) (nat_cmp x.word y.word) (tie_back _ _ doc_same) (tie_back _ _ pos_same) (tie_back _ _ word_same)

not_both : (o : Ordering) → o ≡ Less → o ≡ Equal → true ≡ false
not_both o l e = sym (ap is_lt l) ∙ ap is_lt e

pub one_post : (posts : List Post) → AreSorted posts → (x y : Post) → Contains posts x → Contains posts y → shares_place x y ≡ true → x ≡ y
one_post posts up x y (i, i_in, at_x) (j, j_in, at_y) same =
    let at_y' : get_or posts j x ≡ y = get_or_default posts j x y j_in ∙ at_y in
    three_ways i j
    (λ h. absurd (true≢false (not_both (by_place x y)
    (ap (λ p. by_place p y) (sym at_x) ∙ ap (by_place (get_or posts i x)) (sym at_y') ∙ Less-from_sorted by_place posts i j x up h j_in)
    (tied_over x y same))))
    (λ h. sym at_x ∙ ap (λ k. get_or posts k x) h ∙ at_y')
    (λ h. absurd (true≢false (not_both (by_place y x)
    (ap (λ p. by_place p x) (sym at_y') ∙ ap (by_place (get_or posts j x)) (sym at_x) ∙ Less-from_sorted by_place posts j i x up h i_in)
    (tied_on x y same))))

-- ---- what is read

pub known_at : (s : Stock) (all : List Post) (p : Post) → Contains all p → All (IsKnown s) all → IsKnown s p
known_at s all p (k, l, e) h = subst (IsKnown s) e (h k p l)

pub picked_known : (s : Stock) (posts : List Post) → IsStocked s → All (Contains s.posts) posts → AllByRecursion (IsKnown s) posts
picked_known s posts kept among =
    all_then (Contains s.posts) (IsKnown s) (λ p h. known_at s s.posts p h kept.known) posts (recursion_from_All (Contains s.posts) posts among)

pub picked_words : (s : Stock) (posts : List Post) → IsStocked s → All (Contains s.posts) posts → AllByRecursion (λ p. p.word < length s.words) posts
picked_words s posts kept among =
    all_then (IsKnown s) (λ p. p.word < length s.words) (λ p h. h.word) posts (picked_known s posts kept among)

-- ---- links

pub linked_phrase : (ws : List (List ℕ)) (a b : List Post) → rows_at ws (follow a b) ≡ linked_to Phrase (rows_at ws a) (rows_at ws b)
linked_phrase ws a b =
    ap (rows_at ws) (filter_alike (λ r. list_any (stands_behind r) a) (λ r. list_any (is_linked Phrase (row_of ws r)) (rows_at ws a)) b (each b))
    ∙ filter_through (row_of ws) (λ r. list_any (is_linked Phrase r) (rows_at ws a)) b
  where
    each : (b : List Post) → AllByRecursion (λ r. list_any (stands_behind r) a ≡ list_any (is_linked Phrase (row_of ws r)) (rows_at ws a)) b
    each [] = tt
    each (r ∷ b) = (sym (any_through (row_of ws) (is_linked Phrase (row_of ws r)) a), each b)

near_is : (d e p q : ℕ) → ((e == d) && (nat_lt 0
    q && (nat_lt 0 p && (nat_lt 0 ((q - p) + (p - q)) && nat_le ((q - p) + (p - q)) 8)))) ≡ ((e == d) && ((nat_lt 0 q && nat_lt 0 p) && (not
    (q == p) && (nat_le q (p + 8) && nat_le p (q + 8)))))
near_is d e p q = grind (arith, nat_tests)

pub linked_near : (ws : List (List ℕ)) (a b : List Post) → rows_at ws (near a b) ≡ linked_to Near (rows_at ws a) (rows_at ws b)
linked_near ws a b =
    ap (rows_at ws) (filter_alike (λ r. list_any (is_near r) a) (λ r. list_any (is_linked Near (row_of ws r)) (rows_at ws a)) b (each b))
    ∙ filter_through (row_of ws) (λ r. list_any (is_linked Near r) (rows_at ws a)) b
  where
    each_post : (r : Post) (a : List Post) → list_any (is_near r) a ≡ list_any (λ x. is_linked Near (row_of ws r) (row_of ws x)) a
    each_post r [] = refl
    each_post r (x ∷ a) = ap (λ t. t || list_any (is_near r) a) (near_is r.doc x.doc r.pos x.pos)
        ∙ ap (λ t. is_linked Near (row_of ws r) (row_of ws x) || t) (each_post r a)

    each : (b : List Post) → AllByRecursion (λ r. list_any (is_near r) a ≡ list_any (is_linked Near (row_of ws r)) (rows_at ws a)) b
    each [] = tt
    each (r ∷ b) = (each_post r a ∙ sym (any_through (row_of ws) (is_linked Near (row_of ws r)) a), each b)

pub linked : (s : Stock) (link : Link) (a b c : List Post) → IsPicked s b → c ≡ linked_posts link a b
    → (rows_at s.words c ≡ linked_to link (rows_at s.words a) (rows_at s.words b)) × IsPicked s c
linked s Phrase a b c picked is = (ap (rows_at s.words) is ∙ linked_phrase s.words a b, picked_again s _ b c picked is)
linked s Near a b c picked is = (ap (rows_at s.words) is ∙ linked_near s.words a b, picked_again s _ b c picked is)

-- ---- the step of the loop over links
pub one_more_link : (s : Stock) (links : List Linked) (i : ℕ) (x : Linked) (whole : List Row) (found next now : List Post) → i < length links
    → x ≡ get_or links i x
    → whole ≡ chained (rows_at s.words found) (map (rows_of_linked (corpus_in s)) (drop i links))
    → rows_at s.words next ≡ rows_of_atom (corpus_in s) (out-Linked x).atom → IsPicked s next
    → now ≡ linked_posts (out-Linked x).link found next
    → (whole ≡ chained (rows_at s.words now) (map (rows_of_linked (corpus_in s)) (drop (i + 1) links))) × IsPicked s now
one_more_link s links i x whole found next now l at is next_is next_picked now_is =
    let f : Linked → LinkedRows = rows_of_linked (corpus_in s) in
    let link = (out-Linked x).link in
    let last = linked s link found next now next_picked now_is in
    let here : f x ≡ record { link = link; rows = rows_at s.words next } = linked_rows-is (corpus_in s) x
    ∙ ap (λ (rows : List Row). let r : LinkedRows = record { link = link; rows = rows } in r) (sym next_is) in
    let rest : drop i links ≡ x ∷ drop (i + 1) links = drop-cons links i x l ∙ ap (λ n. get_or links i x ∷ drop n links) (sym (add-one i))
    ∙ ap (λ y. y ∷ drop (i + 1) links) (sym at) in (
      is ∙ ap (λ xs. chained (rows_at s.words found) (map f xs)) rest
          ∙ ap (λ y. chained (linked_to y.link (rows_at s.words found) y.rows) (map f (drop (i + 1) links))) here
          ∙ ap (λ rows. chained rows (map f (drop (i + 1) links))) (sym last.0),
      last.1,
    )
