-- The rows that are given are counted, piece by piece.
--
--   All-members          what each of a list is, each of its listing is
--   front_countable      what stands before countable rows is
--   counted_nothing      the marks of no rows
--   one_counted          the marks behind one row of one of the words
--   row_counted, row_passed, row_where     behind one row
--   one_where            the same where the mark of the word stands apart
--   pieces_counted       behind one piece and another
--   piece_counted, row_seen, rows_added     what is counted behind a piece more, behind one row, and behind rows by their documents and words
--   as_many, post_at     there are as many posts as documents, and each has the document and the word at its place
--   CountsFront, front_on, front_whole     the rows before a place are counted: of one row more, and of all
--   CountsRow, one_marked, one_row      the row at a place is counted, also where all are of one word, whose mark stands apart
--   words_counted        the words that are collected are those of the rows
--   first_below          the first words of a table are among those counted
use Rattle.std.proofs.Common.{◌≡◌, ◌≢◌, ℕ, zero, suc, ◌+◌, ◌-◌, ◌<◌, ◌≤◌, ◌&&◌, ◌||◌, Bool, true, false, List, [], ◌∷◌, ◌++◌, cond, map, length, take, take_all, drop, replicate, get_or, set, ◌==◌, nat_lt, nat_le, refl, sym, ◌∙◌, ap, ap₂, subst, arith, append_assoc, append-nil, get_or-set_other, length-set}
use Rattle.std.specs.Prelude.{All, slice_index_or}
use Rattle.std.specs.List.{AllByRecursion, list_any}
use Rattle.std.specs.Ordering.{eq_by_cmp, is_eq}
use Rattle.std.specs.declared.cmp.Ordering.{Ordering}
use Rattle.std.specs.Cmp.{IsTotalOrder, Equal-is, tied_itself}
use Rattle.std.specs.FinMap.{IsAntisymmetric}
use Rattle.std.proofs.lemmas.Bool.{and_from, and_parts, le-leb, leb-true, lt-ltb, ltb-true, or_left, or_right, eqb-true, eq-eqb, ne_eqb}
use Rattle.std.proofs.lemmas.Grind.{get_or-set_at}
use Rattle.std.proofs.lemmas.List.{get_or-map, get_or-set_same, length-map, set-set, take_more, take-append-le, drop_all, get_or_default, get_or-replicate}
use Rattle.std.proofs.lemmas.List.Elements.{All-nil, All-cons, All-append, All-from_recursion, All-take, All-drop, All-map, recursion_from_All, filter-append}
use Rattle.cs_base.specs.content.Members.{members_in}
use Rattle.cs_base.specs.content.Orders.{AreSorted, by_place, by_rank}
use Rattle.cs_base.specs.declared.content.doc.Post.{Post}
use Rattle.cs_base.specs.declared.content.doc.Scored.{Scored}
use Rattle.cs_base.specs.declared.content.limits.TheConstants.{MAX_DOCS}
use Rattle.cs_base.proofs.MembersLemmas.{is_member-listed}
use Rattle.cs_base.proofs.OrdersLemmas.{by_rank_total, by_rank_exact}
use Rattle.cs_rank.proofs.ScorePlaces.{take_rises}
use Rattle.cs_tables.specs.declared.counts.Mark.{Mark}
use Rattle.cs_tables.specs.declared.counts.TheConstants.{NO_DOC}
use Rattle.cs_tables.specs.declared.tables.Completion.{Completion}
use Rattle.cs_tables.specs.TableListings.{completion, with_word}
use Rattle.cs_tables.specs.Marks.{collected, counted_word, mark_of, saw, post_words}
use Rattle.cs_tables.specs.declared.word_counts.Rows.{Rows}
use Rattle.cs_tables.specs.WordCounts.{AddsColumns, AreCountable, AreOfOne, Counts, CountsRows, HasColumnsOf, HasCounted, HasWordMarks, WordCountsView, chosen, is_chosen}
use Rattle.cs_tables.proofs.MarksLemmas.{fold_push, word_marked, word_docs_few}
use Rattle.cs_tables.proofs.CountedWords.{collected_words}

-- ---- listings
module _ {X : Type 0} (R : X → X → Ordering) (o : IsTotalOrder R) (exact : IsAntisymmetric R) (P : X → Type 0) where
  has : (xs : List X) → AllByRecursion P xs → (q : X) → list_any (eq_by_cmp R q) xs ≡ true → P q
  has [] h q e = absurd (cc)
  has (x ∷ xs) h q e =
      elim (eq_by_cmp R q x) as (λ b. eq_by_cmp R q x ≡ b → b || list_any (eq_by_cmp R q) xs ≡ true → P q) [
        | true ↦ λ s _. subst P (sym (exact q x ((Equal-is (R q x)).0 s))) h.0
        | false ↦ λ s r. has xs h.1 q r
      ] refl e

  each_of : (xs : List X) → ((q : X) → list_any (eq_by_cmp R q) xs ≡ true → P q) → AllByRecursion P xs
  each_of [] h = tt
  each_of (x ∷ xs) h = (h x (or_left _ _ (ap is_eq (tied_itself o x))), each_of xs (λ q e. h q (or_right (eq_by_cmp R q x) _ e)))

  All-members : (xs : List X) → AllByRecursion P xs → All P (members_in R xs)
  All-members xs h = All-from_recursion P (members_in R xs) (each_of (members_in R xs) (λ q e. has xs h q (sym (is_member-listed R o xs q) ∙ e)))

-- ---- rows that are countable
rises_front : (a b : List Post) → AreSorted (a ++ b) → AreSorted a
rises_front a b up = subst AreSorted (take-append-le (length a) a b (omega arith) ∙ whole a) (take_rises by_place (length a) (a ++ b) up)
  where
    whole : (a : List Post) → take (length a) a ≡ a
    whole [] = refl
    whole (x ∷ a) = ap (λ l. x ∷ l) (whole a)

all_front : (P : Post → Type 0) (a b : List Post) → All P (a ++ b) → AllByRecursion P a
all_front P [] b h = tt
all_front P (x ∷ a) b h = (h 0 x (omega arith), all_front P a b (λ k d lt. h (suc k) d (omega (arith, lt))))

-- what stands before countable rows is
pub front_countable : (a b : List Post) → AreCountable (a ++ b) → AreCountable a
front_countable a b c = record {
  ordered = λ w. rises_front (with_word w a) (with_word w b) (subst AreSorted (filter-append (λ p. p.word == w) a b) (c.ordered w));
  few_docs = All-from_recursion (λ p. p.doc < MAX_DOCS) a (all_front (λ p. p.doc < MAX_DOCS) a b c.few_docs);
}

-- ---- the marks
-- what a read past the last mark would give
abbrev unread : Mark
unread = record { docs = 0; last = 0 }

abbrev blank : Mark
blank = record { docs = 0; last = NO_DOC }

pub counted_nothing : (low n : ℕ) (marks : List Mark) → marks ≡ replicate n blank → HasWordMarks low [] marks
counted_nothing low n marks are k d lt = ap (λ ms. get_or ms k d) are ∙ get_or-replicate n k blank d (omega (arith, lt, ap length are, long n))
  where
    long : (n : ℕ) → length (replicate n blank) ≡ n
    long zero = refl
    long (suc n) = ap suc (long n)

-- a mark can count one more
has_room : (w : ℕ) (seen : List Post) (m : Mark) → AreCountable seen → m ≡ mark_of w seen → m.docs < NO_DOC
has_room w seen m c is =
    let below = recursion_from_All (λ p. p.doc < MAX_DOCS) seen c.few_docs in
    let docs = ap (λ (m : Mark). m.docs) is ∙ word_marked w seen (c.ordered w) below in
    let least = word_docs_few w seen (c.ordered w) below in
    omega (arith, docs, least)

-- a row of one of the words
pub one_counted : (low high : ℕ) (marks : List Mark) (doc word : ℕ) (now : Mark) → low + length marks ≡ high → low ≤ word → word < high → ((get_or marks (word - low) unread).docs < NO_DOC → now ≡ saw (get_or marks (word - low) unread) doc)
    → (p : Post) → doc ≡ p.doc → word ≡ p.word → (seen : List Post) → AreCountable (seen ++ p ∷ []) → HasWordMarks low seen marks → HasWordMarks low (seen ++ p ∷ []) (set marks (word - low) now)
one_counted low high marks doc word now sized from upto saws p d w seen c h =
    let j = word - low in
    let inside : j < length marks = omega (arith, sized, from, upto) in
    let before = front_countable seen (p ∷ []) c in
    let m = get_or marks j unread in
    let old : m ≡ mark_of (low + j) seen = h j unread inside in
    let new : now ≡ saw (mark_of (low + j) seen) p.doc = saws (has_room (low + j) seen m before old) ∙ ap₂ saw old d in
    λ k e lt.
    elim (j == k) as (λ b. j == k ≡ b → get_or (set marks j now) k e ≡ mark_of (low + k) (seen ++ p ∷ [])) [
      | true ↦ λ s.
          let at : j ≡ k = eqb-true j k s in
          let there : p.word ≡ low + k = omega (arith, at, w, from) in
          get_or-set_at marks j k now e (sym at) inside ∙ new ∙ ap (λ n. saw (mark_of (low + n) seen) p.doc) at
          ∙ sym (fold_push (low + k) blank seen p ∙ ap (λ b. cond b (saw (mark_of (low + k) seen) p.doc) (mark_of (low + k) seen)) (eq-eqb p.word (low + k) there))
      | false ↦ λ s.
          let apart : k ≢ j = (λ x. absurd (let t = eq-eqb j k (sym x) in cc)) in
          let elsewhere : p.word ≢ low + k = (λ x. apart (omega (arith, x, w, from))) in
          get_or-set_other marks j k now e apart ∙ h k e (subst (λ n. k < n) (same_long marks j now) lt)
          ∙ sym (fold_push (low + k) blank seen p ∙ ap (λ b. cond b (saw (mark_of (low + k) seen) p.doc) (mark_of (low + k) seen)) (ne_eqb p.word (low + k) elsewhere))
    ] refl
  where
    same_long : (ms : List Mark) (j : ℕ) (n : Mark) → length (set ms j n) ≡ length ms
    same_long [] j n = refl
    same_long (m ∷ ms) zero n = refl
    same_long (m ∷ ms) (suc j) n = ap suc (same_long ms j n)

module _ (low high : ℕ) (listed : List Bool) where
  test_at : (p : Post) (doc word : ℕ) → doc ≡ p.doc → word ≡ p.word → ((nat_le low word && nat_lt word high) && slice_index_or listed doc false) ≡ is_chosen low high listed p
  test_at p doc word d w = ap₂ (λ x y. (nat_le low y && nat_lt y high) && slice_index_or listed x false) d w

  -- a row that isn't chosen
  pub row_passed : (marks : List Mark) (doc word : ℕ) → ((nat_le low word && nat_lt word high) && slice_index_or listed doc false) ≡ false → (p : Post) → doc ≡ p.doc → word ≡ p.word → Counts low high listed (p ∷ []) marks marks
  row_passed marks doc word out p d w seen c h =
      let none : chosen low high listed (p ∷ []) ≡ [] = ap (λ b. cond b (p ∷ []) []) (sym (test_at p doc word d w) ∙ out) in
      subst (λ rows. HasWordMarks low rows marks) (sym (append-nil seen) ∙ ap (λ rows. seen ++ rows) (sym none)) h

  -- a row that is
  pub row_counted : (marks : List Mark) (doc word : ℕ) (now : Mark) → low + length marks ≡ high → ((nat_le low word && nat_lt word high) && slice_index_or listed doc false) ≡ true → ((get_or marks (word - low) unread).docs < NO_DOC → now ≡ saw (get_or marks (word - low) unread) doc)
      → (p : Post) → doc ≡ p.doc → word ≡ p.word → Counts low high listed (p ∷ []) marks (set marks (word - low) now)
  row_counted marks doc word now sized in_it saws p d w seen c h =
      let one : seen ++ chosen low high listed (p ∷ []) ≡ seen ++ p ∷ [] = ap (λ b. seen ++ cond b (p ∷ []) []) (sym (test_at p doc word d w) ∙ in_it) in
      let range = and_parts (nat_le low word) (nat_lt word high) (and_parts (nat_le low word && nat_lt word high) _ in_it).0 in
      subst (λ rows. HasWordMarks low rows (set marks (word - low) now)) (sym one)
      (one_counted low high marks doc word now sized (leb-true low word range.0) (ltb-true word high range.1) saws p d w seen (subst AreCountable one c) h)

  -- a row of one of the words, which is chosen where its document is listed
  pub row_where : (marks : List Mark) (doc word : ℕ) (now : Mark) → low + length marks ≡ high → low ≤ word → word < high
      → ((get_or marks (word - low) unread).docs < NO_DOC → now ≡ cond (slice_index_or listed doc false) (saw (get_or marks (word - low) unread) doc) (get_or marks (word - low) unread))
      → (p : Post) → doc ≡ p.doc → word ≡ p.word → Counts low high listed (p ∷ []) marks (set marks (word - low) now)
  row_where marks doc word now sized from upto saws p d w =
      let range : (nat_le low word && nat_lt word high) ≡ true = and_from _ _ (le-leb low word from) (lt-ltb word high upto) in
      let m = get_or marks (word - low) unread in
      elim (slice_index_or listed doc false) as (λ b. slice_index_or listed doc false ≡ b → (m.docs < NO_DOC → now ≡ cond b (saw m doc) m) → Counts low high listed (p ∷ []) marks (set marks (word - low) now)) [
        | true ↦ λ e seen_so. row_counted marks doc word now sized (and_from _ _ range e) seen_so p d w
        | false ↦ λ e stays. λ seen c h.
            let out : ((nat_le low word && nat_lt word high) && slice_index_or listed doc false) ≡ false = ap₂ (λ x y. x && y) range e in
            let inside : word - low < length marks = omega (arith, sized, from, upto) in
            let before = front_countable seen (chosen low high listed (p ∷ [])) c in
            let same = stays (has_room (low + (word - low)) seen m before (h (word - low) unread inside)) in
            subst (λ ms. HasWordMarks low (seen ++ chosen low high listed (p ∷ [])) ms) (sym (set_again marks (word - low) now inside same)) (row_passed marks doc word out p d w seen c h)
      ] refl saws
    where
      set_again : (ms : List Mark) (j : ℕ) (n : Mark) → j < length ms → n ≡ get_or ms j unread → set ms j n ≡ ms
      set_again [] j n lt e = absurd (omega (arith, lt))
      set_again (m ∷ ms) zero n lt e = ap (λ x. x ∷ ms) e
      set_again (m ∷ ms) (suc j) n lt e = ap (λ l. m ∷ l) (set_again ms j n (omega (arith, lt)) e)

  -- one piece behind another
  pub pieces_counted : (a b : List Post) (m0 m1 m2 : List Mark) → Counts low high listed a m0 m1 → Counts low high listed b m1 m2 → Counts low high listed (a ++ b) m0 m2
  pieces_counted a b m0 m1 m2 first second seen c h =
      let f = chosen low high listed in
      let both : seen ++ f (a ++ b) ≡ (seen ++ f a) ++ f b = ap (λ rows. seen ++ rows) (filter-append (is_chosen low high listed) a b) ∙ sym (append_assoc seen (f a) (f b)) in
      let whole : AreCountable ((seen ++ f a) ++ f b) = subst AreCountable both c in
      subst (λ rows. HasWordMarks low rows m2) (sym both) (second (seen ++ f a) whole (first seen (front_countable (seen ++ f a) (f b) whole) h))

  -- a row of one of the words, whose mark is written later
  pub one_where : (marks : List Mark) (doc word : ℕ) (m now : Mark) → low + length marks ≡ high → low ≤ word → word < high
      → (m.docs < NO_DOC → now ≡ cond (slice_index_or listed doc false) (saw m doc) m)
      → (p : Post) → doc ≡ p.doc → word ≡ p.word → Counts low high listed (p ∷ []) (set marks (word - low) m) (set marks (word - low) now)
  one_where marks doc word m now sized from upto saws p d w =
      let held : get_or (set marks (word - low) m) (word - low) unread ≡ m = get_or-set_same marks (word - low) m unread (omega (arith, sized, from, upto)) in
      subst (λ ms. Counts low high listed (p ∷ []) (set marks (word - low) m) ms) (set-set marks (word - low) m now)
      (row_where (set marks (word - low) m) doc word now (ap (λ n. low + n) (length-set marks (word - low) m) ∙ sized) from upto
      (subst (λ (x : Mark). x.docs < NO_DOC → now ≡ cond (slice_index_or listed doc false) (saw x doc) x) (sym held) saws) p d w)

  chosen_within : (rows : List Post) → All (λ p. (low ≤ p.word) × (p.word < high)) (chosen low high listed rows)
  chosen_within [] = All-nil (λ (p : Post). (low ≤ p.word) × (p.word < high))
  chosen_within (p ∷ rows) =
      elim (is_chosen low high listed p) as (λ b. is_chosen low high listed p ≡ b → All (λ p. (low ≤ p.word) × (p.word < high)) (cond b (p ∷ chosen low high listed rows) (chosen low high listed rows))) [
        | true ↦ λ e.
            let range = and_parts (nat_le low p.word) (nat_lt p.word high) (and_parts (nat_le low p.word && nat_lt p.word high) _ e).0 in
            All-cons (λ (p : Post). (low ≤ p.word) × (p.word < high)) p (chosen low high listed rows) (leb-true low p.word range.0, ltb-true p.word high range.1) (chosen_within rows)
        | false ↦ λ e. chosen_within rows
      ] refl

  -- a piece more
  pub piece_counted : (seen rows : List Post) (old new : WordCountsView) → old.low ≡ low → old.high ≡ high → new.low ≡ low → new.high ≡ high → Counts low high listed rows old.marks new.marks → AreCountable (seen ++ chosen low high listed rows) → HasCounted seen old → HasCounted (seen ++ chosen low high listed rows) new
  piece_counted seen rows old new a b c d counts few h = record {
    marks = subst (λ n. HasWordMarks n (seen ++ chosen low high listed rows) new.marks) (sym c) (counts seen few (subst (λ n. HasWordMarks n seen old.marks) a h.marks));
    within = subst (λ n. All (λ p. (n ≤ p.word) × (p.word < new.high)) (seen ++ chosen low high listed rows)) (sym c)
        (subst (λ n. All (λ p. (low ≤ p.word) × (p.word < n)) (seen ++ chosen low high listed rows)) (sym d)
        (All-append (λ (p : Post). (low ≤ p.word) × (p.word < high)) seen (chosen low high listed rows)
        (subst (λ n. All (λ p. (low ≤ p.word) × (p.word < n)) seen) b (subst (λ n. All (λ p. (n ≤ p.word) × (p.word < old.high)) seen) a h.within))
        (chosen_within rows)));
  }

-- ---- rows one by one
abbrev no_post : Post
no_post = record { doc = 0; word = 0; pos = 0; score = 0 }

module _ (low high : ℕ) (rows : Rows) where
  abbrev listed : List Bool
  listed = rows.listed.now

  abbrev docs : List ℕ
  docs = rows.docs.now

  abbrev words : List ℕ
  words = rows.words.now

  -- the rows before a place are counted
  abbrev pub CountsFront : ℕ → List Mark → List Mark → Type 0
  CountsFront i old new = (posts : List Post) → HasColumnsOf rows posts → Counts low high listed (take i posts) old new

  -- a row of these columns, whichever post it is
  abbrev pub CountsRow : ℕ → List Mark → List Mark → Type 0
  CountsRow i old new = (p : Post) → get_or docs i 0 ≡ p.doc → get_or words i 0 ≡ p.word → Counts low high listed (p ∷ []) old new

  pub as_many : (posts : List Post) → HasColumnsOf rows posts → length posts ≡ length docs
  as_many posts has = sym (ap length has.docs ∙ length-map posts (λ (p : Post). p.doc))

  pub post_at : (posts : List Post) → HasColumnsOf rows posts → (i : ℕ) (d : Post) → i < length docs
      → (get_or docs i 0 ≡ (get_or posts i d).doc) × (get_or words i 0 ≡ (get_or posts i d).word)
  post_at posts has i d lt =
      let inside : i < length posts = omega (arith, lt, as_many posts has) in
      (ap (λ xs. get_or xs i 0) has.docs ∙ get_or-map (λ p. p.doc) posts i d 0 inside, ap (λ xs. get_or xs i 0) has.words ∙ get_or-map (λ p. p.word) posts i d 0 inside)

  -- the marks where that of the one word stands apart, as m
  abbrev pub one_marked : List Mark → Mark → List Mark
  one_marked marks m = set marks (get_or words 0 0 - low) m

  -- a row where all are of one word, whose mark is written later
  pub one_row : (i : ℕ) (marks : List Mark) (m now : Mark) → low + length marks ≡ high → length words ≡ length docs → AreOfOne low high words → i < length docs
      → (m.docs < NO_DOC → now ≡ cond (get_or listed (get_or docs i 0) false) (saw m (get_or docs i 0)) m)
      → CountsRow i (one_marked marks m) (one_marked marks now)
  one_row i marks m now sized even one lt saws p of_doc of_word =
      let same : get_or words i 0 ≡ get_or words 0 0 = one.same i 0 (omega (arith, even, lt)) in
      one_where low high listed marks (get_or docs i 0) (get_or words 0 0) m now sized one.from one.upto saws p of_doc (sym same ∙ of_word)

  -- one row more
  pub front_on : (i : ℕ) (m0 m1 m2 : List Mark) → i < length docs → CountsRow i m1 m2 → CountsFront i m0 m1 → CountsFront (i + 1) m0 m2
  front_on i m0 m1 m2 lt next before posts has =
      let p = get_or posts i no_post in
      let at = post_at posts has i no_post lt in
      subst (λ xs. Counts low high listed xs m0 m2) (sym (take_more posts i no_post (omega (arith, lt, as_many posts has))))
      (pieces_counted low high listed (take i posts) (p ∷ []) m0 m1 m2 (before posts has) (next p at.0 at.1))

  pub front_whole : (i : ℕ) (m0 m1 : List Mark) → length docs ≤ i → CountsFront i m0 m1 → length m1 ≡ length m0 → CountsRows low high rows m0 m1
  front_whole i m0 m1 past front sized = record {
    counted = λ posts has.
        subst (λ xs. Counts low high listed xs m0 m1) (take_all i posts (omega (arith, past, as_many posts has))) (front posts has);
    sized = sized;
  }

-- one row more, of one of the words
pub row_seen : (seen : List Post) (p : Post) (old new : WordCountsView) → old.low ≡ new.low → old.high ≡ new.high → (new.low ≤ p.word) × (p.word < new.high) → (HasWordMarks old.low seen old.marks → HasWordMarks old.low (seen ++ p ∷ []) new.marks) → HasCounted seen old → HasCounted (seen ++ p ∷ []) new
row_seen seen p old new low high within counts h = record {
  marks = subst (λ n. HasWordMarks n (seen ++ p ∷ []) new.marks) low (counts h.marks);
  within = All-append (λ (p : Post). (new.low ≤ p.word) × (p.word < new.high)) seen (p ∷ [])
      (subst (λ n. All (λ p. (new.low ≤ p.word) × (p.word < n)) seen) high (subst (λ n. All (λ p. (n ≤ p.word) × (p.word < old.high)) seen) low h.within))
      (All-cons (λ (p : Post). (new.low ≤ p.word) × (p.word < new.high)) p [] within (All-nil (λ (p : Post). (new.low ≤ p.word) × (p.word < new.high))));
}

-- a vector whose slice was lent holds what was written there
pub written_back : {X : Type 0} (n : ℕ) (a b : List X) → length a ≡ length b → n ≡ length b → take n (a ++ drop (length a) b) ≡ a
written_back n a b l m = ap (λ r. take n (a ++ r)) (drop_all (length a) b (omega (arith, l))) ∙ ap (take n) (append-nil a) ∙ take_all n a (omega (arith, l, m))

-- rows more, by their documents and words
pub rows_added : (own t : WordCountsView) (given rows : Rows) (lent : List Mark) (len : ℕ) (new : List Mark) → own ≡ t → lent ≡ own.marks → len ≡ length own.marks
    → given ≡ rows → CountsRows own.low own.high given lent new
    → AddsColumns rows.listed.now rows.docs.now rows.words.now t (record { low = own.low; high = own.high; marks = take len (new ++ drop (length new) own.marks) })
rows_added own t given rows lent len new view is long are counts = record {
  counted = λ posts d w seen few h.
      let listed = rows.listed.now in
      let same = subst (λ (r : Rows). CountsRows own.low own.high r lent new) are counts in
      let here = subst (λ (ms : List Mark). Counts own.low own.high listed posts ms new) is (same.counted posts (record { docs = d; words = w })) in
      let there = subst (λ (t : WordCountsView). Counts t.low t.high listed posts t.marks new) view here in
      let back = written_back len new own.marks (omega (arith, counts.sized, ap length is)) long in
      let put = subst (λ (ms : List Mark). Counts t.low t.high listed posts t.marks ms) (sym back) there in
      piece_counted t.low t.high listed seen posts t _ refl refl (ap (λ (t : WordCountsView). t.low) view) (ap (λ (t : WordCountsView). t.high) view) put few h;
  low = ap (λ (t : WordCountsView). t.low) view;
  high = ap (λ (t : WordCountsView). t.high) view;
}

-- ---- tables
pub words_counted : (t : WordCountsView) (rows : List Post) → t.low + length t.marks ≡ t.high → AreCountable rows → HasCounted rows t → collected t.low t.marks ≡ map (counted_word rows) (post_words rows)
words_counted t rows sized c h =
    collected_words rows t.low t.marks c.ordered (recursion_from_All (λ p. p.doc < MAX_DOCS) rows c.few_docs) h.marks (λ k lt.
    let inside : k < length rows = omega (arith, lt, length-map rows (λ (p : Post). p.word)) in
    let at = h.within k (get_or rows k blank_post) inside in
    let word : get_or (map (λ p. p.word) rows) k 0 ≡ (get_or rows k blank_post).word = field rows k inside in
    let same : get_or rows k (get_or rows k blank_post) ≡ get_or rows k blank_post = get_or_default rows k _ blank_post inside in
    let from = subst (λ (x : Post). (t.low ≤ x.word) × (x.word < t.high)) same at in
    (omega (arith, word, from.0), omega (arith, word, from.1, sized)))
  where
    blank_post : Post
    blank_post = record { doc = 0; word = 0; pos = 0; score = 0 }

    field : (rows : List Post) (k : ℕ) → k < length rows → get_or (map (λ p. p.word) rows) k 0 ≡ (get_or rows k blank_post).word
    field [] k lt = absurd (omega (arith, lt))
    field (p ∷ rows) zero lt = refl
    field (p ∷ rows) (suc k) lt = field rows k (omega (arith, lt))

collected_below : (n low : ℕ) (marks : List Mark) → low + length marks ≤ n → AllByRecursion (λ h. h.doc < n) (collected low marks)
collected_below n low [] le = tt
collected_below n low (m ∷ marks) le =
    let rest = collected_below n (low + 1) marks (omega (arith, le)) in
    elim (nat_lt 0 m.docs) as (λ b. AllByRecursion (λ h. h.doc < n) (cond b (record { doc = low; score = m.docs } ∷ []) [] ++ collected (low + 1) marks)) [
      | true ↦ (omega (arith, le), rest)
      | false ↦ rest
    ]

-- each of the first is among those counted
pub first_below : (n low cut : ℕ) (marks : List Mark) → low + length marks ≤ n → All (λ c. c.word < n) (map completion (take cut (drop 0 (members_in by_rank (collected low marks)))))
first_below n low cut marks le =
    let P : Scored → Type 0 = λ h. h.doc < n in
    let all = All-members by_rank by_rank_total by_rank_exact P (collected low marks) (collected_below n low marks le) in
    All-map (λ (c : Completion). c.word < n) completion _ (All-take P cut (drop 0 (members_in by_rank (collected low marks))) (All-drop P 0 (members_in by_rank (collected low marks)) all))
