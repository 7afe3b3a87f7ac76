-- A document that goes.
--
--   without_is         a state it is
--   without_titles, without_posts, without_rows     its title, its posts and its rows go
--   later_posts        posts of later documents stay
--   all_later          rows in order are of later documents where the first one is
--   later_stay         rows of later documents stay
--   later_waiting      and wait on
use Rattle.std.proofs.Common.{◌≡◌, ℕ, ◌<◌, ◌≤◌, ◌==◌, ◌&&◌, Bool, true, false, true≢false, cond, not, List, [], ◌∷◌, ◌++◌, length, get_or, map, set}
use Rattle.std.proofs.Common.{refl, sym, ap, ◌∙◌, arith}
use Rattle.std.specs.Prelude.{All, filter, nat_le}
use Rattle.std.specs.Cmp.Lexicographic.{slice_cmp}
use Rattle.std.specs.FinMap.{remove}
use Rattle.std.specs.List.Sorted.{IsStrictlySortedBy}
use Rattle.std.specs.Ordering.{nat_cmp, ordering_then}
use Rattle.std.specs.declared.cmp.Ordering.{Ordering}
use Rattle.std.specs.declared.cmp.Ordering.TheVariants.{Less}
use Rattle.std.proofs.lemmas.Bool.{and_parts}
use Rattle.std.proofs.lemmas.Bool.Decides.{nat_tests}
use Rattle.std.proofs.lemmas.List.{length-set}
use Rattle.std.proofs.lemmas.List.Elements.{All-filter, All-from_recursion, All-weaker, filter-append, filter_passes, recursion_from_All}
use Rattle.std.proofs.lemmas.List.Kept.{IsStrictlySortedBy-filter}
use Rattle.cs_base.specs.content.Orders.{by_place, by_spot}
use Rattle.cs_base.specs.declared.content.doc.Post.{Post}
use Rattle.cs_base.specs.declared.content.doc.Row.{Row}
use Rattle.cs_base.proofs.ListsLemmas.{all_of, all_stay, filter_alike, filter_through, filter_twice}
use Rattle.cs_base.proofs.MembersLemmas.{all_then}
use Rattle.cs_rows.specs.IndexReading.{stock_of}
use Rattle.cs_rows.specs.Sources.{IsIn, is_there}
use Rattle.cs_model.specs.Answers.{in_doc}
use Rattle.cs_model_index.specs.Numbered.{row_of, rows_at}
use Rattle.cs_model_index.specs.Sections.{image_of}
use Rattle.cs_live.specs.Lives.{AreWaiting}
use Rattle.cs_live.specs.States.{IsState, StateView, now_posts, renumbered, source_now, stock_now, without_doc}
use Rattle.cs_live.proofs.ByWordLemmas.{kept_by}
use Rattle.cs_live.proofs.PresentTitles.{there_set, titled_gone}

-- ---- numbers
still_there : (ps : List Bool) (d q : ℕ) → not (q == d) ≡ true → get_or (set ps d false) q false ≡ get_or ps q false
still_there ps d q other = there_set ps d q ∙ kept (q == d) (get_or ps q false) other
  where
    kept : (a b : Bool) → not a ≡ true → cond a false b ≡ b
    kept true b e = absurd (true≢false (sym e))
    kept false b e = refl

earlier_not : (q n d : ℕ) → q < n → nat_le n d ≡ true → not (q == d) ≡ true
earlier_not q n d lt le = grind (arith, nat_tests)

later_not : (q d : ℕ) → d < q → not (q == d) ≡ true
later_not q d lt = grind (arith, nat_tests)

-- ---- a state
module _ (s : StateView) (is : IsState s) (d : ℕ) where
  held_still : (p : Post) → IsIn (source_now s) p × (not (p.doc == d) ≡ true) → IsIn (source_now (without_doc s d)) p
  held_still p h =
      let r = h.0.ranged in
      let doc = r.doc in
      let long = length-set s.present d false in
      record {
        there = still_there s.present d p.doc h.1 ∙ h.0.there;
        ranged = record { doc = omega (arith, doc, long); word = r.word; facet = r.facet; scored = r.scored };
      }

  pub without_is : IsState (without_doc s d)
  without_is =
      let long = length-set s.present d false in
      let few = is.few_docs in
      let count = is.count in
      let t : Post → Bool = λ p. not (p.doc == d) in
      let kept = All-filter t (IsIn (source_now s)) s.held is.held in
      let passed = filter_passes t s.held in
      record {
        index = is.index;
        few_docs = omega (arith, long, few);
        few_words = is.few_words;
        ascending = is.ascending;
        texts = is.texts;
        sized = is.sized;
        shift = is.shift;
        count = omega (arith, long, count);
        whole = λ w e lt.
            let both = and_parts s.whole (nat_le s.index.docs d) w in
            still_there s.present d e (earlier_not e s.index.docs d lt both.1) ∙ is.whole both.0 e lt;
        held = All-weaker (λ p. IsIn (source_now s) p × (not (p.doc == d) ≡ true)) (IsIn (source_now (without_doc s d))) held_still (filter t s.held) (λ k e l. (kept k e l, passed k e l));
        held_sorted = IsStrictlySortedBy-filter by_place t s.held is.held_sorted;
        held_later = All-filter t (λ p. s.index.docs ≤ p.doc) s.held is.held_later;
        by_word = kept_by t s.held s.by_word is.by_word;
        titles = is.titles;
      }

-- posts of later documents stay
pub later_posts : (n d : ℕ) (ps : List Post) → d < n → All (λ p. n ≤ p.doc) ps → filter (λ p. not (p.doc == d)) ps ≡ ps
later_posts n d ps lt later =
    filter_alike (λ p. not (p.doc == d)) (λ p. true) ps
    (recursion_from_All (λ p. not (p.doc == d) ≡ true) ps (All-weaker (λ p. n ≤ p.doc) (λ p. not (p.doc == d) ≡ true) (λ p le. later_not p.doc d (omega (arith, lt, le))) ps later))
    ∙ all_stay ps

-- ---- what is left
there_and : (a b : Bool) → cond a false b ≡ (b && not a)
there_and true true = refl
there_and true false = refl
there_and false true = refl
there_and false false = refl

module _ (s : StateView) (d : ℕ) (b : List ℕ) where
  pub without_titles : (stock_now (without_doc s d) b).titles ≡ remove (stock_now s b).titles d
  without_titles = titled_gone s.present ((image_of b).titles ++ s.added) d

  now_left : (posts : List Post) → now_posts s.shift (set s.present d false) posts ≡ filter (λ p. not (p.doc == d)) (now_posts s.shift s.present posts)
  now_left posts =
      let t : Post → Bool = λ p. not (p.doc == d) in
      ap (map (renumbered s.shift))
      (filter_alike (is_there (set s.present d false)) (λ p. is_there s.present p && t p) posts
      (all_of (λ p. is_there (set s.present d false) p ≡ (is_there s.present p && t p))
      (λ p. there_set s.present d p.doc ∙ there_and (p.doc == d) (get_or s.present p.doc false)) posts)
      ∙ filter_twice (is_there s.present) t posts)
      ∙ filter_through (renumbered s.shift) t (filter (is_there s.present) posts)

  pub without_posts : (stock_now (without_doc s d) b).posts ≡ filter (λ p. not (p.doc == d)) (stock_now s b).posts
  without_posts =
      let t : Post → Bool = λ p. not (p.doc == d) in
      ap (λ ps. ps ++ filter t s.held) (now_left (stock_of b).posts)
      ∙ sym (filter-append t (now_posts s.shift s.present (stock_of b).posts) s.held)

  pub without_rows : rows_at s.words (stock_now (without_doc s d) b).posts ≡ filter (λ r. not (in_doc d r)) (rows_at s.words (stock_now s b).posts)
  without_rows = ap (rows_at s.words) without_posts ∙ filter_through (row_of s.words) (λ r. not (in_doc d r)) (stock_now s b).posts

-- ---- rows of later documents
pub later_stay : (d : ℕ) (rows : List Row) → All (λ r. d < r.doc) rows → filter (λ r. not (in_doc d r)) rows ≡ rows
later_stay d rows later =
    filter_alike (λ r. not (in_doc d r)) (λ r. true) rows
    (recursion_from_All (λ r. not (in_doc d r) ≡ true) rows (All-weaker (λ r. d < r.doc) (λ r. not (in_doc d r) ≡ true) (λ r lt. later_not r.doc d lt) rows later))
    ∙ all_stay rows

not_before : (a b : ℕ) (o : Ordering) → ordering_then (nat_cmp a b) o ≡ Less → a ≤ b
not_before a b o e = grind (arith, nat_tests)

pub all_later : (d : ℕ) (rows : List Row) (r : Row) → IsStrictlySortedBy by_spot rows → 1 ≤ length rows → d < (get_or rows 0 r).doc → All (λ x. d < x.doc) rows
unfolding IsStrictlySortedBy
all_later d [] r up some lt = absurd (omega (arith, some))
all_later d (x ∷ xs) r up some lt =
    All-from_recursion (λ y. d < y.doc) (x ∷ xs) (
      lt,
      all_then (λ y. by_spot x y ≡ Less) (λ y. d < y.doc)
          (λ y e. (let le = not_before x.doc y.doc (ordering_then (nat_cmp x.pos y.pos) (slice_cmp nat_cmp x.word y.word)) e in omega (arith, lt, le))) xs up.0,
    )

pub later_waiting : (s : StateView) (d : ℕ) (rows : List Row) → AreWaiting s rows → All (λ r. d < r.doc) rows → AreWaiting (without_doc s d) rows
later_waiting s d rows w later =
    let long = length-set s.present d false in
    let upto = w.upto in
    record {
      spots = w.spots;
      good = w.good;
      there = λ k r l. still_there s.present d (get_or rows k r).doc (later_not (get_or rows k r).doc d (later k r l)) ∙ w.there k r l;
      below = All-weaker (λ r. r.doc < length s.present) (λ r. r.doc < length (set s.present d false)) (λ r lt. omega (arith, lt, long)) rows w.below;
      from = w.from;
      behind = w.behind;
      upto = omega (arith, upto, long);
      held_below = All-filter (λ p. not (p.doc == d)) (λ p. p.doc < w.from) s.held w.held_below;
      rows_from = w.rows_from;
    }
