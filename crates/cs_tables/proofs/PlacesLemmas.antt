-- The places of rows in listed documents, and what is counted at them.
--
--   listed_chosen     the rows in listed documents are those that count
--   nothing_counted     no rows change no mark
--   CountedUpTo, counted_none, counted_all, counted_on     the rows before a place are counted: none, all, those up to another place
--   listed_there     the places that were found are of listed documents
--   CountsPlaces, place_on     the rows at the first places are counted, and the one at a place more
use Rattle.std.proofs.Common.{◌≡◌, ℕ, ◌+◌, ◌<◌, ◌≤◌, ◌&&◌, Bool, true, false, cond, List, [], ◌∷◌, ◌++◌, length, get_or, map, take, drop, refl, sym, ap, subst, ◌∙◌, append_assoc, arith}
use Rattle.std.specs.Prelude.{All, filter, nat_le, nat_lt}
use Rattle.std.proofs.lemmas.List.{append-nil, drop_all, map_more}
use Rattle.cs_base.specs.declared.content.doc.Post.{Post}
use Rattle.cs_tables.specs.declared.counts.Mark.{Mark}
use Rattle.cs_cols.specs.SpanPlaces.{is_listed_at, places_where}
use Rattle.cs_cols.proofs.FoundPlaces.{places_pass, places_within, rows_there}
use Rattle.cs_tables.specs.declared.word_counts.Rows.{Rows}
use Rattle.cs_tables.specs.WordCounts.{AreCountable, Counts, CountsAt, HasColumnsOf, HasWordMarks, IsListedAt, chosen, is_chosen, is_of_listed}
use Rattle.cs_tables.proofs.WordCountsLemmas.{CountsRow, as_many, pieces_counted, post_at}

module _ (low high : ℕ) (listed : List Bool) where
  -- rows in other documents don't count
  listed_chosen : (rows : List Post) → chosen low high listed (filter (is_of_listed listed) rows) ≡ chosen low high listed rows
  listed_chosen [] = refl
  listed_chosen (p ∷ rows) =
      let rest = filter (is_of_listed listed) rows in
      let within : Bool = nat_le low p.word && nat_lt p.word high in
      elim (is_of_listed listed p) as (λ b. is_of_listed listed p ≡ b → chosen low high listed (cond b (p ∷ rest) rest) ≡ chosen low high listed (p ∷ rows)) [
        | true ↦ λ e. ap (λ xs. cond (is_chosen low high listed p) (p ∷ xs) xs) (listed_chosen rows)
        | false ↦ λ e. listed_chosen rows ∙ ap (λ b. cond b (p ∷ chosen low high listed rows) (chosen low high listed rows)) (sym (ap (λ b. within && b) e ∙ and_false within))
      ] refl
    where
      and_false : (b : Bool) → (b && false) ≡ false
      and_false true = refl
      and_false false = refl

  pub record CountedUpTo (rows : List Post) (from : ℕ) (m0 m1 : List Mark) : Type 0 where
    pub done : List Post
    pub are : done ++ filter (is_of_listed listed) (drop from rows) ≡ filter (is_of_listed listed) rows
    pub counts : Counts low high listed done m0 m1

  pub nothing_counted : (m : List Mark) → Counts low high listed [] m m
  nothing_counted m seen c h = subst (λ xs. HasWordMarks low xs m) (sym (append-nil seen)) h

  pub counted_none : (rows : List Post) (m : List Mark) → CountedUpTo rows 0 m m
  counted_none rows m = record { done = []; are = refl; counts = nothing_counted m }

  pub counted_all : (rows : List Post) (from : ℕ) (m0 m1 : List Mark) → length rows ≤ from → CountedUpTo rows from m0 m1 → Counts low high listed rows m0 m1
  counted_all rows from m0 m1 past up seen c h =
      let all : up.done ≡ filter (is_of_listed listed) rows = sym (append-nil up.done) ∙ ap (λ xs. up.done ++ filter (is_of_listed listed) xs) (sym (drop_all from rows past)) ∙ up.are in
      let same : chosen low high listed up.done ≡ chosen low high listed rows = ap (chosen low high listed) all ∙ listed_chosen rows in
      subst (λ xs. HasWordMarks low (seen ++ xs) m1) same (up.counts seen (subst (λ xs. AreCountable (seen ++ xs)) (sym same) c) h)

module _ (low high : ℕ) (rows : Rows) where
  abbrev listed : List Bool
  listed = rows.listed.now

  abbrev docs : List ℕ
  docs = rows.docs.now

  -- the rows of a span more, which stand at these places
  pub counted_on : (posts : List Post) → HasColumnsOf rows posts → (d : Post) (from to : ℕ) (places : List ℕ) (m0 m1 m2 : List Mark) → from ≤ to → to ≤ length docs
      → places ≡ places_where (is_listed_at listed docs) from to → CountsAt low high rows places m1 m2
      → CountedUpTo low high listed posts from m0 m1 → CountedUpTo low high listed posts to m0 m2
  counted_on posts has d from to places m0 m1 m2 onward within found counts before =
      let at = map (λ i. get_or posts i d) places in
      let rest = filter (is_of_listed listed) (drop to posts) in
      let long = as_many low high rows posts has in
      let placed = rows_there (is_listed_at listed docs) (is_of_listed listed) posts d from to places onward (omega (arith, within, long))
      (λ i lt. ap (λ x. get_or listed x false) (post_at low high rows posts has i d (omega (arith, lt, long))).0) found in
      record {
        done = before.done ++ at;
        are = append_assoc before.done at rest ∙ ap (λ xs. before.done ++ xs) placed ∙ before.are;
        counts = pieces_counted low high listed before.done at m0 m1 m2 before.counts (counts.counted posts has d);
      }

  -- the places that were found are of listed documents
  pub listed_there : (from to : ℕ) (places : List ℕ) → from ≤ to → to ≤ length docs → places ≡ places_where (is_listed_at listed docs) from to
      → All (IsListedAt listed docs) places
  listed_there from to places onward within found = λ k d lt. (
    places_within (is_listed_at listed docs) from to (length docs) places onward within found k d lt,
    places_pass (is_listed_at listed docs) from to places found k d lt,
  )

  -- the rows at the first places are counted
  abbrev pub CountsPlaces : List ℕ → ℕ → List Mark → List Mark → Type 0
  CountsPlaces places k old new = (posts : List Post) → HasColumnsOf rows posts → (d : Post) → Counts low high listed (map (λ i. get_or posts i d) (take k places)) old new

  -- the row at one place more
  pub place_on : (places : List ℕ) (k : ℕ) (m0 m1 m2 : List Mark) → k < length places → get_or places k 0 < length docs
      → CountsRow low high rows (get_or places k 0) m1 m2 → CountsPlaces places k m0 m1 → CountsPlaces places (k + 1) m0 m2
  place_on places k m0 m1 m2 lt inside next before posts has d =
      let row : ℕ → Post = λ i. get_or posts i d in
      let at = get_or places k 0 in
      let is = post_at low high rows posts has at d inside in
      subst (λ xs. Counts low high listed xs m0 m2) (sym (map_more row places k 0 lt))
      (pieces_counted low high listed (map row (take k places)) (row at ∷ []) m0 m1 m2 (before posts has d) (next (row at) is.0 is.1))
