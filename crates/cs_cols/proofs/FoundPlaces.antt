-- The places of rows that pass a test, found one after the other, and the rows that stand there.
--
--   range_joined       numbers one behind the other
--   found_on           a place more is put behind those that were found, and counts where its row passes
--   found_all          all places of a span are found
--   places_within      they are places of rows
--   places_pass        and each of them passes
--   rows_there         the rows at the places, and behind them those that pass of the rows after the span, are those that pass from its start
use Rattle.std.proofs.Common.{◌≡◌, ℕ, zero, suc, ◌+◌, ◌-◌, ◌<◌, ◌≤◌, Bool, true, false, cond, List, [], ◌∷◌, ◌++◌, length}
use Rattle.std.proofs.Common.{length-set, get_or, set, map, take, drop, sym, ap, subst, ◌∙◌, arith}
use Rattle.std.specs.Prelude.{All, filter}
use Rattle.std.specs.Int.{from_bool}
use Rattle.std.specs.List.{range_with_len}
use Rattle.std.proofs.lemmas.List.{append-nil, drop_more, take-set, take_more_set}
use Rattle.std.proofs.lemmas.List.Elements.{All-filter, filter-append, filter_passes}
use Rattle.std.proofs.lemmas.List.FromFn.{get_or-range_with_len, length-range_with_len}
use Rattle.cs_cols.specs.SpanPlaces.{IsSpan, places_where}

none_more : (n : ℕ) → n + 0 ≡ n
none_more n = omega arith

at_most_one : (b : Bool) → from_bool b ≤ 1
at_most_one true = omega arith
at_most_one false = omega arith

none_before : (n : ℕ) → 0 + n ≡ n
none_before n = omega arith

-- numbers one behind the other
pub range_joined : (a n m : ℕ) → range_with_len a (n + m) ≡ range_with_len a n ++ range_with_len (a + n) m
range_joined a zero m = ap (range_with_len a) (none_before m) ∙ ap (λ (x : ℕ). range_with_len x m) (sym (none_more a))
range_joined a (suc n) m =
    let longer : suc n + m ≡ suc (n + m) = omega arith in
    let next : a + 1 + n ≡ a + suc n = omega arith in
    ap (range_with_len a) longer
    ∙ ap (λ (xs : List ℕ). a ∷ xs) (range_joined (a + 1) n m ∙ ap (λ (x : ℕ). range_with_len (a + 1) n ++ range_with_len x m) next)

range_more : (from i : ℕ) → from ≤ i → range_with_len from (i + 1 - from) ≡ range_with_len from (i - from) ++ i ∷ []
range_more from i le =
    let more : i + 1 - from ≡ i - from + 1 = omega (arith, le) in
    let here : from + (i - from) ≡ i = omega (arith, le) in
    ap (range_with_len from) more ∙ range_joined from (i - from) 1 ∙ ap (λ (x : ℕ). range_with_len from (i - from) ++ x ∷ []) here

module _ (t : ℕ → Bool) (from i n one : ℕ) (places : List ℕ) where
  placed_on : from ≤ i → n < length places → one ≡ from_bool (t i) → take n places ≡ places_where t from i
      → take (n + one) (set places n i) ≡ places_where t from (i + 1)
  placed_on le room count h =
      let before = places_where t from i in
      let more = ap (filter t) (range_more from i le) ∙ filter-append t (range_with_len from (i - from)) (i ∷ []) in
      elim (t i) as (λ b. one ≡ from_bool b → take (n + one) (set places n i) ≡ before ++ cond b (i ∷ []) []) [
        | true ↦ λ many. ap (λ x. take (n + x) (set places n i)) many ∙ take_more_set places n i room ∙ ap (λ xs. xs ++ i ∷ []) h
        | false ↦ λ many. ap (λ x. take (n + x) (set places n i)) many ∙ ap (λ x. take x (set places n i)) (none_more n) ∙ take-set places n i ∙ h
            ∙ sym (append-nil before)
      ] count ∙ sym more

  -- a place more is put behind those that were found, and counts where its row passes
  pub found_on : {to rows room : ℕ} → IsSpan from to rows room → from ≤ i → i < to → one ≡ from_bool (t i)
      → take n places ≡ places_where t from i → n + from ≤ i → length places ≡ room
      → (take (n + one) (set places n i) ≡ places_where t from (i + 1)) × (n + one + from ≤ i + 1) × (length (set places n i) ≡ room)
  found_on span le lt count h few long =
      let fits = span.fits in
      let most = at_most_one (t i) in
      (placed_on le (omega (arith, few, long, lt, fits)) count h, omega (arith, few, count, most), length-set places n i ∙ long)

-- all places of a span are found
pub found_all : (t : ℕ → Bool) (from to i : ℕ) (places : List ℕ) {rows room : ℕ} → IsSpan from to rows room → to ≤ i → (from ≤ to → i ≤ to)
    → places ≡ places_where t from i → places ≡ places_where t from to
found_all t from to i places span past end h =
    let le = end span.onward in
    let done : i ≡ to = omega (arith, past, le) in
    subst (λ k. places ≡ places_where t from k) done h

module _ (t : ℕ → Bool) where
  -- they are places of rows
  pub places_within : (from to bound : ℕ) (places : List ℕ) → from ≤ to → to ≤ bound → places ≡ places_where t from to → All (λ i. i < bound) places
  places_within from to bound places onward within are =
      subst (All (λ i. i < bound)) (sym are) (All-filter t (λ i. i < bound) (range_with_len from (to - from)) (λ j d lt.
      let less : j < to - from = omega (arith, lt, length-range_with_len from (to - from)) in
      omega (arith, get_or-range_with_len from (to - from) j d less, less, onward, within)))

  -- and each of them passes
  pub places_pass : (from to : ℕ) (places : List ℕ) → places ≡ places_where t from to → All (λ i. t i ≡ true) places
  places_pass from to places are = subst (All (λ i. t i ≡ true)) (sym are) (filter_passes t (range_with_len from (to - from)))

module _ {X : Type 0} (t : ℕ → Bool) (u : X → Bool) (rows : List X) (d : X) where
  abbrev at : ℕ → X
  at i = get_or rows i d

  there : (from n : ℕ) → from + n ≤ length rows → ((i : ℕ) → i < length rows → t i ≡ u (at i))
      → map at (filter t (range_with_len from n)) ++ filter u (drop (from + n) rows) ≡ filter u (drop from rows)
  there from zero le same = ap (λ k. filter u (drop k rows)) (none_more from)
  there from (suc n) le same =
      let lt : from < length rows = omega (arith, le) in
      let next : from + suc n ≡ from + 1 + n = omega arith in
      let rest = map at (filter t (range_with_len (from + 1) n)) in
      let behind = filter u (drop (from + suc n) rows) in
      let after = filter u (drop (from + 1) rows) in
      let h : rest ++ behind ≡ after = ap (λ k. rest ++ filter u (drop k rows)) next ∙ there (from + 1) n (omega (arith, le)) same in
      let split : filter u (drop from rows) ≡ cond (u (at from)) (at from ∷ after) after = ap (filter u) (drop_more rows from d lt) in
      elim (t from) as (λ b. b ≡ u (at from) → map at (cond b (from ∷ filter t (range_with_len (from + 1) n)) (filter t (range_with_len (from + 1) n))) ++ behind
      ≡ filter u (drop from rows)) [
        | true ↦ λ e. ap (λ xs. at from ∷ xs) h ∙ ap (λ b. cond b (at from ∷ after) after) e ∙ sym split
        | false ↦ λ e. h ∙ ap (λ b. cond b (at from ∷ after) after) e ∙ sym split
      ] (same from lt)

  -- the rows at the places, and behind them those that pass of the rows after the span, are those that pass from its start
  pub rows_there : (from to : ℕ) (places : List ℕ) → from ≤ to → to ≤ length rows → ((i : ℕ) → i < length rows → t i ≡ u (at i))
      → places ≡ places_where t from to → map at places ++ filter u (drop to rows) ≡ filter u (drop from rows)
  rows_there from to places onward within same are =
      let end : from + (to - from) ≡ to = omega (arith, onward) in
      ap (λ xs. map at xs ++ filter u (drop to rows)) are ∙ ap (λ k. map at (places_where t from to) ++ filter u (drop k rows)) (sym end)
      ∙ there from (to - from) (omega (arith, end, within)) same
