-- The hits of a table of documents and the rows of some words, found in spans.
--
--   hits_there       the documents of a span that have an entry are its hits
--   entries_there    each of them has an entry
--   none_in_span     a span of no entry has no hit
--   between_there    the places of words between two are those of their rows
--   place_added      the row of one place more
--   span_added       the rows of a span behind those so far
--   span_fits        there is room for them
use Rattle.std.proofs.Common.{◌≡◌, ℕ, zero, suc, ◌+◌, ◌-◌, ◌<◌, ◌≤◌, ◌&&◌, true, false, cond, List, [], ◌∷◌, ◌++◌}
use Rattle.std.proofs.Common.{length, get_or, map, take, drop, refl, sym, ap, ◌∙◌, append_assoc, arith}
use Rattle.std.specs.Prelude.{All, filter, nat_le, nat_lt}
use Rattle.std.specs.List.{AllByRecursion, range_with_len}
use Rattle.std.proofs.lemmas.Bool.Decides.{nat_tests}
use Rattle.std.proofs.lemmas.List.{drop-drop, drop_more, get_or-map, get_or_default, map-append, take_more, length-append, length-drop, length-map}
use Rattle.std.proofs.lemmas.List.Elements.{recursion_from_All}
use Rattle.cs_base.specs.declared.content.doc.Post.{Post}
use Rattle.cs_cols.specs.SpanPlaces.{IsSpan, is_between_at, places_where}
use Rattle.cs_cols.proofs.FoundPlaces.{places_pass, places_within, rows_there}
use Rattle.cs_rows.specs.BestScores.{hits_in}
use Rattle.cs_rows.specs.Spans.{AreHitsBetween, ArePlacesBetween, HasEntry, has_entry_at, hit_at}
use Rattle.cs_rows.specs.Stocked.{is_between}

none_more : (n : ℕ) → n + 0 ≡ n
none_more n = omega arith

hits_next : (best : List ℕ) (d : ℕ) → d < length best
    → hits_in d (drop d best) ≡ cond (nat_lt 0 (get_or best d 0)) (hit_at best d ∷ hits_in (d + 1) (drop (d + 1) best)) (hits_in (d + 1) (drop (d + 1) best))
unfolding hits_in
hits_next best d lt = ap (hits_in d) (drop_more best d 0 lt)

hits_from : (best : List ℕ) (from n : ℕ) → from + n ≤ length best
    → map (hit_at best) (filter (has_entry_at best) (range_with_len from n)) ++ hits_in (from + n) (drop (from + n) best) ≡ hits_in from (drop from best)
hits_from best from zero le = ap (λ x. hits_in x (drop x best)) (none_more from)
hits_from best from (suc n) le =
    let next : from + suc n ≡ from + 1 + n = omega arith in
    let more = filter (has_entry_at best) (range_with_len (from + 1) n) in
    let rest = map (hit_at best) more in
    let behind = hits_in (from + suc n) (drop (from + suc n) best) in
    let after = hits_in (from + 1) (drop (from + 1) best) in
    let h : rest ++ behind ≡ after = ap (λ x. rest ++ hits_in x (drop x best)) next ∙ hits_from best (from + 1) n (omega (arith, le)) in
    let split : hits_in from (drop from best) ≡ cond (has_entry_at best from) (hit_at best from ∷ after) after = hits_next best from (omega (arith, le)) in
    elim (has_entry_at best from) as (λ b. hits_in from (drop from best) ≡ cond b (hit_at best from ∷ after) after
    → map (hit_at best) (cond b (from ∷ more) more) ++ behind ≡ hits_in from (drop from best)) [
      | true ↦ λ e. ap (λ xs. hit_at best from ∷ xs) h ∙ sym e
      | false ↦ λ e. h ∙ sym e
    ] split

module _ (best : List ℕ) (from to : ℕ) (docs : List ℕ) {room : ℕ} (span : IsSpan from to (length best) room)
    (are : docs ≡ places_where (has_entry_at best) from to) where
  -- the documents of a span that have an entry are its hits
  pub hits_there : AreHitsBetween best from to docs
  hits_there =
      let up = span.onward in
      let end : from + (to - from) ≡ to = omega (arith, up) in
      ap (λ xs. map (hit_at best) xs ++ hits_in to (drop to best)) are
      ∙ ap (λ x. map (hit_at best) (places_where (has_entry_at best) from to) ++ hits_in x (drop x best)) (sym end)
      ∙ hits_from best from (to - from) (let in_table = span.within in omega (arith, end, in_table))

  -- each of them has one
  pub entries_there : All (HasEntry best) docs
  entries_there k d lt = (
    places_within (has_entry_at best) from to (length best) docs span.onward span.within are k d lt,
    (let has = places_pass (has_entry_at best) from to docs are k d lt in grind (arith, nat_tests, has)),
  )

no_hit : (d n : ℕ) (best : List ℕ) → n ≤ length best → AllByRecursion (λ v. v ≡ 0) (take n best) → hits_in (d + n) (drop n best) ≡ hits_in d best
unfolding hits_in
no_hit d zero best le bare = ap (λ x. hits_in x best) (none_more d)
no_hit d (suc n) [] le bare = refl
no_hit d (suc n) (v ∷ best) le bare =
    let longer : d + suc n ≡ d + 1 + n = omega arith in
    ap (λ x. hits_in x (drop n best)) longer ∙ no_hit (d + 1) n best (omega (arith, le)) bare.1
    ∙ ap (λ x. cond (nat_lt 0 x) (record { doc = d; score = v } ∷ hits_in (d + 1) best) (hits_in (d + 1) best)) (sym bare.0)

pub none_in_span : (best : List ℕ) (from to : ℕ) → from ≤ to → to ≤ length best → All (λ v. v ≡ 0) (take (to - from) (drop from best))
    → hits_in to (drop to best) ≡ hits_in from (drop from best)
none_in_span best from to up within bare =
    let n = to - from in
    let long = length-drop from best in
    let end : from + n ≡ to = omega (arith, up) in
    ap (λ x. hits_in x (drop x best)) (sym end) ∙ ap (hits_in (from + n)) (sym (drop-drop n from best))
    ∙ no_hit from n (drop from best) (omega (arith, up, within, long)) (recursion_from_All (λ v. v ≡ 0) (take n (drop from best)) bare)

-- the places of words are those of their rows
pub between_there : (lo hi : ℕ) (rows : List Post) (d : Post) (words : List ℕ) → words ≡ map (λ p. p.word) rows → (from to : ℕ) (places : List ℕ)
    → from ≤ to → to ≤ length words → places ≡ places_where (is_between_at lo hi words) from to → ArePlacesBetween lo hi rows d from to places
between_there lo hi rows d words are from to places onward within found =
    rows_there (is_between_at lo hi words) (is_between lo hi) rows d from to places onward
    (omega (arith, within, ap length are, length-map rows (λ (p : Post). p.word)))
    (λ i lt. ap (λ x. nat_le lo x && nat_lt x hi) (ap (λ xs. get_or xs i 0) are ∙ get_or-map (λ p. p.word) rows i d 0 lt)) found

pub place_added : (rows : List Post) (d : Post) (places : List ℕ) (j : ℕ) (old now new : List Post) (x : Post) → j < length places
    → get_or places j 0 < length rows → x ≡ get_or rows (get_or places j 0) x → now ≡ old ++ map (λ i. get_or rows i d) (take j places)
    → new ≡ now ++ x ∷ [] → new ≡ old ++ map (λ i. get_or rows i d) (take (j + 1) places)
place_added rows d places j old now new x lt inside is before told =
    let at : ℕ → Post = λ i. get_or rows i d in
    let p = get_or places j 0 in
    let same : x ≡ at p = is ∙ get_or_default rows p x d inside in
    let more : map at (take (j + 1) places) ≡ map at (take j places) ++ x ∷ [] =
    ap (map at) (take_more places j 0 lt) ∙ map-append at (take j places) (p ∷ []) ∙ ap (λ y. map at (take j places) ++ y ∷ []) (sym same) in
    told ∙ ap (λ xs. xs ++ x ∷ []) before ∙ append_assoc old (map at (take j places)) (x ∷ []) ∙ ap (λ xs. old ++ xs) (sym more)

pub span_added : (lo hi : ℕ) (rows : List Post) (d : Post) (from to : ℕ) (places : List ℕ) (old new : List Post) → ArePlacesBetween lo hi rows d from to places
    → new ≡ old ++ map (λ i. get_or rows i d) places → filter (is_between lo hi) rows ≡ old ++ filter (is_between lo hi) (drop from rows)
    → filter (is_between lo hi) rows ≡ new ++ filter (is_between lo hi) (drop to rows)
span_added lo hi rows d from to places old new found told before =
    let t = is_between lo hi in
    let here = map (λ i. get_or rows i d) places in
    before ∙ ap (λ xs. old ++ xs) (sym found) ∙ sym (append_assoc old here (filter t (drop to rows))) ∙ ap (λ xs. xs ++ filter t (drop to rows)) (sym told)

pub span_fits : (lo hi : ℕ) (rows : List Post) (d : Post) (from to : ℕ) (places : List ℕ) (old : List Post) (room : ℕ)
    → ArePlacesBetween lo hi rows d from to places
    → filter (is_between lo hi) rows ≡ old ++ filter (is_between lo hi) (drop from rows)
    → length (filter (is_between lo hi) rows) ≤ length old + room → length places ≤ room
span_fits lo hi rows d from to places old room found before fits =
    let t = is_between lo hi in
    let here = map (λ i. get_or rows i d) places in
    let whole = ap length before ∙ length-append old (filter t (drop from rows)) in
    let span = sym (length-append here (filter t (drop to rows))) ∙ ap length found in
    omega (arith, fits, whole, span, length-map places (λ i. get_or rows i d))
