-- The groups of rows that are sorted by document are the documents with their greatest scores.
--
--   best_of d xs     the greatest score of those of document d
--   groups-are       the groups are the documents, each with the greatest score of its rows
--   next_is          the row at a place is the next of the rest
--   best_rise        the documents with their greatest scores ascend
--   base_each        what a base adds
use Rattle.std.proofs.Common.{◌≡◌, ℕ, zero, suc, ◌+◌, ◌<◌, ◌≤◌, max, true, false, cond, List, [], ◌∷◌, map, filter, length, get_or, drop, take, ◌++◌, ◌==◌, refl, sym, ap₂, ◌∙◌, ap, subst, arith, if◌then◌else◌}
use Rattle.std.specs.List.{AllByRecursion}
use Rattle.std.specs.List.Sorted.{IsStrictlySortedBy}
use Rattle.std.specs.Ordering.{nat_cmp}
use Rattle.std.specs.declared.cmp.Ordering.TheVariants.{Less}
use Rattle.std.proofs.lemmas.List.{length-map, drop_all, map-append, take_more}
use Rattle.std.proofs.lemmas.Bool.{eqb-true, eq-eqb}
use Rattle.std.proofs.lemmas.Bool.Decides.{nat_tests}
use Rattle.cs_base.specs.content.Members.{members_in}
use Rattle.cs_base.specs.content.Orders.{docs_of, AreSorted, AreByDoc, by_doc}
use Rattle.cs_base.specs.declared.content.doc.Base.{Base}
use Rattle.cs_base.specs.declared.content.doc.Post.{Post}
use Rattle.cs_base.specs.declared.content.doc.Scored.{Scored}
use Rattle.std.specs.FinMap.{nat_cmp-IsAntisymmetric}
use Rattle.std.specs.Cmp.{nat_cmp_total}
use Rattle.cs_base.proofs.MembersLemmas.{listing-rises, none_listed, all_then}
use Rattle.cs_base.proofs.OrdersLemmas.{Less-from_lt}
use Rattle.cs_rank.specs.Groups.{scored_row, group, groups}
use Rattle.cs_rank.specs.DocScores.{greatest, of_doc, best_row, with_base}
use Rattle.cs_rank.proofs.Climbs.{Climbs, fresh, further, fresh-rises, fresh-listed, docs_climb}

abbrev docs : List Scored → List ℕ
docs xs = map (λ h. h.doc) xs

abbrev pub best_of : ℕ → List Scored → ℕ
best_of d xs = greatest (map (λ h. h.score) (filter (λ h. h.doc == d) xs))

abbrev entry : List Scored → ℕ → Scored
entry xs d = record { doc = d; score = best_of d xs }

-- a term of best_of, by whether the document is asked
best_cons : (d : ℕ) (x : Scored) (xs : List Scored) → best_of d (x ∷ xs) ≡ cond (x.doc == d) (max x.score (best_of d xs)) (best_of d xs)
best_cons d x xs =
    elim (x.doc == d) as (λ b. greatest (map (λ h. h.score) (cond b (x ∷ filter (λ h. h.doc == d) xs) (filter (λ h. h.doc == d) xs))) ≡ cond b (max x.score (best_of d xs)) (best_of d xs)) [
      | true ↦ refl
      | false ↦ refl
    ]

-- two neighbours of one document count as their group
joined : (d a s t : ℕ) (xs : List Scored) → best_of d (record { doc = a; score = max s t } ∷ xs) ≡ best_of d (record { doc = a; score = s } ∷ record { doc = a; score = t } ∷ xs)
joined d a s t xs =
    best_cons d (record { doc = a; score = max s t }) xs
    ∙ elim (a == d) as (λ b. cond b (max (max s t) (best_of d xs)) (best_of d xs) ≡ cond b (max s (cond b (max t (best_of d xs)) (best_of d xs))) (cond b (max t (best_of d xs)) (best_of d xs))) [
      | true ↦ omega arith
      | false ↦ refl
    ]
    ∙ sym (best_cons d (record { doc = a; score = s }) (record { doc = a; score = t } ∷ xs) ∙ ap (λ n. cond (a == d) (max s n) n) (best_cons d (record { doc = a; score = t }) xs))

-- of a document below all
none_of : (d : ℕ) (xs : List Scored) → AllByRecursion (λ y. d < y) (docs xs) → best_of d xs ≡ 0
none_of d [] h = refl
none_of d (x ∷ xs) h =
    let other : x.doc == d ≡ false = (let lt = h.0 in grind (arith, nat_tests)) in
    best_cons d x xs ∙ ap (λ b. cond b (max x.score (best_of d xs)) (best_of d xs)) other ∙ none_of d xs h.1

-- entries that don't speak of x
map_others : (x : Scored) (xs : List Scored) (ds : List ℕ) → AllByRecursion (λ y. nat_cmp x.doc y ≡ Less) ds → map (entry xs) ds ≡ map (entry (x ∷ xs)) ds
map_others x xs [] h = refl
map_others x xs (d ∷ ds) h =
    let other : x.doc == d ≡ false = (let less = h.0 in grind (arith, nat_tests)) in
    let same : best_of d xs ≡ best_of d (x ∷ xs) = sym (best_cons d x xs ∙ ap (λ b. cond b (max x.score (best_of d xs)) (best_of d xs)) other) in
    ap (λ n. let e : Scored = record { doc = d; score = n } in e ∷ map (entry xs) ds) same ∙ ap (λ l. entry (x ∷ xs) d ∷ l) (map_others x xs ds h.1)

map_joined : (a s t : ℕ) (xs : List Scored) (ds : List ℕ) → map (entry (record { doc = a; score = max s t } ∷ xs)) ds ≡ map (entry (record { doc = a; score = s } ∷ record { doc = a; score = t } ∷ xs)) ds
map_joined a s t xs [] = refl
map_joined a s t xs (d ∷ ds) =
    ap (λ n. let e : Scored = record { doc = d; score = n } in e ∷ map (entry (record { doc = a; score = max s t } ∷ xs)) ds) (joined d a s t xs)
    ∙ ap (λ l. entry (record { doc = a; score = s } ∷ record { doc = a; score = t } ∷ xs) d ∷ l) (map_joined a s t xs ds)

all_above : (a b : ℕ) (xs : List ℕ) → a < b → AllByRecursion (λ y. b ≤ y) xs → AllByRecursion (λ y. a < y) xs
all_above a b xs lt h = all_then (λ y. b ≤ y) (λ y. a < y) (λ y le. omega arith) xs h

-- all that is fresh behind x is above what is below x
over_fresh : (l x : ℕ) (xs : List ℕ) → l < x → Climbs (x ∷ xs) → AllByRecursion (λ y. nat_cmp l y ≡ Less) (x ∷ fresh x xs)
unfolding IsStrictlySortedBy
over_fresh l x xs lt up = (Less-from_lt l x lt, further l x (fresh x xs) lt (fresh-rises x xs up).0)

up_to_doc : (a b : ℕ) → a ≤ b → b == a ≡ false → a < b
up_to_doc a b le e = grind (arith, nat_tests)

first_alone : (h : Scored) (xs : List Scored) → AllByRecursion (λ y. h.doc < y) (docs xs) → best_of h.doc (h ∷ xs) ≡ h.score
first_alone h xs up =
    best_cons h.doc h xs ∙ ap (λ b. cond b (max h.score (best_of h.doc xs)) (best_of h.doc xs)) (eq-eqb h.doc h.doc refl) ∙ ap (max h.score) (none_of h.doc xs up) ∙ (let alone : max h.score 0 ≡ h.score = omega arith in alone)

pub group-is : (h : Scored) (xs : List Scored) → Climbs (h.doc ∷ docs xs) → group h xs ≡ map (entry (h ∷ xs)) (h.doc ∷ fresh h.doc (docs xs))
group-is h [] up = ap (λ n. let e : Scored = record { doc = h.doc; score = n } in e ∷ []) (sym (first_alone h [] tt))
group-is h (x ∷ xs) up =
    elim (x.doc == h.doc) as (λ b. x.doc == h.doc ≡ b → (if b then group (record { doc = h.doc; score = max h.score x.score }) xs else h ∷ group x xs) ≡ map (entry (h ∷ x ∷ xs)) (h.doc ∷ (if b then fresh h.doc (docs xs) else x.doc ∷ fresh x.doc (docs xs)))) [
      | true ↦ λ e.
          let whole = group-is (record { doc = h.doc; score = max h.score x.score }) xs (up.0.1, up.1.1) in
          let there : x ≡ record { doc = h.doc; score = x.score } = ap (λ d. let r : Scored = record { doc = d; score = x.score } in r) (eqb-true x.doc h.doc e) in
          whole ∙ map_joined h.doc h.score x.score xs (h.doc ∷ fresh h.doc (docs xs))
          ∙ ap (λ y. map (entry (h ∷ y ∷ xs)) (h.doc ∷ fresh h.doc (docs xs))) (sym there)
      | false ↦ λ e.
          let lt = up_to_doc h.doc x.doc up.0.0 e in
          ap (λ l. h ∷ l) (group-is x xs up.1 ∙ map_others h (x ∷ xs) (x.doc ∷ fresh x.doc (docs xs)) (over_fresh h.doc x.doc (docs xs) lt up.1))
          ∙ ap (λ n. let r : Scored = record { doc = h.doc; score = n } in r ∷ map (entry (h ∷ x ∷ xs)) (x.doc ∷ fresh x.doc (docs xs))) (sym (first_alone h (x ∷ xs) (lt, all_above h.doc x.doc (docs xs) lt up.1.0)))
    ] refl

-- over rows
best_rows : (d : ℕ) (rows : List Post) → best_of d (map scored_row rows) ≡ greatest (map (λ p. p.score) (of_doc d rows))
best_rows d [] = refl
best_rows d (p ∷ rows) =
    best_cons d (scored_row p) (map scored_row rows)
    ∙ elim (p.doc == d) as (λ b. cond b (max p.score (best_of d (map scored_row rows))) (best_of d (map scored_row rows)) ≡ greatest (map (λ p. p.score) (cond b (p ∷ of_doc d rows) (of_doc d rows)))) [
      | true ↦ ap (max p.score) (best_rows d rows)
      | false ↦ best_rows d rows
    ]

entry_rows : (rows : List Post) (ds : List ℕ) → map (entry (map scored_row rows)) ds ≡ map (best_row rows) ds
entry_rows rows [] = refl
entry_rows rows (d ∷ ds) =
    ap (λ n. let r : Scored = record { doc = d; score = n } in r ∷ map (entry (map scored_row rows)) ds) (best_rows d rows) ∙ ap (λ l. best_row rows d ∷ l) (entry_rows rows ds)

docs_rows : (rows : List Post) → docs (map scored_row rows) ≡ map (λ p. p.doc) rows
docs_rows [] = refl
docs_rows (p ∷ rows) = ap (λ l. p.doc ∷ l) (docs_rows rows)

pub nothing_listed : [] ≡ members_in nat_cmp []
nothing_listed = none_listed nat_cmp nat_cmp_total nat_cmp-IsAntisymmetric

pub groups-are : (rows : List Post) → AreSorted rows → groups (map scored_row rows) ≡ map (best_row rows) (docs_of rows)
groups-are [] up = ap (map (best_row [])) nothing_listed
groups-are (p ∷ rows) up =
    let climbs = docs_climb (p ∷ rows) up in
    group-is (scored_row p) (map scored_row rows) (subst (λ ds. Climbs (p.doc ∷ ds)) (sym (docs_rows rows)) climbs)
    ∙ ap (λ ds. map (entry (map scored_row (p ∷ rows))) (p.doc ∷ fresh p.doc ds)) (docs_rows rows)
    ∙ ap (map (entry (map scored_row (p ∷ rows)))) (fresh-listed p.doc (map (λ p. p.doc) rows) climbs)
    ∙ entry_rows (p ∷ rows) (docs_of (p ∷ rows))

-- the row at i is the next of the rest
pub next_is : (rows : List Post) (i : ℕ) (s : Scored) → i < length rows → s.doc ≡ get_or (map (λ p. p.doc) rows) i s.doc → s.score ≡ get_or (map (λ p. p.score) rows) i s.score → drop i (map scored_row rows) ≡ s ∷ drop (suc i) (map scored_row rows)
next_is [] i s lt d e = absurd (omega arith)
next_is (p ∷ rows) zero s lt d e = ap₂ (λ a b. let r : Scored = record { doc = a; score = b } in r ∷ map scored_row rows) (sym d) (sym e)
next_is (p ∷ rows) (suc i) s lt d e = next_is rows i s (omega arith) d e

map_above : (rows : List Post) (d : ℕ) (ds : List ℕ) → AllByRecursion (λ y. nat_cmp d y ≡ Less) ds → AllByRecursion (λ y. by_doc (best_row rows d) y ≡ Less) (map (best_row rows) ds)
map_above rows d [] up = tt
map_above rows d (e ∷ ds) up = (up.0, map_above rows d ds up.1)

map_rises : (rows : List Post) (ds : List ℕ) → IsStrictlySortedBy nat_cmp ds → AreByDoc (map (best_row rows) ds)
unfolding IsStrictlySortedBy
map_rises rows [] up = tt
map_rises rows (d ∷ ds) up = (map_above rows d ds up.0, map_rises rows ds up.1)

-- the documents with their greatest scores ascend
pub best_rise : (rows : List Post) → AreByDoc (map (best_row rows) (docs_of rows))
best_rise rows = map_rises rows (docs_of rows) (listing-rises nat_cmp (map (λ p. p.doc) rows))

pub base_each : (base : Base) (rows : List Post) (ds : List ℕ) → map (with_base base) (map (best_row rows) ds) ≡ map (λ d. with_base base (best_row rows d)) ds
base_each base rows [] = refl
base_each base rows (d ∷ ds) = ap (λ l. with_base base (best_row rows d) ∷ l) (base_each base rows ds)

pub of_no_rows : (rows : List Post) → length (map (λ p. p.doc) rows) ≡ 0 → [] ≡ map (best_row rows) (docs_of rows)
of_no_rows [] e = ap (map (best_row [])) nothing_listed
of_no_rows (p ∷ rows) e = absurd (omega arith)

-- the first row is the first group's beginning
pub begun : (rows : List Post) (best : List Scored) (s : Scored) → best ≡ [] → 0 < length (map (λ p. p.doc) rows) → s.doc ≡ get_or (map (λ p. p.doc) rows) 0 s.doc → s.score ≡ get_or (map (λ p. p.score) rows) 0 s.score → groups (map scored_row rows) ≡ best ++ group s (drop 1 (map scored_row rows))
begun [] best s none some d e = absurd (omega arith)
begun (p ∷ rows) best s none some d e = ap groups (next_is (p ∷ rows) 0 s (omega arith) d e) ∙ sym (ap (λ l. l ++ group s (map scored_row rows)) none)

-- one more row, which absorb has taken
pub went_on : (rows : List Post) (best now : List Scored) (current next after : Scored) (i : ℕ) → groups (map scored_row rows) ≡ best ++ group current (drop i (map scored_row rows)) → i < length (map (λ p. p.doc) rows) → next.doc ≡ get_or (map (λ p. p.doc) rows) i next.doc → next.score ≡ get_or (map (λ p. p.score) rows) i next.score → ((rest : List Scored) → now ++ group after rest ≡ best ++ group current (next ∷ rest)) → groups (map scored_row rows) ≡ now ++ group after (drop (i + 1) (map scored_row rows))
went_on rows best now current next after i whole lt d e taken =
    whole ∙ ap (λ l. best ++ group current l) (next_is rows i next (omega (arith, length-map rows (λ (p : Post). p.doc))) d e)
    ∙ sym (taken (drop (suc i) (map scored_row rows)))
    ∙ ap (λ n. now ++ group after (drop n (map scored_row rows))) (let n : suc i ≡ i + 1 = omega arith in n)

-- the last group ends with the rows
pub ended : (rows : List Post) (best now : List Scored) (current : Scored) (i : ℕ) → AreSorted rows → groups (map scored_row rows) ≡ best ++ group current (drop i (map scored_row rows)) → length (map (λ p. p.doc) rows) ≤ i → now ≡ best ++ current ∷ [] → now ≡ map (best_row rows) (docs_of rows)
ended rows best now current i up whole all is =
    is ∙ ap (λ l. best ++ group current l) (sym (drop_all i (map scored_row rows) (omega (arith, length-map rows (λ (p : Post). p.doc), length-map rows scored_row)))) ∙ sym whole ∙ groups-are rows up

-- one more document with what the base gave it
pub added : (base : Base) (best done now : List Scored) (i : ℕ) (d s : Scored) → done ≡ map (with_base base) (take i best) → i < length best → now ≡ done ++ s ∷ [] → s ≡ with_base base (get_or best i d) → now ≡ map (with_base base) (take (i + 1) best)
added base best done now i d s so_far lt is e =
    is ∙ ap₂ (λ xs x. xs ++ x ∷ []) so_far e ∙ sym (map-append (with_base base) (take i best) (get_or best i d ∷ [])) ∙ sym (ap (map (with_base base)) (take_more best i d lt))
