-- The text words that serve a part over a corpus are those that its marks say.
use Rattle.std.proofs.Common.{◌≡◌, ◌<◌, ◌≤◌, ◌+◌, ◌-◌, ℕ, zero, suc, List, [], ◌∷◌, true, false, Bool, cond, map, get_or, refl, sym, ap, subst, ◌∙◌, ◌*◌, arith}
use Rattle.std.specs.Prelude.{◌&&◌, ◌||◌, ◌==◌, not, nat_lt, nat_le, filter}
use Rattle.std.specs.List.{enumerate_from, list_any, range_with_len}
use Rattle.std.proofs.lemmas.Bool.{and_parts, and_from, false≢true}
use Rattle.std.proofs.lemmas.Bool.Decides.{nat_tests}
use Rattle.std.proofs.lemmas.List.Folds.{Any-from_list_any, list_any_at}
use Rattle.std.proofs.lemmas.List.FromFn.{get_or-range_with_len, length-range_with_len}
use Rattle.cs_base.proofs.ListsLemmas.{same_number}
use Rattle.cs_base.specs.declared.content.doc.Row.{Row}
use Rattle.cs_base.specs.declared.content.limits.TheConstants.{MAX_DISTANCE}
use Rattle.cs_base.specs.declared.content.scores.TheConstants.{BEHIND_TITLE}
use Rattle.cs_base.specs.declared.content.query.Link.{Link}
use Rattle.cs_base.specs.declared.content.query.Link.TheVariants.{Phrase, Near}
use Rattle.cs_model.specs.Answers.{is_linked, linked_to}
use Rattle.cs_model.specs.Corpus.{Corpus}
use Rattle.cs_model_excerpts.specs.Excerpts.{at}
use Rattle.cs_model_excerpts.specs.Runs.{has_mark_at}
use Rattle.cs_model_excerpts.specs.OwnWords.{is_led, is_near_marked, is_neighbour, linked_marks}

-- whether the text word at a position has a mark; t is the number of title words
abbrev pub mark_at : ℕ → List Bool → ℕ → Bool
mark_at t marks p = nat_le (t + BEHIND_TITLE) p && has_mark_at marks (p - (t + BEHIND_TITLE))

-- of document d the rows behind the title are those that the marks say
abbrev pub Shown : ℕ → ℕ → List Row → List Bool → Type 0
Shown d t rows marks = (p : ℕ) → t < p → list_any (at d p) rows ≡ mark_at t marks p

-- the rows of document d behind its title are those of its text words
abbrev pub HasText : Corpus → ℕ → ℕ → List (List ℕ) → Type 0
HasText k d t ws = (f : List ℕ → Bool) (p : ℕ) → t < p → list_any (λ r. at d p r && f r.word) k.rows ≡ mark_at t (map f ws) p

-- ---- tests over lists
pub and-true : (b : Bool) → (b && true) ≡ b
and-true true = refl
and-true false = refl

pub and-false : (b : Bool) → (b && false) ≡ false
and-false true = refl
and-false false = refl

bool_same : (a b : Bool) → (a ≡ true → b ≡ true) → (b ≡ true → a ≡ true) → a ≡ b
bool_same true b f g = sym (f refl)
bool_same false true f g = g refl
bool_same false false f g = refl

module _ {X : Type 0} where
  pub any_filter : (q p : X → Bool) (xs : List X) → list_any q (filter p xs) ≡ list_any (λ x. q x && p x) xs
  any_filter q p [] = refl
  any_filter q p (x ∷ xs) = elim (p x) as (λ b. list_any q (cond b (x ∷ filter p xs) (filter p xs)) ≡ ((q x && b) || list_any (λ y. q y && p y) xs)) [
    | true ↦ ap (λ r. q x || r) (any_filter q p xs) ∙ ap (λ b. b || list_any (λ y. q y && p y) xs) (sym (and-true (q x)))
    | false ↦ any_filter q p xs ∙ ap (λ b. b || list_any (λ y. q y && p y) xs) (sym (and-false (q x)))
  ]

  pub any_alike : (p q : X → Bool) (xs : List X) → ((x : X) → p x ≡ q x) → list_any p xs ≡ list_any q xs
  any_alike p q [] h = refl
  any_alike p q (x ∷ xs) h = ap (λ b. b || list_any p xs) (h x) ∙ ap (λ b. q x || b) (any_alike p q xs h)

  any_less : (p q : X → Bool) (xs : List X) → ((x : X) → p x ≡ true → q x ≡ true) → list_any q xs ≡ false → list_any p xs ≡ false
  any_less p q xs h n = bool_false (list_any p xs) (λ e.
      let a = Any-from_list_any p xs e in
      false≢true (sym n ∙ list_any_at q xs a.0 a.1 a.2 (ap q a.3 ∙ h a.1 a.4)))
    where
      bool_false : (b : Bool) → (b ≡ true → ⊥) → b ≡ false
      bool_false true h = absurd (h refl)
      bool_false false h = refl

-- ---- atoms
pub no_marks : (ws : List (List ℕ)) (j : ℕ) → has_mark_at (map (λ x. false) ws) j ≡ false
no_marks [] j = refl
no_marks (w ∷ ws) zero = refl
no_marks (w ∷ ws) (suc j) = no_marks ws j

module _ (k : Corpus) (d t : ℕ) (ws : List (List ℕ)) (has : HasText k d t ws) where
  pub words_shown : (f : List ℕ → Bool) → Shown d t (filter (λ r. f r.word) k.rows) (map f ws)
  words_shown f p l = any_filter (at d p) (λ r. f r.word) k.rows ∙ has f p l

  pub join_shown : (f : List ℕ → Bool) (s : Row → Bool) → map f ws ≡ map (λ x. false) ws → Shown d t (filter (λ r. f r.word && s r) k.rows) (map (λ x. false) ws)
  join_shown f s none p l =
      let no : mark_at t (map (λ x. false) ws) p ≡ false = ap (λ b. nat_le (t + BEHIND_TITLE) p && b) (no_marks ws (p - (t + BEHIND_TITLE))) ∙ and-false (nat_le (t + BEHIND_TITLE) p) in
      let no_row : list_any (λ r. at d p r && f r.word) k.rows ≡ false = has f p l ∙ ap (λ m. mark_at t m p) none ∙ no in
      any_filter (at d p) (λ r. f r.word && s r) k.rows
      ∙ any_less (λ r. at d p r && (f r.word && s r)) (λ r. at d p r && f r.word) k.rows (λ r e.
      let a = and_parts (at d p r) (f r.word && s r) e in let b = and_parts (f r.word) (s r) a.1 in and_from (at d p r) (f r.word) a.0 b.0) no_row
      ∙ sym no

-- ---- links
abbrev linked_by : Link → ℕ → ℕ → Row → Bool
linked_by Phrase d p x = (x.doc == d) && (nat_lt 0 x.pos && (x.pos + 1 == p))
linked_by Near d p x = (x.doc == d) && ((nat_lt 0 x.pos && nat_lt 0 p) && (not (x.pos == p) && (nat_le x.pos (p + MAX_DISTANCE) && nat_le p (x.pos + MAX_DISTANCE))))

by_place : (link : Link) (r y : Row) → is_linked link r y ≡ linked_by link r.doc r.pos y
by_place Phrase r y = refl
by_place Near r y = refl

kept_if : (c rest any : Bool) → rest ≡ (any && c) → (c || rest) ≡ c
kept_if true rest any e = refl
kept_if false rest any e = e ∙ and-false any

any_led : (link : Link) (d p : ℕ) (x rows : List Row) → list_any (λ r. at d p r && list_any (is_linked link r) x) rows ≡ (list_any (at d p) rows && list_any (linked_by link d p) x)
any_led link d p x [] = refl
any_led link d p x (r ∷ rows) = (elim (at d p r) as (λ b. at d p r ≡ b → ((b && list_any (is_linked link r) x) || list_any (λ r. at d p r && list_any (is_linked link r) x) rows) ≡ ((b || list_any (at d p) rows) && list_any (linked_by link d p) x)) [
  | true ↦ λ e.
      let parts = and_parts (r.doc == d) (r.pos == p) e in
      let same : list_any (is_linked link r) x ≡ list_any (linked_by link d p) x =
      any_alike (is_linked link r) (linked_by link d p) x (λ y. by_place link r y ∙ ap (λ n. linked_by link n r.pos y) (same_number r.doc d parts.0) ∙ ap (λ n. linked_by link d n y) (same_number r.pos p parts.1)) in
      ap (λ c. c || list_any (λ r. at d p r && list_any (is_linked link r) x) rows) same
      ∙ kept_if (list_any (linked_by link d p) x) _ (list_any (at d p) rows) (any_led link d p x rows)
  | false ↦ λ e. any_led link d p x rows
]) refl

marked_linked : (g : ℕ → Bool) (next : List Bool) (n j : ℕ) → has_mark_at (map (λ p. p.1 && g p.0) (enumerate_from n next)) j ≡ (has_mark_at next j && g (n + j))
marked_linked g [] n j = refl
marked_linked g (m ∷ next) n zero = let same : n + 0 ≡ n = omega arith in ap (λ i. m && g i) (sym same)
marked_linked g (m ∷ next) n (suc j) = let same : n + 1 + j ≡ n + suc j = omega arith in marked_linked g next (n + 1) j ∙ ap (λ i. has_mark_at next j && g i) same

-- ---- a link leads to a text word exactly where its marks say
phrase_test : (d n : ℕ) (y : Row) → 1 ≤ n → linked_by Phrase d (n + 1) y ≡ at d n y
phrase_test d n y l = let same : (nat_lt 0 y.pos && (y.pos + 1 == n + 1)) ≡ (y.pos == n) = grind (arith, nat_tests) in ap (λ b. (y.doc == d) && b) same

marks_before : (t j : ℕ) (kept : List Bool) → mark_at t kept (t + 8 + j) ≡ is_led Phrase kept j
marks_before t zero kept = let early : nat_le (t + BEHIND_TITLE) (t + 8 + 0) ≡ false = grind (arith, nat_tests) in ap (λ b. b && has_mark_at kept (t + 8 + 0 - (t + BEHIND_TITLE))) early
marks_before t (suc i) kept =
    let late : nat_le (t + BEHIND_TITLE) (t + 8 + suc i) ≡ true = grind (arith, nat_tests) in
    let there : t + 8 + suc i - (t + BEHIND_TITLE) ≡ i = omega arith in
    let back : suc i - 1 ≡ i = omega arith in
    let first : nat_lt 0 (suc i) ≡ true = grind (arith, nat_tests) in
    ap (λ b. b && has_mark_at kept (t + 8 + suc i - (t + BEHIND_TITLE))) late ∙ ap (has_mark_at kept) there ∙ ap (has_mark_at kept) (sym back) ∙ ap (λ b. b && has_mark_at kept (suc i - 1)) (sym first)

led_phrase : (d t : ℕ) (x : List Row) (kept : List Bool) (j : ℕ) → Shown d t x kept → list_any (linked_by Phrase d (t + BEHIND_TITLE + j)) x ≡ is_led Phrase kept j
led_phrase d t x kept j shown =
    let next : t + BEHIND_TITLE + j ≡ t + 8 + j + 1 = omega arith in
    ap (λ n. list_any (linked_by Phrase d n) x) next
    ∙ any_alike (linked_by Phrase d (t + 8 + j + 1)) (at d (t + 8 + j)) x (λ y. phrase_test d (t + 8 + j) y (omega arith))
    ∙ shown (t + 8 + j) (omega arith) ∙ marks_before t j kept

-- what a mark at a position says
mark_found : (t : ℕ) (kept : List Bool) (q : ℕ) → mark_at t kept q ≡ true → (i : ℕ) × (q ≡ t + BEHIND_TITLE + i) × (has_mark_at kept i ≡ true)
mark_found t kept q h =
    let parts = and_parts (nat_le (t + BEHIND_TITLE) q) (has_mark_at kept (q - (t + BEHIND_TITLE))) h in
    let late : t + BEHIND_TITLE ≤ q = grind (arith, nat_tests) in
    (q - (t + BEHIND_TITLE), omega (arith, late), parts.1)

mark_there : (t : ℕ) (kept : List Bool) (i : ℕ) → has_mark_at kept i ≡ true → mark_at t kept (t + BEHIND_TITLE + i) ≡ true
mark_there t kept i h =
    let late : nat_le (t + BEHIND_TITLE) (t + BEHIND_TITLE + i) ≡ true = grind (arith, nat_tests) in
    let there : t + BEHIND_TITLE + i - (t + BEHIND_TITLE) ≡ i = omega arith in
    and_from (nat_le (t + BEHIND_TITLE) (t + BEHIND_TITLE + i)) (has_mark_at kept (t + BEHIND_TITLE + i - (t + BEHIND_TITLE))) late (ap (has_mark_at kept) there ∙ h)

-- what nearness of two positions says
record NearBy (a b : ℕ) : Type 0 where
  apart : (a == b) ≡ false
  from : a ≤ b + MAX_DISTANCE
  to : b ≤ a + MAX_DISTANCE

not_true : (b : Bool) → not b ≡ true → b ≡ false
not_true true h = cc
not_true false h = refl

near_row : (d p : ℕ) (y : Row) → linked_by Near d p y ≡ true → (at d y.pos y ≡ true) × NearBy y.pos p
near_row d p y h =
    let a = and_parts (y.doc == d) _ h in
    let b = and_parts (nat_lt 0 y.pos && nat_lt 0 p) _ a.1 in
    let c = and_parts (not (y.pos == p)) _ b.1 in
    let e = and_parts (nat_le y.pos (p + MAX_DISTANCE)) (nat_le p (y.pos + MAX_DISTANCE)) c.1 in
    let own : (y.pos == y.pos) ≡ true = grind (arith, nat_tests) in
    (and_from (y.doc == d) (y.pos == y.pos) a.0 own, record { apart = not_true (y.pos == p) c.0; from = let l = e.0 in grind (arith, nat_tests); to = let l = e.1 in grind (arith, nat_tests) })

row_near : (d p q : ℕ) (y : Row) → at d q y ≡ true → 0 < q → 0 < p → NearBy q p → linked_by Near d p y ≡ true
row_near d p q y h l m n =
    let a = and_parts (y.doc == d) (y.pos == q) h in
    let same : y.pos ≡ q = same_number y.pos q a.1 in
    let first : nat_lt 0 y.pos ≡ true = grind (arith, nat_tests, same, l) in
    let second : nat_lt 0 p ≡ true = grind (arith, nat_tests, m) in
    let third : not (y.pos == p) ≡ true = ap (λ v. not (v == p)) same ∙ ap not n.apart in
    let fourth : nat_le y.pos (p + MAX_DISTANCE) ≡ true = ap (λ v. nat_le v (p + MAX_DISTANCE)) same ∙ (let g = n.from in grind (arith, nat_tests)) in
    let fifth : nat_le p (y.pos + MAX_DISTANCE) ≡ true = ap (λ v. nat_le p (v + MAX_DISTANCE)) same ∙ (let g = n.to in grind (arith, nat_tests)) in
    and_from (y.doc == d) _ a.0 (and_from (nat_lt 0 y.pos && nat_lt 0 p) _ (and_from (nat_lt 0 y.pos) (nat_lt 0 p) first second)
    (and_from (not (y.pos == p)) _ third (and_from (nat_le y.pos (p + MAX_DISTANCE)) (nat_le p (y.pos + MAX_DISTANCE)) fourth fifth)))

shifted : (s i j : ℕ) → NearBy (s + i) (s + j) → NearBy i j
shifted s i j n = record { apart = let a = n.apart in grind (arith, nat_tests); from = omega (arith, n.from); to = omega (arith, n.to) }

shifted_on : (s i j : ℕ) → NearBy i j → NearBy (s + i) (s + j)
shifted_on s i j n = record { apart = let a = n.apart in grind (arith, nat_tests); from = omega (arith, n.from); to = omega (arith, n.to) }

-- the search of the words near a place finds exactly a marked one that is near
near_there : (kept : List Bool) (j i : ℕ) → has_mark_at kept i ≡ true → NearBy i j → is_near_marked kept j ≡ true
unfolding is_near_marked
near_there kept j i m n =
    let at_i : j - MAX_DISTANCE + (i - (j - MAX_DISTANCE)) ≡ i = omega (arith, n.to) in
    let few : i - (j - MAX_DISTANCE) < 2 * MAX_DISTANCE + 1 = omega (arith, n.from) in
    let item : get_or (range_with_len (j - MAX_DISTANCE) (2 * MAX_DISTANCE + 1)) (i - (j - MAX_DISTANCE)) 0 ≡ i = get_or-range_with_len (j - MAX_DISTANCE) (2 * MAX_DISTANCE + 1) (i - (j - MAX_DISTANCE)) 0 few ∙ at_i in
    let close : nat_le i (j + MAX_DISTANCE) ≡ true = let f = n.from in grind (arith, nat_tests) in
    let neighbour : is_neighbour kept j i ≡ true = and_from (not (i == j)) _ (ap not n.apart) (and_from (nat_le i (j + MAX_DISTANCE)) (has_mark_at kept i) close m) in
    list_any_at (is_neighbour kept j) (range_with_len (j - MAX_DISTANCE) (2 * MAX_DISTANCE + 1)) (i - (j - MAX_DISTANCE)) 0 (let size = length-range_with_len (j - MAX_DISTANCE) (2 * MAX_DISTANCE + 1) in omega (arith, size, few)) (ap (is_neighbour kept j) item ∙ neighbour)

near_found : (kept : List Bool) (j : ℕ) → is_near_marked kept j ≡ true → (i : ℕ) × (has_mark_at kept i ≡ true) × NearBy i j
unfolding is_near_marked
near_found kept j h =
    let a = Any-from_list_any (is_neighbour kept j) (range_with_len (j - MAX_DISTANCE) (2 * MAX_DISTANCE + 1)) h in
    let n = a.0 in
    let i = a.1 in
    let size = length-range_with_len (j - MAX_DISTANCE) (2 * MAX_DISTANCE + 1) in
    let item : i ≡ j - MAX_DISTANCE + n = sym a.3 ∙ get_or-range_with_len (j - MAX_DISTANCE) (2 * MAX_DISTANCE + 1) n i (omega (arith, a.2, size)) in
    let b = and_parts (not (i == j)) _ a.4 in
    let c = and_parts (nat_le i (j + MAX_DISTANCE)) (has_mark_at kept i) b.1 in
    (i, c.1, record { apart = not_true (i == j) b.0; from = let l = c.0 in grind (arith, nat_tests); to = omega (arith, item) })

led_near : (d t : ℕ) (x : List Row) (kept : List Bool) (j : ℕ) → Shown d t x kept → list_any (linked_by Near d (t + BEHIND_TITLE + j)) x ≡ is_led Near kept j
led_near d t x kept j shown =
    let p = t + BEHIND_TITLE + j in
    bool_same (list_any (linked_by Near d p) x) (is_near_marked kept j)
    (λ h.
    let a = Any-from_list_any (linked_by Near d p) x h in
    let y = a.1 in
    let r = near_row d p y a.4 in
    let row : list_any (at d y.pos) x ≡ true = list_any_at (at d y.pos) x a.0 y a.2 (ap (at d y.pos) a.3 ∙ r.0) in
    let mark = mark_found t kept y.pos (sym (shown y.pos (omega (arith, r.1.to))) ∙ row) in
    let near : NearBy (t + BEHIND_TITLE + mark.0) p = subst (λ q. NearBy q p) mark.1 r.1 in
    near_there kept j mark.0 mark.2 (shifted (t + BEHIND_TITLE) mark.0 j near))
    (λ h.
    let found = near_found kept j h in
    let q = t + BEHIND_TITLE + found.0 in
    let row : list_any (at d q) x ≡ true = shown q (omega arith) ∙ mark_there t kept found.0 found.1 in
    let a = Any-from_list_any (at d q) x row in
    list_any_at (linked_by Near d p) x a.0 a.1 a.2 (ap (linked_by Near d p) a.3 ∙ row_near d p q a.1 a.4 (omega arith) (omega arith) (shifted_on (t + BEHIND_TITLE) found.0 j found.2)))

led_is : (link : Link) (d t : ℕ) (x : List Row) (kept : List Bool) (j : ℕ) → Shown d t x kept → list_any (linked_by link d (t + BEHIND_TITLE + j)) x ≡ is_led link kept j
led_is Phrase = led_phrase
led_is Near = led_near

-- the rows to which a link leads
pub linked_shown : (link : Link) (d t : ℕ) (x rows : List Row) (kept next : List Bool) → Shown d t x kept → Shown d t rows next → Shown d t (linked_to link x rows) (linked_marks link kept next)
linked_shown link d t x rows kept next a b p l =
    any_filter (at d p) (λ r. list_any (is_linked link r) x) rows ∙ any_led link d p x rows ∙ ap (λ m. m && list_any (linked_by link d p) x) (b p l)
    ∙ (elim (nat_le (t + BEHIND_TITLE) p) as (λ c. nat_le (t + BEHIND_TITLE) p ≡ c → ((c && has_mark_at next (p - (t + BEHIND_TITLE))) && list_any (linked_by link d p) x) ≡ (c && has_mark_at (linked_marks link kept next) (p - (t + BEHIND_TITLE)))) [
      | true ↦ λ e.
          let late : t + BEHIND_TITLE ≤ p = grind (arith, nat_tests) in
          let j = p - (t + BEHIND_TITLE) in
          let same : p ≡ t + BEHIND_TITLE + j = omega (arith, late) in
          let whole : 0 + j ≡ j = omega arith in
          ap (λ m. has_mark_at next j && m) (ap (λ n. list_any (linked_by link d n) x) same ∙ led_is link d t x kept j a) ∙ ap (λ i. has_mark_at next j && is_led link kept i) (sym whole) ∙ sym (marked_linked (is_led link kept) next 0 j)
      | false ↦ λ e. refl
    ]) refl
