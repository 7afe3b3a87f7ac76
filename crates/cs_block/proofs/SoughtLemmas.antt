-- The rows of a block that are sought, read by their documents first.
--
--   added_on         the row at one place more is added
--   rows_on          the rows of a span are added
--   docs_there       documents that are there, where the call doesn't answer none
--   refilled         a vector whose slice was lent whole holds what was written there
--   docs_below       documents that are there are below the collection's
--   sought_all       the rows of a block that is whole that are in listed documents are those that are sought, where all are of the block
use Rattle.std.proofs.Common.{◌≡◌, ℕ, ◌+◌, ◌-◌, ◌<◌, ◌≤◌, ◌&&◌, Bool, true, false, cond, List, [], ◌∷◌, ◌++◌, length, get_or, map, take, drop}
use Rattle.std.proofs.Common.{Option, Some, None, refl, sym, ap, ap₂, subst, ◌∙◌, append_assoc, arith}
use Rattle.std.specs.Prelude.{All, IfSome, filter, is_some, nat_le, nat_lt}
use Rattle.std.specs.List.{range_with_len}
use Rattle.std.proofs.lemmas.Bool.{and_from, le-leb, lt-ltb}
use Rattle.std.proofs.lemmas.List.{append-nil, drop_all, get_or_default, map-append, take_all, take_more}
use Rattle.std.proofs.lemmas.List.Elements.{All-head, All-map, All-tail, All-weaker, filter-append}
use Rattle.cs_base.specs.declared.index.block.BlockHead.{BlockHead}
use Rattle.cs_base.specs.declared.content.doc.Post.{Post}
use Rattle.cs_base.specs.declared.content.scores.Weights.{Weights}
use Rattle.cs_model_index.specs.BlockRules.{BlockColumns}
use Rattle.cs_cols.specs.SpanPlaces.{places_where}
use Rattle.cs_cols.proofs.FoundPlaces.{range_joined}
use Rattle.cs_block.specs.RowRuns.{HasDocs}
use Rattle.cs_block.specs.Sought.{IsOfBlock, is_sought, passes, row_with, rows_with}

none_before : (a : ℕ) → 0 + a ≡ a
none_before a = omega arith

-- ---- rows at places
pub added_on : (row : ℕ → Post) (old now new : List Post) (places : List ℕ) (k : ℕ) (r : Post) → k < length places → r ≡ row (get_or places k 0)
    → new ≡ now ++ r ∷ [] → now ≡ old ++ map row (take k places) → new ≡ old ++ map row (take (k + 1) places)
added_on row old now new places k r lt is added h =
    let front = map row (take k places) in
    let here = row (get_or places k 0) in
    let more : map row (take (k + 1) places) ≡ front ++ here ∷ [] = ap (map row) (take_more places k 0 lt)
    ∙ map-append row (take k places) (get_or places k 0 ∷ []) in
    added ∙ ap₂ (λ xs x. xs ++ x ∷ []) h is ∙ append_assoc old front (here ∷ []) ∙ ap (λ xs. old ++ xs) (sym more)

-- those at the places that pass are those that pass at the places
kept_at : (t : Post → Bool) (row : ℕ → Post) (xs : List ℕ) → map row (filter (λ i. t (row i)) xs) ≡ filter t (map row xs)
kept_at t row [] = refl
kept_at t row (x ∷ xs) =
    let some = filter (λ i. t (row i)) xs in
    elim (t (row x)) as (λ b. map row (cond b (x ∷ some) some) ≡ cond b (row x ∷ filter t (map row xs)) (filter t (map row xs))) [
      | true ↦ ap (λ ys. row x ∷ ys) (kept_at t row xs)
      | false ↦ kept_at t row xs
    ]

pub rows_on : (t : Post → Bool) (row : ℕ → Post) (old now new : List Post) (from to : ℕ) (places : List ℕ) → from ≤ to
    → places ≡ places_where (λ i. t (row i)) from to → new ≡ now ++ map row places → now ≡ old ++ filter t (map row (range_with_len 0 from))
    → new ≡ old ++ filter t (map row (range_with_len 0 to))
rows_on t row old now new from to places le are added h =
    let front = map row (range_with_len 0 from) in
    let behind = map row (range_with_len from (to - from)) in
    let all : from + (to - from) ≡ to = omega (arith, le) in
    let joined = ap (range_with_len 0) (sym all) ∙ range_joined 0 from (to - from)
    ∙ ap (λ (x : ℕ). range_with_len 0 from ++ range_with_len x (to - from)) (none_before from) in
    let rows : map row (range_with_len 0 to) ≡ front ++ behind = ap (map row) joined
    ∙ map-append row (range_with_len 0 from) (range_with_len from (to - from)) in
    let some = ap (map row) are ∙ kept_at t row (range_with_len from (to - from)) in
    added ∙ ap₂ (λ xs ys. xs ++ ys) h some ∙ append_assoc old (filter t front) (filter t behind)
    ∙ ap (λ xs. old ++ xs) (sym (filter-append t front behind) ∙ ap (filter t) (sym rows))

pub docs_below : (gaps : List ℕ) (at before docs : ℕ) (ds : List ℕ) (next : ℕ) → HasDocs gaps at before docs ds next → All (λ d. d < docs) ds
docs_below gaps at before docs ds next has = λ j d lt. subst (λ x. x < docs) (get_or_default ds j 0 d lt) (has.are j lt).1

-- ---- a block whose words are all sought
and_false : (b : Bool) → (b && false) ≡ false
and_false true = refl
and_false false = refl

words_from : (head : BlockHead) (c : BlockColumns) (ds : List ℕ) → All (λ p. head.lo ≤ p.word) (rows_with head c ds)
words_from head c ds = All-map (λ p. head.lo ≤ p.word) (row_with head c ds) (range_with_len 0 (length ds)) (λ j d lt. omega arith)

same_filter : (lo hi : ℕ) (listed : List Bool) (rows : List Post) → All (λ p. lo ≤ p.word) rows
    → All (λ p. p.word < hi) (filter (passes true lo hi listed) rows) → filter (passes true lo hi listed) rows ≡ filter (is_sought lo hi listed) rows
same_filter lo hi listed [] from below = refl
same_filter lo hi listed (p ∷ rows) from below =
    let t = is_sought lo hi listed in
    let met : Post → Bool = passes true lo hi listed in
    let between : Bool = nat_le lo p.word && nat_lt p.word hi in
    let rest = same_filter lo hi listed rows (All-tail (λ q. lo ≤ q.word) p rows from) in
    elim (met p) as (λ b. All (λ q. q.word < hi) (cond b (p ∷ filter met rows) (filter met rows))
    → cond b (p ∷ filter met rows) (filter met rows) ≡ cond (between && b) (p ∷ filter t rows) (filter t rows)) [
      | true ↦ λ all.
          let low = All-head (λ q. lo ≤ q.word) p rows from in
          let high = All-head (λ q. q.word < hi) p (filter met rows) all in
          let inside : between ≡ true = and_from (nat_le lo p.word) (nat_lt p.word hi) (le-leb lo p.word low) (lt-ltb p.word hi high) in
          ap (λ xs. p ∷ xs) (rest (All-tail (λ q. q.word < hi) p (filter met rows) all))
          ∙ ap (λ b. cond (b && true) (p ∷ filter t rows) (filter t rows)) (sym inside)
      | false ↦ λ all. rest all ∙ ap (λ b. cond b (p ∷ filter t rows) (filter t rows)) (sym (and_false between))
    ] below

pub sought_all : (w : Weights) (head : BlockHead) (c : BlockColumns) (ds : List ℕ) (whole : Bool) (lo hi : ℕ) (listed : List Bool) (posts : List Post)
    → (whole ≡ true → (lo ≤ head.lo) × (head.lo + head.words ≤ hi)) → posts ≡ filter (passes whole lo hi listed) (rows_with head c ds)
    → All (IsOfBlock w head) posts
    → posts ≡ filter (is_sought lo hi listed) (rows_with head c ds)
sought_all w head c ds false lo hi listed posts inside is own = is
sought_all w head c ds true lo hi listed posts inside is own =
    let within = inside refl in
    let from = within.0 in
    let upto = within.1 in
    let rows = rows_with head c ds in
    is ∙ same_filter lo hi listed rows (All-weaker (λ p. head.lo ≤ p.word) (λ p. lo ≤ p.word) (λ p h. omega (arith, h, from)) rows (words_from head c ds))
    (subst (All (λ p. p.word < hi)) is (All-weaker (IsOfBlock w head) (λ p. p.word < hi) (λ p h. let below = h.word in omega (arith, below, upto)) posts own))

-- ---- the documents of all rows
pub refilled : (n : ℕ) (out items : List ℕ) → length items ≡ n → length out ≡ n → take n (out ++ drop (length out) items) ≡ out
refilled n out items long same =
    let none = drop_all (length out) items (omega (arith, long, same)) in
    ap (λ (xs : List ℕ). take n (out ++ xs)) none ∙ ap (take n) (append-nil out) ∙ take_all n out (omega (arith, same))

pub docs_there : (r : Option ℕ) (P : ℕ → Type 0) → is_some r ≡ true → IfSome r P → (next : ℕ) × P next
docs_there (Some next) P e h = (next, h)
docs_there None P e h = absurd (cc)
