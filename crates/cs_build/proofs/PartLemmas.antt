-- The runs of a corpus's words, and the blocks that they have.
--
--   Partly            runs that stand behind a front of the words
--   agree             the counts of numbers are those of the rows' words
--   numbered_posts    posts are those of their rows
--   blocks_are        the block of a run has the rows of its words
--   rows_counted      as many as its words have together
--   spans_are, few_runs, all_inside     where the runs lie
--   heads_are         the heads of the runs
use Rattle.std.proofs.Common.{◌≡◌, ℕ, suc, ◌+◌, ◌-◌, ◌<◌, ◌≤◌, ◌&&◌, ◌||◌, Bool, true, false, true≢false, cond, List, [], ◌∷◌, ◌++◌, length, map, drop, get_or, refl, sym, ◌∙◌, ap, subst, arith, append_assoc, length-append}
use Rattle.std.specs.Prelude.{filter, flat_map, nat_lt, nat_le, ◌==◌}
use Rattle.std.specs.List.{AllByRecursion, list_any, list_all, zip}
use Rattle.std.specs.List.Sorted.{IsStrictlySortedBy}
use Rattle.std.specs.Ordering.{nat_cmp, is_lt}
use Rattle.std.specs.Cmp.Lexicographic.{slice_cmp}
use Rattle.std.specs.declared.cmp.Ordering.TheVariants.{Less}
use Rattle.std.specs.Str.{bytes_eq}
use Rattle.std.proofs.Math.Seq.{get_or-append-add}
use Rattle.std.proofs.lemmas.Bool.{and_parts, false_from_ne_true, leb-true}
use Rattle.std.proofs.lemmas.Bool.Decides.{nat_tests}
use Rattle.std.proofs.lemmas.Cmp.{nat_list_cmp_total}
use Rattle.std.specs.Cmp.{tied_itself}
use Rattle.std.proofs.lemmas.List.{get_or_append_left, length-map}
use Rattle.std.proofs.lemmas.List.Elements.{recursion_from_All}
use Rattle.std.proofs.lemmas.List.Folds.{list_any_at}
use Rattle.std.proofs.lemmas.List.Sums.{length-filter, sum_by-cons}
use Rattle.std.proofs.lemmas.Slice.Eq.{bytes_eq-Decides}
use Rattle.cs_base.specs.declared.index.block.BlockHead.{BlockHead}
use Rattle.cs_base.specs.declared.content.doc.Post.{Post}
use Rattle.cs_base.specs.declared.content.doc.Row.{Row}
use Rattle.cs_model.specs.Words.{is_filled}
use Rattle.cs_model_index.specs.Images.{count_in, block_of, head_of, heads_from}
use Rattle.cs_model_index.specs.BlockBounds.{greatest_of, least_of}
use Rattle.cs_model_index.specs.Blocks.{block_bytes}
use Rattle.cs_model_index.specs.Numbered.{word_at, word_number, post_of, rows_at, numbered, HasWord}
use Rattle.cs_model_index.specs.Partitions.{Count, is_facet, rows_of_run, is_run, is_one_kind, is_light}
use Rattle.cs_model_index.specs.declared.limits.TheConstants.{MAX_BLOCK_WORDS}
use Rattle.cs_model_index.proofs.NumberedLemmas.{word_of_number, number_of_word, number_below}
use Rattle.cs_vocab.specs.Ranges.{IsBelow, AreNumbers}
use Rattle.cs_build.specs.WordRuns.{AreCounts, AreCountsBy, AreSpans, CountsRows, runs_from, is_within, run_head}
use Rattle.cs_build.specs.declared.parting.Run.{Run}

abbrev Words : Type 0
Words = List (List ℕ)

-- ---- truth values
same_bool : (a b : Bool) → (a ≡ true → b ≡ true) → (b ≡ true → a ≡ true) → a ≡ b
same_bool true true f g = refl
same_bool false false f g = refl
same_bool true false f g = sym (f refl)
same_bool false true f g = g refl

same_kept : {X Y : Type 0} (a b : Bool) (x : X) (y : Y) (xs : List X) (ys : List Y) → a ≡ b → length xs ≡ length ys → length (cond a (x ∷ xs) xs) ≡ length (cond b (y ∷ ys) ys)
same_kept true true x y xs ys e l = ap (λ n. suc n) l
same_kept false false x y xs ys e l = l
same_kept true false x y xs ys e l = absurd (true≢false e)
same_kept false true x y xs ys e l = absurd (true≢false (sym e))

module _ (ws : Words) (up : IsStrictlySortedBy (slice_cmp nat_cmp) ws) where
  -- ---- numbers of rows
  same_test : (m n : ℕ) → m < length ws → n < length ws → (m == n) ≡ bytes_eq (word_at ws m) (word_at ws n)
  same_test m n l h = same_bool (m == n) (bytes_eq (word_at ws m) (word_at ws n))
      (λ e. let same : m ≡ n = grind (arith, nat_tests) in (bytes_eq-Decides (word_at ws m) (word_at ws n)).1 (ap (word_at ws) same))
      (λ e. let same : m ≡ n = sym (number_of_word ws m up l) ∙ ap (word_number ws) ((bytes_eq-Decides (word_at ws m) (word_at ws n)).0 e) ∙ number_of_word ws n up h in grind (arith, nat_tests))

  counted : (n : ℕ) → n < length ws → (rows : List Row) (numbers : List ℕ) → map (word_at ws) numbers ≡ map (λ r. r.word) rows → AllByRecursion (IsBelow (length ws)) numbers
      → length (filter (λ m. m == n) numbers) ≡ length (filter (λ r. bytes_eq r.word (word_at ws n)) rows)
  counted n h [] [] e b = refl
  counted n h (r ∷ rows) [] e b = absurd (omega (arith, ap length e))
  counted n h [] (m ∷ numbers) e b = absurd (omega (arith, ap length e))
  counted n h (r ∷ rows) (m ∷ numbers) e b =
      let first : word_at ws m ≡ r.word = ap (λ l. get_or l 0 []) e in
      same_kept (m == n) (bytes_eq r.word (word_at ws n)) m r (filter (λ k. k == n) numbers) (filter (λ s. bytes_eq s.word (word_at ws n)) rows)
      (same_test m n b.0 h ∙ ap (λ w. bytes_eq w (word_at ws n)) first) (counted n h rows numbers (ap (drop 1) e) b.1)

  pub agree : (rows : List Row) (numbers counts : List ℕ) (words : ℕ) → words ≡ length ws → AreNumbers ws numbers (map (λ r. r.word) rows) → AreCounts words numbers counts → AreCountsBy ws counts (count_in rows)
  agree rows numbers counts words many ns cs n l =
      cs.at n (omega (arith, l, many)) ∙ sym (length-filter (λ m. m == n) numbers) ∙ counted n l rows numbers ns.told (recursion_from_All (IsBelow (length ws)) numbers ns.below)

  -- posts whose words are there are those of their rows
  pub numbered_posts : (posts : List Post) → AllByRecursion (λ p. p.word < length ws) posts → numbered ws (rows_at ws posts) ≡ posts
  numbered_posts [] b = refl
  numbered_posts (p ∷ posts) b =
      ap (λ (n : ℕ). let q : Post = record { doc = p.doc; word = n; pos = p.pos; score = p.score } in q ∷ numbered ws (rows_at ws posts)) (number_of_word ws p.word up b.0)
      ∙ ap (λ ps. p ∷ ps) (numbered_posts posts b.1)

  -- ---- the words of a run
  in_range : (lo n k : ℕ) → (nat_le lo n && nat_lt n (lo + k)) ≡ true → (lo ≤ n) × (n < lo + k)
  in_range lo n k h = (grind (arith, nat_tests), grind (arith, nat_tests))

  range_in : (lo n k : ℕ) → lo ≤ n → n < lo + k → (nat_le lo n && nat_lt n (lo + k)) ≡ true
  range_in lo n k h l = grind (arith, nat_tests)

  at_front : (front part rest : Words) (j : ℕ) → j < length part → ws ≡ front ++ (part ++ rest) → word_at ws (length front + j) ≡ word_at part j
  at_front front part rest j l e = ap (λ x. word_at x (length front + j)) e ∙ get_or-append-add front (part ++ rest) j [] ∙ get_or_append_left part rest [] j l

  pub in_part : (front part rest : Words) (w : List ℕ) → ws ≡ front ++ (part ++ rest) → list_any (bytes_eq w) ws ≡ true
      → (nat_le (length front) (word_number ws w) && nat_lt (word_number ws w) (length front + length part)) ≡ list_any (bytes_eq w) part
  in_part front part rest w e known =
      let n = word_number ws w in
      let lo = length front in
      let all : length ws ≡ lo + (length part + length rest) = omega (arith, ap length e, length-append front (part ++ rest), length-append part rest) in
      same_bool _ _
      (λ h.
      let r = in_range lo n (length part) h in
      let j : n - lo < length part = omega (arith, r.0, r.1) in
      let at : word_at part (n - lo) ≡ w = sym (at_front front part rest (n - lo) j e) ∙ ap (word_at ws) (let k : lo + (n - lo) ≡ n = omega (arith, r.0) in k) ∙ word_of_number ws w known in
      list_any_at (bytes_eq w) part (n - lo) [] j ((bytes_eq-Decides w (word_at part (n - lo))).1 (sym at)))
      (λ h.
      let j = word_number part w in
      let l : j < length part = number_below part w h in
      let at : word_at ws (lo + j) ≡ w = at_front front part rest j l e ∙ word_of_number part w h in
      let is : n ≡ lo + j = ap (word_number ws) (sym at) ∙ number_of_word ws (lo + j) up (omega (arith, l, all)) in
      range_in lo n (length part) (omega (arith, is)) (omega (arith, is, l)))

  has_part : Words → Row → Bool
  has_part part r = list_any (bytes_eq r.word) part

  one_kept : (a b : Bool) (p : Post) (r : Row) (ps : List Post) (rs : List Row) → a ≡ b → p ≡ post_of ws r → ps ≡ numbered ws rs → cond a (p ∷ ps) ps ≡ numbered ws (cond b (r ∷ rs) rs)
  one_kept true true p r ps rs e f g = ap (λ x. x ∷ ps) f ∙ ap (λ l. post_of ws r ∷ l) g
  one_kept false false p r ps rs e f g = g
  one_kept true false p r ps rs e f g = absurd (true≢false e)
  one_kept false true p r ps rs e f g = absurd (true≢false (sym e))

  pub part_posts : (front part rest : Words) (count : Count) (rows : List Row) → ws ≡ front ++ (part ++ rest) → AllByRecursion (HasWord ws) rows
      → let run : Run = record { lo = length front; words = length part; rows = rows_of_run count part } in filter (is_within run) (numbered ws rows) ≡ block_of ws rows part
  part_posts front part rest count [] e k = refl
  part_posts front part rest count (r ∷ rows) e k =
      let run : Run = record { lo = length front; words = length part; rows = rows_of_run count part } in
      one_kept (is_within run (post_of ws r)) (list_any (bytes_eq r.word) part) (post_of ws r) r (filter (is_within run) (numbered ws rows)) (filter (λ s. list_any (bytes_eq s.word) part) rows)
      (in_part front part rest r.word e k.0) refl (part_posts front part rest count rows e k.1)

  -- ---- how many rows a run has
  sorted_front : (xs ys : Words) → IsStrictlySortedBy (slice_cmp nat_cmp) (xs ++ ys) → IsStrictlySortedBy (slice_cmp nat_cmp) xs
  unfolding IsStrictlySortedBy
  sorted_front [] ys h = tt
  sorted_front (x ∷ xs) ys h = (below_front (λ y. slice_cmp nat_cmp x y ≡ Less) xs ys h.0, sorted_front xs ys h.1)
    where
      below_front : (P : List ℕ → Type 0) (xs ys : Words) → AllByRecursion P (xs ++ ys) → AllByRecursion P xs
      below_front P [] ys h = tt
      below_front P (x ∷ xs) ys h = (h.0, below_front P xs ys h.1)

  sorted_behind : (xs ys : Words) → IsStrictlySortedBy (slice_cmp nat_cmp) (xs ++ ys) → IsStrictlySortedBy (slice_cmp nat_cmp) ys
  unfolding IsStrictlySortedBy
  sorted_behind [] ys h = h
  sorted_behind (x ∷ xs) ys h = sorted_behind xs ys h.1

  not_less_itself : (w : List ℕ) → slice_cmp nat_cmp w w ≡ Less → ⊥
  not_less_itself w h = true≢false (sym (ap is_lt h) ∙ ap is_lt (tied_itself nat_list_cmp_total w))

  not_there : (w v : List ℕ) (part : Words) → v ≡ w → AllByRecursion (λ y. slice_cmp nat_cmp w y ≡ Less) part → list_any (bytes_eq v) part ≡ false
  not_there w v [] e h = refl
  not_there w v (y ∷ part) e h =
      or_false (bytes_eq v y) (list_any (bytes_eq v) part)
      (false_from_ne_true _ (λ t. not_less_itself w (ap (slice_cmp nat_cmp w) (sym e ∙ (bytes_eq-Decides v y).0 t) ∙ h.0)))
      (not_there w v part e h.1)
    where
      or_false : (a b : Bool) → a ≡ false → b ≡ false → (a || b) ≡ false
      or_false true b h k = h
      or_false false b h k = k

  either_kept : (a b : Bool) (r : Row) (xs ys zs : List Row) → (a ≡ true → b ≡ false) → length xs + length ys ≡ length zs → length (cond a (r ∷ xs) xs) + length (cond b (r ∷ ys) ys) ≡ length (cond (a || b) (r ∷ zs) zs)
  either_kept true true r xs ys zs apart e = absurd (true≢false (apart refl))
  either_kept true false r xs ys zs apart e = omega (arith, e)
  either_kept false true r xs ys zs apart e = omega (arith, e)
  either_kept false false r xs ys zs apart e = e

  one_word_more : (w : List ℕ) (part : Words) (rows : List Row) → AllByRecursion (λ y. slice_cmp nat_cmp w y ≡ Less) part
      → length (filter (λ r. bytes_eq r.word w) rows) + length (filter (λ r. list_any (bytes_eq r.word) part) rows) ≡ length (filter (λ r. list_any (bytes_eq r.word) (w ∷ part)) rows)
  one_word_more w part [] h = refl
  one_word_more w part (r ∷ rows) h =
      either_kept (bytes_eq r.word w) (list_any (bytes_eq r.word) part) r _ _ _ (λ t. not_there w r.word part ((bytes_eq-Decides r.word w).0 t) h) (one_word_more w part rows h)

  no_rows : (rows : List Row) → length (filter (λ r. list_any (bytes_eq r.word) []) rows) ≡ 0
  no_rows [] = refl
  no_rows (r ∷ rows) = no_rows rows

  pub part_rows : (part : Words) (rows : List Row) → IsStrictlySortedBy (slice_cmp nat_cmp) part → rows_of_run (count_in rows) part ≡ length (filter (λ r. list_any (bytes_eq r.word) part) rows)
  unfolding IsStrictlySortedBy
  part_rows [] rows h = sym (no_rows rows)
  part_rows (w ∷ part) rows h =
      sum_by-cons (count_in rows) w part ∙ ap (λ (n : ℕ). count_in rows w + n) (part_rows part rows h.1) ∙ one_word_more w part rows h.0

  pub rows_of_part : (front part rest : Words) (rows : List Row) → ws ≡ front ++ (part ++ rest) → rows_of_run (count_in rows) part ≡ length (block_of ws rows part)
  rows_of_part front part rest rows e =
      part_rows part rows (sorted_front part rest (sorted_behind front (part ++ rest) (subst (IsStrictlySortedBy (slice_cmp nat_cmp)) e up)))
      ∙ sym (length-map (filter (λ r. list_any (bytes_eq r.word) part) rows) (post_of ws))

  -- ---- run by run
  next_front : (front part rest : Words) → ws ≡ front ++ (part ++ rest) → ws ≡ (front ++ part) ++ rest
  next_front front part rest e = e ∙ sym (append_assoc front part rest)

  module _ (rows : List Row) (known : AllByRecursion (HasWord ws) rows) where
    abbrev parts_of : List Words → Words
    parts_of parts = flat_map (λ part. part) parts

    pub blocks_are : (front : Words) (parts : List Words) (lo : ℕ) → lo ≡ length front → ws ≡ front ++ parts_of parts → map (λ run. filter (is_within run) (numbered ws rows)) (runs_from (count_in rows) lo parts) ≡ map (block_of ws rows) parts
    blocks_are front [] lo l e = refl
    blocks_are front (part ∷ parts) lo l e =
        ap (λ (k : ℕ). let run : Run = record { lo = k; words = length part; rows = rows_of_run (count_in rows) part } in filter (is_within run) (numbered ws rows) ∷ map (λ run. filter (is_within run) (numbered ws rows)) (runs_from (count_in rows) (lo + length part) parts)) l
        ∙ ap (λ b. b ∷ map (λ run. filter (is_within run) (numbered ws rows)) (runs_from (count_in rows) (lo + length part) parts)) (part_posts front part (parts_of parts) (count_in rows) rows e known)
        ∙ ap (λ bs. block_of ws rows part ∷ bs) (blocks_are (front ++ part) parts (lo + length part) (omega (arith, l, length-append front part)) (next_front front part (parts_of parts) e))

    pub rows_counted : (front : Words) (parts : List Words) (lo : ℕ) → lo ≡ length front → ws ≡ front ++ parts_of parts → AllByRecursion (CountsRows (numbered ws rows)) (runs_from (count_in rows) lo parts)
    rows_counted front [] lo l e = tt
    rows_counted front (part ∷ parts) lo l e = (
      rows_of_part front part (parts_of parts) rows e
          ∙ ap length (sym (part_posts front part (parts_of parts) (count_in rows) rows e known))
          ∙ ap (λ (k : ℕ). let run : Run = record { lo = k; words = length part; rows = rows_of_run (count_in rows) part } in length (filter (is_within run) (numbered ws rows))) (sym l),
      rows_counted (front ++ part) parts (lo + length part) (omega (arith, l, length-append front part)) (next_front front part (parts_of parts) e),
    )

    first_word : (front part rest : Words) → 1 ≤ length part → ws ≡ front ++ (part ++ rest) → word_at ws (length front) ≡ word_at part 0
    first_word front part rest some e = ap (word_at ws) (let z : length front ≡ length front + 0 = omega arith in z) ∙ at_front front part rest 0 some e

    pub heads_are : (front : Words) (parts : List Words) (lo : ℕ) → lo ≡ length front → AllByRecursion (λ part. 1 ≤ length part) parts → ws ≡ front ++ parts_of parts
        → map (run_head ws) (zip (runs_from (count_in rows) lo parts) (map (block_of ws rows) parts)) ≡ heads_from lo (zip parts (map (block_of ws rows) parts))
    unfolding heads_from
    heads_are front [] lo l some e = refl
    heads_are front (part ∷ parts) lo l some e =
        let block = block_of ws rows part in
        let facet : is_facet (word_at ws lo) ≡ is_facet (word_at part 0) = ap (λ (k : ℕ). is_facet (word_at ws k)) l ∙ ap is_facet (first_word front part (parts_of parts) some.0 e) in
        ap (λ (f : Bool). let h : BlockHead = record { lo = lo; words = length part; rows = rows_of_run (count_in rows) part; len = length (block_bytes block lo); facet = f; least = least_of block; greatest = greatest_of block } in h ∷ map (run_head ws) (zip (runs_from (count_in rows) (lo + length part) parts) (map (block_of ws rows) parts))) facet
        ∙ ap (λ (n : ℕ). let h : BlockHead = record { lo = lo; words = length part; rows = n; len = length (block_bytes block lo); facet = is_facet (word_at part 0); least = least_of block; greatest = greatest_of block } in h ∷ map (run_head ws) (zip (runs_from (count_in rows) (lo + length part) parts) (map (block_of ws rows) parts))) (rows_of_part front part (parts_of parts) rows e)
        ∙ ap (λ hs. head_of lo part block ∷ hs) (heads_are (front ++ part) parts (lo + length part) (omega (arith, l, length-append front part)) some.1 (next_front front part (parts_of parts) e))

    pub all_inside : (front : Words) (parts : List Words) (lo : ℕ) → lo ≡ length front → AllByRecursion (λ part. 1 ≤ length part) parts → ws ≡ front ++ parts_of parts → AllByRecursion (λ run. run.lo < length ws) (runs_from (count_in rows) lo parts)
    all_inside front [] lo l some e = tt
    all_inside front (part ∷ parts) lo l some e = (
      omega (arith, l, some.0, ap length e, length-append front (part ++ parts_of parts), length-append part (parts_of parts)),
      all_inside (front ++ part) parts (lo + length part) (omega (arith, l, length-append front part)) some.1 (next_front front part (parts_of parts) e),
    )

pub spans_are : (count : Count) (lo : ℕ) (parts : List Words) → AreSpans lo (runs_from count lo parts) (lo + length (flat_map (λ part. part) parts))
spans_are count lo [] = omega arith
spans_are count lo (part ∷ parts) = (refl, subst (AreSpans (lo + length part) (runs_from count (lo + length part) parts)) (omega (arith, length-append part (flat_map (λ part. part) parts))) (spans_are count (lo + length part) parts))

pub few_runs : (count : Count) (lo : ℕ) (parts : List Words) → AllByRecursion (λ part. 1 ≤ length part) parts → length (runs_from count lo parts) ≤ length (flat_map (λ part. part) parts)
few_runs count lo [] some = omega arith
few_runs count lo (part ∷ parts) some = let rest = few_runs count (lo + length part) parts some.1 in omega (arith, rest, some.0, length-append part (flat_map (λ part. part) parts))

-- each run has a word, and few
pub record HasWords (part : Words) : Type 0 where
  pub some : 1 ≤ length part
  pub few : length part ≤ MAX_BLOCK_WORDS

pub filled_parts : (target : ℕ) (count : Count) (parts : List Words) → list_all (is_run target count) parts ≡ true → AllByRecursion HasWords parts
filled_parts target count [] h = tt
filled_parts target count (part ∷ parts) h =
    let p = and_parts (is_run target count part) (list_all (is_run target count) parts) h in
    let a = and_parts (is_filled part) (is_one_kind part && (nat_le (length part) MAX_BLOCK_WORDS && is_light target (length part) (rows_of_run count part))) p.0 in
    let b = and_parts (is_one_kind part) (nat_le (length part) MAX_BLOCK_WORDS && is_light target (length part) (rows_of_run count part)) a.1 in
    let d = and_parts (nat_le (length part) MAX_BLOCK_WORDS) (is_light target (length part) (rows_of_run count part)) b.1 in
    (record { some = leb-true 1 (length part) a.0; few = leb-true (length part) MAX_BLOCK_WORDS d.0 }, filled_parts target count parts p.1)

pub some_words : (parts : List Words) → AllByRecursion HasWords parts → AllByRecursion (λ part. 1 ≤ length part) parts
some_words [] h = tt
some_words (part ∷ parts) h = (h.0.some, some_words parts h.1)
