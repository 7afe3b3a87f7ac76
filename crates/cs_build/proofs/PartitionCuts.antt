-- Words parted from the left, each run as long as it may be, are the partition of the words.
--
--   cut                      the runs of words, of which some are in the first one already
--   parts_are                they are the partition
--   IsCutting                so far the runs are the first ones, and one more is begun
--   begun, longer_run, next_run, last_run      the first word, one more word in the run that is begun, in a run of its own, and no more words
use Rattle.std.proofs.Common.{◌≡◌, ℕ, ◌+◌, ◌<◌, ◌≤◌, ◌&&◌, ◌||◌, Bool, true, false, true≢false, cond, not, List, [], ◌∷◌, ◌++◌, length, drop, refl, sym, ◌∙◌, ap, subst, arith, append_assoc, length-append, drop-cons, add-one}
use Rattle.std.specs.Prelude.{flat_map, nat_lt, nat_le, if◌then◌else◌}
use Rattle.std.specs.List.{list_all, zip}
use Rattle.std.proofs.lemmas.Bool.{and_parts, and_from, le-leb}
use Rattle.std.proofs.lemmas.Bool.Decides.{nat_tests}
use Rattle.std.proofs.lemmas.List.{drop_all}
use Rattle.std.proofs.lemmas.List.Folds.{list_all-append}
use Rattle.std.proofs.lemmas.List.Sums.{sum_by_push}
use Rattle.std.proofs.lemmas.Slice.Eq.{bytes_eq-Decides}
use Rattle.cs_model.specs.Words.{is_filled}
use Rattle.cs_model_index.specs.Numbered.{word_at}
use Rattle.cs_model_index.specs.Partitions.{Count, kind_of, is_alike, is_one_kind, rows_of_run, is_light, is_run, is_full, is_ended, IsPartition}
use Rattle.cs_model_index.specs.declared.limits.TheConstants.{MAX_BLOCK_WORDS}
use Rattle.cs_build.specs.WordRuns.{runs_from, AreParted}
use Rattle.cs_build.specs.declared.parting.Run.{Run}

abbrev Part : Type 0
Part = List (List ℕ)

-- the tests of a run that grows, as numbers
light_grown : (n rows more target sum : ℕ) (alike : Bool) (most : ℕ) → not (not alike || (nat_le most n || nat_lt target (rows + more))) ≡ true → sum ≡ rows + more → (alike ≡ true) × (nat_le (n + 1) most ≡ true) × ((nat_le (n + 1) 1 || nat_le sum target) ≡ true)
light_grown n rows more target sum alike most h e = (grind (arith, nat_tests), grind (arith, nat_tests), grind (arith, nat_tests))

alike_itself : (w : List ℕ) → is_alike w w ≡ true
alike_itself w = (bytes_eq-Decides (kind_of w) (kind_of w)).1 refl

module _ (target : ℕ) (count : Count) where
  -- whether a run has room for one more word
  abbrev pub room : Part → List ℕ → Bool
  room part w = not (not (is_alike (word_at part 0) w) || is_full target (length part) (rows_of_run count part + count w))

  unfoldable pub cut : Part → List (List ℕ) → List Part
  cut part [] = part ∷ []
  cut part (w ∷ ws) = if room part w then cut (part ++ w ∷ []) ws else part ∷ cut (w ∷ []) ws

  -- ---- each run is one
  alone : (w : List ℕ) → is_run target count (w ∷ []) ≡ true
  alone w = and_from _ _ refl (and_from _ _ (and_from _ _ (alike_itself w) refl) refl)

  grown : (x : List ℕ) (part : Part) (w : List ℕ) → is_run target count (x ∷ part) ≡ true → room (x ∷ part) w ≡ true → is_run target count ((x ∷ part) ++ w ∷ []) ≡ true
  grown x part w run free =
      let p = x ∷ part in
      let more = length-append p (w ∷ []) in
      let a = (and_parts (is_filled p) (is_one_kind p && (nat_le (length p) MAX_BLOCK_WORDS && is_light target (length p) (rows_of_run count p))) run).1 in
      let b = and_parts (is_one_kind p) (nat_le (length p) MAX_BLOCK_WORDS && is_light target (length p) (rows_of_run count p)) a in
      let g = light_grown (length p) (rows_of_run count p) (count w) target (rows_of_run count (p ++ w ∷ [])) (is_alike x w) MAX_BLOCK_WORDS free (sum_by_push count p w) in
      let n : length (p ++ w ∷ []) ≡ length p + 1 = more in
      let filled : is_filled (p ++ w ∷ []) ≡ true = le-leb 1 (length (p ++ w ∷ [])) (omega (arith, n)) in
      and_from _ _ filled (and_from _ _ (list_all-append (is_alike x) p (w ∷ []) ∙ and_from _ _ b.0 (and_from _ _ g.0 refl))
      (and_from _ _ (ap (λ (k : ℕ). nat_le k MAX_BLOCK_WORDS) n ∙ g.1) (ap (λ (k : ℕ). nat_le k 1 || nat_le (rows_of_run count (p ++ w ∷ [])) target) n ∙ g.2)))

  -- ---- the runs together
  -- the first run begins with a word
  record Begins (w : List ℕ) (runs : List Part) : Type 0 where
    part : Part
    rest : List Part
    is : runs ≡ part ∷ rest
    first : word_at part 0 ≡ w

  begins : (x : List ℕ) (part ws : Part) → Begins x (cut (x ∷ part) ws)
  unfolding cut
  begins x part [] = record { part = x ∷ part; rest = []; is = refl; first = refl }
  begins x part (w ∷ ws) =
      elim (room (x ∷ part) w) as (λ b. Begins x (cond b (cut ((x ∷ part) ++ w ∷ []) ws) ((x ∷ part) ∷ cut (w ∷ []) ws))) [
        | true ↦ begins x (part ++ w ∷ []) ws
        | false ↦ record { part = x ∷ part; rest = cut (w ∷ []) ws; is = refl; first = refl }
      ]

  record Parts (words : List (List ℕ)) (runs : List Part) : Type 0 where
    joined : flat_map (λ run. run) runs ≡ words
    each : list_all (is_run target count) runs ≡ true
    ended : list_all (is_ended target count) (zip runs (drop 1 runs)) ≡ true

  -- one run in front of others
  in_front : (part : Part) (w : List ℕ) (words : List (List ℕ)) (runs : List Part) → is_run target count part ≡ true → (not (is_alike (word_at part 0) w) || is_full target (length part) (rows_of_run count part + count w)) ≡ true → Begins w runs → Parts words runs → Parts (part ++ words) (part ∷ runs)
  in_front part w words runs run full b p = record {
    joined = ap (λ x. part ++ x) p.joined;
    each = and_from _ _ run p.each;
    ended = subst (λ rs. list_all (is_ended target count) (zip (part ∷ rs) rs) ≡ true) (sym b.is)
        (and_from _ _ (ap (λ (v : List ℕ). not (is_alike (word_at part 0) v) || is_full target (length part) (rows_of_run count part + count v)) b.first ∙ full)
        (subst (λ rs. list_all (is_ended target count) (zip rs (drop 1 rs)) ≡ true) b.is p.ended));
  }

  one_part : (part : Part) → is_run target count part ≡ true → Parts (part ++ []) (part ∷ [])
  one_part part run = record { joined = refl; each = and_from _ _ run refl; ended = refl }

  not_not : (b : Bool) → not b ≡ false → b ≡ true
  not_not true h = refl
  not_not false h = absurd (true≢false h)

  parts : (x : List ℕ) (part ws : Part) → is_run target count (x ∷ part) ≡ true → Parts ((x ∷ part) ++ ws) (cut (x ∷ part) ws)
  unfolding cut
  parts x part [] run = one_part (x ∷ part) run
  parts x part (w ∷ ws) run =
      elim (room (x ∷ part) w) as (λ b. room (x ∷ part) w ≡ b → Parts ((x ∷ part) ++ w ∷ ws) (cond b (cut ((x ∷ part) ++ w ∷ []) ws) ((x ∷ part) ∷ cut (w ∷ []) ws))) [
        | true ↦ λ e. subst (λ words. Parts words (cut ((x ∷ part) ++ w ∷ []) ws)) (append_assoc (x ∷ part) (w ∷ []) ws) (parts x (part ++ w ∷ []) ws (grown x part w run e))
        | false ↦ λ e. in_front (x ∷ part) w (w ∷ ws) (cut (w ∷ []) ws) run (not_not _ e) (begins w [] ws) (parts w [] ws (alone w))
      ] refl

  pub parts_are : (w : List ℕ) (ws : List (List ℕ)) → IsPartition target count (w ∷ ws) (cut (w ∷ []) ws)
  parts_are w ws = let p = parts w [] ws (alone w) in record { joined = p.joined; each = p.each; ended = p.ended }

  -- ---- run by run
  abbrev pub run_of : ℕ → Part → Run
  run_of lo part = record { lo = lo; words = length part; rows = rows_of_run count part }

  -- the runs so far, and the one that is begun, with words up to word number n
  pub record IsCutting (words : List (List ℕ)) (n : ℕ) (runs : List Run) (run : Run) : Type 0 where
    pub first : List ℕ
    pub others : Part
    pub is : run ≡ run_of run.lo (first ∷ others)
    pub inside : run.lo < length words
    pub lo : word_at words run.lo ≡ first
    pub end : run.lo + length (first ∷ others) ≡ n
    pub told : runs ++ runs_from count run.lo (cut (first ∷ others) (drop n words)) ≡ runs_from count 0 (cut (word_at words 0 ∷ []) (drop 1 words))

  pub begun : (words : List (List ℕ)) (rows : ℕ) → 0 < length words → rows ≡ count (word_at words 0) → IsCutting words 1 [] (record { lo = 0; words = 1; rows = rows })
  begun words rows l e = record {
    first = word_at words 0;
    others = [];
    is = ap (λ (n : ℕ). let r : Run = record { lo = 0; words = 1; rows = n } in r) (e ∙ omega arith);
    inside = l;
    lo = refl;
    end = refl;
    told = refl;
  }

  next_word : (words : List (List ℕ)) (n : ℕ) → n < length words → drop n words ≡ word_at words n ∷ drop (n + 1) words
  next_word words n l = drop-cons words n [] l ∙ ap (λ k. word_at words n ∷ drop k words) (sym (add-one n))

  cut_on : (part : Part) (w : List ℕ) (ws : List (List ℕ)) (b : Bool) → room part w ≡ b → cut part (w ∷ ws) ≡ cond b (cut (part ++ w ∷ []) ws) (part ∷ cut (w ∷ []) ws)
  unfolding cut
  cut_on part w ws b e = ap (λ (x : Bool). cond x (cut (part ++ w ∷ []) ws) (part ∷ cut (w ∷ []) ws)) e

  -- the run's room, by what is kept of it
  room_is : (words : List (List ℕ)) (n : ℕ) (runs : List Run) (run : Run) (c : IsCutting words n runs run) (b : Bool) (more : ℕ) → more ≡ count (word_at words n)
      → b ≡ not (not (is_alike (word_at words run.lo) (word_at words n)) || is_full target run.words (run.rows + more)) → room (c.first ∷ c.others) (word_at words n) ≡ b
  room_is words n runs run c b more m e =
      let part = c.first ∷ c.others in
      let words_are : run.words ≡ length part = ap (λ (r : Run). r.words) c.is in
      let rows_are : run.rows ≡ rows_of_run count part = ap (λ (r : Run). r.rows) c.is in
      sym (e ∙ rw (c.lo, words_are, rows_are, m) refl)

  pub longer_run : (words : List (List ℕ)) (n : ℕ) (runs : List Run) (run : Run) (more : ℕ) → n < length words → more ≡ count (word_at words n)
      → true ≡ not (not (is_alike (word_at words run.lo) (word_at words n)) || is_full target run.words (run.rows + more)) → IsCutting words n runs run
      → IsCutting words (n + 1) runs (record { lo = run.lo; words = run.words + 1; rows = run.rows + more })
  longer_run words n runs run more l m free c =
      let part = c.first ∷ c.others in
      let w = word_at words n in
      let size = length-append part (w ∷ []) in
      let words_are : run.words ≡ length part = ap (λ (r : Run). r.words) c.is in
      let rows_are : run.rows ≡ rows_of_run count part = ap (λ (r : Run). r.rows) c.is in
      let many : run.words + 1 ≡ length (part ++ w ∷ []) = omega (arith, words_are, size) in
      let sum : run.rows + more ≡ rows_of_run count (part ++ w ∷ []) = ap (λ (k : ℕ). k + more) rows_are ∙ ap (λ (k : ℕ). rows_of_run count part + k) m ∙ sym (sum_by_push count part w) in
      let r = room_is words n runs run c true more m free in
      record {
        first = c.first;
        others = c.others ++ w ∷ [];
        is = ap (λ (k : ℕ). let r : Run = record { lo = run.lo; words = k; rows = run.rows + more } in r) many ∙ ap (λ (k : ℕ). let r : Run = record { lo = run.lo; words = length (part ++ w ∷ []); rows = k } in r) sum;
        inside = c.inside;
        lo = c.lo;
        end = omega (arith, size, c.end);
        told = ap (λ (rs : List Part). runs ++ runs_from count run.lo rs) (sym (ap (cut part) (next_word words n l) ∙ cut_on part w (drop (n + 1) words) true r)) ∙ c.told;
      }

  pub next_run : (words : List (List ℕ)) (n : ℕ) (runs : List Run) (run : Run) (more : ℕ) → n < length words → more ≡ count (word_at words n)
      → false ≡ not (not (is_alike (word_at words run.lo) (word_at words n)) || is_full target run.words (run.rows + more)) → IsCutting words n runs run
      → IsCutting words (n + 1) (runs ++ run ∷ []) (record { lo = n; words = 1; rows = more })
  next_run words n runs run more l m full c =
      let part = c.first ∷ c.others in
      let w = word_at words n in
      let r = room_is words n runs run c false more m full in
      record {
        first = w;
        others = [];
        is = ap (λ (k : ℕ). let r : Run = record { lo = n; words = 1; rows = k } in r) (m ∙ omega arith);
        inside = l;
        lo = refl;
        end = refl;
        told = append_assoc runs (run ∷ []) (runs_from count n (cut (w ∷ []) (drop (n + 1) words)))
            ∙ ap (λ (k : ℕ). runs ++ run ∷ runs_from count k (cut (w ∷ []) (drop (n + 1) words))) (sym c.end)
            ∙ ap (λ (r : Run). runs ++ r ∷ runs_from count (run.lo + length part) (cut (w ∷ []) (drop (n + 1) words))) c.is
            ∙ ap (λ (rs : List Part). runs ++ runs_from count run.lo rs) (sym (ap (cut part) (next_word words n l) ∙ cut_on part w (drop (n + 1) words) false r)) ∙ c.told;
      }

  cut_end : (part : Part) → cut part [] ≡ part ∷ []
  unfolding cut
  cut_end part = refl

  pub last_run : (words : List (List ℕ)) (n : ℕ) (runs : List Run) (run : Run) → 0 < length words → length words ≤ n → IsCutting words n runs run → AreParted target words count (runs ++ run ∷ [])
  last_run words n runs run some l c =
      let part = c.first ∷ c.others in
      record {
        parts = cut (word_at words 0 ∷ []) (drop 1 words);
        partition = subst (λ ws. IsPartition target count ws (cut (word_at words 0 ∷ []) (drop 1 words))) (sym (next_word words 0 some)) (parts_are (word_at words 0) (drop 1 words));
        are = ap (λ (r : Run). runs ++ r ∷ []) c.is ∙ ap (λ (rs : List Part). runs ++ runs_from count run.lo rs) (sym (ap (cut part) (drop_all n words l) ∙ cut_end part)) ∙ c.told;
      }

  pub no_words : AreParted target [] count []
  no_words = record { parts = []; partition = record { joined = refl; each = refl; ended = refl }; are = refl }
