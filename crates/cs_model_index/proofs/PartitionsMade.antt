-- Words have a partition: each word goes to the run before it where that one has room, and begins a run where it has none.
--
--   Parted           runs of some words, the first of which begins with a word
--   parted_from      a run and the words behind it have such runs
--   partitions_exist the law for words
--   images_exist     the law for a corpus whose documents are numbered from 0
use Rattle.std.proofs.Common.{◌≡◌, ℕ, ◌+◌, ◌&&◌, ◌||◌, Bool, true, false, not, List, [], ◌∷◌, ◌++◌, length, refl, ◌∙◌, ap, arith, append_assoc, length-append}
use Rattle.std.specs.Prelude.{flat_map, nat_lt, nat_le}
use Rattle.std.specs.List.{list_all, zip}
use Rattle.std.proofs.lemmas.Bool.{and_from, and_parts, lt-ltb}
use Rattle.std.proofs.lemmas.Bool.Decides.{nat_tests}
use Rattle.std.proofs.lemmas.List.Folds.{list_all-append}
use Rattle.std.proofs.lemmas.List.Sums.{sum_by-append, sum_by-cons}
use Rattle.std.proofs.lemmas.Slice.Eq.{bytes_eq-Decides}
use Rattle.cs_model.specs.Corpus.{distinct_words}
use Rattle.cs_model.specs.Words.{is_filled}
use Rattle.cs_model_index.specs.Images.{ImagesExist, count_in, image_by}
use Rattle.cs_model_index.specs.Numbered.{word_at}
use Rattle.cs_model_index.specs.Partitions.{Count, PartitionsExist, is_alike, is_ended, is_full, is_light, is_one_kind, is_run, kind_of, rows_of_run}
use Rattle.cs_model_index.specs.declared.limits.TheConstants.{MAX_BLOCK_WORDS}

abbrev Run : Type 0
Run = List (List ℕ)

abbrev joined : List Run → Run
joined runs = flat_map (λ run. run) runs

-- ---- room for one word more
room_kind : (alike : Bool) (most n target rows : ℕ) → (not alike || (nat_le most n || nat_lt target rows)) ≡ false → alike ≡ true
room_kind alike most n target rows h = grind (arith, nat_tests)

room_words : (alike : Bool) (most n all target rows : ℕ) → (not alike || (nat_le most n || nat_lt target rows)) ≡ false → all ≡ n + 1 → nat_le all most ≡ true
room_words alike most n all target rows h len = grind (arith, nat_tests)

room_rows : (alike : Bool) (most n all target rows : ℕ) → (not alike || (nat_le most n || nat_lt target rows)) ≡ false → (nat_le all 1 || nat_le rows target) ≡ true
room_rows alike most n all target rows h = grind (arith, nat_tests)

module _ (target : ℕ) (count : Count) where
  -- runs of words, of which there is at least one, and it begins with a word
  record Parted (a : List ℕ) (ws : Run) : Type 0 where
    pub first : Run
    pub others : List Run
    pub begins : word_at first 0 ≡ a
    pub joined : first ++ joined others ≡ ws
    pub each : list_all (is_run target count) (first ∷ others) ≡ true
    pub ended : list_all (is_ended target count) (zip (first ∷ others) others) ≡ true

  one_word : (a : List ℕ) → is_run target count (a ∷ []) ≡ true
  one_word a = and_from (is_alike a a && true) _ (and_from (is_alike a a) true ((bytes_eq-Decides (kind_of a) (kind_of a)).1 refl) refl) refl

  abbrev closed : List ℕ → Run → List ℕ → Bool
  closed a r x = not (is_alike a x) || is_full target (length (a ∷ r)) (rows_of_run count (a ∷ r) + count x)

  one_more : (a : List ℕ) (r : Run) (x : List ℕ) → is_run target count (a ∷ r) ≡ true → closed a r x ≡ false → is_run target count (a ∷ r ++ x ∷ []) ≡ true
  one_more a r x run room =
      let s : Run = a ∷ r in
      let t : Run = a ∷ r ++ x ∷ [] in
      let some = and_parts (is_filled s) (is_one_kind s && (nat_le (length s) MAX_BLOCK_WORDS && is_light target (length s) (rows_of_run count s))) run in
      let kinds = (and_parts (is_one_kind s) (nat_le (length s) MAX_BLOCK_WORDS && is_light target (length s) (rows_of_run count s)) some.1).0 in
      let alike = room_kind (is_alike a x) MAX_BLOCK_WORDS (length s) target (rows_of_run count s + count x) room in
      let rows : rows_of_run count t ≡ rows_of_run count s + count x = sum_by-append count s (x ∷ []) ∙ ap (λ n. rows_of_run count s + n) (sum_by-cons count x [] ∙ omega arith) in
      let len : length t ≡ length s + 1 = omega (arith, length-append r (x ∷ [])) in
      and_from (is_filled t) _ (lt-ltb 0 (length t) (omega (arith, len)))
      (and_from (is_one_kind t) _ (list_all-append (is_alike a) s (x ∷ []) ∙ and_from _ _ kinds (and_from _ _ alike refl))
      (and_from (nat_le (length t) MAX_BLOCK_WORDS) _ (room_words (is_alike a x) MAX_BLOCK_WORDS (length s) (length t) target (rows_of_run count s + count x) room len)
      (ap (λ n. is_light target (length t) n) rows ∙ room_rows (is_alike a x) MAX_BLOCK_WORDS (length s) (length t) target (rows_of_run count s + count x) room)))

  parted_from : (a : List ℕ) (r ws : Run) → is_run target count (a ∷ r) ≡ true → Parted a (a ∷ r ++ ws)
  parted_from a r [] run = record { first = a ∷ r; others = []; begins = refl; joined = refl; each = and_from _ _ run refl; ended = refl }
  parted_from a r (x ∷ ws) run =
      elim (closed a r x) as (λ b. closed a r x ≡ b → Parted a (a ∷ r ++ x ∷ ws)) [
        | true ↦ λ shut.
            let p = parted_from x [] ws (one_word x) in
            record {
              first = a ∷ r;
              others = p.first ∷ p.others;
              begins = refl;
              joined = ap (λ l. a ∷ r ++ l) p.joined;
              each = and_from _ _ run p.each;
              ended = and_from _ _ (ap (closed a r) p.begins ∙ shut) p.ended;
            }
        | false ↦ λ room.
            let p = parted_from a (r ++ x ∷ []) ws (one_more a r x run room) in
            record { first = p.first; others = p.others; begins = p.begins; joined = p.joined ∙ ap (λ l. a ∷ l) (append_assoc r (x ∷ []) ws); each = p.each; ended = p.ended }
      ] refl

-- the laws
pub partitions_exist : PartitionsExist
partitions_exist target count [] = ([], record { joined = refl; each = refl; ended = refl })
partitions_exist target count (a ∷ ws) =
    let p = parted_from target count a [] ws (one_word target count a) in
    (p.first ∷ p.others, record { joined = p.joined; each = p.each; ended = p.ended })

pub images_exist : ImagesExist
images_exist k target weights titles named =
    let p = partitions_exist target (count_in k.rows) (distinct_words k.rows) in
    (image_by titles k.rows p.0 target weights, record { titles = named; runs = p.0; parted = p.1; made = refl })
