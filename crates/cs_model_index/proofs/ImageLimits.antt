-- The file of an image within the limits is an index file, of which this image is read.
--
--   AreRuns           runs with their heads and blocks, one behind the other
--   runs_writable     the image of runs within the limits can be written, and keeps the rules
--   files_accepted    the law, by the law of blocks
use Rattle.std.proofs.Common.{◌≡◌, ℕ, ◌+◌, ◌*◌, ◌<◌, ◌≤◌, ◌^◌, ◌&&◌, Bool, true, false, true≢false, List, [], ◌∷◌, ◌++◌, length, map, drop, Option, Some, None, refl, sym, ap, subst, ◌∙◌, arith, append_assoc, length-append}
use Rattle.std.specs.Bool.{◌==◌}
use Rattle.std.specs.Prelude.{flat_map, nat_le}
use Rattle.std.specs.List.{AllByRecursion, list_all, list_any, sum_by, zip}
use Rattle.std.specs.List.Sorted.{IsStrictlySortedBy}
use Rattle.std.specs.Ordering.{nat_cmp}
use Rattle.std.specs.Cmp.Lexicographic.{slice_cmp}
use Rattle.std.specs.Str.{bytes_eq, is_utf8, IsUtf8}
use Rattle.std.proofs.lemmas.Bool.{and_parts, and_from, le-leb, eq-eqb}
use Rattle.std.proofs.lemmas.List.Elements.{recursion_from_All}
use Rattle.std.proofs.lemmas.List.Sums.{sum_by-cons}
use Rattle.std.proofs.lemmas.Str.{is_utf8-from_IsUtf8}
use Rattle.cs_base.proofs.MembersLemmas.{listing-rises, all_then}
use Rattle.cs_base.specs.declared.content.doc.Post.{Post}
use Rattle.cs_base.specs.declared.content.doc.Row.{Row}
use Rattle.cs_base.specs.declared.content.limits.TheConstants.{MAX_DOCS, MAX_LINE_BYTES, MAX_ROWS, MAX_WORDS}
use Rattle.cs_base.specs.declared.index.block.BlockHead.{BlockHead}
use Rattle.cs_model.specs.Corpus.{Corpus, IsCorpus, distinct_words}
use Rattle.cs_base.specs.declared.content.scores.Weights.{Weights}
use Rattle.cs_model_index.specs.Blocks.{block_bytes}
use Rattle.cs_model_index.specs.BlockRules.{is_scored}
use Rattle.cs_model_index.specs.FileLaws.{HasLimits, ImagesFollowBlocks}
use Rattle.cs_model_index.specs.FileRules.{laid, IsIndexFile, has_rows, is_bound, is_closed, is_joined, is_of_one_kind, is_parted, is_sized, is_word, word_size, words_end}
use Rattle.cs_model_index.specs.Images.{Image, block_of, count_in, head_of, heads_from, image_by}
use Rattle.cs_model_index.specs.Layout.{blocks_bytes, directory_bytes, entry_size, file_in, header_of_image, title_bytes}
use Rattle.cs_model_index.specs.Numbered.{word_at, HasWord}
use Rattle.cs_model_index.specs.Partitions.{is_ended, is_facet, is_light, is_run}
use Rattle.cs_model_index.specs.Sections.{bounds_in, directory_at, image_of, offsets_at, titles_at, vocabulary_at}
use Rattle.cs_model_index.proofs.AgainLemmas.{bounds_again, HasLength, HeadFits, AreBlocks}
use Rattle.cs_model_index.proofs.CorpusLemmas.{known_words, listed_word}
use Rattle.cs_model_index.proofs.RunBlocks.{AreRows, RunFacts, run_closed, run_facts}
use Rattle.cs_model_index.proofs.RunRows.{Run, IsAt}
use Rattle.cs_model_index.proofs.WeightsFieldLemmas.{field_is}
use Rattle.cs_model_index.proofs.SectionLemmas.{end_from, end_is}
use Rattle.cs_model_index.proofs.TextLimits.{placed, word_length, words_few, words_follow, offsets_within, offsets_onward, offsets_end}
use Rattle.cs_model_index.proofs.WrittenLemmas.{IsWritable, file_again}

-- ---- lists
all_parts : {X : Type 0} (P : X → Type 0) (xs ys : List X) → AllByRecursion P (xs ++ ys) → AllByRecursion P xs × AllByRecursion P ys
all_parts P [] ys h = (tt, h)
all_parts P (x ∷ xs) ys h = let rest = all_parts P xs ys h.1 in ((h.0, rest.0), rest.1)

all_each : {X : Type 0} (P : X → Type 0) (bs : List (List X)) → AllByRecursion P (flat_map (λ b. b) bs) → AllByRecursion (AllByRecursion P) bs
all_each P [] h = tt
all_each P (b ∷ bs) h = let both = all_parts P b (flat_map (λ b. b) bs) h in (both.0, all_each P bs both.1)

-- ---- runs, one behind the other
module _ (weights : Weights) (ws : Run) (rows : List Row) (docs target : ℕ) where
  pub AreRuns : ℕ → List Run → Type 0
  AreRuns lo [] = Unit {0}
  AreRuns lo (run ∷ runs) = RunFacts weights ws rows docs target lo run × AreRuns (lo + length run) runs

  abbrev blocks : List Run → List (List Post)
  blocks runs = map (block_of ws rows) runs

  abbrev heads : ℕ → List Run → List BlockHead
  heads lo runs = heads_from lo (zip runs (blocks runs))

  are_runs : AreRows ws rows → length ws ≤ MAX_WORDS → docs ≤ MAX_DOCS → (front : Run) (lo : ℕ) (runs : List Run) → ws ≡ front ++ flat_map (λ run. run) runs → length front ≡ lo → list_all (is_run target (count_in rows)) runs ≡ true
      → sum_by (λ block. length block) (blocks runs) ≤ MAX_ROWS → AllByRecursion (AllByRecursion (λ p. p.doc < docs)) (blocks runs) → AllByRecursion (AllByRecursion (λ p. is_scored weights (is_facet (word_at ws p.word)) p ≡ true)) (blocks runs)
      → AreRuns lo runs
  unfolding AreRuns
  are_runs are within many front lo [] split at each few known scored = tt
  are_runs are within many front lo (run ∷ runs) split at each few known scored =
      let is : IsAt ws lo run = record { front = front; rest = flat_map (λ run. run) runs; split = split; at = at } in
      let e = and_parts (is_run target (count_in rows) run) (list_all (is_run target (count_in rows)) runs) each in
      let sum = sum_by-cons (λ (block : List Post). length block) (block_of ws rows run) (blocks runs) in (
        run_facts ws rows are weights docs target lo run is e.0 within (omega (arith, few, sum)) many known.0 scored.0,
        are_runs are within many (front ++ run) (lo + length run) runs (split ∙ sym (append_assoc front run (flat_map (λ run. run) runs))) (omega (arith, at, length-append front run)) e.1 (omega (arith, few, sum)) known.1 scored.1,
      )

  -- ---- the directory
  heads_fit : (lo : ℕ) (runs : List Run) → AreRuns lo runs → AllByRecursion (HeadFits ws) (heads lo runs)
  unfolding AreRuns heads_from
  heads_fit lo [] h = tt
  heads_fit lo (run ∷ runs) h = (h.0.fits, heads_fit (lo + length run) runs h.1)

  one_each : (lo : ℕ) (runs : List Run) → length (heads lo runs) ≡ length (blocks runs)
  unfolding heads_from
  one_each lo [] = refl
  one_each lo (run ∷ runs) = let rest = one_each (lo + length run) runs in omega (arith, rest)

  are_blocks : (lo : ℕ) (runs : List Run) → AreRuns lo runs → AreBlocks weights docs (heads lo runs) (blocks runs)
  unfolding AreRuns AreBlocks heads_from
  are_blocks lo [] h = tt
  are_blocks lo (run ∷ runs) h = (h.0.shaped, (h.0.block, record { least = refl; greatest = refl }), are_blocks (lo + length run) runs h.1)

  heads_joined : (e place : ℕ) (last : Option BlockHead) (lo : ℕ) (runs : List Run) → lo ≡ words_end last → AreRuns lo runs → AllByRecursion (λ i. is_joined i.last i.value ≡ true) (laid (λ h. e) place last (heads lo runs))
  unfolding AreRuns heads_from laid
  heads_joined s place last lo [] e h = tt
  heads_joined s place last lo (run ∷ runs) e h = (
    and_from (lo == words_end last) (nat_le 1 (length run)) (eq-eqb lo (words_end last) e) (le-leb 1 (length run) h.0.some),
    heads_joined s (place + s) (Some (head_of lo run (block_of ws rows run))) (lo + length run) runs refl h.1,
  )

  heads_end : (lo : ℕ) (runs : List Run) → end_from lo (heads lo runs) ≡ lo + length (flat_map (λ run. run) runs)
  unfolding end_from heads_from
  heads_end lo [] = omega arith
  heads_end lo (run ∷ runs) = let rest = heads_end (lo + length run) runs in omega (arith, rest, length-append run (flat_map (λ run. run) runs))

  heads_kinds : (lo : ℕ) (runs : List Run) → AreRuns lo runs → AllByRecursion (λ h. is_of_one_kind ws h ≡ true) (heads lo runs)
  unfolding AreRuns heads_from
  heads_kinds lo [] h = tt
  heads_kinds lo (run ∷ runs) h = (h.0.kinds, heads_kinds (lo + length run) runs h.1)

  heads_sized : (lo : ℕ) (runs : List Run) → AreRuns lo runs → AllByRecursion (λ h. is_sized h ≡ true) (heads lo runs)
  unfolding AreRuns heads_from
  heads_sized lo [] h = tt
  heads_sized lo (run ∷ runs) h = (h.0.sized, heads_sized (lo + length run) runs h.1)

  -- ---- sums
  rows_sum : (lo : ℕ) (runs : List Run) → sum_by (λ h. h.rows) (heads lo runs) ≡ sum_by (λ block. length block) (blocks runs)
  unfolding heads_from
  rows_sum lo [] = refl
  rows_sum lo (run ∷ runs) =
      sum_by-cons (λ (h : BlockHead). h.rows) (head_of lo run (block_of ws rows run)) (heads (lo + length run) runs)
      ∙ ap (λ n. length (block_of ws rows run) + n) (rows_sum (lo + length run) runs)
      ∙ sym (sum_by-cons (λ (block : List Post). length block) (block_of ws rows run) (blocks runs))

  bytes_sum : (lo : ℕ) (runs : List Run) → sum_by (λ h. h.len) (heads lo runs) ≡ length (blocks_bytes (heads lo runs) (blocks runs))
  unfolding heads_from blocks_bytes
  bytes_sum lo [] = refl
  bytes_sum lo (run ∷ runs) =
      sum_by-cons (λ (h : BlockHead). h.len) (head_of lo run (block_of ws rows run)) (heads (lo + length run) runs)
      ∙ ap (λ n. length (block_bytes (block_of ws rows run) lo) + n) (bytes_sum (lo + length run) runs)
      ∙ sym (length-append (block_bytes (block_of ws rows run) lo) (blocks_bytes (heads (lo + length run) runs) (blocks runs)))

  bytes_few : (lo : ℕ) (runs : List Run) → AreRuns lo runs → sum_by (λ h. h.len) (heads lo runs) ≤ 12 * sum_by (λ block. length block) (blocks runs)
  unfolding AreRuns heads_from
  bytes_few lo [] h = omega arith
  bytes_few lo (run ∷ runs) h =
      let here : length (block_bytes (block_of ws rows run) lo) ≤ 12 * length (block_of ws rows run) = h.0.shaped.most in
      omega (
        arith,
        here,
        bytes_few (lo + length run) runs h.1,
        sum_by-cons (λ (h : BlockHead). h.len) (head_of lo run (block_of ws rows run)) (heads (lo + length run) runs),
        sum_by-cons (λ (block : List Post). length block) (block_of ws rows run) (blocks runs),
      )

  runs_few : (lo : ℕ) (runs : List Run) → AreRuns lo runs → length (blocks runs) ≤ length (flat_map (λ run. run) runs)
  unfolding AreRuns
  runs_few lo [] h = omega arith
  runs_few lo (run ∷ runs) h = let rest = runs_few (lo + length run) runs h.1 in omega (arith, rest, h.0.some, length-append run (flat_map (λ run. run) runs))

  -- ---- the parts of the words
  parted_at : (lo : ℕ) (run : Run) (next : Option (BlockHead × List Post)) → RunFacts weights ws rows docs target lo run → is_closed target ws (head_of lo run (block_of ws rows run), block_of ws rows run) next ≡ true
      → (has_rows (head_of lo run (block_of ws rows run), block_of ws rows run) && (is_light target (length run) (length (block_of ws rows run)) && is_closed target ws (head_of lo run (block_of ws rows run), block_of ws rows run) next)) ≡ true
  parted_at lo run next h closed =
      and_from (has_rows (head_of lo run (block_of ws rows run), block_of ws rows run)) _ h.full (and_from (is_light target (length run) (length (block_of ws rows run))) _ h.light closed)

  parted : AreRows ws rows → (e place : ℕ) (last : Option (BlockHead × List Post)) (front : Run) (lo : ℕ) (runs : List Run) → ws ≡ front ++ flat_map (λ run. run) runs → length front ≡ lo → list_all (is_ended target (count_in rows)) (zip runs (drop 1 runs)) ≡ true → AreRuns lo runs
      → AllByRecursion (λ i. is_parted target ws i ≡ true) (laid (λ p. e) place last (zip (heads lo runs) (blocks runs)))
  unfolding AreRuns heads_from laid
  parted are s place last front lo [] split at ended h = tt
  parted are s place last front lo (run ∷ []) split at ended h = (parted_at lo run None h.0 refl, tt)
  parted are s place last front lo (run ∷ next ∷ runs) split at ended h =
      let rest : Run = flat_map (λ run. run) runs in
      let is : IsAt ws lo run = record { front = front; rest = next ++ rest; split = split; at = at } in
      let split' : ws ≡ (front ++ run) ++ (next ++ rest) = split ∙ sym (append_assoc front run (next ++ rest)) in
      let at' : length (front ++ run) ≡ lo + length run = omega (arith, at, length-append front run) in
      let then : IsAt ws (lo + length run) next = record { front = front ++ run; rest = rest; split = split'; at = at' } in
      let e = and_parts (is_ended target (count_in rows) (run, next)) (list_all (is_ended target (count_in rows)) (zip (next ∷ runs) runs)) ended in (
        parted_at lo run (Some (head_of (lo + length run) next (block_of ws rows next), block_of ws rows next)) h.0 (run_closed ws rows are target lo (lo + length run) run next is then h.0.some h.1.0.some e.0),
        parted are s (place + s) (Some (head_of lo run (block_of ws rows run), block_of ws rows run)) (front ++ run) (lo + length run) (next ∷ runs) split' at' e.1 h.1,
      )

-- ---- the image
in_entries : (ws : Run) (hs : List BlockHead) (at n : ℕ) → length hs ≡ n → AllByRecursion (HeadFits ws) hs → (two : Bool) → two ≡ true
    → AllByRecursion (λ i. is_bound i.value ≡ true) (laid (λ p. entry_size two) at None (zip hs (bounds_in (entry_size two) n (directory_bytes two hs))))
unfolding entry_size
in_entries ws hs at n e fits true is = subst (λ k. AllByRecursion (λ i. is_bound i.value ≡ true) (laid (λ p. 24) at None (zip hs (bounds_in 24 k (directory_bytes true hs))))) e (bounds_again ws hs at None fits)
in_entries ws hs at n e fits false is = absurd (true≢false (sym is))

pub runs_writable : (ts : Run) (rows : List Row) (runs : List Run) (target : ℕ) (weights : Weights) → AreRows (flat_map (λ run. run) runs) rows → list_all (is_run target (count_in rows)) runs ≡ true → list_all (is_ended target (count_in rows)) (zip runs (drop 1 runs)) ≡ true
    → HasLimits (image_by ts rows runs target weights) → (two : Bool) → IsWritable two (image_by ts rows runs target weights)
runs_writable ts rows runs target weights are each ended limits two =
    let ws : Run = flat_map (λ run. run) runs in
    let docs : ℕ = length ts in
    let i : Image = image_by ts rows runs target weights in
    let h = header_of_image two i in
    let known = all_each (λ p. p.doc < docs) (blocks weights ws rows docs target runs) (recursion_from_All (λ p. p.doc < docs) _ limits.known) in
    let scored = all_each (λ p. is_scored weights (is_facet (word_at ws p.word)) p ≡ true) (blocks weights ws rows docs target runs) (recursion_from_All (λ p. is_scored weights (is_facet (word_at ws p.word)) p ≡ true) _ limits.scored) in
    let hold : AreRuns weights ws rows docs target 0 runs = are_runs weights ws rows docs target are limits.few_words limits.few_docs [] 0 runs refl refl each limits.few_rows known scored in
    let lengths : AllByRecursion HasLength ws = all_then (λ w. is_word w ≡ true) HasLength word_length ws (recursion_from_All (λ w. is_word w ≡ true) ws limits.words) in
    let titles : length (title_bytes ts) < 2 ^ 32 = limits.few_bytes in
    let sum = bytes_sum weights ws rows docs target 0 runs in
    let end : 0 + length ws ≡ length ws = omega arith in
    record {
      weights = limits.weights;
      room = record {
        vocabulary = omega (arith, words_few ws lengths, limits.few_words);
        titles = titles;
        blocks = omega (arith, sum, bytes_few weights ws rows docs target 0 runs hold, limits.few_rows);
      };
      lengths = lengths;
      offsets = all_then (λ n. n ≤ length (title_bytes ts)) (λ n. n < 2 ^ 32) (λ n l. omega (arith, l, titles)) _ (offsets_within (length (title_bytes ts)) 0 ts (omega arith));
      heads = heads_fit weights ws rows docs target 0 runs hold;
      one_each = one_each weights ws rows docs target 0 runs;
      blocks = are_blocks weights ws rows docs target 0 runs hold;
      values = record {
        fields = record {
          docs = limits.few_docs;
          words = limits.few_words;
          rows = limits.few_rows;
          blocks = runs_few weights ws rows docs target 0 runs hold;
          target_from = limits.target_from;
          target_to = limits.target_to;
          weights = field_is weights limits.weights;
        };
        words = placed (λ w. is_word w ≡ true) word_size vocabulary_at None ws (recursion_from_All (λ w. is_word w ≡ true) ws limits.words);
        ascend = words_follow word_size vocabulary_at ws are.up;
        onward = offsets_onward (offsets_at h) ts (recursion_from_All (λ t. length t ≤ MAX_LINE_BYTES) ts limits.short);
        last_offset = offsets_end ts;
        texts = placed (λ t. is_utf8 t ≡ true) (λ t. length t) (titles_at h) None ts (all_then IsUtf8 (λ t. is_utf8 t ≡ true) is_utf8-from_IsUtf8 ts (recursion_from_All IsUtf8 ts limits.texts));
        joined = heads_joined weights ws rows docs target (entry_size two) (directory_at h) None 0 runs refl hold;
        end = end_is (heads weights ws rows docs target 0 runs) ∙ heads_end weights ws rows docs target 0 runs ∙ end;
        kinds = placed (λ h. is_of_one_kind ws h ≡ true) (λ h. entry_size two) (directory_at h) None (heads weights ws rows docs target 0 runs) (heads_kinds weights ws rows docs target 0 runs hold);
        sized = placed (λ h. is_sized h ≡ true) (λ h. entry_size two) (directory_at h) None (heads weights ws rows docs target 0 runs) (heads_sized weights ws rows docs target 0 runs hold);
        rows_sum = rows_sum weights ws rows docs target 0 runs;
        bytes_sum = sum;
        parted = parted weights ws rows docs target are (entry_size two) (directory_at h) None [] 0 runs refl refl ended hold;
        bounds = in_entries ws (heads weights ws rows docs target 0 runs) (directory_at h) (length (blocks weights ws rows docs target runs)) (one_each weights ws rows docs target 0 runs) (heads_fit weights ws rows docs target 0 runs hold) two;
      };
    }

-- ---- the law
pub corpus_rows : (k : Corpus) (ws : Run) → IsCorpus k → ws ≡ distinct_words k.rows → AreRows ws k.rows
corpus_rows k ws is e = record {
  up = subst (IsStrictlySortedBy (slice_cmp nat_cmp)) (sym e) (listing-rises (slice_cmp nat_cmp) (map (λ r. r.word) k.rows));
  known = subst (λ v. AllByRecursion (HasWord v) k.rows) (sym e) (known_words k.rows);
  spots = is.named;
  present = λ w h. sym (listed_word k.rows w) ∙ ap (list_any (bytes_eq w)) (sym e) ∙ h;
}

pub files_accepted : ImagesFollowBlocks
files_accepted law two k target weights i is image limits =
    let j : Image = image_by i.titles k.rows image.runs target weights in
    let within : HasLimits j = subst HasLimits image.made limits in
    let can : IsWritable two j = runs_writable i.titles k.rows image.runs target weights (corpus_rows k (flat_map (λ run. run) image.runs) is image.parted.joined) image.parted.each image.parted.ended within two in
    subst (λ (x : Image). IsIndexFile (file_in two x) × (image_of (file_in two x) ≡ x)) (sym image.made) (file_again law two j can)
