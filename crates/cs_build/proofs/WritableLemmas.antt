-- The image of a corpus can be written.
--
--   fits_all        each block fits its head
--   rows_total      the blocks have as many rows as their words
--   bytes_total     and few bytes
--   can_be_written  the image
use Rattle.std.proofs.Common.{◌≡◌, ℕ, suc, ◌+◌, ◌*◌, ◌<◌, ◌≤◌, ◌^◌, ◌&&◌, Bool, true, false, cond, List, [], ◌∷◌, ◌++◌, length, map, refl, sym, ◌∙◌, ap, subst, arith, append_assoc, length-append}
use Rattle.std.specs.Prelude.{filter, flat_map, nat_lt, nat_le}
use Rattle.std.specs.List.{AllByRecursion, list_any, sum_by, zip}
use Rattle.std.specs.List.Sorted.{IsStrictlySortedBy}
use Rattle.std.specs.Ordering.{nat_cmp}
use Rattle.std.specs.Cmp.Lexicographic.{slice_cmp}
use Rattle.std.specs.Str.{bytes_eq}
use Rattle.std.proofs.lemmas.Bool.Decides.{nat_tests}
use Rattle.std.proofs.lemmas.List.{length-map}
use Rattle.std.proofs.lemmas.List.Elements.{All-from_recursion}
use Rattle.std.proofs.lemmas.List.Kept.{IsStrictlySortedBy-filter}
use Rattle.std.proofs.lemmas.List.Sums.{length-filter, count_by-le-length, sum_by-cons, sum_by-append}
use Rattle.cs_base.specs.content.Orders.{by_spot}
use Rattle.cs_base.specs.declared.content.doc.Post.{Post}
use Rattle.cs_base.specs.declared.content.doc.Row.{Row}
use Rattle.cs_base.specs.declared.content.limits.TheConstants.{MAX_DOCS, MAX_ROWS, MAX_WORDS}
use Rattle.cs_base.specs.declared.content.scores.Weights.{Weights}
use Rattle.cs_base.proofs.MembersLemmas.{listing-rises}
use Rattle.cs_model.specs.Corpus.{distinct_words}
use Rattle.cs_model_index.specs.Blocks.{AreWritable, block_bytes}
use Rattle.cs_model_index.specs.Images.{Image, IsImage, count_in, block_of, heads_from}
use Rattle.cs_model_index.specs.Layout.{title_bytes, blocks_bytes}
use Rattle.cs_model_index.specs.Numbered.{post_of, numbered, HasWord}
use Rattle.cs_model_index.specs.Partitions.{rows_of_run}
use Rattle.cs_model_index.specs.declared.limits.TheConstants.{MAX_BLOCK_WORDS, MAX_TARGET}
use Rattle.cs_model_index.proofs.BlockSizes.{block_len}
use Rattle.cs_model_index.proofs.CorpusLemmas.{known_words}
use Rattle.cs_model_index.proofs.NumberedLemmas.{posts_ascend}
use Rattle.cs_file.specs.Writable.{BlockFits, CanBeWritten}
use Rattle.cs_build.specs.Building.{corpus_of_rows}
use Rattle.cs_build.proofs.PartLemmas.{HasWords, in_part, rows_of_part, part_rows, filled_parts}

abbrev Words : Type 0
Words = List (List ℕ)

in_range : (lo n k : ℕ) → (nat_le lo n && nat_lt n (lo + k)) ≡ true → (lo ≤ n) × (n < lo + k)
in_range lo n k h = (grind (arith, nat_tests), grind (arith, nat_tests))

known_kept : (P : Row → Type 0) (p : Row → Bool) (rows : List Row) → AllByRecursion P rows → AllByRecursion P (filter p rows)
known_kept P p [] h = tt
known_kept P p (r ∷ rows) h = elim (p r) as (λ b. AllByRecursion P (cond b (r ∷ filter p rows) (filter p rows))) [
  | true ↦ (h.0, known_kept P p rows h.1)
  | false ↦ known_kept P p rows h.1
]

module _ (ws : Words) (up : IsStrictlySortedBy (slice_cmp nat_cmp) ws) (rows : List Row) (known : AllByRecursion (HasWord ws) rows) (spots : IsStrictlySortedBy by_spot rows) where
  within : (front part rest : Words) (rs : List Row) → ws ≡ front ++ (part ++ rest) → AllByRecursion (HasWord ws) rs → length part ≤ MAX_BLOCK_WORDS
      → AllByRecursion (λ p. (length front ≤ p.word) × (p.word < length front + 2 ^ 16)) (block_of ws rs part)
  within front part rest [] e k few = tt
  within front part rest (r ∷ rs) e k few =
      elim (list_any (bytes_eq r.word) part) as (λ b. list_any (bytes_eq r.word) part ≡ b → AllByRecursion (λ p. (length front ≤ p.word) × (p.word < length front + 2 ^ 16)) (numbered ws (cond b (r ∷ filter (λ s. list_any (bytes_eq s.word) part) rs) (filter (λ s. list_any (bytes_eq s.word) part) rs)))) [
        | true ↦ λ t.
            let i = in_range (length front) (post_of ws r).word (length part) (in_part ws up front part rest r.word e k.0 ∙ t) in
            ((i.0, omega (arith, i.1, few)), within front part rest rs e k.1 few)
        | false ↦ λ t. within front part rest rs e k.1 few
      ] refl

  writable : (front part rest : Words) → ws ≡ front ++ (part ++ rest) → length part ≤ MAX_BLOCK_WORDS → AreWritable (length front) (block_of ws rows part)
  writable front part rest e few = record {
    sorted = posts_ascend ws up (filter (λ r. list_any (bytes_eq r.word) part) rows) (known_kept (HasWord ws) (λ r. list_any (bytes_eq r.word) part) rows known) (IsStrictlySortedBy-filter by_spot (λ r. list_any (bytes_eq r.word) part) rows spots);
    words = All-from_recursion (λ p. (length front ≤ p.word) × (p.word < length front + 2 ^ 16)) (block_of ws rows part) (within front part rest rows e known few);
  }

  next_front : (front part rest : Words) → ws ≡ front ++ (part ++ rest) → ws ≡ (front ++ part) ++ rest
  next_front front part rest e = e ∙ sym (append_assoc front part rest)

  pub fits_all : (front : Words) (parts : List Words) (lo : ℕ) → lo ≡ length front → AllByRecursion HasWords parts → ws ≡ front ++ flat_map (λ part. part) parts
      → AllByRecursion BlockFits (zip (heads_from lo (zip parts (map (block_of ws rows) parts))) (map (block_of ws rows) parts))
  unfolding heads_from
  fits_all front [] lo l h e = tt
  fits_all front (part ∷ parts) lo l h e = (
    record { writable = subst (λ k. AreWritable k (block_of ws rows part)) (sym l) (writable front part (flat_map (λ part. part) parts) e h.0.few); len = refl },
    fits_all (front ++ part) parts (lo + length part) (omega (arith, l, length-append front part)) h.1 (next_front front part (flat_map (λ part. part) parts) e),
  )

  rows_parts : (front : Words) (parts : List Words) → ws ≡ front ++ flat_map (λ part. part) parts → sum_by (λ block. length block) (map (block_of ws rows) parts) ≡ rows_of_run (count_in rows) (flat_map (λ part. part) parts)
  rows_parts front [] e = refl
  rows_parts front (part ∷ parts) e =
      sum_by-cons (λ (block : List Post). length block) (block_of ws rows part) (map (block_of ws rows) parts)
      ∙ ap (λ (n : ℕ). n + sum_by (λ (block : List Post). length block) (map (block_of ws rows) parts)) (sym (rows_of_part ws up front part (flat_map (λ part. part) parts) rows e))
      ∙ ap (λ (n : ℕ). rows_of_run (count_in rows) part + n) (rows_parts (front ++ part) parts (next_front front part (flat_map (λ part. part) parts) e))
      ∙ sym (sum_by-append (count_in rows) part (flat_map (λ part. part) parts))

  pub rows_total : (parts : List Words) → ws ≡ flat_map (λ part. part) parts → sum_by (λ block. length block) (map (block_of ws rows) parts) ≤ length rows
  rows_total parts e =
      omega (
        arith,
        rows_parts [] parts e,
        ap (rows_of_run (count_in rows)) (sym e),
        part_rows ws up ws rows up,
        length-filter (λ r. list_any (bytes_eq r.word) ws) rows,
        count_by-le-length (λ r. list_any (bytes_eq r.word) ws) rows,
      )

bytes_total : (lo : ℕ) (parts : List Words) (blocks : List (List Post)) → length (blocks_bytes (heads_from lo (zip parts blocks)) blocks) ≤ 12 * sum_by (λ block. length block) blocks
unfolding heads_from blocks_bytes
bytes_total lo [] blocks = omega arith
bytes_total lo (part ∷ parts) [] = omega arith
bytes_total lo (part ∷ parts) (block ∷ blocks) =
    let rest = bytes_total (lo + length part) parts blocks in
    omega (
      arith,
      rest,
      (block_len block lo).1,
      sum_by-cons (λ (b : List Post). length b) block blocks,
      length-append (block_bytes block lo) (blocks_bytes (heads_from (lo + length part) (zip parts blocks)) blocks),
    )

heads_many : (lo : ℕ) (parts : List Words) (blocks : List (List Post)) → length parts ≡ length blocks → length (heads_from lo (zip parts blocks)) ≡ length blocks
unfolding heads_from
heads_many lo [] [] e = refl
heads_many lo [] (b ∷ blocks) e = absurd (omega (arith, e))
heads_many lo (part ∷ parts) [] e = absurd (omega (arith, e))
heads_many lo (part ∷ parts) (block ∷ blocks) e = ap (λ n. suc n) (heads_many (lo + length part) parts blocks (omega (arith, e)))

few_parts : (parts : List Words) → AllByRecursion HasWords parts → length parts ≤ length (flat_map (λ part. part) parts)
few_parts [] h = omega arith
few_parts (part ∷ parts) h = let rest = few_parts parts h.1 in omega (arith, rest, h.0.some, length-append part (flat_map (λ part. part) parts))

pub can_be_written : (titles : List (List ℕ)) (rows : List Row) (target : ℕ) (w : Weights) (i : Image) → IsStrictlySortedBy by_spot rows → length rows ≤ MAX_ROWS → length titles ≤ MAX_DOCS → length (title_bytes titles) < 2 ^ 32 → i.titles ≡ titles → length (distinct_words rows) ≤ MAX_WORDS → target ≤ MAX_TARGET
    → IsImage (corpus_of_rows titles rows) target w i → CanBeWritten i
can_be_written titles rows target w i spots few_rows few_docs few_bytes same few_words to is =
    let parts = is.runs in
    let ws : Words = flat_map (λ part. part) parts in
    let words : ws ≡ distinct_words rows = is.parted.joined in
    let up : IsStrictlySortedBy (slice_cmp nat_cmp) ws = subst (IsStrictlySortedBy (slice_cmp nat_cmp)) (sym words) (listing-rises (slice_cmp nat_cmp) (map (λ r. r.word) rows)) in
    let known : AllByRecursion (HasWord ws) rows = subst (λ x. AllByRecursion (HasWord x) rows) (sym words) (known_words rows) in
    let have = filled_parts target (count_in rows) parts is.parted.each in
    let blocks = map (block_of ws rows) parts in
    let total = rows_total ws up rows known spots parts refl in
    let many : length parts ≡ length blocks = sym (length-map parts (block_of ws rows)) in
    subst CanBeWritten (sym is.made) (record {
      few_docs = omega (arith, ap length same, few_docs);
      few_bytes = subst (λ ts. length (title_bytes ts) < 2 ^ 32) (sym same) few_bytes;
      few_words = omega (arith, ap length words, few_words);
      few_blocks = omega (arith, many, few_parts parts have);
      one_each = heads_many 0 parts blocks many;
      few_rows = omega (arith, total, few_rows);
      few_block_bytes = omega (arith, bytes_total 0 parts blocks, total, few_rows);
      blocks = All-from_recursion BlockFits (zip (heads_from 0 (zip parts blocks)) blocks) (fits_all ws up rows known spots [] parts 0 refl have refl);
      target = to;
    })
