-- What is read of an index file is the image of its corpus.
--
--   FileRead       what an index file is read as: its words ascend, its heads name them, and each head has its block
--   file_read      so it is where no rule is broken
--   images_read    the law, by the laws of blocks
use Rattle.std.proofs.Common.{◌≡◌, ℕ, ◌+◌, ◌<◌, ◌^◌, Bool, true, false, ◌||◌, true≢false, List, [], ◌∷◌, length, map, drop, None, refl, sym, ap, ◌∙◌, arith}
use Rattle.std.specs.Prelude.{flat_map}
use Rattle.std.specs.List.{All, AllByRecursion, list_any, zip}
use Rattle.std.specs.List.Sorted.{IsStrictlySortedBy}
use Rattle.std.specs.Ordering.{nat_cmp, eq_by_cmp}
use Rattle.std.specs.Cmp.Lexicographic.{slice_cmp}
use Rattle.std.specs.Str.{bytes_eq}
use Rattle.std.proofs.lemmas.Cmp.{nat_list_cmp_total}
use Rattle.std.proofs.lemmas.Map.Lookups.{exact_bytes}
use Rattle.std.proofs.lemmas.Map.Text.{is_eq-slice_cmp}
use Rattle.std.proofs.lemmas.Slice.Eq.{bytes_eq-Decides}
use Rattle.cs_base.proofs.MembersLemmas.{members_are}
use Rattle.cs_base.specs.declared.content.doc.Post.{Post}
use Rattle.cs_base.specs.declared.content.doc.Row.{Row}
use Rattle.cs_base.specs.declared.content.scores.Weights.{Weights}
use Rattle.cs_base.specs.declared.index.block.BlockHead.{BlockHead}
use Rattle.cs_base.proofs.ListsLemmas.{any_through}
use Rattle.cs_model.specs.Corpus.{distinct_words}
use Rattle.cs_model_index.specs.BlockLaws.{AcceptedAreBlocks, OneReading}
use Rattle.cs_model_index.specs.FileLaws.{AcceptedAreImages}
use Rattle.cs_model_index.specs.FileRules.{damage, IsIndexFile, word_size}
use Rattle.cs_model_index.specs.Images.{Image, block_of, heads_from, image_by}
use Rattle.cs_model_index.specs.Layout.{entry_size}
use Rattle.cs_model_index.specs.Numbered.{HasWord}
use Rattle.cs_model_index.specs.Sections.{blocks_at, contents_of, directory_at, header_of, image_of, offsets_at, sections, vocabulary_at, heads_in}
use Rattle.cs_model_index.specs.WeightsField.{weights_of}
use Rattle.cs_model_index.specs.declared.limits.TheConstants.{HEADER_BYTES}
use Rattle.cs_model_index.proofs.AcceptedLemmas.{is_sound}
use Rattle.cs_model_index.proofs.BlockUses.{BlocksAreRead, blocks_are_read}
use Rattle.cs_model_index.proofs.CorpusLemmas.{any_alike}
use Rattle.cs_model_index.proofs.Listings.{same_tests}
use Rattle.cs_model_index.proofs.NumbersLemmas.{numbers_count}
use Rattle.cs_model_index.proofs.ReadBlocks.{AreRead, blocks_read, heads_bounded, heads_kinds, rising_words}
use Rattle.cs_model_index.proofs.ReadRows.{runs_from, runs_joined, posts_below, rows, blocks_again, heads_again, rows_known, rows_present, runs_fit, runs_ended}
use Rattle.cs_model_index.proofs.WeightsFieldLemmas.{weights_fine}
use Rattle.cs_model_index.proofs.RunRows.{Run}
use Rattle.cs_model_index.proofs.SectionLemmas.{end_from, end_is, shapes, titles_written, words_written}

-- ---- a file
pub record FileRead (i : Image) : Type 0 where
  pub up : IsStrictlySortedBy (slice_cmp nat_cmp) i.words
  pub docs : ℕ
  pub titles : docs ≡ length i.titles
  pub read : AreRead i.words docs i.target 0 i.heads i.blocks
  pub end : end_from 0 i.heads ≡ length i.words

pub file_read : BlocksAreRead → (b : List ℕ) → All (λ x. x < 2 ^ 8) b → IsIndexFile b → FileRead (image_of b)
unfolding damage image_of
file_read law b small e =
    let r = contents_of b in
    let h = header_of b in
    let s = sections h (drop HEADER_BYTES b) in
    let is = is_sound b small e in
    let v = is.hold.values in
    let count : length r.words ≡ h.words = (words_written h.words vocabulary_at s.vocabulary is.hold.words_stand).count in
    let many : length r.offsets ≡ h.docs + 1 = numbers_count (h.docs + 1) s.offsets in
    let titles = titles_written (offsets_at h) r.offsets s.titles (omega (arith, many)) v.onward (v.last_offset ∙ sym is.sized.titles) in
    let last : end_from 0 r.heads ≡ h.words = sym (end_is r.heads) ∙ v.end in
    let shaped = shapes (entry_size h.two) (directory_at h) None r.heads (length s.blocks) v.joined v.sized (omega (arith, last, v.fields.words)) (v.bytes_sum ∙ sym is.sized.blocks) in
    record {
      up = rising_words word_size vocabulary_at r.words v.ascend;
      docs = h.docs;
      titles = omega (arith, titles.0, many);
      read = blocks_read r.words h.docs h.target law (weights_of h.weights) (weights_fine h.weights v.fields.weights) (omega (arith, v.fields.docs)) (entry_size h.two) (directory_at h) (blocks_at h) None None r.heads s.blocks v.joined v.kinds (last ∙ sym count) (heads_kinds (entry_size h.two) r.words h.blocks s.directory s.blocks) is.bytes.blocks shaped (heads_bounded (heads_in (entry_size h.two) r.words h.blocks s.directory) s.blocks) is.hold.blocks v.parted;
      end = last ∙ sym count;
    }

-- ---- its image
known_at : (ws : Run) (q w : List ℕ) (b rest : Bool) → bytes_eq q w ≡ b → list_any (bytes_eq w) ws ≡ true → (b || rest) ≡ true → (rest ≡ true → list_any (bytes_eq q) ws ≡ true) → list_any (bytes_eq q) ws ≡ true
known_at ws q w true rest e k h more = ap (λ x. list_any (bytes_eq x) ws) ((bytes_eq-Decides q w).0 e) ∙ k
known_at ws q w false rest e k h more = more h

known_word : (ws : Run) (q : List ℕ) (rs : List Row) → AllByRecursion (HasWord ws) rs → list_any (λ r. bytes_eq q r.word) rs ≡ true → list_any (bytes_eq q) ws ≡ true
known_word ws q [] k h = absurd (true≢false (sym h))
known_word ws q (r ∷ rs) k h = known_at ws q r.word (bytes_eq q r.word) (list_any (λ s. bytes_eq q s.word) rs) refl k.0 h (known_word ws q rs k.1)

same_image : (titles titles' words words' : List (List ℕ)) (heads heads' : List BlockHead) (blocks blocks' : List (List Post)) (target target' : ℕ) (weights : Weights) → titles ≡ titles' → words ≡ words' → heads ≡ heads' → blocks ≡ blocks' → target ≡ target'
    → let x : Image = record { titles = titles; words = words; heads = heads; blocks = blocks; target = target; weights = weights } in let y : Image = record { titles = titles'; words = words'; heads = heads'; blocks = blocks'; target = target'; weights = weights } in x ≡ y
same_image titles titles' words words' heads heads' blocks blocks' target target' weights p q r s t = rw (p, q, r, s, t) refl

module _ (i : Image) (is : FileRead i) where
  abbrev all : List Post
  all = flat_map (λ b. b) i.blocks

  below : AllByRecursion (λ p. p.word < length i.words) all
  below = posts_below i.words is.up is.docs i.target 0 i.heads i.blocks is.read

  abbrev read_rows : List Row
  read_rows = rows i.words is.up is.docs i.target all below

  abbrev runs : List Run
  runs = runs_from i.words 0 i.heads

  words_again : flat_map (λ run. run) runs ≡ i.words
  words_again = runs_joined i.words is.up is.docs i.target 0 i.heads i.blocks is.read is.end

  blocks_same : map (block_of i.words read_rows) runs ≡ i.blocks
  blocks_same = blocks_again i.words is.up is.docs i.target all below 0 i.heads i.blocks [] is.read refl tt

  words_listed : i.words ≡ distinct_words read_rows
  words_listed =
      members_are (slice_cmp nat_cmp) nat_list_cmp_total exact_bytes i.words (map (λ r. r.word) read_rows) is.up
      (λ q.
      any_alike (eq_by_cmp (slice_cmp nat_cmp) q) (bytes_eq q) i.words (is_eq-slice_cmp q)
      ∙ same_tests (list_any (bytes_eq q) i.words) (list_any (λ r. bytes_eq q r.word) read_rows)
      (rows_present i.words is.up is.docs i.target all below i.heads i.blocks is.read is.end refl q)
      (known_word i.words q read_rows (rows_known i.words is.up is.docs i.target all below))
      ∙ sym (any_through (λ r. r.word) (bytes_eq q) read_rows)
      ∙ any_alike (bytes_eq q) (eq_by_cmp (slice_cmp nat_cmp) q) (map (λ r. r.word) read_rows) (λ w. sym (is_eq-slice_cmp q w)))

  made : i ≡ image_by i.titles read_rows runs i.target i.weights
  made =
      let blocks : map (block_of (flat_map (λ run. run) runs) read_rows) runs ≡ i.blocks = ap (λ ws. map (block_of ws read_rows) runs) words_again ∙ blocks_same in
      same_image i.titles i.titles i.words (flat_map (λ run. run) runs) i.heads _ i.blocks _ i.target i.target i.weights refl (sym words_again)
      (sym (ap (λ bs. heads_from 0 (zip runs bs)) blocks ∙ heads_again i.words is.up is.docs i.target all below 0 i.heads i.blocks is.read)) (sym blocks) refl

pub images_read : AcceptedAreBlocks → OneReading → AcceptedAreImages
images_read accepted one b small e =
    let i : Image = image_of b in
    let is : FileRead i = file_read (blocks_are_read accepted one) b small e in
    record {
      titles = refl;
      runs = runs i is;
      parted = record {
        joined = words_again i is ∙ words_listed i is;
        each = runs_fit i.words is.up is.docs i.target (all i is) (below i is) 0 i.heads i.blocks is.read (blocks_same i is);
        ended = runs_ended i.words is.up is.docs i.target (all i is) (below i is) 0 i.heads i.blocks is.read (blocks_same i is);
      };
      made = made i is;
    }
