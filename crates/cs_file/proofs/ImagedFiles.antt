-- The file of an image, where it is an index file of which that image is read: its header, and what an index keeps of it.
--
--   IsReadAgain i        such an image
--   image_header         its header is that of the file
--   weights_back         its weights are weights
--   image_index i        what an index of it holds
--   image_weights        with the image's own weights
--   kept_image           all of it is by the rules of its sections
--   few_lens             its blocks together have few bytes
--   image_stands, image_fits     it stands for the file, which has all its blocks
use Rattle.std.proofs.Common.{◌≡◌, ℕ, ◌+◌, ◌≤◌, ◌<◌, ◌^◌, true, List, [], ◌++◌, length, Option, Some, None, refl, sym, ap, subst, ◌∙◌, arith, length-take}
use Rattle.std.proofs.Common.{length-drop, drop, map}
use Rattle.std.specs.Prelude.{All}
use Rattle.std.specs.List.{sum_by}
use Rattle.std.specs.Option.{unwrap_or}
use Rattle.cs_base.specs.outside.Outside.{part}
use Rattle.cs_model.specs.Weights.{AreWeights}
use Rattle.cs_model_index.specs.FileRules.{IsIndexFile, damage}
use Rattle.cs_model_index.specs.Images.{Image}
use Rattle.cs_model_index.specs.Layout.{vocabulary_bytes, offsets_from, offset_bytes, title_bytes, directory_bytes, blocks_bytes, entry_size, header_of_image, file, file_in}
use Rattle.cs_model_index.specs.Sections.{header_of, contents_of, image_of, vocabulary_in, vocabulary_at, offsets_at, offsets_len, titles_at}
use Rattle.cs_model_index.specs.Sections.{directory_at, directory_len, blocks_at}
use Rattle.cs_model_index.specs.WeightsField.{weights_of}
use Rattle.cs_model_index.proofs.AcceptedLemmas.{rules_hold, is_sound}
use Rattle.cs_model_index.proofs.NumbersLemmas.{numbers_count}
use Rattle.cs_model_index.proofs.SectionLemmas.{titles_written}
use Rattle.cs_model_index.proofs.WeightsFieldLemmas.{field_is, weights_again, weights_fine}
use Rattle.cs_model_index.proofs.WrittenLemmas.{header_again}
use Rattle.cs_file.specs.Indexes.{IndexView, StandsFor, HasAllBlocks}
use Rattle.cs_file.specs.Opening.{IsHeader, IsHeaderOf, HasVocabulary, HasOffsets, HasHeads, vocabulary_stage, titles_stage, directory_stage, file_words}
use Rattle.cs_file.specs.Opening.{offsets_of, heads_of, named_heads, named_in, words_judged}
use Rattle.cs_file.specs.Parting.{bare}
use Rattle.cs_file.specs.Writable.{CanBeWritten}
use Rattle.cs_file.proofs.BareHeads.{bare_by, has_alike, own_heads}
use Rattle.cs_file.proofs.DirectoryLemmas.{directory_is, heads_are, has_heads}
use Rattle.cs_file.proofs.OpeningStages.{damage_is, Kept, kept_view, index_is, fits_store}
use Rattle.cs_file.proofs.SectionSizes.{file_long}
use Rattle.cs_file.proofs.TitleStageLemmas.{titles_is, offsets_are, has_offsets}
use Rattle.cs_file.proofs.VocabularyLemmas.{vocabulary_is, words_are, has_vocabulary, two_none}

-- with few bytes of words, as the header's number of four bytes says
pub record IsReadAgain (i : Image) : Type 0 where
  pub writable : CanBeWritten i
  pub whole : IsIndexFile (file i)
  pub read : image_of (file i) ≡ i
  pub bytes : All (λ x. x < 2 ^ 8) (file i)
  pub few_word_bytes : length (vocabulary_bytes i.words) < 2 ^ 32

-- ---- what is read of the file
words_back : (i : Image) → IsReadAgain i → file_words (file i) ≡ i.words
unfolding file_words image_of
words_back i r = ap (λ (x : Image). x.words) r.read

heads_back : (i : Image) → IsReadAgain i → heads_of (file i) ≡ i.heads
unfolding heads_of image_of
heads_back i r = ap (λ (x : Image). x.heads) r.read

offsets_back : (i : Image) → IsReadAgain i → offsets_of (file i) ≡ offsets_from 0 i.titles
unfolding offsets_of image_of
offsets_back i r =
    let b = file i in
    let is = is_sound b r.bytes r.whole in
    let values = is.hold.values in
    let many : length (contents_of b).offsets ≡ (header_of b).docs + 1 = numbers_count ((header_of b).docs + 1) (contents_of b).bytes.offsets in
    let titles = titles_written (offsets_at (header_of b)) (contents_of b).offsets (contents_of b).bytes.titles (omega (arith, many)) values.onward
    (values.last_offset ∙ sym is.sized.titles) in
    sym titles.1 ∙ ap (λ (x : Image). offsets_from 0 x.titles) r.read

target_back : (i : Image) → IsReadAgain i → 1 ≤ i.target
unfolding damage image_of
target_back i r =
    let from : 1 ≤ (header_of (file i)).target = (rules_hold (file i) (contents_of (file i)) r.whole).values.fields.target_from in
    omega (arith, from, ap (λ (x : Image). x.target) r.read)

pub weights_back : (i : Image) → IsReadAgain i → AreWeights i.weights
unfolding damage image_of
weights_back i r =
    let n = (header_of (file i)).weights in
    let fine : AreWeights (weights_of n) = weights_fine n (rules_hold (file i) (contents_of (file i)) r.whole).values.fields.weights in
    subst AreWeights (ap (λ (x : Image). x.weights) r.read) fine

-- ---- the header
image_ranges : (i : Image) → IsReadAgain i → IsHeader (header_of_image true i)
image_ranges i r =
    let w = r.writable in
    record {
      words = w.few_words;
      vocabulary = r.few_word_bytes;
      docs = w.few_docs;
      titles = w.few_bytes;
      blocks = w.few_blocks;
      rows = w.few_rows;
      postings = w.few_block_bytes;
      target_from = target_back i r;
      target_to = w.target;
      weights = field_is i.weights (weights_back i r);
    }

header_back : (i : Image) → IsReadAgain i → header_of (file i) ≡ header_of_image true i
unfolding file_in
header_back i r =
    let w = r.writable in
    let sections = vocabulary_bytes i.words
    ++ (offset_bytes i.titles ++ (title_bytes i.titles ++ (directory_bytes true i.heads ++ blocks_bytes i.heads i.blocks))) in
    header_again (header_of_image true i) sections
    (record {
      docs = w.few_docs;
      words = w.few_words;
      rows = w.few_rows;
      blocks = w.few_blocks;
      target_from = target_back i r;
      target_to = w.target;
      weights = field_is i.weights (weights_back i r);
    })
    (record { vocabulary = r.few_word_bytes; titles = w.few_bytes; blocks = w.few_block_bytes })

pub image_header : (i : Image) → IsReadAgain i → IsHeaderOf (file i) (header_of_image true i)
image_header i r = record { numbers = header_back i r; size = file_long i r.writable.one_each }

-- ---- the stages of opening it
record NoneBroken (b : List ℕ) : Type 0 where
  vocabulary : vocabulary_stage b ≡ None
  titles : titles_stage b ≡ None
  directory : directory_stage b ≡ None

none_broken : (b : List ℕ) → IsIndexFile b → NoneBroken b
none_broken b whole =
    let words = (two_none _ _ (sym (damage_is b) ∙ whole)).1 in
    let titles = (two_none _ _ words).1 in
    let directory = (two_none _ _ titles).1 in
    record { vocabulary = (two_none _ _ words).0; titles = (two_none _ _ titles).0; directory = (two_none _ _ directory).0 }

image_vocabulary : (i : Image) → IsReadAgain i → HasVocabulary (header_of_image true i) i.words
image_vocabulary i r =
    let b = file i in
    let h = header_of_image true i in
    let is = image_header i r in
    let bytes = part b vocabulary_at h.vocabulary_len in
    let fine = two_none _ _ (sym (vocabulary_is b h bytes is refl) ∙ (none_broken b r.whole).vocabulary) in
    let words : vocabulary_in h.words bytes ≡ i.words = words_are b h bytes is refl ∙ words_back i r in
    let size = is.size in
    has_vocabulary h i.words bytes (omega (arith, size, length-take h.vocabulary_len (drop vocabulary_at b), length-drop vocabulary_at b))
    fine.0 (sym words) (ap words_judged (sym words) ∙ fine.1)

image_offsets : (i : Image) → IsReadAgain i → HasOffsets (header_of_image true i) (offsets_from 0 i.titles)
image_offsets i r =
    let b = file i in
    let h = header_of_image true i in
    let is = image_header i r in
    let bytes = part b (offsets_at h) (offsets_len h) in
    let fine = two_none _ _ (sym (titles_is b h (offsets_from 0 i.titles) is (sym (offsets_back i r))) ∙ (none_broken b r.whole).titles) in
    has_offsets h (offsets_from 0 i.titles) bytes (sym (offsets_are b h bytes is refl ∙ offsets_back i r)) fine.0

image_heads : (i : Image) → IsReadAgain i → HasHeads (header_of_image true i) i.words i.heads
image_heads i r =
    let b = file i in
    let h = header_of_image true i in
    let is = image_header i r in
    let words = sym (words_back i r) in
    let bytes = part b (directory_at h) (directory_len h) in
    let named = named_in h.two i.words h.blocks bytes in
    let are : named ≡ named_heads b = heads_are b h i.words named bytes bytes (directory_at h) (entry_size h.two) is words refl refl refl refl refl in
    let alike : map bare i.heads ≡ map bare named =
    ap (map bare) (sym (heads_back i r) ∙ own_heads b) ∙ bare_by (named_heads b) (contents_of b).bytes.blocks ∙ ap (map bare) (sym are) in
    has_alike h i.words i.heads named alike
    (has_heads h i.words named bytes refl (sym (directory_is b h i.words named is words are) ∙ (none_broken b r.whole).directory))

-- ---- what is kept
-- all of the image but titles and posts, with the places by its header
abbrev pub image_index : Image → IndexView
image_index i =
    let h = header_of_image true i in
    record {
      docs = h.docs;
      words = i.words;
      offsets = offsets_from 0 i.titles;
      heads = i.heads;
      target = h.target;
      weights = weights_of h.weights;
      titles_at = titles_at h;
      blocks_at = blocks_at h;
    }

-- its weights are the image's
pub image_weights : (i : Image) → IsReadAgain i → i.weights ≡ (image_index i).weights
image_weights i r = sym (weights_again i.weights (weights_back i r))

pub kept_image : (i : Image) → IsReadAgain i → Kept (header_of_image true i) (image_index i)
kept_image i r =
    kept_view (header_of_image true i) i.words (offsets_from 0 i.titles) i.heads (image_ranges i r) (image_vocabulary i r) (image_offsets i r) (image_heads i r)

pub few_lens : (i : Image) → IsReadAgain i → sum_by (λ h. h.len) i.heads < 2 ^ 32
few_lens i r =
    let k = kept_image i r in
    let bytes = k.heads.bytes in
    let few = k.header.postings in
    omega (arith, bytes, few)

pub image_stands : (i : Image) → IsReadAgain i → StandsFor (file i) (image_index i)
image_stands i r = record {
  bytes = r.bytes;
  accepted = r.whole;
  index = index_is (file i) (header_of_image true i) (image_index i) (image_header i r) refl (sym (words_back i r)) (sym (offsets_back i r))
      (sym (heads_back i r)) refl refl refl refl;
}

pub image_fits : (i : Image) → IsReadAgain i → HasAllBlocks (Some (file i)) (image_index i)
image_fits i r =
    fits_store (Some (file i)) (header_of_image true i) (image_index i)
    (λ b t. subst (λ (x : List ℕ). IsHeaderOf x (header_of_image true i)) (ap (λ (o : Option (List ℕ)). unwrap_or o []) t) (image_header i r)) (kept_image i r)
