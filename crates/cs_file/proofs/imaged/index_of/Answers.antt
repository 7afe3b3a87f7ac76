use Rattle.std.proofs.Common.{◌≡◌, ◌<◌, ◌^◌, true, sym, ap, subst, ◌∙◌, arith, Some}
use Rattle.std.specs.List.{sum_by}
use Rattle.cs_model_index.specs.Images.{Image}
use Rattle.cs_model_index.specs.Layout.{Header, file, header_of_image, offsets_from}
use Rattle.cs_model_index.specs.Sections.{titles_at, blocks_at}
use Rattle.cs_model_index.specs.WeightsField.{weights_of}
use Rattle.cs_file.specs.Indexes.{ArePlaces, IndexView, StandsFor, HasAllBlocks}
use Rattle.cs_file.proofs.ImagedFiles.{IsReadAgain, few_lens, image_index, image_weights, kept_image, image_stands, image_fits}
use Rattle.cs_file.proofs.OpeningStages.{Kept, same_index, index_kept}
use Rattle.cs_file.proofs.imaged.index_of.Goals as goal
use Rattle.cs_file.proofs.imaged.index_of.Goals.{After-blocks_at}

read_again : (c : After-blocks_at) → IsReadAgain c.args.image
read_again c = record {
  writable = c.requires.writable;
  whole = c.requires.whole;
  read = c.requires.read;
  bytes = c.requires.bytes;
  few_word_bytes = omega (arith, c.header_of-header.ensures.small, ap (λ (h : Header). h.vocabulary_len) c.header_of-header.ensures.numbers);
}

abbrev view : After-blocks_at → IndexView
view c = record {
  docs = c.header_of-header.result.docs;
  words = c.image.inside.words;
  offsets = c.in_ok-offsets.offsets;
  heads = c.image.inside.heads;
  target = c.image.inside.target;
  weights = c.image.inside.weights;
  titles_at = c.titles_at.result;
  blocks_at = c.blocks_at.result;
}

view_is : (c : After-blocks_at) → view c ≡ image_index c.args.image
view_is c =
    let h = header_of_image true c.args.image in
    let numbers = c.header_of-header.ensures.numbers in
    let same = c.image.view_is in
    same_index _ h.docs _ h.target _ (titles_at h) _ (blocks_at h) _ (weights_of h.weights) _ c.args.image.words _ (offsets_from 0 c.args.image.titles) _ c.args.image.heads
    (ap (λ (x : Header). x.docs) numbers) (ap (λ (i : Image). i.words) same)
    (c.in_ok-offsets.ensures ∙ ap (offsets_from 0) (c.as_slice.ensures ∙ ap (λ (i : Image). i.titles) same)) (ap (λ (i : Image). i.heads) same)
    (ap (λ (i : Image). i.target) same) (ap (λ (i : Image). i.weights) same ∙ image_weights c.args.image (read_again c)) (c.titles_at.ensures.value ∙ ap titles_at numbers) (c.blocks_at.ensures.value ∙ ap blocks_at numbers)

pub places_of-requires : goal.places_of-requires
places_of-requires c =
    let again : IsReadAgain c.args.image = record {
      writable = c.requires.writable;
      whole = c.requires.whole;
      read = c.requires.read;
      bytes = c.requires.bytes;
      few_word_bytes = omega (arith, c.header_of-header.ensures.small, ap (λ (h : Header). h.vocabulary_len) c.header_of-header.ensures.numbers);
    } in
    subst (λ hs. sum_by (λ h. h.len) hs < 2 ^ 32) (sym (c.as_slice-2.ensures ∙ ap (λ (i : Image). i.heads) c.image.view_is)) (few_lens c.args.image again)

pub invariant_of-result : goal.invariant_of-result
invariant_of-result c = record {
  index = index_kept (header_of_image true c.args.image) (view c)
      (subst (Kept (header_of_image true c.args.image)) (sym (view_is c)) (kept_image c.args.image (read_again c)));
  places = subst (λ hs. ArePlaces hs c.in_ok-places.places) c.as_slice-2.ensures c.in_ok-places.ensures;
}

pub returns-clause-stands : goal.returns-clause-stands
returns-clause-stands c = subst (StandsFor (file c.args.image)) (sym (view_is c)) (image_stands c.args.image (read_again c))

pub returns-clause-fits : goal.returns-clause-fits
returns-clause-fits c = subst (HasAllBlocks (Some (file c.args.image))) (sym (view_is c)) (image_fits c.args.image (read_again c))
