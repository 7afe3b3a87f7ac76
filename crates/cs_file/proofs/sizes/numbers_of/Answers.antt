use Rattle.std.proofs.Common.{◌≡◌, ℕ, true, List, [], ◌∷◌, refl, sym, subst, ap, ◌∙◌, arith, length, map}
use Rattle.std.proofs.lemmas.List.{length-map}
use Rattle.std.proofs.lemmas.List.Elements.{recursion_from_All}
use Rattle.std.specs.List.{sum_by, zip}
use Rattle.cs_base.specs.declared.index.block.BlockHead.{BlockHead}
use Rattle.cs_cols.specs.declared.cols.Cols.{Cols}
use Rattle.cs_model_index.specs.Layout.{header_numbers, header_of_image, title_bytes}
use Rattle.cs_file.specs.Writable.{BlockFits, CanBeWritten}
use Rattle.cs_file.proofs.SectionSizes.{blocks_len_is, rows_counted, same_numbers}
use Rattle.cs_file.proofs.sizes.numbers_of.Goals as goal

pub blocks_len-requires : goal.blocks_len-requires
blocks_len-requires c =
    let r = subst CanBeWritten (sym c.image.view_is) c.requires in
    let posts = map (λ (b : Cols). b.posts) c.image.inside.blocks in
    let is = blocks_len_is c.image.inside.heads posts r.one_each (recursion_from_All BlockFits (zip c.image.inside.heads posts) r.blocks) in
    omega (arith, is, r.few_block_bytes, ap (sum_by (λ (h : BlockHead). h.len)) c.as_slice-3.ensures)

pub returns : goal.returns
returns c =
    let r = subst CanBeWritten (sym c.image.view_is) c.requires in
    let posts = map (λ (b : Cols). b.posts) c.image.inside.blocks in
    let is = blocks_len_is c.image.inside.heads posts r.one_each (recursion_from_All BlockFits (zip c.image.inside.heads posts) r.blocks) in
    let lens : List ℕ = c.vocabulary_len.result ∷ c.titles_len.result ∷ c.blocks_len.result ∷ c.field_of.result ∷ [] in
    let numbers : List ℕ = c.len.result ∷ c.len-2.result ∷ c.rows_in.result ∷ c.len-3.result ∷ c.image.inside.target ∷ lens in
    subst (λ i. numbers ≡ header_numbers (header_of_image true i)) c.image.view_is (
    same_numbers _ _ _ _ _ _ _ _ _ _ _ _ _ _ _ _ _ _
    c.len.ensures
    c.len-2.ensures.value
    (c.rows_in.ensures ∙ ap (sum_by (λ (b : Cols). length b.posts)) c.as_slice.ensures ∙ rows_counted c.image.inside.blocks)
    (c.len-3.ensures ∙ sym (length-map c.image.inside.blocks (λ (b : Cols). b.posts)))
    refl
    c.vocabulary_len.ensures
    (c.titles_len.ensures ∙ ap (λ (ts : List (List ℕ)). length (title_bytes ts)) c.as_slice-2.ensures)
    (c.blocks_len.ensures ∙ ap (sum_by (λ (h : BlockHead). h.len)) c.as_slice-3.ensures ∙ sym is)
    c.field_of.ensures)
