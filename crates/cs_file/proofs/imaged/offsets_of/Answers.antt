use Rattle.std.proofs.Common.{◌≡◌, ℕ, ◌+◌, List, [], ◌∷◌, ◌++◌, length, take, get_or, flat_map, refl, sym, ap, ◌∙◌, arith}
use Rattle.cs_model_index.specs.Layout.{offsets_from}
use Rattle.cs_file.proofs.OffsetLemmas.{offsets_first, offset_more, offsets_all}
use Rattle.cs_file.proofs.SectionSizes.{longer, titles_joined}
use Rattle.cs_file.proofs.imaged.offsets_of.Goals as goal

pub loop-title-init : goal.loop-title-init
loop-title-init c = record {
  told = c.in_ok-push.ensures.items ∙ ap (λ (x : List ℕ). x ++ 0 ∷ []) c.in_ok-offsets.ensures.items ∙ sym offsets_first;
  at = refl;
}

pub overflow_cast-at : goal.overflow_cast-at
overflow_cast-at c =
    let k = longer (λ t. t) c.args.titles.now c.loop-title.title-index c.title-item.result c.loop-title-test.true in
    omega (arith, k.within, ap length c.title-item.is, c.loop-title.invariant.at, c.len.ensures, ap length (titles_joined c.args.titles.now), c.requires)

pub overflow_add-at : goal.overflow_add-at
overflow_add-at c =
    let k = longer (λ t. t) c.args.titles.now c.loop-title.title-index c.title-item.result c.loop-title-test.true in
    omega (arith, k.within, ap length c.title-item.is, c.loop-title.invariant.at, c.len.ensures, ap length (titles_joined c.args.titles.now), c.requires)

pub loop-title-preserved : goal.loop-title-preserved
loop-title-preserved c =
    let ts = c.args.titles.now in
    let n = c.loop-title.title-index in
    let k = longer (λ t. t) ts n c.title-item.result c.loop-title-test.true in
    let at : c.loop-title.at + c.len.result ≡ length (flat_map (λ t. t) (take n ts)) + length (get_or ts n c.title-item.result) =
    omega (arith, c.loop-title.invariant.at, c.len.ensures, ap length c.title-item.is) in
    record {
      told = c.in_ok-push-2.ensures.items ∙ ap (λ (x : List ℕ). x ++ (c.loop-title.at + c.len.result) ∷ []) c.loop-title.invariant.told
          ∙ ap (λ (m : ℕ). offsets_from 0 (take n ts) ++ m ∷ []) at ∙ sym (offset_more ts n c.title-item.result c.loop-title-test.true);
      at = omega (arith, k.now, at);
    }

pub returns : goal.returns
returns c = c.from_vec.ensures ∙ offsets_all c.args.titles.now c.loop-title.title-index c.loop-title.offsets.items c.loop-title-test.false c.loop-title.invariant.told
