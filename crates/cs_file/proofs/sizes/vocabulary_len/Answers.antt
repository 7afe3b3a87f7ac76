use Rattle.std.proofs.Common.{◌<◌, [], ◌∷◌, length, ap, ◌∙◌, arith}
use Rattle.std.specs.Prelude.{flat_map}
use Rattle.std.proofs.lemmas.List.{take_all}
use Rattle.cs_model_index.specs.Layout.{vocabulary_bytes}
use Rattle.cs_file.proofs.SectionSizes.{longer}
use Rattle.cs_file.proofs.sizes.vocabulary_len.Goals as goal

pub loop-n-preserved : goal.loop-n-preserved
loop-n-preserved c =
    let inside : c.loop-n.n < length c.args.words.now = omega (arith, c.loop-n-test.true, c.len-n-end.ensures.value) in
    let k = longer (λ w. length w ∷ w) c.args.words.now c.loop-n.n [] inside in
    record {
      told = omega (arith, k.now, c.word_len.ensures, c.loop-n.invariant.told);
      few = omega (arith, c.word_len.type_inv, c.loop-n.invariant.few);
    }

pub returns : goal.returns
unfolding vocabulary_bytes
returns c =
    c.loop-n.invariant.told ∙ ap (λ ws. length (flat_map (λ w. length w ∷ w) ws))
    (take_all c.loop-n.n c.args.words.now (omega (arith, c.loop-n-test.false, c.len-n-end.ensures.value)))
