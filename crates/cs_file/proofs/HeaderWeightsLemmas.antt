-- The weights of an index's rows, and the number that stands for them.
--
--   field_short      a number that stands for weights has three bytes
--   weights_by, weights_of_zero      the weights that are read of a number
--   one_reading      the law of blocks of such weights: no bytes are the block of two lists of rows
--   blocks_law       and a block that breaks no rule is that of the posts that are read of it
--   score_ranged     a score of a block's kind is in range
use Rattle.std.proofs.Common.{◌≡◌, ◌≢◌, ℕ, ◌/◌, ◌%◌, ◌<◌, ◌≤◌, ◌^◌, ◌==◌, Bool, true, false, refl, sym, ap, arith, inl, inr}
use Rattle.std.proofs.Common.{if◌then◌else◌}
use Rattle.std.specs.Prelude.{nat_lt}
use Rattle.std.proofs.lemmas.Bool.{and_parts, eqb-true, ltb-true, ne_eqb, or_cases}
use Rattle.cs_base.specs.declared.content.scores.TheConstants.{MAX_ROW_SCORE, USUAL_WEIGHTS}
use Rattle.cs_base.specs.declared.content.scores.Weights.{Weights}
use Rattle.cs_block.specs.RowRuns.{is_score}
use Rattle.cs_block.proofs.LawsLemmas.{accepted_are_blocks, unique}
use Rattle.cs_block.proofs.RowsLemmas.{HaveBytes}
use Rattle.cs_model.specs.Weights.{AreWeights}
use Rattle.cs_model_index.specs.BlockLaws.{AcceptedAreBlocks, OneReading}
use Rattle.cs_model_index.specs.WeightsField.{is_field, weights_of}
use Rattle.cs_model_index.proofs.BlockUses.{BlocksAreRead, blocks_are_read}

-- ---- the number
pub field_short : (n : ℕ) → is_field n ≡ true → n < 2 ^ 24
unfolding is_field
field_short n h = elim (or_cases (n == 0) _ h) [
  | inl e ↦ let z = eqb-true n 0 e in omega (arith, z)
  | inr f ↦ ltb-true n (2 ^ 24) (and_parts (nat_lt n (2 ^ 24)) _ f).0
]

pub weights_by : (n : ℕ) → n ≢ 0 → (let w : Weights = record { title = n / 65536; facet = n / 256 % 256; text = n % 256 } in w) ≡ weights_of n
unfolding weights_of
weights_by n e = sym (ap (λ b. if b then USUAL_WEIGHTS else record { title = n / 65536; facet = n / 256 % 256; text = n % 256 }) (ne_eqb n 0 e))

-- and those of 0
pub weights_of_zero : weights_of 0 ≡ USUAL_WEIGHTS
unfolding weights_of
weights_of_zero = refl

-- ---- the laws of blocks
have_bytes : (w : Weights) → AreWeights w → HaveBytes w
have_bytes w are =
    let title = are.title_to in
    let facet = are.facet_to in
    let text = are.text_to in
    record { title = omega (arith, title); facet = omega (arith, facet); text = omega (arith, text) }

pub one_reading : OneReading
one_reading w are = unique w (have_bytes w are)

accepted_law : AcceptedAreBlocks
accepted_law w are = accepted_are_blocks w (have_bytes w are)

pub blocks_law : BlocksAreRead
blocks_law = blocks_are_read accepted_law one_reading

-- ---- scores
pub score_ranged : (w : Weights) → AreWeights w → (facet : Bool) (s : ℕ) → is_score w facet s ≡ true → (1 ≤ s) × (s ≤ MAX_ROW_SCORE)
score_ranged w are true s h =
    let is = eqb-true s w.facet h in
    let from = are.facet_from in
    let to = are.facet_to in
    (omega (arith, is, from), omega (arith, is, to))
score_ranged w are false s h = elim (or_cases (s == w.title) (s == w.text) h) [
  | inl e ↦
      let is = eqb-true s w.title e in
      let from = are.title_from in
      let to = are.title_to in
      (omega (arith, is, from), omega (arith, is, to))
  | inr e ↦
      let is = eqb-true s w.text e in
      let from = are.text_from in
      let to = are.text_to in
      (omega (arith, is, from), omega (arith, is, to))
]
