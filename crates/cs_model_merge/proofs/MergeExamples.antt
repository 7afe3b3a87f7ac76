-- Worked refusals of merges.
use Rattle.std.proofs.Common.{◌≡◌, ℕ, [], refl, codes}
use Rattle.std.specs.Prelude.{Some}
use Rattle.std.specs.Fmt.{digits}
use Rattle.cs_base.specs.declared.content.scores.TheConstants.{USUAL_WEIGHTS}
use Rattle.cs_base.specs.declared.content.scores.Weights.{Weights}
use Rattle.cs_model_index.specs.Images.{Image}
use Rattle.cs_model_merge.specs.Merges.{merge_refusal, merge_words, targets_differ, weights_differ}

-- the image of the empty corpus
abbrev empty : ℕ → Weights → Image
empty target w = record { titles = []; words = []; heads = []; blocks = []; target = target; weights = w }

abbrev others : Weights
others = record { title = 9; facet = 2; text = 1 }

-- other targets go before other weights
refusal-targets : merge_refusal (empty 8192 USUAL_WEIGHTS) (empty 1 others) ≡ Some (targets_differ 8192 1)
refusal-targets = refl

refusal-weights : merge_refusal (empty 8192 others) (empty 8192 USUAL_WEIGHTS) ≡ Some (weights_differ others USUAL_WEIGHTS)
refusal-weights = refl

-- in words
words-targets : merge_words (targets_differ 8192 1) ≡ codes "targets 8192 and 1 differ"
unfolding digits
words-targets = refl
