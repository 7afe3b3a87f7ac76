use Rattle.std.proofs.Common.{sym, ap, ◌∙◌, arith}
use Rattle.cs_model_index.specs.WeightsField.{weights_of}
use Rattle.cs_file.proofs.HeaderWeightsLemmas.{field_short, weights_by, weights_of_zero}
use Rattle.cs_file.proofs.weights.weights_of.Goals as goal

pub returns-then-field-eq0 : goal.returns-then-field-eq0
returns-then-field-eq0 c = sym (ap weights_of c.if-field-eq0.true ∙ weights_of_zero)

pub overflow_cast-result : goal.overflow_cast-result
overflow_cast-result c = let short = field_short c.args.field c.requires in omega (arith, short)

pub returns : goal.returns
returns c = weights_by c.args.field c.if-field-eq0.false
