use Rattle.std.proofs.Common.{◌∙◌, ap, length, arith}
use Rattle.cs_model.proofs.CanonicalReading.{short}
use Rattle.cs_query.proofs.keying.keys.Goals as goal

pub narrow-requires-clause-short : goal.narrow-requires-clause-short
narrow-requires-clause-short c = omega (arith, ap length (c.as_str.ensures ∙ c.in_ok-text.ensures.ok), short c.args.query.now c.requires.grammar)
