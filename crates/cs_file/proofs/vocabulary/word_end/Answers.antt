use Rattle.std.proofs.Common.{◌+◌, sym, ap, arith}
use Rattle.std.specs.Option.{option_map}
use Rattle.cs_file.proofs.VocabularyCuts.{front_end}
use Rattle.cs_file.proofs.vocabulary.word_end.Goals as goal

pub returns-then-at-bytes-clause-value : goal.returns-then-at-bytes-clause-value
returns-then-at-bytes-clause-value c = ap (option_map (λ n. c.args.at + n)) (sym (front_end c.args.bytes.now c.args.at (omega arith)))
