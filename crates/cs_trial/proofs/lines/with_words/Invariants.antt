use Rattle.std.proofs.Common.{◌≡◌, ◌+◌, ◌*◌, ◌++◌}
use Rattle.std.specs.Prelude.{replicate}
use Rattle.std.specs.Vec.{vec_len, vec_capacity}
use Rattle.cs_model_trial.specs.Generator.{behind, draws, spaced}
use Rattle.cs_model_trial.specs.declared.sizes.TheConstants.{WORDS}
use Rattle.cs_trial.specs.declared.lines.TheConstants.{PLACE_BYTES}
use Rattle.cs_trial.proofs.lines.with_words.Given as goal

abbrev pub invariant-loop : goal.invariant-loop
invariant-loop l = record {
  bytes : l.words.items ≡ l.fn.bytes.items ++ spaced (draws (replicate l.counter WORDS) l.fn.numbers.state);
  state : l.numbers.state ≡ behind l.counter l.fn.numbers.state;
  len : vec_len l.words + 1 ≡ vec_len l.fn.bytes + PLACE_BYTES * l.counter;
  capacity : vec_capacity l.words ≡ vec_capacity l.fn.bytes;
}
