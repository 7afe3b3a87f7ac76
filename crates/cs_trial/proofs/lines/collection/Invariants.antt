use Rattle.std.proofs.Common.{◌≡◌, ◌≤◌, ◌*◌}
use Rattle.std.specs.List.{flat_map, range_with_len}
use Rattle.std.specs.Vec.{vec_len, vec_capacity}
use Rattle.cs_model_trial.specs.Generator.{behind, line_count, line_draws, trial_line}
use Rattle.cs_trial.specs.declared.lines.TheConstants.{LINE_BYTES}
use Rattle.cs_trial.proofs.lines.collection.Given as goal

abbrev pub invariant-loop : goal.invariant-loop
invariant-loop l = record {
  bytes : l.bytes.items ≡ flat_map (λ i. trial_line (line_draws l.n i)) (range_with_len 0 l.counter);
  state : l.numbers.state ≡ behind (l.counter * 16) l.n;
  len : vec_len l.bytes ≡ LINE_BYTES * l.counter;
  room : LINE_BYTES * line_count l.n ≤ vec_capacity l.bytes;
}
