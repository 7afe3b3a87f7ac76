use Rattle.std.proofs.Common.{◌≡◌, ◌+◌, ◌*◌}
use Rattle.std.specs.List.{flat_map, range_with_len}
use Rattle.cs_model_trial.specs.Generator.{behind, line_count}
use Rattle.cs_model_trial.specs.Sessions.{session}
use Rattle.cs_trial.proofs.typing.texts.Given as goal

abbrev pub invariant-loop : goal.invariant-loop
invariant-loop l = record {
  texts : l.texts ≡ flat_map (session l.n) (range_with_len 0 l.counter);
  state : l.draws.state ≡ behind (line_count l.n * 16 + l.counter * 2) l.n;
}
