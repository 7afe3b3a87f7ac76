use Rattle.std.proofs.Common.{◌≡◌, map}
use Rattle.std.specs.Option.{option_map}
use Rattle.cs_more.specs.RunSearch.{seen_run, reach}
use Rattle.cs_model_excerpts.specs.Runs.{IsBest}
use Rattle.cs_more.proofs.runs.shortest_run.Given as goal

abbrev pub invariant-loop-last : goal.invariant-loop-last
invariant-loop-last l = record {
  reached : l.reached.items ≡ map (λ m. reach m l.last) l.parts;
  best : IsBest l.parts l.last (option_map seen_run l.best);
}
