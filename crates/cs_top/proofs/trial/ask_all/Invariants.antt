use Rattle.std.proofs.Common.{◌≡◌, [], map, take}
use Rattle.cs_top.specs.Trial.{AreFew, HasAsked, IsSteady, sizes_of}
use Rattle.cs_top.proofs.trial.ask_all.Given as goal

abbrev pub invariant-loop-request : goal.invariant-loop-request
invariant-loop-request l = record {
  so_far : HasAsked l.fn.store.bytes [] l.fn.engine l.fn.counts → HasAsked l.fn.store.bytes (map (λ r. r.query) (take l.request-index l.requests)) l.engine l.counts;
  few : AreFew l.request-index l.counts;
  sizes : sizes_of l.counts ≡ sizes_of l.fn.counts;
  steady : IsSteady l.fn.store.bytes l.store.bytes l.fn.engine l.engine;
}
