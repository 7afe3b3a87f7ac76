use Rattle.std.proofs.Common.{refl, subst}
use Rattle.cs_file.specs.Indexes.{IsIndex}
use Rattle.cs_live.specs.Lives.{LiveView}
use Rattle.cs_live.proofs.ChangedLemmas.{begins}
use Rattle.cs_live.proofs.LiveLemmas.{kept_begins}
use Rattle.cs_live.proofs.live.Live.new.Goals as goal

pub invariant_of-result : goal.invariant_of-result
invariant_of-result c =
    let l : LiveView = record { state = c.in_ok-state.state; rows = c.new-2.result.items; met = c.rows_of_index-met.result; changes = 0; answers = c.in_ok-answers.answers; held = c.new-3.result } in
    let none = c.in_ok-answers.ensures.ok in
    kept_begins c.args.index (subst IsIndex c.index.view_is c.index.invariant.index) l c.args.capacity c.in_ok-state.ensures c.new-2.ensures.items c.rows_of_index-met.ensures.rows refl none
    c.new-3.ensures

pub returns-clause-begins : goal.returns-clause-begins
returns-clause-begins c b stands =
    let l : LiveView = record { state = c.in_ok-state.state; rows = c.new-2.result.items; met = c.rows_of_index-met.result; changes = 0; answers = c.in_ok-answers.answers; held = c.new-3.result } in
    begins c.args.index (subst IsIndex c.index.view_is c.index.invariant.index) b stands l c.in_ok-state.ensures c.new-2.ensures.items c.rows_of_index-met.ensures.rows refl
