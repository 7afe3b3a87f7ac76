use Rattle.std.proofs.Common.{◌≡◌, ◌∙◌, ap, arith, sym}
use Rattle.std.specs.Option.{option_map}
use Rattle.cs_model_excerpts.specs.Runs.{shortest}
use Rattle.cs_more.specs.RunSearch.{seen_run}
use Rattle.cs_more.proofs.RunsReached.{best-within, least_is, none_reached, one_further, start_fits}
use Rattle.cs_model_excerpts.proofs.ShortestRuns.{shortest_first}
use Rattle.cs_more.proofs.runs.shortest_run.Goals as goal

pub loop-last-init : goal.loop-last-init
loop-last-init c = record { reached = c.in_ok-reached.ensures ∙ none_reached c.args.parts.now; best = λ a b l k. absurd (omega arith) }

pub better_run-best-requires : goal.better_run-best-requires
better_run-best-requires c =
    record { start = start_fits c.args.parts.now c.loop-last.last c.least.result (least_is c.args.parts.now c.loop-last.last c.least.result c.reach_on.new.reached.items c.deref.result.now c.reach_on.ensures c.deref.ensures.value c.least.ensures) }

pub loop-last-preserved : goal.loop-last-preserved
loop-last-preserved c = record {
  reached = c.reach_on.ensures;
  best = one_further c.args.parts.now c.loop-last.last c.least.result _ _ (least_is c.args.parts.now c.loop-last.last c.least.result c.reach_on.new.reached.items c.deref.result.now c.reach_on.ensures c.deref.ensures.value c.least.ensures) c.better_run-best.ensures c.loop-last.invariant.best;
}

pub returns-clause-ok : goal.returns-clause-ok
returns-clause-ok c =
    let end : c.loop-last.last ≡ c.args.words = omega (arith, c.loop-last-test.false, c.loop-last.auto.last-end) in
    sym (ap (λ n. shortest c.args.parts.now n) (sym end) ∙ shortest_first c.args.parts.now c.loop-last.last (option_map seen_run c.loop-last.best) c.loop-last.invariant.best)

pub returns-clause-within : goal.returns-clause-within
returns-clause-within c = best-within c.args.parts.now c.loop-last.last c.args.words c.loop-last.best c.loop-last.auto.last-end c.loop-last.invariant.best
