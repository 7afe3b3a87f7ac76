use Rattle.std.proofs.Common.{◌≡◌, ◌∙◌, ap, arith}
use Rattle.std.specs.List.{flat_map, range_with_len}
use Rattle.cs_model_trial.specs.Generator.{collection, line_draws, line_count, trial_line}
use Rattle.cs_trial.proofs.AcceptedTrials.{accepted}
use Rattle.cs_trial.proofs.TrialLineLemmas.{lines_more, line_behind}
use Rattle.cs_trial.proofs.lines.collection.Goals as goal

pub loop-preserved : goal.loop-preserved
loop-preserved c = record {
  bytes = lines_more c.args.n c.loop.counter c.loop.numbers.state c.loop.bytes.items c.with_line-bytes.result.items c.loop.invariant.state c.loop.invariant.bytes c.with_line-bytes.ensures.bytes;
  state = c.with_line-bytes.ensures.state ∙ line_behind c.args.n c.loop.counter c.loop.numbers.state c.loop.invariant.state;
  len = omega (arith, c.with_line-bytes.ensures.len, c.loop.invariant.len);
  room = omega (arith, c.with_line-bytes.ensures.capacity, c.loop.invariant.room);
}

pub returns-clause-bytes : goal.returns-clause-bytes
unfolding collection
returns-clause-bytes c =
    let all : c.loop.counter ≡ line_count c.args.n = omega (arith, c.loop-test.false, c.loop.auto.counter-end) in
    c.loop.invariant.bytes ∙ ap (λ k. flat_map (λ i. trial_line (line_draws c.args.n i)) (range_with_len 0 k)) all

pub returns-clause-accepted : goal.returns-clause-accepted
returns-clause-accepted c = accepted c.args.n c.requires
