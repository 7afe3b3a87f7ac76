use Rattle.std.proofs.Common.{ap, ◌∙◌, arith}
use Rattle.cs_gaps.specs.Reading.{moved, gap_at}
use Rattle.cs_gaps.proofs.CodesLemmas.{gap_again, stands}
use Rattle.cs_gaps.proofs.PassLemmas.{one_byte}
use Rattle.cs_gaps.proofs.gap.next_gap.Goals as goal

pub returns-then-bytes-at-lt128-clause-exact : goal.returns-then-bytes-at-lt128-clause-exact
returns-then-bytes-at-lt128-clause-exact c = one_byte c.args.bytes.now c.args.at c.from.result c.from.ensures c.if-at-bytes.true (omega arith)

pub returns-then-bytes-at-lt128-clause-found : goal.returns-then-bytes-at-lt128-clause-found
returns-then-bytes-at-lt128-clause-found c = λ n next e. stands c.args.bytes.now c.args.at _ n next (λ i. omega (arith, c.type_inv.bytes i)) c.requires.within (returns-then-bytes-at-lt128-clause-exact c) e

pub returns-then-bytes-at-lt128-clause-accepts : goal.returns-then-bytes-at-lt128-clause-accepts
returns-then-bytes-at-lt128-clause-accepts c = λ n rest lt e. returns-then-bytes-at-lt128-clause-exact c ∙ ap (λ x. moved c.args.at (gap_at x)) e ∙ ap (moved c.args.at) (gap_again n rest lt)

pub returns-clause-found : goal.returns-clause-found
returns-clause-found c = λ n next e. stands c.args.bytes.now c.args.at c.read_gap.result n next (λ i. omega (arith, c.type_inv.bytes i)) c.requires.within c.read_gap.ensures e

pub returns-clause-accepts : goal.returns-clause-accepts
returns-clause-accepts c = λ n rest lt e. c.read_gap.ensures ∙ ap (λ x. moved c.args.at (gap_at x)) e ∙ ap (moved c.args.at) (gap_again n rest lt)
