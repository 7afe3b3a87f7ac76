use Rattle.std.proofs.Common.{arith, ◌∙◌}
use Rattle.cs_http.proofs.LookLemmas.{old_of, end_text, end_head, end_blank, placed_next}
use Rattle.cs_http.proofs.framing.Seen.end_line.Goals as goal

pub returns-in-Text-default-clause-found : goal.returns-in-Text-default-clause-found
returns-in-Text-default-clause-found c = λ before is. c.within_limit.ensures.found ∙ end_text before c.args.self (old_of before c.args.self is) c.in-Text-default.is-0

pub returns-in_default-true : goal.returns-in_default-true
returns-in_default-true c = record {
  found = λ before is. end_head before c.args.self (old_of before c.args.self is) c.in_default-true.not-Text-0 c.in_default-true.is-1;
  placed = (omega arith, omega arith);
  few = tt;
}

pub returns-in_default-false : goal.returns-in_default-false
returns-in_default-false c = record {
  found = λ before is. c.within_limit-in_default-false.ensures.found ∙ end_blank before c.args.self (old_of before c.args.self is) c.in_default-false.not-Text-0 c.in_default-false.is-1;
  placed = placed_next c.args.self.count c.within_limit-in_default-false.result c.within_limit-in_default-false.ensures.counted;
  few = c.within_limit-in_default-false.ensures.few;
}
