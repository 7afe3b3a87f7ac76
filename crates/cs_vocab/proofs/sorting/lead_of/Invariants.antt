use Rattle.std.proofs.Common.{◌≡◌}
use Rattle.cs_vocab.specs.Leads.{lead}
use Rattle.cs_vocab.proofs.sorting.lead_of.Given as goal

abbrev pub invariant-loop-i : goal.invariant-loop-i
invariant-loop-i l = l.lead ≡ lead l.i l.word
