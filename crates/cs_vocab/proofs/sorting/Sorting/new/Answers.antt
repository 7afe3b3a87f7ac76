use Rattle.std.proofs.Common.{◌∙◌, ap, subst}
use Rattle.cs_vocab.specs.Leads.{lead}
use Rattle.cs_vocab.proofs.LeadLemmas.{AreBytes}
use Rattle.cs_vocab.proofs.sorting.Sorting.new.Goals as goal

pub invariant_of-result : goal.invariant_of-result
invariant_of-result c = (c.lead_of.ensures.lead ∙ ap (lead 8) c.bytes.ensures.value, subst AreBytes c.bytes.ensures.value c.lead_of.ensures.bytes)
