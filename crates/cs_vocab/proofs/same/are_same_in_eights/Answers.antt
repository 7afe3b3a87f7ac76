use Rattle.std.proofs.Common.{sym, ◌∙◌}
use Rattle.cs_vocab.proofs.SameLemmas.{eights_tell}
use Rattle.cs_vocab.proofs.same.are_same_in_eights.Goals as goal

pub returns-then-eight_at : goal.returns-then-eight_at
returns-then-eight_at c =
    eights_tell _ _ c.type_inv.a c.type_inv.b c.requires.as_long c.requires.some c.requires.few _ _
    (sym c.eight_at.ensures ∙ c.if-eight_at.true ∙ c.eight_at-2.ensures) c.eight_at-then-eight_at.ensures c.eight_at-then-eight_at-2.ensures
