use Rattle.std.proofs.Common.{sym, ◌∙◌}
use Rattle.cs_vocab.proofs.SameLemmas.{fours_tell}
use Rattle.cs_vocab.proofs.same.are_same_in_fours.Goals as goal

pub returns-then-four_at : goal.returns-then-four_at
returns-then-four_at c =
    fours_tell _ _ c.type_inv.a c.type_inv.b c.requires.as_long c.requires.some c.requires.few _ _
    (sym c.four_at.ensures ∙ c.if-four_at.true ∙ c.four_at-2.ensures) c.four_at-then-four_at.ensures c.four_at-then-four_at-2.ensures
