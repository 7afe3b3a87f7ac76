-- Columns that stay in their block.
--
--   placed-kept     four columns that lie where they did, with as much memory, lie in their block as they did
use Rattle.std.proofs.Common.{sym, ◌∙◌}
use Rattle.std.specs.declared.option.Option.{Option}
use Rattle.std.specs.declared.option.Option.TheVariants.{Some, None}
use Rattle.cs_cols.specs.Block.{Extent}
use Rattle.cs_cols.specs.Placed.{Column, IsInPlace, ArePlaced}

pub placed-kept : (ds ws ps ss ds' ws' ps' ss' : Column) (b : Option Extent) → ArePlaced ds ws ps ss b
    → IsInPlace ds ds' → IsInPlace ws ws' → IsInPlace ps ps' → IsInPlace ss ss' → ArePlaced ds' ws' ps' ss' b
placed-kept ds ws ps ss ds' ws' ps' ss' None h i j k l = ((j.1 ∙ h.0.0 ∙ sym i.1, k.1 ∙ h.0.1 ∙ sym i.1, l.1 ∙ h.0.2 ∙ sym i.1), i.1 ∙ h.1)
placed-kept ds ws ps ss ds' ws' ps' ss' (Some e) h i j k l = (
  (j.1 ∙ h.0.0 ∙ sym i.1, k.1 ∙ h.0.1 ∙ sym i.1, l.1 ∙ h.0.2 ∙ sym i.1),
  (h.1.0, i.1 ∙ h.1.1, (i.0 ∙ h.1.2.0, j.0 ∙ h.1.2.1, k.0 ∙ h.1.2.2, l.0 ∙ h.1.2.3)),
)
