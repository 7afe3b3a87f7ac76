use Rattle.std.proofs.Common.{◌∙◌}
use Rattle.cs_json.proofs.fault.fault_bytes.Goals as goal

pub returns : goal.returns
returns c =
    let value = c.in_ok-value.ensures in
    record { ok = c.in_ok-bytes.ensures.text value.no_float ∙ value.text }
