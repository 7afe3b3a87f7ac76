use Rattle.std.proofs.Common.{sym, ◌∙◌}
use Rattle.cs_model_kept.proofs.HeldLemmas.{is_found, same_is_held}
use Rattle.cs_unit_tests.proofs.tests.kept.rows_of.Goals as goal

pub view-requires : goal.view-requires
view-requires c =
    let held = c.args.answers.now.entries in
    let keys = c.in_ok-keys.keys in
    record { held = is_found held keys.same (same_is_held held keys (sym c.look.ensures ∙ c.in-Same.is)) }
