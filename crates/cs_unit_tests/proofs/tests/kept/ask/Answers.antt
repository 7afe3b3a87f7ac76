use Rattle.std.proofs.Common.{sym, ap, ◌∙◌}
use Rattle.cs_model_kept.specs.KeptList.{is_held, used_key}
use Rattle.cs_model_kept.proofs.HeldLemmas.{others_are_new}
use Rattle.cs_unit_tests.proofs.tests.kept.ask.Goals as goal

pub keep-kept-requires : goal.keep-kept-requires
keep-kept-requires c =
    let keys = c.in_ok-keys.keys in
    let held = c.args.answers.now.entries in
    let same = c.in_ok-own.ensures ∙ sym c.in_ok-keys.ensures in
    let new = others_are_new held (used_key keys c.look-plan.result) keys (λ e. c.in_default.not-Same (c.look-plan.ensures ∙ e)) in
    record { new = ap (is_held c.resume.new.self.entries) same ∙ ap (λ l. is_held l keys.same) c.resume.ensures.entries ∙ new }
