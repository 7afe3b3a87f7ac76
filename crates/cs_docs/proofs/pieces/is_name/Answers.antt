use Rattle.std.proofs.Common.{◌≡◌, true, rules, sym, ap, ◌∙◌}
use Rattle.cs_model.specs.Collection.{has_name_form}
use Rattle.cs_text.proofs.KeyBytesLemmas.{norm-has_name_form}
use Rattle.cs_docs.proofs.pieces.is_name.Goals as goal

pub returns-then-has_name_form : goal.returns-then-has_name_form
returns-then-has_name_form c =
    let named : has_name_form c.args.name.now ≡ true = search rules in
    record { ok = sym (ap has_name_form (norm-has_name_form c.args.name.now named) ∙ named) }
