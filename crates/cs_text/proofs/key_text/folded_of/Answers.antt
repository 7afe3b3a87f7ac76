use Rattle.std.proofs.Common.{encode_utf8_all, sym, ap, ◌∙◌}
use Rattle.std.proofs.lemmas.Str.{chars_from_encodes}
use Rattle.caseless.specs.Caseless.{default_case_fold}
use Rattle.cs_text.proofs.key_text.folded_of.Goals as goal

pub returns : goal.returns
returns c =
    let spelled = c.as_str.ensures.value ∙ c.in_ok-decomposed.ensures in
    let given = sym (chars_from_encodes _ _ c.as_str.utf8 (sym spelled)) in
    record { ok = c.in_ok-folded.ensures ∙ ap (λ cs. encode_utf8_all (default_case_fold cs)) given }
