use Rattle.std.proofs.Common.{true≢false, refl, sym, ap, subst, ◌∙◌}
use Rattle.std.specs.Str.{IsUtf8}
use Rattle.std.proofs.lemmas.Bool.{false_from_ne_true}
use Rattle.std.proofs.lemmas.Str.{is_utf8-from_IsUtf8, IsUtf8-from_is_utf8, IsUtf8-string_bytes}
use Rattle.cs_file.proofs.fetching.text_at.Goals as goal

pub returns-in-Ok-clause-exact : goal.returns-in-Ok-clause-exact
returns-in-Ok-clause-exact c =
    let same = ap (λ v. v.items) c.in-Ok.ensures.ok in
    (c.from_string.ensures ∙ same, is_utf8-from_IsUtf8 _ (subst IsUtf8 same (IsUtf8-string_bytes c.in-Ok.text)))

pub returns-clause-exact : goal.returns-clause-exact
returns-clause-exact c = (false_from_ne_true _ (λ e. true≢false (sym (c.in-Err.ensures.succeeds (IsUtf8-from_is_utf8 c.args.bytes.items e)))), refl, refl)
