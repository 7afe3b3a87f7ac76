use Rattle.std.proofs.Common.{encode_utf8_all, sym, ap, ◌∙◌}
use Rattle.std.proofs.lemmas.Str.{chars_from_encodes}
use Rattle.unicode_normalization.specs.Forms.{nfd}
use Rattle.cs_model.specs.KeyText.{norm}
use Rattle.cs_model.proofs.AsciiLemmas.{norm-ascii}
use Rattle.cs_text.proofs.key_text.key_string.Goals as goal

pub returns-then-is_ascii : goal.returns-then-is_ascii
returns-then-is_ascii c = record { ok = c.in_ok-lower.ensures.ok ∙ sym (norm-ascii c.args.s.now c.if-is_ascii.ensures.cases) }

pub returns : goal.returns
unfolding norm
returns c =
    let spelled = c.as_str.ensures.value ∙ c.in_ok-folded.ensures.ok in
    let given = sym (chars_from_encodes _ _ c.as_str.utf8 (sym spelled)) in
    record { ok = c.in_ok-key.ensures ∙ ap (λ cs. encode_utf8_all (nfd cs)) given }
