use Rattle.std.proofs.Common.{◌≡◌, true, false, length, nat_le, refl, arith}
use Rattle.std.specs.Str.{is_utf8}
use Rattle.std.proofs.lemmas.Bool.{false_from_ne_true}
use Rattle.std.proofs.lemmas.Bool.Decides.{nat_tests}
use Rattle.std.proofs.lemmas.Str.{IsUtf8-from_is_utf8, is_utf8-from_IsUtf8}
use Rattle.cs_base.specs.declared.content.limits.TheConstants.{MAX_LINE_BYTES}
use Rattle.cs_docs.proofs.document.line_as_text.Goals as goal

pub returns-in_default-clause-err : goal.returns-in_default-clause-err
returns-in_default-clause-err c = let bad : is_utf8 c.args.line.now ≡ false = false_from_ne_true _ (λ t. c.in_default.ensures.cases.0 (IsUtf8-from_is_utf8 c.args.line.now t)) in rw bad refl

pub returns-then-line-gt-MAX_LINE_BYTES-clause-err : goal.returns-then-line-gt-MAX_LINE_BYTES-clause-err
returns-then-line-gt-MAX_LINE_BYTES-clause-err c =
    let good : is_utf8 c.args.line.now ≡ true = is_utf8-from_IsUtf8 c.args.line.now c.in-Ok.ensures.cases.1 in
    let long : nat_le (length c.args.line.now) MAX_LINE_BYTES ≡ false = grind (arith, nat_tests) in
    rw (good, long) refl

pub returns-clause-accepted : goal.returns-clause-accepted
returns-clause-accepted c =
    let short : nat_le (length c.args.line.now) MAX_LINE_BYTES ≡ true = grind (arith, nat_tests) in (is_utf8-from_IsUtf8 c.args.line.now c.in-Ok.ensures.cases.1, short)
