use Rattle.std.proofs.Common.{◌≡◌, ◌+◌, ◌-◌, ℕ, Some, None, take, drop, get_or, sym, ap, ◌∙◌, arith, subst, true}
use Rattle.std.specs.List.{position_or_len}
use Rattle.std.proofs.lemmas.Bool.Decides.{nat_tests}
use Rattle.std.proofs.lemmas.Str.{IsCharBoundary-after_ascii}
use Rattle.memchr.specs.Find.{IsFirstByte, is_byte}
use Rattle.cs_docs.proofs.FirstByteLemmas.{first_byte_at, no_first_byte}
use Rattle.cs_docs.proofs.cut.cut_at.Goals as goal

pub returns-in_default : goal.returns-in_default
returns-in_default c = no_first_byte c.args.byte c.args.text.now (subst (λ bs. IsFirstByte (is_byte c.args.byte) bs None) c.as_bytes.ensures.value c.in_default.ensures)

pub range_from-requires : goal.range_from-requires
range_from-requires c =
    let text = c.args.text.now in
    let at = c.in-Some.at in
    let found : IsFirstByte (is_byte c.args.byte) text (Some at) = subst (λ bs. IsFirstByte (is_byte c.args.byte) bs (Some at)) c.as_bytes.ensures.value c.in-Some.ensures in
    let same : get_or text at 0 ≡ c.args.byte = byte_is (get_or text at 0) c.args.byte found.1 in
    λ _. IsCharBoundary-after_ascii text at c.utf8.text found.0.high (omega (arith, same, c.requires.ascii))
  where
    byte_is : (a b : ℕ) → is_byte b a ≡ true → a ≡ b
    byte_is a b h = grind (arith, nat_tests)

pub returns : goal.returns
returns c =
    let text = c.args.text.now in
    let at = c.in-Some.at in
    let found : IsFirstByte (is_byte c.args.byte) text (Some at) = subst (λ bs. IsFirstByte (is_byte c.args.byte) bs (Some at)) c.as_bytes.ensures.value c.in-Some.ensures in
    let first = first_byte_at c.args.byte text at found in
    let whole : at - 0 ≡ position_or_len (is_byte c.args.byte) text = omega (arith, first) in (
      omega (arith, first, found.0.high),
      c.range.ensures.value ∙ ap (λ n. take n text) whole,
      c.range_from.ensures.value ∙ ap (λ n. drop (n + 1) text) (sym first),
    )
