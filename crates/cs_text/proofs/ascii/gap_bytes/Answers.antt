use Rattle.std.proofs.Common.{sym, arith, ◌∙◌}
use Rattle.std.specs.Char.{is_ascii_alphanumeric}
use Rattle.std.proofs.lemmas.List.Sums.{position_or_len_is}
use Rattle.cs_text.proofs.ascii.gap_bytes.Goals as goal

pub returns-else-not-is_word_byte-clause-gap : goal.returns-else-not-is_word_byte-clause-gap
returns-else-not-is_word_byte-clause-gap c =
    sym (position_or_len_is is_ascii_alphanumeric c.args.bytes.now c.loop-end.end 0 c.loop-end.invariant.within c.loop-end.invariant.gaps (λ l. sym c.is_word_byte.ensures ∙ c.if-not-is_word_byte.false))

pub returns-after-loop-end-clause-gap : goal.returns-after-loop-end-clause-gap
returns-after-loop-end-clause-gap c =
    sym (position_or_len_is is_ascii_alphanumeric c.args.bytes.now c.loop-end.end 0 c.loop-end.invariant.within c.loop-end.invariant.gaps (λ l. absurd (omega arith)))
