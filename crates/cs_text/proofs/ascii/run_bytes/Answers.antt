use Rattle.std.proofs.Common.{sym, arith, ◌∙◌}
use Rattle.std.specs.Char.{is_ascii_alphanumeric}
use Rattle.std.proofs.lemmas.List.Sums.{prefix_len_is}
use Rattle.cs_text.proofs.ascii.run_bytes.Goals as goal

pub returns-else-is_word_byte-clause-run : goal.returns-else-is_word_byte-clause-run
returns-else-is_word_byte-clause-run c =
    sym (prefix_len_is is_ascii_alphanumeric c.args.bytes.now c.loop-end.end 0 c.loop-end.invariant.within c.loop-end.invariant.run (λ l. sym c.is_word_byte.ensures ∙ c.if-is_word_byte.false))

pub returns-after-loop-end-clause-run : goal.returns-after-loop-end-clause-run
returns-after-loop-end-clause-run c =
    sym (prefix_len_is is_ascii_alphanumeric c.args.bytes.now c.loop-end.end 0 c.loop-end.invariant.within c.loop-end.invariant.run (λ l. absurd (omega arith)))
