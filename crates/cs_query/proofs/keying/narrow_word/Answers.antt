use Rattle.std.proofs.Common.{◌∙◌, ap, sym, subst, length, arith}
use Rattle.std.specs.Prelude.{◌==◌, ◌||◌}
use Rattle.std.specs.String.{string_bytes}
use Rattle.std.proofs.lemmas.Str.{IsUtf8-string_bytes}
use Rattle.cs_model.specs.Keys.{narrower}
use Rattle.cs_query.specs.Printing.{Continues}
use Rattle.cs_query.proofs.Narrowing.{Narrowing, at_stop, at_end, one_less, continues}
use Rattle.cs_query.proofs.keying.narrow_word.Goals as goal

pub returns-then-is_cut_through : goal.returns-then-is_cut_through
returns-then-is_cut_through c =
    at_stop c.args.query.now c.args.word.now (string_bytes c.loop-c.rest) (string_bytes c.pop.new.self) c.in-Some.c c.loop-c.found c.loop-c.invariant c.in-Some.ensures.bytes
    (IsUtf8-string_bytes c.loop-c.rest) (IsUtf8-string_bytes c.pop.new.self)
    (c.if-is_cut_through.ensures ∙ ap (λ l. (c.in-Some.c == 58) || (length l == 0)) c.as_str-left.ensures.value)

pub narrower-requires-clause-begins : goal.narrower-requires-clause-begins
narrower-requires-clause-begins c =
    subst (λ l. Continues l c.args.word.now) (sym c.as_str-left.ensures.value)
    (continues c.args.query.now c.args.word.now (string_bytes c.loop-c.rest) (string_bytes c.pop.new.self) c.in-Some.c c.loop-c.found c.loop-c.invariant c.in-Some.ensures.bytes
    c.utf8.word (IsUtf8-string_bytes c.loop-c.rest) (IsUtf8-string_bytes c.pop.new.self))

pub loop-c-preserved : goal.loop-c-preserved
loop-c-preserved c =
    subst (λ ns. Narrowing c.args.query.now c.args.word.now (string_bytes c.pop.new.self) ns) (sym c.in_ok-push.ensures.ok)
    (one_less c.args.query.now c.args.word.now (string_bytes c.loop-c.rest) (string_bytes c.pop.new.self) c.in-Some.c c.loop-c.found c.in_ok-key.key c.loop-c.invariant c.in-Some.ensures.bytes
    (IsUtf8-string_bytes c.loop-c.rest) (IsUtf8-string_bytes c.pop.new.self)
    (c.if-is_cut_through.ensures ∙ ap (λ l. (c.in-Some.c == 58) || (length l == 0)) c.as_str-left.ensures.value)
    (c.in_ok-key.ensures ∙ ap (narrower c.args.query.now) c.as_str-left.ensures.value))

pub returns : goal.returns
returns c =
    at_end c.args.query.now c.args.word.now (string_bytes c.loop-c.rest) c.loop-c.found c.loop-c.invariant (omega (arith, c.in_default.ensures.none, c.loop-c.rest.bytes.ok))
