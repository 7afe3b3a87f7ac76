use Rattle.std.proofs.Common.{◌∙◌, ◌++◌, ap, arith, string_bytes}
use Rattle.cs_more.proofs.JsonFields.{joins_all, joins_more, joins_none}
use Rattle.cs_more.proofs.json_line.with_more.Goals as goal

pub returns-in_default : goal.returns-in_default
returns-in_default c = record { ok = joins_none _ (string_bytes c.loop-value.column) c.args.list.now c.loop-value.value-index c.value-item.result (omega (arith, c.loop-value-test.true)) c.value-item.is c.in_default.ensures c.loop-value.invariant }

pub loop-value-preserved : goal.loop-value-preserved
unfolding lib.Utf8.encode
loop-value-preserved c =
    joins_more _ (string_bytes c.loop-value.column) (string_bytes c.push_str.new.self) c.in-Some.text.now c.args.list.now c.loop-value.value-index c.value-item.result (omega (arith, c.loop-value-test.true)) c.value-item.is c.in-Some.ensures
    (c.in_ok-push_str.ensures.bytes ∙ ap (λ x. x ++ c.in-Some.text.now) c.in_ok-push.ensures.bytes) c.loop-value.invariant

pub returns : goal.returns
returns c = record { ok = joins_all _ (string_bytes c.loop-value.column) c.args.list.now c.loop-value.value-index c.loop-value-test.false c.loop-value.invariant }
