use Rattle.std.proofs.Common.{ℕ, ◌+◌, List, length, sym, Err, subst, arith}
use Rattle.std.specs.Char.{encode_utf8}
use Rattle.std.specs.Str.{chars}
use Rattle.std.proofs.lemmas.List.{length_push}
use Rattle.std.proofs.lemmas.Iterator.{YieldsList-from_chars}
use Rattle.std.proofs.lemmas.Iterator.Consumers.{YieldsList-turn, YieldsList-end}
use Rattle.cs_query.specs.Following.{IsAnswerTo}
use Rattle.cs_query.proofs.Prefixes.{HasRead, one_more, at_stop, at_end}
use Rattle.cs_query.proofs.parsing.read.Goals as goal

pub returns-in-Err : goal.returns-in-Err
returns-in-Err c =
    let t = YieldsList-turn (YieldsList-from_chars c.args.key.now c.utf8.key cc) c.loop-c.yielded _ c.loop-c.yielded_by _ _ c.in-Some.c c.in-Some.is c.next.ensures.steps in
    let h = c.loop-c.invariant in
    subst (λ e. IsAnswerTo (chars c.args.key.now) (Err e)) (sym c.fault_at.ensures)
    (at_stop (chars c.args.key.now) (length c.loop-c.yielded) c.loop-c.at c.in-Some.c c.loop-c.reader c.in-Err.stop h (t.0, t.1) (c.in-Err.ensures h.follows.0 h.follows.2))

pub loop-c-preserved : goal.loop-c-preserved
loop-c-preserved c =
    let t = YieldsList-turn (YieldsList-from_chars c.args.key.now c.utf8.key cc) c.loop-c.yielded _ c.loop-c.yielded_by _ _ c.in-Some.c c.in-Some.is c.next.ensures.steps in
    let cs : List ℕ = chars c.args.key.now in
    let n : ℕ = length c.loop-c.yielded in
    let h = c.loop-c.invariant in
    let next : HasRead cs (n + 1) (c.loop-c.at + length (encode_utf8 c.in-Some.c)) c.in-Ok.next =
    one_more cs n c.loop-c.at c.in-Some.c c.loop-c.reader c.in-Ok.next h (t.0, t.1) (c.in-Ok.ensures h.follows.0 h.follows.2) in
    rw (length_push c.loop-c.yielded c.in-Some.c, c.len_utf8.ensures.len) next

pub returns-in-Ok-ended : goal.returns-in-Ok-ended
returns-in-Ok-ended c =
    let t = YieldsList-end (YieldsList-from_chars c.args.key.now c.utf8.key cc) c.loop-c.yielded _ c.loop-c.yielded_by _ _ c.in-None.is c.next.ensures.steps in
    at_end (chars c.args.key.now) (length c.loop-c.yielded) c.loop-c.at c.loop-c.reader c.in-Ok-ended.query (omega (arith, t.1)) c.loop-c.invariant c.in-Ok-ended.ensures
