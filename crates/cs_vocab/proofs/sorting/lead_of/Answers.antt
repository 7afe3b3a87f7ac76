use Rattle.std.proofs.Common.{◌≡◌, ◌+◌, ◌*◌, suc, refl, sym, subst, arith}
use Rattle.cs_vocab.specs.Leads.{lead}
use Rattle.cs_vocab.proofs.LeadLemmas.{fits}
use Rattle.cs_vocab.proofs.sorting.lead_of.Goals as goal

pub loop-i-init : goal.loop-i-init
loop-i-init c = refl

pub overflow_mul-lead : goal.overflow_mul-lead
overflow_mul-lead c =
    let room = fits c.loop-i.i c.args.word.now (λ k. let f = c.type_inv.word k in omega (arith, f)) c.loop-i-test.true in
    omega (arith, room, c.loop-i.invariant)

pub overflow_add-lead : goal.overflow_add-lead
overflow_add-lead c =
    let room = fits c.loop-i.i c.args.word.now (λ k. let f = c.type_inv.word k in omega (arith, f)) c.loop-i-test.true in
    omega (arith, room, c.loop-i.invariant, c.from.ensures, c.byte_at.type_inv)

pub loop-i-preserved : goal.loop-i-preserved
loop-i-preserved c =
    let w = c.args.word.now in
    let next : c.loop-i.lead * 256 + c.from.result ≡ lead (suc c.loop-i.i) w = omega (arith, c.loop-i.invariant, c.from.ensures, c.byte_at.ensures) in
    let more : c.loop-i.i + 1 ≡ suc c.loop-i.i = omega arith in
    subst (λ n. c.loop-i.lead * 256 + c.from.result ≡ lead n w) (sym more) next
