use Rattle.std.proofs.Common.{◌≡◌, ◌==◌, true, false, sym, ap, ◌∙◌, arith, option_map}
use Rattle.std.specs.Prelude.{find}
use Rattle.std.proofs.lemmas.Bool.Decides.{nat_tests}
use Rattle.cs_base.specs.declared.content.key.Narrower.{Narrower}
use Rattle.cs_cache.proofs.FrontLemmas.{miss_more, hit}
use Rattle.cs_cache.proofs.answers.key_of_cut.Goals as goal

pub returns-then-narrower-cut : goal.returns-then-narrower-cut
returns-then-narrower-cut c =
    let n = c.narrower-item.result in
    let pass : (n.cut == c.args.cut) ≡ true = grind (arith, nat_tests, c.if-narrower-cut.true) in
    let found = hit (λ n. n.cut == c.args.cut) c.as_slice-narrower-items.result.now c.loop-narrower.narrower-index n c.loop-narrower.invariant c.loop-narrower-test.true c.narrower-item.is pass in
    sym (ap (λ l. option_map (λ (n : Narrower). n.key) (find (λ n. n.cut == c.args.cut) l)) (sym c.as_slice-narrower-items.ensures) ∙ ap (option_map (λ n. n.key)) found)

pub loop-narrower-preserved : goal.loop-narrower-preserved
loop-narrower-preserved c =
    let n = c.narrower-item.result in
    let miss : (n.cut == c.args.cut) ≡ false = grind (arith, nat_tests, c.if-narrower-cut.false) in
    miss_more (λ n. n.cut == c.args.cut) c.as_slice-narrower-items.result.now c.loop-narrower.narrower-index n c.loop-narrower.invariant c.loop-narrower-test.true c.narrower-item.is miss
