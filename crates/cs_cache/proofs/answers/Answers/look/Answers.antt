use Rattle.std.proofs.Common.{◌≡◌, true, false, Some, sym, ap, ◌∙◌}
use Rattle.std.specs.Prelude.{find}
use Rattle.cs_model_kept.specs.KeptList.{is_held}
use Rattle.cs_cache.proofs.FrontLemmas.{miss_more, hit}
use Rattle.cs_cache.proofs.answers.Answers.look.Goals as goal

pub returns-then-holds-2 : goal.returns-then-holds-2
returns-then-holds-2 c =
    let held = c.args.self.now.entries in
    let keys = c.args.keys.now in
    let n = c.narrower-item.result in
    let not_same : is_held held keys.same ≡ false = sym c.holds.ensures ∙ c.if-holds.false in
    let pass : is_held held n.key ≡ true = sym c.holds-in-loop-narrower.ensures ∙ c.if-holds-2.true in
    let items = c.as_slice-narrower-items in
    let found : find (λ n. is_held held n.key) keys.narrow ≡ Some n =
    ap (find (λ n. is_held held n.key)) (sym items.ensures) ∙ hit (λ n. is_held held n.key) items.result.now c.loop-narrower.narrower-index n c.loop-narrower.invariant c.loop-narrower-test.true c.narrower-item.is pass in
    rw (not_same, found)

pub loop-narrower-preserved : goal.loop-narrower-preserved
loop-narrower-preserved c =
    let held = c.args.self.now.entries in
    let n = c.narrower-item.result in
    let miss : is_held held n.key ≡ false = sym c.holds-in-loop-narrower.ensures ∙ c.if-holds-2.false in
    miss_more (λ n. is_held held n.key) c.as_slice-narrower-items.result.now c.loop-narrower.narrower-index n c.loop-narrower.invariant c.loop-narrower-test.true c.narrower-item.is miss
