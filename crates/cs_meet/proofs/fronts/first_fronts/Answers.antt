use Rattle.std.proofs.Common.{◌≡◌, ◌+◌, length, get_or, [], true, false, refl, sym, subst, arith}
use Rattle.std.specs.Prelude.{nat_eq}
use Rattle.std.proofs.lemmas.Bool.Decides.{nat_tests}
use Rattle.cs_meet.specs.Fronts.{IsFrontAt}
use Rattle.cs_meet.proofs.Merged.{posts_in, list_at}
use Rattle.cs_meet.proofs.fronts.first_fronts.Goals as goal

pub loop-number-preserved : goal.loop-number-preserved
loop-number-preserved c =
    let lists = c.args.lists.now in
    let n = c.loop-number.number in
    let now = c.put_front.new.tree.items in
    let put = c.put_front.ensures in
    record {
      tree = put.tree;
      fronts = λ k within below.
          elim (nat_eq k n) as (λ t. nat_eq k n ≡ t → IsFrontAt (get_or (posts_in lists) k []) 0 k (get_or now (length lists + k) 0)) [
            | true ↦ λ t.
                let same : n ≡ k = grind (arith, nat_tests) in
                subst (λ m. IsFrontAt (get_or (posts_in lists) m []) 0 m (get_or now (length lists + m) 0)) same
                (subst (λ posts. IsFrontAt posts 0 n (get_or now (length lists + n) 0)) (sym (list_at lists n c.index-lists-number.result c.loop-number-test.true c.index-lists-number.is))
                (subst (IsFrontAt c.index-lists-number.result.posts 0 n) (sym put.put) c.front_at-front.ensures))
            | false ↦ λ t.
                subst (IsFrontAt (get_or (posts_in lists) k []) 0 k) (sym (put.others k within (grind (arith, nat_tests)))) (c.loop-number.invariant.fronts k within (grind (arith, nat_tests)))
          ] refl;
    }
