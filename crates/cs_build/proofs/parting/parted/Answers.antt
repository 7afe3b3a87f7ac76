use Rattle.std.proofs.Common.{◌+◌, ◌<◌, ◌∷◌, [], ◌++◌, sym, ◌∙◌, subst, arith, ap, length}
use Rattle.std.proofs.lemmas.Bool.Decides.{nat_tests}
use Rattle.cs_build.specs.WordRuns.{AreParted}
use Rattle.cs_build.specs.declared.parting.Run.{Run}
use Rattle.cs_build.proofs.PartitionCuts.{IsCutting, begun, longer_run, next_run, last_run}
use Rattle.cs_build.proofs.parting.parted.Goals as goal
use Rattle.cs_build.proofs.parting.parted.Goals.{then-has_room, else-has_room+in_ok-push}

pub loop-n-init : goal.loop-n-init
loop-n-init c =
    let some : 0 < length c.args.words.now = grind (arith, nat_tests, c.is_empty.ensures, c.if-is_empty.false, c.requires.each) in
    record {
      inside = subst (λ (r : Run). r.lo < length c.args.words.now) (sym c.one_word-run.ensures) some;
      cutting = λ count agrees. subst (λ rs. IsCutting c.args.target count c.args.words.now 1 rs c.one_word-run.result) (sym c.new-runs.ensures.items)
          (subst (λ r. IsCutting c.args.target count c.args.words.now 1 [] r) (sym c.one_word-run.ensures) (begun c.args.target count c.args.words.now _ some (agrees 0 some)));
    }

pub loop-n-preserved : goal.loop-n-preserved
loop-n-preserved c =
    let l : c.loop-n.n < length c.args.words.now = omega (arith, c.loop-n-test.true, c.len-n-end.ensures.value) in
    elim c.if-has_room.branch [
      | then-has_room w ↦ record {
        inside = subst (λ (r : Run). r.lo < length c.args.words.now) (sym w.run-is) c.loop-n.invariant.inside;
        cutting = λ count agrees. subst (λ rs. IsCutting c.args.target count c.args.words.now (c.loop-n.n + 1) rs c.if-has_room.run) (sym (ap (λ v. v.items) w.runs-is))
            (subst (λ r. IsCutting c.args.target count c.args.words.now (c.loop-n.n + 1) c.loop-n.runs.items r) (sym w.run-is)
            (longer_run c.args.target count c.args.words.now c.loop-n.n c.loop-n.runs.items c.loop-n.run _ l (agrees c.loop-n.n l) (sym w.if-has_room.true ∙ c.has_room.ensures) (c.loop-n.invariant.cutting count agrees)));
      }
      | else-has_room+in_ok-push w ↦ record {
        inside = subst (λ (r : Run). r.lo < length c.args.words.now) (sym (w.run-is ∙ w.one_word-run-else-has_room.ensures)) l;
        cutting = λ count agrees. subst (λ rs. IsCutting c.args.target count c.args.words.now (c.loop-n.n + 1) rs c.if-has_room.run) (sym (ap (λ v. v.items) w.runs-is ∙ w.in_ok-push.ensures.items))
            (subst (λ r. IsCutting c.args.target count c.args.words.now (c.loop-n.n + 1) (c.loop-n.runs.items ++ c.loop-n.run ∷ []) r) (sym (w.run-is ∙ w.one_word-run-else-has_room.ensures))
            (next_run c.args.target count c.args.words.now c.loop-n.n c.loop-n.runs.items c.loop-n.run _ l (agrees c.loop-n.n l) (sym w.if-has_room.false ∙ c.has_room.ensures) (c.loop-n.invariant.cutting count agrees)));
      }
    ]

pub returns : goal.returns
returns c = λ count agrees.
    let some : 0 < length c.args.words.now = grind (arith, nat_tests, c.is_empty.ensures, c.if-is_empty.false, c.requires.each) in
    subst (AreParted c.args.target c.args.words.now count) (sym c.in_ok-push-2.ensures.items)
    (last_run c.args.target count c.args.words.now c.loop-n.n c.loop-n.runs.items c.loop-n.run some (omega (arith, c.loop-n-test.false, c.len-n-end.ensures.value)) (c.loop-n.invariant.cutting count agrees))
