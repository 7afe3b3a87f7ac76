use Rattle.std.proofs.Common.{◌-◌, ◌≤◌, length, ◌∙◌, arith, refl}
use Rattle.cs_file.proofs.FilledPieces.{begun, one_more, piece_len, still_within, all_read}
use Rattle.cs_file.proofs.reading.fill.Goals as goal

pub loop-done-init : goal.loop-done-init
loop-done-init g c = record { told = begun _ c.args.at c.args.out.now; within = omega arith; same = refl; lent = refl; quiet = refl }

pub loop-done-preserved : goal.loop-done-preserved
loop-done-preserved g c =
    let m = c.min.ensures in
    let fits : c.min.result ≤ length c.loop-done.out - c.loop-done.done = omega arith in
    record {
      told = one_more _ _ c.args.at c.loop-done.out c.read_at.new.out c.loop-done.done c.min.result c.loop-done.invariant.within fits c.read_at.auto.out
          c.loop-done.invariant.same c.in_ok-read_at.ensures.ok c.loop-done.invariant.told;
      within = still_within c.loop-done.out c.read_at.new.out c.loop-done.done c.min.result _ c.loop-done.invariant.within
          (c.read_at.auto.out ∙ piece_len c.loop-done.done c.min.result c.loop-done.out c.loop-done.invariant.within fits);
      same = c.in_ok-read_at.ensures.same ∙ c.loop-done.invariant.same;
      lent = c.in_ok-read_at.ensures.lent ∙ c.loop-done.invariant.lent;
      quiet = c.in_ok-read_at.ensures.counted.quiet ∙ c.loop-done.invariant.quiet;
    }

pub returns-clause-ok : goal.returns-clause-ok
returns-clause-ok g c = all_read _ c.args.at c.loop-done.out c.loop-done.done (length c.args.out.now) c.loop-done.auto.out (omega arith)
    c.loop-done.invariant.told
