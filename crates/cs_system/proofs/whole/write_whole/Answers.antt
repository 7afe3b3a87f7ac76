use Rattle.std.proofs.Common.{length, take, drop, ◌-◌, sym, subst, arith}
use Rattle.std.proofs.lemmas.List.{length-take, length-drop}
use Rattle.std.specs.Io.KnownBytes.{Appends}
use Rattle.std.proofs.KnownBytes.{Appends-kept}
use Rattle.cs_system.proofs.AppendsLemmas.{appends_next}
use Rattle.cs_system.proofs.whole.write_whole.Goals.{in-Ok, in-Err}
use Rattle.cs_system.proofs.whole.write_whole.Goals as goal

pub loop-preserved : goal.loop-preserved
loop-preserved g c =
    let old = g.W.Write.contents c.args.writer.now in
    let new = g.W.Write.contents c.write.new.self in
    let bs = c.args.bytes.now in
    let before = c.loop.invariant in
    elim c.match-write.branch [
      | in-Ok w ↦ record {
        so_far = subst (λ n. Appends old new (take n bs)) (sym w.at-is) (appends_next old (g.W.Write.contents c.loop.writer) new bs c.loop.at w.in-Ok.count before.so_far w.in-Ok.ensures.bytes);
        within = omega (arith, w.at-is, w.in-Ok.ensures.bound, before.within, length-take (length bs - c.loop.at) (drop c.loop.at bs), length-drop c.loop.at bs);
      }
      | in-Err w ↦ record {
        so_far = subst (λ n. Appends old new (take n bs)) (sym w.at-is) (Appends-kept old (g.W.Write.contents c.loop.writer) new (take c.loop.at bs) before.so_far w.in-Err.ensures.bytes);
        within = omega (arith, w.at-is, before.within);
      }
    ]
