use Rattle.std.proofs.Common.{arith, ◌∙◌, sym, ap}
use Rattle.std.specs.Str.{bytes_eq}
use Rattle.cs_base.proofs.Places.{found_place, no_place}
use Rattle.cs_base.proofs.outside.mem_files.place_of.Goals as goal

pub returns-then-eq : goal.returns-then-eq
returns-then-eq c =
    found_place c.args.files.now c.args.name.now c.loop-i.i c.index-files-i.result c.loop-i-test.true c.loop-i.invariant
    (ap (λ f. bytes_eq f.name c.args.name.now) (sym c.index-files-i.is) ∙ rw c.as_str.ensures at (sym c.eq.ensures ∙ c.if-eq.true))

pub returns : goal.returns
returns c = no_place c.args.files.now c.args.name.now (λ k d h. c.loop-i.invariant k d (omega arith))
