use Rattle.std.proofs.Common.{arith, ◌∙◌, sym, ap}
use Rattle.std.specs.Str.{bytes_eq}
use Rattle.std.specs.String.{string_bytes}
use Rattle.cs_system.proofs.KnownPlaces.{found_place, no_place}
use Rattle.cs_system.proofs.known.known_place.Goals as goal

pub returns-then-eq : goal.returns-then-eq
returns-then-eq g c =
    found_place c.args.known.now c.args.name.now c.loop-i.i c.index-known-i.result c.loop-i-test.true c.loop-i.invariant
    (ap (λ f. bytes_eq (string_bytes f.name) c.args.name.now) (sym c.index-known-i.is) ∙ rw c.as_str.ensures.value at (sym c.eq.ensures ∙ c.if-eq.true))

pub returns : goal.returns
returns g c = no_place c.args.known.now c.args.name.now (λ k d h. c.loop-i.invariant k d (omega arith))
