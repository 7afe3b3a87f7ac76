use Rattle.std.proofs.Common.{◌+◌, ◌++◌, refl, sym, ap, subst, ◌∙◌, append-nil, arith, get_or}
use Rattle.std.proofs.lemmas.List.{drop_all}
use Rattle.cs_build.specs.WordRuns.{run_places_from}
use Rattle.cs_build.proofs.FillLemmas.{NextPlaces, span_ends, next_places}
use Rattle.cs_build.proofs.filling.run_places.Goals as goal

pub loop-i-init : goal.loop-i-init
loop-i-init c = subst (λ xs. NextPlaces xs 0 c.args.words c.args.runs.now) (sym c.in_ok-places.ensures.items) (record { told = refl; spans = c.requires.spans })

pub overflow_add-run : goal.overflow_add-run
overflow_add-run c = omega (arith, span_ends c.loop-i.places.items c.loop-i.i c.args.words c.args.runs.now (record { lo = 0; words = 0; rows = 0 }) c.loop-i-test.true c.loop-i.invariant, c.ranges.words)

pub overflow_cast-i : goal.overflow_cast-i
overflow_cast-i c = omega (arith, c.loop-i-test.true, c.requires.few, c.ranges.words)

pub loop-i-preserved : goal.loop-i-preserved
loop-i-preserved c =
    next_places c.loop-i.places.items c.resize.new.self.items c.loop-i.i c.args.words ((get_or c.args.runs.now c.loop-i.i (record { lo = 0; words = 0; rows = 0 })).lo + (get_or c.args.runs.now c.loop-i.i (record { lo = 0; words = 0; rows = 0 })).words) _ c.args.runs.now (record { lo = 0; words = 0; rows = 0 }) c.loop-i-test.true refl c.loop-i.places.ok.0 c.in_ok-resize.ensures.items c.loop-i.invariant

pub returns : goal.returns
returns c =
    sym (append-nil c.loop-i.places.items) ∙ sym (ap (λ rs. c.loop-i.places.items ++ run_places_from c.loop-i.i rs) (drop_all c.loop-i.i c.args.runs.now (omega (arith, c.loop-i-test.false)))) ∙ c.loop-i.invariant.told
