use Rattle.std.proofs.Common.{map, sym, refl, ◌∙◌, ap}
use Rattle.std.specs.Prelude.{Ok}
use Rattle.std.specs.String.{string_bytes}
use Rattle.std.specs.Vec.Iter.{into_iter_items}
use Rattle.std.proofs.lemmas.Iterator.{items_from_collect}
use Rattle.std.proofs.lemmas.Iterator.Adapters.{YieldsList-from_vec}
use Rattle.complete.specs.System.{words_given}
use Rattle.complete.proofs.startup.prepared.Goals as goal

pub returns-in_ok-look_ahead-in-Ok-clause-ok : goal.returns-in_ok-look_ahead-in-Ok-clause-ok
returns-in_ok-look_ahead-in-Ok-clause-ok g c =
    let args = c.in-Ok.args in
    ap (map string_bytes) (items_from_collect {E = Unit {0}} (Ok c.in_ok-words-in-Ok.words) c.in_ok-words-in-Ok.ensures.ran (YieldsList-from_vec (into_iter_items args) refl args.rest.ok.0))
    ∙ ap words_given (sym c.in-Ok.is)
