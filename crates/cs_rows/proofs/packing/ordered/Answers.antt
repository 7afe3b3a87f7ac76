use Rattle.std.proofs.Common.{◌∙◌, ap, map}
use Rattle.cs_rows.specs.Packing.{apart, post_of_key}
use Rattle.cs_rows.specs.declared.packing.TheConstants.{NO_PLACE}
use Rattle.cs_rows.proofs.PackingLemmas.{ordered_is}
use Rattle.cs_rows.proofs.packing.ordered.Goals as goal

pub returns : goal.returns
returns c = λ rows are packed.
    ordered_is c.args.weights rows c.args.keys.items c.sort.new.self.items c.in_ok-rows.rows.posts are packed c.sort.ensures.permutation c.in_ok-sort.ensures.sorted
    (c.in_ok-rows.ensures ∙ ap (λ ks. map (post_of_key c.args.weights) (apart NO_PLACE ks)) c.deref.ensures.value)
