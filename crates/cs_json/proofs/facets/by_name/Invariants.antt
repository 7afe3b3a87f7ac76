use Rattle.std.proofs.Common.{◌≡◌, map, take}
use Rattle.cs_model.specs.Replies.{facet_members}
use Rattle.cs_json.specs.ReplyTokens.{facets_in_order}
use Rattle.cs_json.proofs.facets.by_name.Given as goal

abbrev pub invariant-loop-facet : goal.invariant-loop-facet
invariant-loop-facet l = facets_in_order (map (λ f. f.now) l.ordered.items) ≡ facet_members (take l.facet-index l.facets)
