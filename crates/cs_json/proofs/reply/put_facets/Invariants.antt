use Rattle.std.proofs.Common.{◌≡◌, ◌++◌, drop, map}
use Rattle.json.specs.Tree.{members_tokens}
use Rattle.serde_json.specs.Written.{members_outline}
use Rattle.cs_json.specs.ReplyTokens.{facets_in_order}
use Rattle.cs_json.proofs.reply.put_facets.Given as goal

abbrev pub invariant-loop-facet : goal.invariant-loop-facet
invariant-loop-facet l =
    let rest = members_tokens (members_outline (facets_in_order (map (λ f. f.now) (drop l.facet-index l.facet-items)))) in
    let all = members_tokens (members_outline (facets_in_order (map (λ f. f.now) l.facet-items))) in
    (l.out.tokens ++ rest ≡ l.initial.out.tokens ++ all) × (l.out.before ≡ l.initial.out.before)
