use Rattle.std.proofs.Common.{◌≡◌, ◌++◌, drop, map}
use Rattle.json.specs.Tree.{items_tokens}
use Rattle.serde_json.specs.View.{items_of}
use Rattle.serde_json.specs.Written.{items_outline}
use Rattle.cs_json.proofs.reply.put_list.Given as goal

abbrev pub invariant-loop-item : goal.invariant-loop-item
invariant-loop-item g l =
    let rest = items_tokens (items_outline (items_of (map g.T.Listed.json (drop l.item-index l.items)))) in
    let all = items_tokens (items_outline (items_of (map g.T.Listed.json l.items))) in
    (l.out.tokens ++ rest ≡ l.initial.out.tokens ++ all) × (l.out.before ≡ l.initial.out.before)
