use Rattle.std.proofs.Common.{◌≡◌, ◌++◌, drop, length, map}
use Rattle.std.specs.List.{zip}
use Rattle.json.specs.Tree.{items_tokens}
use Rattle.serde_json.specs.View.{items_of}
use Rattle.serde_json.specs.Written.{items_outline}
use Rattle.cs_model_excerpts.specs.ExcerptReplies.{excerpted_data}
use Rattle.cs_json.proofs.reply.put_excerpted.Given as goal

abbrev pub invariant-loop-hit : goal.invariant-loop-hit
invariant-loop-hit l =
    let rest = items_tokens (items_outline (items_of (map excerpted_data (drop (length l.yielded) (zip l.hits l.excerpts))))) in
    let all = items_tokens (items_outline (items_of (map excerpted_data (zip l.hits l.excerpts)))) in
    (l.out.tokens ++ rest ≡ l.initial.out.tokens ++ all) × (l.out.before ≡ l.initial.out.before)
