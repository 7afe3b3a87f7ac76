use Rattle.std.proofs.Common.{◌≡◌, ◌≤◌, ◌+◌, ◌∙◌, ◌++◌, ◌∷◌, [], List, ℕ, Some, ap, append_assoc, arith, drop, length, length-append, map, rules, sym}
use Rattle.std.specs.List.{zip}
use Rattle.std.specs.Iterator.Adapters.{zip_first, zip_second}
use Rattle.std.specs.Slice.Iter.{iter_rest}
use Rattle.std.proofs.lemmas.List.{drop_all}
use Rattle.std.proofs.lemmas.Result.{on_ok_weaker}
use Rattle.std.proofs.lemmas.Slice.Zip.{length-zip, zip_end, zip_turn}
use Rattle.json.specs.Token.{begin_array, end_array}
use Rattle.json.specs.Tree.{items_tokens}
use Rattle.serde_json.specs.View.{items_of}
use Rattle.serde_json.specs.Written.{items_outline}
use Rattle.cs_model.specs.Replies.{HitShown}
use Rattle.cs_model_excerpts.specs.ExcerptReplies.{excerpted_data}
use Rattle.cs_json.specs.ReplyTokens.{data_tokens}
use Rattle.cs_json.proofs.ReplyTokensLemmas.{zip_here}
use Rattle.cs_json.proofs.reply.put_excerpted.Goals as goal

pub loop-hit-preserved : goal.loop-hit-preserved
loop-hit-preserved c =
    let l = c.loop-hit in
    let hits = c.args.hits.now in
    let excerpts = c.args.excerpts.now in
    let n = length l.yielded in
    let first : iter_rest (zip_first c.into_iter-hit-iterator.result) ≡ hits = search rules in
    let second : iter_rest (zip_second c.into_iter-hit-iterator.result) ≡ excerpts = search rules in
    let is : c.next.result ≡ Some (c.in-Some.hit, c.in-Some.excerpt) = search rules in
    let turn = zip_turn hits excerpts l.yielded c.into_iter-hit-iterator.result l.hit-iterator c.next.new.self c.next.result first second l.yielded_by (c.in-Some.hit, c.in-Some.excerpt) is c.next.ensures.steps in
    let count : length (l.yielded ++ (c.in-Some.hit, c.in-Some.excerpt) ∷ []) ≡ n + 1 = length-append l.yielded ((c.in-Some.hit, c.in-Some.excerpt) ∷ []) in
    let text = λ (ps : List (HitShown × List ℕ)). items_tokens (items_outline (items_of (map excerpted_data ps))) in
    let here = zip_here hits excerpts n c.in-Some.hit.now c.in-Some.excerpt.now turn.0 turn.1 (turn.2 c.in-Some.hit.now) (turn.3 c.in-Some.excerpt.now) in
    let mine = data_tokens (excerpted_data (c.in-Some.hit.now, c.in-Some.excerpt.now)) in
    let rest = text (drop (n + 1) (zip hits excerpts)) in
    let done = c.in_ok-put_with_excerpt.ensures in (
      ap (λ m. c.put_with_excerpt.new.out.tokens ++ text (drop m (zip hits excerpts))) count ∙ ap (λ ts. ts ++ rest) done.ok ∙ append_assoc l.out.tokens mine rest
          ∙ ap (λ ts. l.out.tokens ++ ts) (sym (ap text here)) ∙ l.invariant.0,
      done.before ∙ l.invariant.1,
    )

pub returns-clause-ok : goal.returns-clause-ok
returns-clause-ok c =
    let l = c.loop-hit in
    let hits = c.args.hits.now in
    let excerpts = c.args.excerpts.now in
    let first : iter_rest (zip_first c.into_iter-hit-iterator.result) ≡ hits = search rules in
    let second : iter_rest (zip_second c.into_iter-hit-iterator.result) ≡ excerpts = search rules in
    let end = zip_end hits excerpts l.yielded c.into_iter-hit-iterator.result l.hit-iterator c.next.new.self c.next.result first second l.yielded_by c.in-None.is c.next.ensures.steps in
    let past : length (zip hits excerpts) ≤ length l.yielded = omega (arith, end, length-zip hits excerpts) in
    let text = λ (ps : List (HitShown × List ℕ)). items_tokens (items_outline (items_of (map excerpted_data ps))) in
    on_ok_weaker {P = c.end_array.new.self.tokens ≡ l.out.tokens ++ end_array ∷ []} c.end_array.result
    (λ h. h ∙ ap (λ ps. l.out.tokens ++ text ps) (sym (drop_all (length l.yielded) (zip hits excerpts) past)) ∙ l.invariant.0
    ∙ ap (λ ts. ts ++ text (zip hits excerpts)) c.in_ok-begin_array.ensures.ok ∙ append_assoc c.args.out.now.tokens (begin_array ∷ []) (text (zip hits excerpts)))
    c.end_array.ensures.ok
