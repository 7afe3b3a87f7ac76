use Rattle.std.proofs.Common.{◌≡◌, ◌∙◌, ◌++◌, [], ap, rules}
use Rattle.json.specs.Print.{print}
use Rattle.cs_model.specs.Replies.{hits_data, reply_text}
use Rattle.cs_json.specs.ReplyTokens.{after_hits, before_hits, data_tokens}
use Rattle.cs_json.proofs.ReplyTokensLemmas.{print_around}
use Rattle.cs_json.proofs.reply.reply_bytes.Goals as goal

pub returns : goal.returns
unfolding reply_text
returns c =
    let r = c.args.r.now in
    let hits = hits_data r.hits in
    let before : c.put_after_hits.new.out.before ≡ [] = search rules in
    let list : c.put_list.new.out.tokens ≡ c.put_before_hits.new.out.tokens ++ data_tokens hits = search rules in
    let start : c.put_before_hits.new.out.tokens ≡ before_hits r = search rules in
    let tokens = c.in_ok-put_after_hits.ensures.ok ∙ ap (λ ts. ts ++ after_hits r) (list ∙ ap (λ ts. ts ++ data_tokens hits) start) in
    record { ok = c.into_inner.ensures.items ∙ ap (λ bs. bs ++ print c.put_after_hits.new.out.tokens) before ∙ print_around r hits c.put_after_hits.new.out.tokens tokens }
