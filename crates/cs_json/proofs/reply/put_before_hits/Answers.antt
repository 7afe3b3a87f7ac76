use Rattle.std.proofs.Common.{◌≡◌, ◌++◌, ◌∷◌, [], codes, rules}
use Rattle.std.proofs.lemmas.Result.{on_ok_weaker}
use Rattle.json.specs.Token.{key}
use Rattle.serde_json.specs.Data.{object}
use Rattle.cs_model.specs.Replies.{facet_members, table_data}
use Rattle.cs_json.specs.ReplyTokens.{data_tokens}
use Rattle.cs_json.proofs.ReplyTokensLemmas.{up_to_hits}
use Rattle.cs_json.proofs.reply.put_before_hits.Goals as goal

pub returns-clause-ok : goal.returns-clause-ok
returns-clause-ok c =
    let r = c.args.reply.now in
    let completions : c.put_list.new.out.tokens ≡ c.key.new.self.tokens ++ data_tokens (table_data r.completions) = search rules in
    let facets : c.put_facets.new.out.tokens ≡ c.key-2.new.self.tokens ++ data_tokens (object (facet_members r.facets)) = search rules in
    on_ok_weaker {P = c.key-3.new.self.tokens ≡ c.put_facets.new.out.tokens ++ key (codes "hits") ∷ []} c.key-3.result
    (λ hits. rw (hits, facets, c.in_ok-key-2.ensures.ok, completions, c.in_ok-key.ensures.ok, c.in_ok-begin_object.ensures.ok) (up_to_hits c.args.out.now.tokens r)) c.key-3.ensures.ok
