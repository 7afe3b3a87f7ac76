use Rattle.std.proofs.Common.{◌≡◌, ◌++◌, ◌∷◌, [], append_assoc, codes, decimal, rules}
use Rattle.std.proofs.lemmas.Result.{on_ok_weaker}
use Rattle.json.specs.Token.{end_object, key, number, string}
use Rattle.cs_json.proofs.reply.HitShownListed.put.Goals as goal

pub returns-clause-ok : goal.returns-clause-ok
returns-clause-ok c =
    let h = c.args.self.now in
    let doc : c.put_number.new.out.tokens ≡ c.begin_object.new.self.tokens ++ key (codes "doc") ∷ number (decimal h.doc) ∷ [] = search rules in
    let score : c.put_number-2.new.out.tokens ≡ c.put_number.new.out.tokens ++ key (codes "score") ∷ number (decimal h.score) ∷ [] = search rules in
    let title : c.put_text.new.out.tokens ≡ c.put_number-2.new.out.tokens ++ key (codes "title") ∷ string h.title ∷ [] = search rules in
    on_ok_weaker {P = c.end_object.new.self.tokens ≡ c.put_text.new.out.tokens ++ end_object ∷ []} c.end_object.result
    (λ end. rw (end, title, score, doc, c.in_ok-begin_object.ensures.ok) (simp append_assoc)) c.end_object.ensures.ok
