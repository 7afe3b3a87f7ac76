use Rattle.std.proofs.Common.{◌≡◌, ◌++◌, ◌∷◌, [], append_assoc}
use Rattle.std.proofs.lemmas.Result.{on_ok_weaker}
use Rattle.json.specs.Token.{end_object}
use Rattle.cs_json.proofs.reply.put_totals.Goals as goal

pub returns-clause-ok : goal.returns-clause-ok
returns-clause-ok c =
    on_ok_weaker {P = c.end_object.new.self.tokens ≡ c.put_number-2.new.out.tokens ++ end_object ∷ []} c.end_object.result
    (λ h. rw (h, c.in_ok-put_number-2.ensures.ok, c.in_ok-put_number.ensures.ok, c.in_ok-begin_object.ensures.ok) (simp append_assoc)) c.end_object.ensures.ok
