use Rattle.cs_model_serving.proofs.ServeLemmas.{serve-framed, serve-goes_on, serve-stays}
use Rattle.cs_model_serving.proofs.laws.heads_are_answered_in_order.Goals as goal

pub returns-clause-framed : goal.returns-clause-framed
returns-clause-framed c = serve-framed

pub returns-clause-go_on : goal.returns-clause-go_on
returns-clause-go_on c = serve-goes_on

pub returns-clause-stay : goal.returns-clause-stay
returns-clause-stay c = λ k b more h. let closed = serve-stays k b more h in (closed.responses, closed.done)
