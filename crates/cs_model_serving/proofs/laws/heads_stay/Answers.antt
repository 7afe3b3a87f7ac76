use Rattle.cs_model_serving.proofs.FrameLemmas.{frame-head, frame-too_long, frame-within}
use Rattle.cs_model_serving.proofs.laws.heads_stay.Goals as goal

pub returns-clause-stay : goal.returns-clause-stay
returns-clause-stay c = record { head = frame-head; too_long = frame-too_long }

pub returns-clause-within : goal.returns-clause-within
returns-clause-within c = λ b skip end h. let w = frame-within b skip end h in (w.0.text, w.0.within, w.1)
