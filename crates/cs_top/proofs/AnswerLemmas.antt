-- What is put for a line, by the answer that was found for it.
--
--   has_costs       an answer with a text costs what its text costs
--   passes          a line whose answer was put is passed
--   stops_there     a line whose answer wasn't put whole ends the script
--   line_ok, line_err        the same of the result of putting it
--   said_came       what came of it, as the result of putting it says
use Rattle.std.proofs.Common.{◌≡◌, ◌≢◌, ◌==◌, ℕ, ◌≤◌, false, List, [], ◌∷◌, ◌++◌, length, inl, inr, refl, sym, subst}
use Rattle.std.specs.Prelude.{Option, None, Result, Ok, Err, OnOk, OnErr, IfOk, IfErr}
use Rattle.cs_base.specs.outside.Causes.{Rose}
use Rattle.cs_base.specs.outside.Outside.{Grew, GrewByPrefix}
use Rattle.cs_model.specs.Corpus.{Corpus}
use Rattle.cs_model.specs.Outputs.{MayPut, line_fault, memory_text, read_text}
use Rattle.cs_indexing.specs.CommandLine.{failed, CausedBy}
use Rattle.cs_indexing.specs.Met.{Wrote}
use Rattle.cs_indexing.specs.Views.{of_script, stop_ending}
use Rattle.cs_indexing.specs.declared.unread.ScriptStop.{ScriptStop}
use Rattle.cs_indexing.specs.declared.unread.ScriptStop.TheVariants as scripts
use Rattle.cs_top.specs.Answering.{CameCounts, Costs, FileView, HasText, MayAnswer, came_of_answer, line_bytes}
use Rattle.cs_top.specs.HitForms.{AtHand}
use Rattle.cs_top.specs.ScriptEndings.{Passes, StopsAt}
use Rattle.cs_top.specs.declared.script.WhatCame.{WhatCame}
use Rattle.cs_top.specs.declared.script.WhatCame.TheVariants as came
use Rattle.cs_top.specs.declared.script.answers.Answer.{Answer}
use Rattle.cs_top.specs.declared.script.answers.Answer.TheVariants as answers
use Rattle.cs_top.proofs.ShownLemmas.{memory_shown}
use Rattle.cs_top.proofs.TextsApart.{memory_apart}

plain_costs : (n m : ℕ) (t : List ℕ) → n ≤ m → t ≢ read_text → Costs came.Answered n m t
plain_costs n m t later other = record { later = later; read = λ e. absurd (other e); clean = λ h. other; unchanged = λ e. cc e }

pub has_costs : (A : MayPut) (l : List ℕ) (a : Answer) (n m : ℕ) → A l memory_text → HasText A l a → CameCounts (came_of_answer a) n m → (t : List ℕ) × (line_bytes a ≡ t ++ 10 ∷ []) × A l t × Costs (came_of_answer a) n m t
has_costs A l (answers.Text b) n m memory (t, is, a, other) c = (t, is, a, plain_costs n m t c.later other)
has_costs A l answers.Memory n m memory h c = (memory_text, refl, memory, plain_costs n m memory_text c.later memory_apart)
has_costs A l answers.Read n m memory h c = (read_text, refl, h, record { later = c.later; read = λ e. c.read refl; clean = λ low. absurd (low refl); unchanged = λ e. cc e })
has_costs A l (answers.Changed b) n m memory h c = absurd h

module _ (docs : AtHand) (f : FileView) (k : Corpus) (l : ℕ × List ℕ) (a : Answer) (n m : ℕ) (some : l.1 ≢ []) (read : line_fault l ≡ None) (h : HasText (MayAnswer docs f k) l.1 a) (c : CameCounts (came_of_answer a) n m) where
  text_there : (t : List ℕ) × (line_bytes a ≡ t ++ 10 ∷ []) × MayAnswer docs f k l.1 t × Costs (came_of_answer a) n m t
  text_there = has_costs (MayAnswer docs f k) l.1 a n m (inl (memory_shown docs k l.1)) h c

  pub passes : (old new : Option (List ℕ)) → Grew old (line_bytes a) new → Passes (MayAnswer docs f k) l old new (came_of_answer a) n m
  passes old new g =
      let x = text_there in
      inr (some, read, (x.0, x.2, x.3, subst (λ b. Grew old b new) x.1 g))

  pub stops_there : (w : Wrote) → GrewByPrefix w.old (line_bytes a) w.new → Rose w.before w.now → StopsAt (MayAnswer docs f k) failed l w n m
  stops_there w g rose =
      let x = text_there in
      (some, read, rose, (came_of_answer a, x.0, x.2, x.3, subst (λ b. GrewByPrefix w.old b w.new) x.1 g))

  -- a line whose answer was put
  pub line_ok : {E : Type 0} (r : Result WhatCame E) (old new : Option (List ℕ)) → OnOk r (Grew old (line_bytes a) new) → IfOk r (λ x. x ≡ came_of_answer a) → IfOk r (λ came. Passes (MayAnswer docs f k) l old new came n m)
  line_ok (Ok x) old new g is = subst (λ y. Passes (MayAnswer docs f k) l old new y n m) (sym is) (passes old new g)
  line_ok (Err e) old new g is = tt

  -- and one whose answer wasn't put whole
  pub line_err : (r : Result WhatCame ScriptStop) (w : Wrote) → OnErr r (GrewByPrefix w.old (line_bytes a) w.new) → IfErr r (λ s. s ≡ scripts.Failed) → IfErr r (λ s. CausedBy (stop_ending (of_script s)) w.before w.now)
      → IfErr r (λ s. StopsAt (MayAnswer docs f k) (stop_ending (of_script s)) l w n m)
  line_err (Ok x) w g is cause = tt
  line_err (Err s) w g is cause =
      subst (λ x. StopsAt (MayAnswer docs f k) (stop_ending (of_script x)) l w n m) (sym is)
      (stops_there w g (subst (λ x. CausedBy (stop_ending (of_script x)) w.before w.now) is cause).0)

-- what holds of what came holds of the result that says so
pub said_came : {E : Type 0} (r : Result WhatCame E) (a : WhatCame) (P : WhatCame → Type 0) → IfOk r (λ x. x ≡ a) → P a → IfOk r P
said_came (Ok x) a P is p = subst P (sym is) p
said_came (Err e) a P is p = tt

pub some_bytes : (l : List ℕ) → false ≡ (length l == 0) → l ≢ []
some_bytes [] h e = absurd cc
some_bytes (b ∷ l) h e = absurd cc
