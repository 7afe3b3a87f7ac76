-- One line of a script that adds documents, deletes them and asks: the step that it is, and how its text is put.
--
--   behind_adds            what holds of each byte of a line that adds holds of those of its document
--   IsToldStep b s l came n m bytes e     these bytes are put for a step to the state e, by what comes of the line
--   change_step            of a line that adds or deletes
--   asked_step             of a line that asks
--   live_ok, live_err      a line whose text was put, and one whose text wasn't put whole
--   answer_text            over any files: the text of an answer, by what comes of the line
use Rattle.std.proofs.Common.{◌≡◌, ◌≢◌, ℕ, Bool, true, false, List, [], ◌∷◌, ◌++◌, drop, length, inl, inr, refl, sym, ◌∙◌, ap, subst, arith}
use Rattle.std.specs.Prelude.{All, codes, if◌then◌else◌, Option, None, Result, Ok, Err, OnOk, OnErr, IfOk, IfErr}
use Rattle.std.proofs.lemmas.List.{append_cancel_right}
use Rattle.std.proofs.lemmas.List.Elements.{All-drop}
use Rattle.cs_model.specs.Answers.{begins}
use Rattle.cs_base.specs.outside.Causes.{Rose}
use Rattle.cs_base.specs.outside.Outside.{Grew, GrewByPrefix}
use Rattle.cs_file.specs.Indexes.{CausedReads}
use Rattle.cs_hub.specs.Outcomes.{ComesOf, IsRightOutcome, fails_read}
use Rattle.cs_hub.specs.declared.outcomes.RequestOutcome.{RequestOutcome}
use Rattle.cs_hub.specs.declared.outcomes.RequestOutcome.TheVariants as outcomes
use Rattle.cs_json.specs.FaultTexts.{fault_text}
use Rattle.cs_model.specs.Corpus.{Corpus}
use Rattle.cs_model.specs.Outputs.{IsChangedText, line_fault, memory_text, read_text, text}
use Rattle.cs_model.specs.Parameters.{request_of}
use Rattle.cs_model.specs.Replies.{reply_text}
use Rattle.cs_model_index.specs.Sections.{file_corpus, image_of}
use Rattle.cs_model_live.specs.Courses.{IsLineStep, MayFail, failed, own}
use Rattle.cs_model_live.specs.LiveLines.{LiveLine, Outcome as Became, adds, asks, deletes, line_outcome, live_line, outcome, outcome_state, outcome_text, said}
use Rattle.cs_model_live.specs.LiveStates.{LiveState}
use Rattle.cs_indexing.specs.CommandLine.{CausedBy}
use Rattle.cs_indexing.specs.Met.{Wrote}
use Rattle.cs_indexing.specs.Views.{of_script, stop_ending}
use Rattle.cs_indexing.specs.declared.unread.ScriptStop.{ScriptStop}
use Rattle.cs_indexing.specs.declared.unread.ScriptStop.TheVariants as scripts
use Rattle.cs_indexing.specs.declared.words.HitForm.TheVariants.{Titled}
use Rattle.cs_top.specs.Answering.{Costs, came_of_answer, line_bytes}
use Rattle.cs_top.specs.LiveAnswering.{LiveLeaves, LiveStanding, Tells}
use Rattle.cs_top.specs.LiveSteps.{IsLiveStep, LivePasses, LineText}
use Rattle.cs_top.specs.LiveTexts.{HasOutcomeText, IsLiveText, told_bytes}
use Rattle.cs_top.specs.OutcomeTexts.{IsAnswerBy, MayTell, came_of_outcome}
use Rattle.cs_top.specs.PutTexts.{TextOf}
use Rattle.cs_top.specs.ScriptEndings.{StopsAt}
use Rattle.cs_top.specs.declared.live.outcomes.Outcome.{Outcome}
use Rattle.cs_top.specs.declared.script.WhatCame.{WhatCame}
use Rattle.cs_top.specs.declared.script.WhatCame.TheVariants.{Answered}
use Rattle.cs_top.specs.declared.script.answers.Answer.{Answer}
use Rattle.cs_top.proofs.LineTexts.{refused_own, refused_text, request_text}
use Rattle.cs_top.proofs.LiveTextsApart.{live_apart}
use Rattle.cs_top.proofs.ShownLemmas.{reply_in}
use Rattle.cs_top.proofs.TextsApart.{changed_unread}

-- ---- what stands behind the first bytes of a line
abbrev rest_of : LiveLine → List ℕ
rest_of (adds x) = x
rest_of (deletes x) = x
rest_of (asks x) = x

rest_all : (P : ℕ → Type 0) (p q : Bool) (n m : ℕ) (l : List ℕ) → All P l → All P (rest_of (if p then adds (drop n l) else (if q then deletes (drop m l) else asks l)))
rest_all P true q n m l h = All-drop P n l h
rest_all P false true n m l h = All-drop P m l h
rest_all P false false n m l h = h

pub behind_adds : (P : ℕ → Type 0) (l x : List ℕ) → live_line l ≡ adds x → All P l → All P x
behind_adds P l x is h =
    subst (All P) (ap rest_of is) (rest_all P (begins (codes "add ") l) (begins (codes "del ") l) (length (codes "add ")) (length (codes "del ")) l h)

-- ---- a step that is told
pub record IsToldStep (b : List ℕ) (s : LiveState) (l : List ℕ) (came : WhatCame) (n m : ℕ) (bytes : List ℕ) (e : LiveState) : Type 0 where
  pub text : List ℕ
  pub is : bytes ≡ text ++ 10 ∷ []
  pub step : IsLiveStep b s l text e
  pub cost : Costs came n m text

-- nothing was read
no_cost : (n m : ℕ) (t : List ℕ) → m ≡ n → t ≢ read_text → Costs Answered n m t
no_cost n m t calm other = record { later = omega (arith, calm); read = λ e. absurd (other e); clean = λ h. other; unchanged = λ e. cc e }

-- ---- a change
module _ (b : List ℕ) (s : LiveState) (l : List ℕ) (o : Outcome) (h : HasOutcomeText o) where
  same_text : (t : List ℕ) → told_bytes o ≡ t ++ 10 ∷ [] → h.0 ≡ t
  same_text t is = append_cancel_right h.0 t (10 ∷ []) (sym h.1 ∙ is)

  step_by : (m : Became) (e : LiveState) → m ≡ outcome (image_of b).weights (file_corpus b) s l → Tells b s m o e → IsLineStep (image_of b).weights (file_corpus b) s l h.0 e
  step_by m e same (inl (is, state)) =
      own (same_text (outcome_text (file_corpus b) s m) is ∙ ap (outcome_text (file_corpus b) s) same) (state ∙ ap (outcome_state (image_of b).weights (file_corpus b) s) same)
  step_by m e same (inr (is, state)) = failed (inl (same_text memory_text is)) state

  pub change_step : (m : Became) (e : LiveState) (n now : ℕ) → m ≡ outcome (image_of b).weights (file_corpus b) s l → Tells b s m o e → now ≡ n → IsToldStep b s l Answered n now (told_bytes o) e
  change_step m e n now same tells calm = record {
    text = h.0;
    is = h.1;
    step = record { step = step_by m e same tells; unchanged = live_apart.unchanged h.0 h.2 };
    cost = no_cost n now h.0 calm (live_apart.unread h.0 h.2);
  }

-- ---- a question
-- what came of the parameters, over any files
came_text : (p : List ℕ) (o : RequestOutcome) (x y : LiveStanding) (t : List ℕ) → ComesOf LiveLeaves p x o y → MayTell None o t → TextOf IsLiveText (came_of_outcome o) t
unfolding fault_text
came_text p (outcomes.Refused e) x y t h (inl is) = subst IsLiveText (sym is) (inl (refused_own Titled e h.1))
came_text p (outcomes.Refused e) x y t h (inr is) = subst IsLiveText (sym is) live_apart.memory
came_text p (outcomes.Replied q r) x y t h (inl is) = subst IsLiveText (sym is) (inl (inl (reply_in None q.query r)))
came_text p (outcomes.Replied q r) x y t h (inr is) = subst IsLiveText (sym is) live_apart.memory
came_text p outcomes.Read x y t h is = is
came_text p (outcomes.Changed rule at) x y t h (inl is) = inl (rule, at, is)
came_text p (outcomes.Changed rule at) x y t h (inr is) = inr is
came_text p outcomes.Memory x y t h is = subst IsLiveText (sym is) live_apart.memory

pub answer_text : (p : List ℕ) (o : RequestOutcome) (a : Answer) (x y : LiveStanding) → ComesOf LiveLeaves p x o y → (by : IsAnswerBy None o a) → TextOf IsLiveText (came_of_answer a) by.text
answer_text p o a x y comes by = subst (λ c. TextOf IsLiveText c by.text) (sym by.came) (came_text p o x y by.text comes by.told)

-- by what may be put for it
costs_by : (own_text : (t : List ℕ) → IsLiveText t → t ≢ read_text) (k : Corpus) (p : List ℕ) (o : RequestOutcome) (t : List ℕ) (n m : ℕ) → IsRightOutcome k p o → TextOf IsLiveText (came_of_outcome o) t → CausedReads (fails_read o) n m
    → Costs (came_of_outcome o) n m t
costs_by apart k p (outcomes.Refused e) t n m r h c = no_cost n m t (c.quiet refl) (apart t h)
costs_by apart k p (outcomes.Replied q x) t n m r h c = no_cost n m t (c.quiet refl) (apart t h)
costs_by apart k p outcomes.Read t n m r h c = record { later = c.later; read = λ e. c.failed refl; clean = λ low. absurd (low refl); unchanged = λ e. cc e }
costs_by apart k p (outcomes.Changed rule at) t n m r h c = absurd r
costs_by apart k p outcomes.Memory t n m r h c = no_cost n m t (c.quiet refl) (apart t h)

module _ (b : List ℕ) (s : LiveState) (l p : List ℕ) (line : live_line l ≡ asks p) where
  abbrev K : Corpus
  K = file_corpus b

  own_step : (t : List ℕ) → t ≡ text s.corpus p → IsLineStep (image_of b).weights K s l t s
  own_step t is =
      let same : outcome (image_of b).weights K s l ≡ said (text s.corpus p) = ap (line_outcome (image_of b).weights K s) line in
      own (is ∙ sym (ap (outcome_text K s) same)) (sym (ap (outcome_state (image_of b).weights K s) same))

  no_memory : (t : List ℕ) → t ≡ memory_text → IsLineStep (image_of b).weights K s l t s
  no_memory t is = failed (inl is) refl

  asked_line : (o : RequestOutcome) (x y : LiveStanding) (t : List ℕ) → ComesOf LiveLeaves p x o y → IsRightOutcome s.corpus p o → MayTell None o t → IsLineStep (image_of b).weights K s l t s
  asked_line (outcomes.Refused e) x y t h right (inl is) = own_step t (is ∙ sym (refused_text s.corpus p e h.0 h.1))
  asked_line (outcomes.Refused e) x y t h right (inr is) = no_memory t is
  asked_line (outcomes.Replied q r) x y t h right (inl is) =
      own_step t (is ∙ ap reply_text right ∙ sym (request_text s.corpus p (request_of p) h.0 refl))
  asked_line (outcomes.Replied q r) x y t h right (inr is) = no_memory t is
  asked_line outcomes.Read x y t h right is = failed (inr (subst (λ z. MayFail z t) (sym line) (h.0, inl is))) refl
  asked_line (outcomes.Changed rule at) x y t h right is = absurd right
  asked_line outcomes.Memory x y t h right is = no_memory t is

  still : (o : RequestOutcome) (t : List ℕ) → IsRightOutcome s.corpus p o → TextOf IsLiveText (came_of_outcome o) t → ¬ IsChangedText t
  still (outcomes.Refused e) t right h = live_apart.unchanged t h
  still (outcomes.Replied q r) t right h = live_apart.unchanged t h
  still outcomes.Read t right h = λ c. changed_unread t c h
  still (outcomes.Changed rule at) t right h = absurd right
  still outcomes.Memory t right h = live_apart.unchanged t h

  pub asked_step : (o : RequestOutcome) (a : Answer) (x y : LiveStanding) (n m : ℕ) → ComesOf LiveLeaves p x o y → IsRightOutcome s.corpus p o → IsAnswerBy None o a → CausedReads (fails_read o) n m → IsToldStep b s l (came_of_answer a) n m (line_bytes a) s
  asked_step o a x y n m comes right by caused =
      let own_text = came_text p o x y by.text comes by.told in
      record {
        text = by.text;
        is = by.is;
        step = record { step = asked_line o x y by.text comes right by.told; unchanged = still o by.text right own_text };
        cost = subst (λ c. Costs c n m by.text) (sym by.came) (costs_by live_apart.unread s.corpus p o by.text n m right own_text caused);
      }

-- ---- a line whose text is put
module _ (b : List ℕ) (s : LiveState) (l : ℕ × List ℕ) (some : l.1 ≢ []) (read : line_fault l ≡ None) {came : WhatCame} {n m : ℕ} {bytes : List ℕ} {e : LiveState} (h : IsToldStep b s l.1 came n m bytes e) where
  passes : (old new : Option (List ℕ)) → Grew old bytes new → LivePasses b s l old new came n m e
  passes old new g = inr (some, read, (h.text, h.step, h.cost, subst (λ x. Grew old x new) h.is g))

  pub live_ok : {E : Type 0} (P : LiveState → Type 0) (r : Result WhatCame E) (old new : Option (List ℕ)) → OnOk r (Grew old bytes new) → IfOk r (λ x. x ≡ came) → P e → IfOk r (λ x. (m' : LiveState) × LivePasses b s l old new x n m m' × P m')
  live_ok P (Ok x) old new g is over = (e, subst (λ y. LivePasses b s l old new y n m e) (sym is) (passes old new g), over)
  live_ok P (Err x) old new g is over = tt

  pub live_err : (r : Result WhatCame ScriptStop) (w : Wrote) → OnErr r (GrewByPrefix w.old bytes w.new) → IfErr r (λ z. z ≡ scripts.Failed) → IfErr r (λ z. CausedBy (stop_ending (of_script z)) w.before w.now)
      → IfErr r (λ z. StopsAt (LineText b s) (stop_ending (of_script z)) l w n m)
  live_err (Ok x) w g is cause = tt
  live_err (Err z) w g is cause =
      let rose : Rose w.before w.now = (subst (λ x. CausedBy (stop_ending (of_script x)) w.before w.now) is cause).0 in
      subst (λ x. StopsAt (LineText b s) (stop_ending (of_script x)) l w n m) (sym is)
      (some, read, rose, (came, h.text, (e, h.step), h.cost, subst (λ x. GrewByPrefix w.old x w.new) h.is g))
