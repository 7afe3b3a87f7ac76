-- What is put for a line, by what came of its parameters, over any files and over those that are answered.
--
--   text_line, change_line     a text of its own, and that of a change, as what is put
--   came_over                  what may come of the line over an engine, a file and files
--   text_by                    the text that may be put over a corpus
--   own_text_by                over any files the text of what came of the line
use Rattle.std.proofs.Common.{◌≡◌, ◌≢◌, ◌∙◌, ℕ, true, false, List, [], ◌∷◌, ◌++◌, inl, inr, refl, sym, ap, subst, Vec, Global}
use Rattle.std.specs.Prelude.{Option, Some, None, is_some, Result, Ok, Err, IfOk, OnErr}
use Rattle.std.specs.Result.{result_ok}
use Rattle.cs_base.specs.declared.memory.Memory.{Memory}
use Rattle.cs_base.specs.outside.Outside.{Held}
use Rattle.cs_engine.specs.Keeping.{EngineView}
use Rattle.cs_file.specs.Indexes.{CausedReads}
use Rattle.cs_hub.specs.Outcomes.{IsOutcome, IsRightOutcome, fails_read}
use Rattle.cs_hub.specs.declared.outcomes.RequestOutcome.{RequestOutcome}
use Rattle.cs_hub.specs.declared.outcomes.RequestOutcome.TheVariants as outcomes
use Rattle.cs_json.specs.FaultTexts.{fault_text}
use Rattle.cs_json.specs.declared.fault.Fault.TheVariants as faults
use Rattle.cs_model.specs.Corpus.{Corpus}
use Rattle.cs_model.specs.Faults.{changed_text}
use Rattle.cs_model.specs.Outputs.{memory_text, read_text}
use Rattle.cs_model.specs.Requests.{reply_of}
use Rattle.cs_query.specs.RequestView.{asked}
use Rattle.cs_top.specs.Answering.{AnswersOver, CameCounts, CameOver, FileView, HasText, MayAnswer, came_of_answer}
use Rattle.cs_top.specs.HitForms.{AtHand, IsReplyIn, form_by, shown_reply}
use Rattle.cs_top.specs.OutcomeTexts.{IsAnswerBy, MayTell, came_of_outcome}
use Rattle.cs_top.specs.PutTexts.{HasTextBy, IsOwnText, TextBy}
use Rattle.cs_top.specs.declared.script.WhatCame.TheVariants as came
use Rattle.cs_top.specs.declared.script.answers.Answer.{Answer}
use Rattle.cs_top.specs.declared.script.answers.Answer.TheVariants as answers
use Rattle.cs_top.proofs.LineTexts.{refused_own}
use Rattle.cs_top.proofs.ShownLemmas.{memory_shown, refused_shown, reply_in, reply_shown}
use Rattle.cs_top.proofs.TextsApart.{own_unread}

-- ---- what is put
-- a text, or without memory for it that of want of memory; no change is told
pub text_line : (docs : AtHand) (o : RequestOutcome) (u : List ℕ) (r : Result (Vec ℕ Global) Memory) (a : Answer) → MayTell docs o u → MayTell docs o memory_text → came_of_outcome o ≡ came.Answered → IfOk r (λ b. a ≡ answers.Text b) → OnErr r (a ≡ answers.Memory)
    → IfOk r (λ b. b.items ≡ u ++ 10 ∷ []) → IsAnswerBy docs o a
text_line docs o u (Ok b) a told memory answered whole none is =
    subst (IsAnswerBy docs o) (sym whole) (record { text = u; is = is; told = told; came = sym answered; changed = λ i t h. tt })
text_line docs o u (Err e) a told memory answered whole none is =
    subst (IsAnswerBy docs o) (sym none) (record { text = memory_text; is = refl; told = memory; came = sym answered; changed = λ i t h. tt })

-- that of a change, or without memory for it that of want of memory
pub change_line : (docs : AtHand) (rule at : ℕ) (r : Result (Vec ℕ Global) Memory) (o : Option (Vec ℕ Global)) → o ≡ result_ok r → IfOk r (λ b. b.items ≡ fault_text (faults.Changed rule at) ++ 10 ∷ []) → IsAnswerBy docs (outcomes.Changed rule at) (answers.Changed o)
unfolding fault_text
change_line docs rule at (Ok b) o is h =
    subst (λ x. IsAnswerBy docs (outcomes.Changed rule at) (answers.Changed x)) (sym is)
    (record { text = changed_text rule at; is = h; told = inl refl; came = refl; changed = λ i t broken. (rule, at, broken, h) })
change_line docs rule at (Err e) o is h =
    subst (λ x. IsAnswerBy docs (outcomes.Changed rule at) (answers.Changed x)) (sym is)
    (record { text = memory_text; is = refl; told = inr refl; came = refl; changed = λ i t broken. tt })

-- ---- what comes of the line
not_changed : (k : Corpus) (p : List ℕ) (o : RequestOutcome) → IsRightOutcome k p o → came_of_outcome o ≢ came.Changed
not_changed k p (outcomes.Refused e) h is = cc is
not_changed k p (outcomes.Replied q r) h is = cc is
not_changed k p outcomes.Read h is = cc is
not_changed k p (outcomes.Changed rule at) h is = h
not_changed k p outcomes.Memory h is = cc is

not_read : (o : RequestOutcome) → fails_read o ≡ false → came_of_outcome o ≢ came.Read
not_read (outcomes.Refused e) h is = cc is
not_read (outcomes.Replied q r) h is = cc is
not_read outcomes.Read h is = cc h
not_read (outcomes.Changed rule at) h is = cc is
not_read outcomes.Memory h is = cc is

pub came_counts : (o : RequestOutcome) (n m : ℕ) → CausedReads (fails_read o) n m → CameCounts (came_of_outcome o) n m
came_counts (outcomes.Refused e) n m h = record { later = h.later; read = λ is. absurd (cc is); quiet = λ other. h.quiet refl }
came_counts (outcomes.Replied q r) n m h = record { later = h.later; read = λ is. absurd (cc is); quiet = λ other. h.quiet refl }
came_counts outcomes.Read n m h = record { later = h.later; read = λ is. h.failed refl; quiet = λ other. absurd (other refl) }
came_counts (outcomes.Changed rule at) n m h = record { later = h.later; read = λ is. absurd (cc is); quiet = λ other. h.quiet refl }
came_counts outcomes.Memory n m h = record { later = h.later; read = λ is. absurd (cc is); quiet = λ other. h.quiet refl }

pub came_over : (docs : AtHand) (e : EngineView) (f : FileView) (held : Option Held) (p : List ℕ) (o : RequestOutcome) (a : Answer) (n m : ℕ) → IsAnswerBy docs o a → ((k : Corpus) → AnswersOver e f held k → IsRightOutcome k p o)
    → (is_some f.made ≡ true → fails_read o ≡ false) → CausedReads (fails_read o) n m → CameOver e f held (came_of_answer a) n m
came_over docs e f held p o a n m by right unread caused =
    subst (λ x. CameOver e f held x n m) (sym by.came) (record {
      unchanged = λ k over. not_changed k p o (right k over);
      unread = λ some. not_read o (unread some);
      counts = came_counts o n m caused;
    })

-- ---- its text
none_there : (o : Option (List ℕ)) → (is_some o ≡ true → ⊥) → o ≡ None
none_there None never = refl
none_there (Some b) never = absurd (never refl)

failing : true ≡ false → ⊥
failing e = cc e

module _ (docs : AtHand) (p : List ℕ) where
  -- over any files
  own_told : (o : RequestOutcome) (t : List ℕ) → IsOutcome p o → MayTell docs o t → TextBy (form_by docs) (came_of_outcome o) t
  unfolding fault_text
  own_told (outcomes.Refused e) t may (inl is) = subst (IsOwnText (form_by docs)) (sym is) (refused_own (form_by docs) e may.1)
  own_told (outcomes.Refused e) t may (inr is) = inr (inr is)
  own_told (outcomes.Replied q r) t may (inl is) = inl (subst (IsReplyIn (form_by docs)) (sym is) (reply_in docs q.query r))
  own_told (outcomes.Replied q r) t may (inr is) = inr (inr is)
  own_told outcomes.Read t may is = is
  own_told (outcomes.Changed rule at) t may (inl is) = inl (rule, at, is)
  own_told (outcomes.Changed rule at) t may (inr is) = inr is
  own_told outcomes.Memory t may is = inr (inr is)

  pub own_text_by : (o : RequestOutcome) (a : Answer) → IsAnswerBy docs o a → IsOutcome p o → HasTextBy (form_by docs) a
  own_text_by o a by may = (by.text, by.is, subst (λ x. TextBy (form_by docs) x by.text) (sym by.came) (own_told o by.text may by.told))

  module _ (f : FileView) (k : Corpus) where
    read_shown : IsOutcome p outcomes.Read → (is_some f.made ≡ true → true ≡ false) → MayAnswer docs f k p read_text
    read_shown may unread = inr (none_there f.made (λ some. failing (unread some)), may, refl)

    told_shown : (o : RequestOutcome) (t : List ℕ) → IsOutcome p o → IsRightOutcome k p o → (is_some f.made ≡ true → fails_read o ≡ false) → MayTell docs o t → MayAnswer docs f k p t
    told_shown (outcomes.Refused e) t may right unread (inl is) = subst (MayAnswer docs f k p) (sym is) (inl (refused_shown docs k p e may.0 may.1))
    told_shown (outcomes.Refused e) t may right unread (inr is) = subst (MayAnswer docs f k p) (sym is) (inl (memory_shown docs k p))
    told_shown (outcomes.Replied q r) t may right unread (inl is) =
        let same = is ∙ ap (shown_reply docs q.query) (right ∙ ap (reply_of k) (sym may.1)) in
        subst (MayAnswer docs f k p) (sym same) (inl (reply_shown docs k p (asked q) may.0 may.1))
    told_shown (outcomes.Replied q r) t may right unread (inr is) = subst (MayAnswer docs f k p) (sym is) (inl (memory_shown docs k p))
    told_shown outcomes.Read t may right unread is = subst (MayAnswer docs f k p) (sym is) (read_shown may unread)
    told_shown (outcomes.Changed rule at) t may right unread h = absurd right
    told_shown outcomes.Memory t may right unread is = subst (MayAnswer docs f k p) (sym is) (inl (memory_shown docs k p))

    read_by : (o : RequestOutcome) → IsOutcome p o → (is_some f.made ≡ true → fails_read o ≡ false) → came.Read ≡ came_of_outcome o → MayAnswer docs f k p read_text
    read_by (outcomes.Refused e) may unread is = absurd (cc is)
    read_by (outcomes.Replied q r) may unread is = absurd (cc is)
    read_by outcomes.Read may unread is = read_shown may unread
    read_by (outcomes.Changed rule at) may unread is = absurd (cc is)
    read_by outcomes.Memory may unread is = absurd (cc is)

    pub text_by : (o : RequestOutcome) (a : Answer) → IsAnswerBy docs o a → IsOutcome p o → IsRightOutcome k p o → (is_some f.made ≡ true → fails_read o ≡ false) → HasText (MayAnswer docs f k) p a
    text_by o (answers.Text b) by may right unread =
        let own : IsOwnText (form_by docs) by.text = subst (λ x. TextBy (form_by docs) x by.text) (sym by.came) (own_told o by.text may by.told) in
        (by.text, by.is, told_shown o by.text may right unread by.told, own_unread (form_by docs) by.text own)
    text_by o answers.Memory by may right unread = tt
    text_by o answers.Read by may right unread = read_by o may unread by.came
    text_by o (answers.Changed b) by may right unread = not_changed k p o right (sym by.came)
