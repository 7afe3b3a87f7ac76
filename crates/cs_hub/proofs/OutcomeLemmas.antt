-- What comes of parameters, and the response by it.
--
--   refused_comes, refused_right, refused_caused     of parameters that are refused
--   may_come                   what came may come
--   comes_so                   what came, by other names of the states
--   change_told                a change that an engine tells is one of its index
--   refused_is, replied_is     the right response to refused parameters, and to a request
--   given_outcome              the response by what came, as one that may be sent
--   asks_outcome               what was asked, by what came
use Rattle.std.proofs.Common.{◌≡◌, ℕ, ◌+◌, Bool, true, false, cond, List, [], ◌∷◌, inl, inr, refl, sym, ◌∙◌, ap, subst, arith}
use Rattle.std.specs.Prelude.{◌≢◌, ◌≤◌, Option, Some, None, Result, Ok, Err, IfErr, IfOk, is_ok}
use Rattle.std.proofs.lemmas.Option.{same_Some}
use Rattle.std.proofs.lemmas.Result.{IfOk-weaker}
use Rattle.cs_base.specs.declared.memory.Memory.{Memory}
use Rattle.cs_base.specs.outside.Causes.{Rose}
use Rattle.cs_rows.specs.IndexReading.{IsChangeIn}
use Rattle.cs_engine.specs.declared.note.Note.{Note}
use Rattle.cs_file.specs.Indexes.{CausedReads}
use Rattle.cs_file.specs.declared.fault.FetchFault.{FetchFault}
use Rattle.cs_file.specs.declared.fault.FetchFault.TheVariants as fetches
use Rattle.cs_http.specs.Refusing.{IsCause}
use Rattle.cs_json.specs.FaultTexts.{fault_text}
use Rattle.cs_json.specs.declared.fault.Fault.TheVariants as texts
use Rattle.cs_model.specs.Corpus.{Corpus}
use Rattle.cs_model.specs.Outputs.{text_by}
use Rattle.cs_model.specs.Parameters.{RequestRefusal, request_of, request_refusal}
use Rattle.cs_model.specs.Replies.{Reply, reply_text}
use Rattle.cs_model.specs.Requests.{Request, reply_of}
use Rattle.cs_model_serving.specs.Connections.{changes, reads, says_changed, says_read}
use Rattle.cs_model_serving.specs.Responses.{Response, read_failed, status_by, to_params}
use Rattle.cs_model_serving.proofs.CountLemmas.{read_counts}
use Rattle.cs_query.specs.RequestView.{asked}
use Rattle.cs_query.specs.declared.request.ReqFault.{ReqFault}
use Rattle.cs_query.specs.declared.request.ReqFault.TheVariants as faults
use Rattle.cs_hub.specs.Asked.{AsksAsSent, EngineLeaves, Standing}
use Rattle.cs_hub.specs.DueReads.{Answered, IsBy, is_want, reply_in, requests_by, response_by}
use Rattle.cs_hub.specs.Outcomes.{ComesOf, IsOutcome, IsRefusal, IsRightOutcome, TellsChange, fails_read}
use Rattle.cs_hub.specs.Responding.{response, response_for}
use Rattle.cs_hub.specs.Streams.{RoseBy}
use Rattle.cs_hub.specs.Turns.{IsFor, IsGiven}
use Rattle.cs_hub.specs.declared.answer.Answer.{Answer}
use Rattle.cs_hub.specs.declared.outcomes.RequestOutcome.{RequestOutcome}
use Rattle.cs_hub.specs.declared.outcomes.RequestOutcome.TheVariants.{Refused, Replied, Read, Changed, Memory as Wants}
use Rattle.cs_hub.proofs.AskedLemmas.{asks_one, asks_params, by_refusal, for_memory}
use Rattle.cs_hub.proofs.RespondingLemmas.{itself_given, none_of, params_counts}
use Rattle.cs_hub.proofs.ServedLemmas.{changes_cons, reads_cons}
use Rattle.cs_hub.proofs.SpeakLemmas.{rose_one}

-- ---- refused parameters
pub refused_right : (k : Corpus) (p : List ℕ) (e : ReqFault) (o : RequestOutcome) → IsRefusal e o → IsRightOutcome k p o
refused_right k p e (Refused f) h = tt
refused_right k p e (Replied q r) h = absurd h
refused_right k p e Read h = tt
refused_right k p e (Changed rule at) h = absurd h
refused_right k p e Wants h = tt

none_failed : (n : ℕ) → CausedReads false n n
none_failed n = record { later = omega arith; quiet = λ e. refl; failed = λ e. absurd cc }

pub refused_caused : (e : ReqFault) (o : RequestOutcome) (n : ℕ) → IsRefusal e o → CausedReads (fails_read o) n n
refused_caused e (Refused f) n h = none_failed n
refused_caused e (Replied q r) n h = absurd h
refused_caused e Read n h = absurd h
refused_caused e (Changed rule at) n h = absurd h
refused_caused e Wants n h = none_failed n

-- ---- a change
kept_from : (P : FetchFault → Type 0) (answer : Result (Reply × Note) FetchFault) → IfErr answer P → IfErr (reply_in answer) P
kept_from P (Ok r) h = tt
kept_from P (Err e) h = h

pub change_told : (p : List ℕ) (o : RequestOutcome) (s t : Standing) → ComesOf EngineLeaves p s o t → TellsChange s.engine.index s.told o
change_told p (Refused e) s t h = tt
change_told p (Replied q r) s t h = tt
change_told p Read s t h = tt
change_told p (Changed rule at) s t h =
    subst (λ (r : Result Reply FetchFault). IfErr r (IsChangeIn s.engine.index s.told)) (sym h.1.is_due.reply)
    (kept_from (IsChangeIn s.engine.index s.told) h.1.is_due.answer h.1.is_due.changed)
change_told p Wants s t h = tt

-- ---- the right response
abbrev refusing : ReqFault → Bool → Response
refusing e close = record { status = 400; closes = close; body = fault_text (texts.Refused e) }

-- the response to parameters with this first refusal
abbrev by_first : Corpus → List ℕ → Bool → Option RequestRefusal → Response
by_first k p close o = record { status = status_by o; closes = close; body = text_by k p o }

refused_is : (k : Corpus) (p : List ℕ) (e : ReqFault) (close : Bool) → IsCause p e → e ≢ faults.Memory → refusing e close ≡ to_params k p close
unfolding fault_text
refused_is k p (faults.BadParam which) close h other = ap (by_first k p close) (sym h)
refused_is k p (faults.Bad at) close h other = ap (by_first k p close) (sym h)
refused_is k p (faults.Limit at which) close h other = ap (by_first k p close) (sym h)
refused_is k p faults.Memory close h other = absurd (other refl)

abbrev replying : Reply → Bool → Response
replying r close = record { status = 200; closes = close; body = reply_text r }

replied_is : (k : Corpus) (p : List ℕ) (r : Reply) (close : Bool) → request_refusal p ≡ None → r ≡ reply_of k (request_of p)
    → replying r close ≡ to_params k p close
replied_is k p r close none is = ap (λ x. replying x close) is ∙ ap (by_first k p close) (sym none)

module _ {K : Type 0} (Leaves : K → Request → Result Reply FetchFault → K → Type 0) where
  pub refused_comes : (p : List ℕ) (e : ReqFault) (o : RequestOutcome) (s : K) → IsCause p e → IsRefusal e o → ComesOf Leaves p s o s
  refused_comes p e (Refused f) s cause h = (subst (IsCause p) (sym h.0) cause, λ is. h.1 (sym h.0 ∙ is), refl)
  refused_comes p e (Replied q r) s cause h = absurd h
  refused_comes p e Read s cause h = absurd h
  refused_comes p e (Changed rule at) s cause h = absurd h
  refused_comes p e Wants s cause h = inl refl

  -- ---- what came
  pub may_come : (p : List ℕ) (o : RequestOutcome) (s t : K) → ComesOf Leaves p s o t → IsOutcome p o
  may_come p (Refused e) s t h = (h.0, h.1)
  may_come p (Replied q r) s t h = (h.0, h.1)
  may_come p Read s t h = h.0
  may_come p (Changed rule at) s t h = h.0
  may_come p Wants s t h = tt

  pub comes_so : (p : List ℕ) (o : RequestOutcome) (s s' t t' : K) → s ≡ s' → t ≡ t' → ComesOf Leaves p s o t → ComesOf Leaves p s' o t'
  comes_so p o s s' t t' e f h = subst (ComesOf Leaves p s' o) f (subst (λ x. ComesOf Leaves p x o t) e h)

  -- ---- the response by what came
  plain_given : (k : Corpus) (p : List ℕ) (close : Bool) (r : Response) (m n : ℕ) → r ≡ to_params k p close → m ≤ n
      → IsFor (to_params k p close) r m n
  plain_given k p close r m n same later =
      let counts = params_counts k p close in
      itself_given (to_params k p close) r m n same (ap says_read same ∙ counts.0) (ap says_changed same ∙ counts.1) later

  -- a failed read, in the place of a reply
  read_given : (k : Corpus) (p : List ℕ) (close : Bool) (r : Response) (m n : ℕ) → r ≡ read_failed close → request_refusal p ≡ None → Rose m n
      → IsFor (to_params k p close) r m n
  read_given k p close r m n is none rose =
      let counts = read_counts close in
      let one : reads (r ∷ []) ≡ 1 = reads_cons r [] ∙ ap (λ b. cond b 1 0 + 0) (ap says_read is ∙ counts.0) in
      record {
        replaces = inr (ap status_by none, inl is);
        unchanged = none_of (changes (r ∷ [])) (says_changed r) (changes_cons r []) (ap says_changed is ∙ counts.1);
        rose = subst (λ i. RoseBy i m n) (sym one) (rose_one m n rose);
      }

  pub given_outcome : (Over : Corpus → Type 0) (p : List ℕ) (close : Bool) (o : RequestOutcome) (r : Response) (s t : K) (m n : ℕ) → ComesOf Leaves p s o t
      → ((k : Corpus) → Over k → IsRightOutcome k p o) → CausedReads (fails_read o) m n → response_for close o ≡ Some r
      → IsGiven Over (λ k. to_params k p close) r m n
  given_outcome Over p close (Refused e) r s t m n comes right caused is = λ k over.
      plain_given k p close r m n (sym (same_Some (refusing e close) r is) ∙ refused_is k p e close comes.0 comes.1) caused.later
  given_outcome Over p close (Replied q x) r s t m n comes right caused is = λ k over.
      plain_given k p close r m n (sym (same_Some (replying x close) r is) ∙ replied_is k p x close comes.0 (right k over)) caused.later
  given_outcome Over p close Read r s t m n comes right caused is = λ k over.
      read_given k p close r m n (sym (same_Some (read_failed close) r is)) comes.0 (caused.failed refl)
  given_outcome Over p close (Changed rule at) r s t m n comes right caused is = λ k over. absurd (right k over)
  given_outcome Over p close Wants r s t m n comes right caused is = absurd cc

  -- ---- what was asked
  -- the response by these answers to what parameters ask
  abbrev By : List ℕ → Bool → Result Answer Memory → List Answered → Type 0
  By p close result xs = IfOk result (λ a. IsBy (λ k. to_params k p close) close xs (response a))

  abbrev For : Bool → RequestOutcome → Result Answer Memory → Type 0
  For close o result = IfOk result (λ a. response_for close o ≡ Some (response a))

  asks_refused : (p : List ℕ) (e : ReqFault) (whole : Bool) (s : K) (Sent : List Answered → Type 0) → IsCause p e → e ≢ faults.Memory → Sent []
      → AsksAsSent Leaves whole (requests_by p (request_refusal p)) s s Sent
  asks_refused p (faults.BadParam which) whole s Sent cause other h = by_refusal Leaves whole p _ s Sent cause h
  asks_refused p (faults.Bad at) whole s Sent cause other h = by_refusal Leaves whole p _ s Sent cause h
  asks_refused p (faults.Limit at which) whole s Sent cause other h = by_refusal Leaves whole p _ s Sent cause h
  asks_refused p faults.Memory whole s Sent cause other h = absurd (other refl)

  -- the request was asked, and this is the answer
  asks_answer : (p : List ℕ) (close : Bool) (q : Request) (a : Result Reply FetchFault) (result : Result Answer Memory) (s t : K) → request_refusal p ≡ None
      → q ≡ request_of p → Leaves s q a t → (is_ok result ≡ true → is_want a ≡ false) → IfOk result (λ x. response_by close a ≡ Some (response x))
      → AsksAsSent Leaves (is_ok result) (requests_by p (request_refusal p)) s t (By p close result)
  asks_answer p close q a result s t none is leaves memory by =
      asks_params Leaves (is_ok result) p q s t (By p close result) none is
      (asks_one Leaves (is_ok result) q a s t (By p close result) leaves memory
      (IfOk-weaker result (λ x. response_by close a ≡ Some (response x)) (λ x. IsBy (λ k. to_params k p close) close ((q, a) ∷ []) (response x)) (λ x e. (refl, e)) by))

  -- by want of memory there is no response
  none_made : (result : Result Answer Memory) → IfOk result (λ a. None ≡ Some (response a)) → IfOk result (λ a. ⊥)
  none_made (Ok a) e = absurd cc
  none_made (Err x) e = tt

  none_whole : (result : Result Answer Memory) → IfOk result (λ a. ⊥) → is_ok result ≡ true → is_want (Err fetches.Memory) ≡ false
  none_whole (Ok a) f e = absurd f
  none_whole (Err x) f e = absurd cc

  asks_memory : (p : List ℕ) (close : Bool) (result : Result Answer Memory) (s t : K) → ComesOf Leaves p s Wants t → IfOk result (λ a. ⊥)
      → AsksAsSent Leaves (is_ok result) (requests_by p (request_refusal p)) s t (By p close result)
  asks_memory p close result s t (inl same) none =
      subst (λ x. AsksAsSent Leaves (is_ok result) (requests_by p (request_refusal p)) s x (By p close result)) (sym same)
      (for_memory Leaves result (requests_by p (request_refusal p)) s (By p close result) none
      (IfOk-weaker result (λ a. ⊥) (λ a. IsBy (λ k. to_params k p close) close [] (response a)) (λ a f. absurd f) none))
  asks_memory p close result s t (inr h) none =
      asks_answer p close (request_of p) (Err fetches.Memory) result s t h.0 refl h.1 (none_whole result none)
      (IfOk-weaker result (λ a. ⊥) (λ a. response_by close (Err fetches.Memory) ≡ Some (response a)) (λ a f. absurd f) none)

  pub asks_outcome : (p : List ℕ) (close : Bool) (o : RequestOutcome) (result : Result Answer Memory) (s t : K) → ComesOf Leaves p s o t → For close o result
      → AsksAsSent Leaves (is_ok result) (requests_by p (request_refusal p)) s t (By p close result)
  asks_outcome p close (Refused e) result s t comes by =
      subst (λ x. AsksAsSent Leaves (is_ok result) (requests_by p (request_refusal p)) s x (By p close result)) (sym comes.2)
      (asks_refused p e (is_ok result) s (By p close result) comes.0 comes.1
      (IfOk-weaker result (λ a. response_for close (Refused e) ≡ Some (response a)) (λ a. IsBy (λ k. to_params k p close) close [] (response a))
      (λ a is k. sym (same_Some (refusing e close) (response a) is) ∙ refused_is k p e close comes.0 comes.1) by))
  asks_outcome p close (Replied q r) result s t comes by = asks_answer p close (asked q) (Ok r) result s t comes.0 comes.1 comes.2 (λ e. refl) by
  asks_outcome p close Read result s t comes by = asks_answer p close (request_of p) (Err fetches.Read) result s t comes.0 refl comes.1 (λ e. refl) by
  asks_outcome p close (Changed rule at) result s t comes by =
      asks_answer p close (request_of p) (Err (fetches.Changed rule at)) result s t comes.0 refl comes.1 (λ e. refl) by
  asks_outcome p close Wants result s t comes by = asks_memory p close result s t comes (none_made result by)
