-- What is asked, from one request to all those of a step.
--
--   requests_both, requests_length      the requests of answers
--   some_said, some_starved, some_delivered, some_refused      what was sent, whatever it was
--   before_none, want_before      nothing was asked: there was no head, or no memory
--   SentFor c goes h xs           what was sent for one head: its response, or less of it, or the memory response
--   want_for, sent_for            by what was delivered
--   before_stop                   a head behind which the connection is to be closed
--   asked_both, enough_both, memory_both      heads behind heads
--   in_turn_both                  requests behind requests
--   asks_none, asks_nothing, asks_one, asks_whole, asks_no_bytes      none, none of none, one; where less is claimed; none of no bytes
--   is_piece, unasked             an event that is no piece asks nothing
--   asks_params, by_refusal, for_memory, asks_head, refused_head      what parameters and a head ask
--   asks_below, asks_all, asks_sent      how many answers there are; what was asked for one head, by what was sent
--   turned_goes, turned_stops, turned_head     a head was answered
--   starved_stops                 memory ran out
--   turned_held, turned_long      no head ends there
--   cut_here                      heads with no bytes behind
--   along_start, along_next, along_hold, along_rest, along_stop    the way through the bytes
--   asks_counted, asks_of_line    the bytes of a piece that count, and of a connection that is kept
--   sent_open, refused_close      what is known of a response by what was sent
--   few_titles, read_in, same_refusal      one answer of an engine
--   stands_so                     how an engine stands
--   within_due, within_for        an engine asked so reads no more than is due
use Rattle.std.proofs.Common.{◌≡◌, ℕ, ◌+◌, ◌-◌, ◌≤◌, Bool, true, false, List, [], ◌∷◌, ◌++◌, length, take, drop, slice_range, refl, sym, ◌∙◌, ap, ap₂, subst}
use Rattle.std.proofs.Common.{arith, append_assoc, append-nil, inl, inr, length-append}
use Rattle.std.specs.Prelude.{◌⊎◌, suc, ◌<◌, not, cond, slice_set, is_some, Option, Some, None, Result, Ok, Err, IfErr, IfOk, is_ok}
use Rattle.std.proofs.Math.Seq.{take-append-add}
use Rattle.std.proofs.lemmas.Grind.{flat_map-append}
use Rattle.std.proofs.lemmas.List.{take_all}
use Rattle.std.proofs.lemmas.List.Elements.{All-append, All-cons, All-nil}
use Rattle.std.specs.Option.{ForSome}
use Rattle.std.specs.Result.{IsErr, IsErrAnd}
use Rattle.std.specs.FinMap as map
use Rattle.cs_base.specs.declared.content.limits.TheConstants.{MAX_CONNECTION_BYTES}
use Rattle.cs_base.specs.declared.memory.Memory.{Memory}
use Rattle.cs_base.specs.declared.outside.hub.Event.{Event}
use Rattle.cs_base.specs.declared.outside.hub.Event.TheVariants as events
use Rattle.cs_base.specs.outside.Causes.{ReadsWithin}
use Rattle.cs_base.specs.outside.Hub.{Talk}
use Rattle.cs_rows.specs.IndexReading.{IsChangeIn}
use Rattle.cs_engine.specs.Asking.{titles_asked}
use Rattle.cs_file.specs.CallAnswers.{is_read}
use Rattle.cs_engine.specs.Keeping.{AreGood, EngineView}
use Rattle.cs_file.specs.declared.fault.FetchFault.{FetchFault}
use Rattle.cs_file.specs.declared.fault.FetchFault.TheVariants as refusals
use Rattle.cs_engine.specs.declared.note.Note.{Note}
use Rattle.cs_file.specs.Indexes.{CausedReads, StandsFor}
use Rattle.cs_http.specs.Judging.{IsHeadCause}
use Rattle.cs_http.specs.declared.heads.HeadFault.{HeadFault}
use Rattle.cs_http.specs.declared.heads.HeadFault.TheVariants as heads
use Rattle.cs_model.specs.Corpus.{Corpus}
use Rattle.cs_model.specs.Parameters.{RequestRefusal, request_of, request_refusal}
use Rattle.cs_model.specs.Replies.{Reply}
use Rattle.cs_model.specs.Requests.{Request}
use Rattle.cs_model_serving.specs.declared.framed.Framed.TheVariants as framed
use Rattle.cs_model_serving.specs.Connections.{Left}
use Rattle.cs_model_serving.specs.Framing.{frame}
use Rattle.cs_model_serving.specs.Heads.{Judgement, asks, judge}
use Rattle.cs_model_serving.specs.Responses.{Response, all_bytes, memory_bytes, response_bytes, too_long}
use Rattle.cs_hub.specs.Asked.{InTurn, AsksOf, AsksAsSent, AsksAlong, AsksBy, Standing, EngineLeaves, standing}
use Rattle.cs_hub.specs.DueReads.{Answered, AnswersWithin, AreDue, HasMemory, IsDue, SentAt, SentBefore, bytes_behind, bytes_to_answer, closes_behind, goes_on}
use Rattle.cs_hub.specs.DueReads.{AreResponsesBy, IsPartOf, IsResponseBy, IsRest, IsTextBy, IsWholeBy, SentBy, heads_on, read_failures, is_want, reply_in, requests_by, requests_in, requests_of, requests_on, requests_to, sharp_due, sharp_sum}
use Rattle.cs_hub.specs.HubFollowing.{Lefts, left_at}
use Rattle.cs_hub.specs.Responding.{response, IsJudgedSo}
use Rattle.cs_hub.specs.Speaking.{SaidOn, Spoke, Starved}
use Rattle.cs_hub.specs.Streams.{RoseBy}
use Rattle.cs_hub.specs.Turns.{Delivered, HoldsBytes, IsTurnedAway, IsSent}
use Rattle.cs_hub.specs.declared.answer.Answer.{Answer}
use Rattle.cs_hub.specs.declared.reading.HeadTurn.{HeadTurn}
use Rattle.cs_hub.specs.declared.reading.HeadTurn.TheVariants as turns
use Rattle.cs_hub.proofs.ByLemmas.{are_both, are_one, by_all, by_behind, memory_part, whole_part}
use Rattle.cs_hub.proofs.UnreadHeads.{closes_by, heads-closes, heads-goes_behind, heads-head, heads-long, heads-more, requests-none}
use Rattle.cs_hub.proofs.ServedLemmas.{bytes_both}
use Rattle.cs_hub.proofs.SpeakLemmas.{itself, rose_both, rose_none, rose_one, spoke_both, spoke_nothing}
use Rattle.cs_hub.proofs.ConnectionSlots.{set_at}
use Rattle.cs_hub.proofs.TurnLemmas.{Span, head_bytes, behind_head}

-- ---- requests
pub requests_both : (xs ys : List Answered) → requests_of (xs ++ ys) ≡ requests_of xs ++ requests_of ys
requests_both [] ys = refl
requests_both (x ∷ xs) ys = ap (λ l. x.0 ∷ l) (requests_both xs ys)

pub requests_length : (xs : List Answered) → length (requests_of xs) ≡ length xs
requests_length [] = refl
requests_length (a ∷ xs) = ap suc (requests_length xs)

-- ---- what was sent
-- nothing follows from what can't be
pub by_nothing : (P : Type 0) → false ≡ true → P
by_nothing P e = absurd cc

-- a response was sent on the connection, or the memory response, whole or not, perhaps nothing
abbrev pub Some_said : ℕ → Response → Option Talk → Option Talk → Type 0
Some_said c r talk talk' =
    (part : List ℕ) × (fails : Bool) × Spoke c part fails talk talk' × (IsPartOf (response_bytes r) part ⊎ IsPartOf memory_bytes part)

some_said : (c : ℕ) (text : List ℕ) (whole : Bool) (talk talk' : Option Talk) → SaidOn c text whole talk talk'
    → (part : List ℕ) × (fails : Bool) × Spoke c part fails talk talk' × IsPartOf text part
some_said c text true talk talk' h = (text, false, h, whole_part text)
some_said c text false talk talk' h = (take h.0 text, true, h.1, (h.0, refl))

pub some_starved : (c : ℕ) (r : Response) (talk talk' : Option Talk) → Starved c talk talk' → Some_said c r talk talk'
some_starved c r talk talk' h = let said = some_said c memory_bytes h.0 talk talk' h.1 in (said.0, said.1, said.2, inr said.3)

pub some_delivered : (c : ℕ) (r : Response) (goes : Bool) (talk talk' : Option Talk) → Delivered c r goes talk talk' → Some_said c r talk talk'
some_delivered c r true talk talk' h = (response_bytes r, false, h.1, inl (whole_part (response_bytes r)))
some_delivered c r false talk talk' (inl h) = (response_bytes r, false, h.1, inl (whole_part (response_bytes r)))
some_delivered c r false talk talk' (inr (inl h)) = (take h.0 (response_bytes r), true, h.1, inl (h.0, refl))
some_delivered c r false talk talk' (inr (inr h)) = some_starved c r talk talk' h

pub some_refused : (c : ℕ) (talk talk' : Option Talk) → IsTurnedAway c talk talk' → Some_said c too_long talk talk'
some_refused c talk talk' (inl h) = some_delivered c too_long h.0 talk talk' h.1
some_refused c talk talk' (inr h) = some_starved c too_long talk talk' h

-- nothing is asked where there is no head
before_none : (c : ℕ) (b : List ℕ) (talk talk' : Option Talk) → heads_on b ≡ [] → Some_said c too_long talk talk' → SentBefore c false b talk talk' []
before_none c b talk talk' none h = record {
  sent = [];
  part = h.0;
  fails = h.1;
  spoke = h.2;
  by = subst (λ l. IsTextBy l [] h.0) (sym none) h.3;
  enough = omega arith;
  all = inl (All-nil (λ (a : Answered). is_want a.1 ≡ false), sym (ap (λ l. length (requests_to l)) none));
  whole = by_nothing (IsWholeBy [] (heads_on b) [] h.0 h.1);
}

want_before : (c : ℕ) (b : List ℕ) (whole : Bool) (talk talk' : Option Talk) → SaidOn c memory_bytes whole talk talk' → SentBefore c false b talk talk' []
want_before c b true talk talk' h = record {
  sent = [];
  part = memory_bytes;
  fails = false;
  spoke = h;
  by = memory_part (heads_on b) [] memory_bytes (whole_part memory_bytes);
  enough = omega arith;
  all = inr (inr refl);
  whole = by_nothing (IsWholeBy [] (heads_on b) [] memory_bytes false);
}
want_before c b false talk talk' h = record {
  sent = [];
  part = take h.0 memory_bytes;
  fails = true;
  spoke = h.1;
  by = memory_part (heads_on b) [] (take h.0 memory_bytes) (h.0, refl);
  enough = omega arith;
  all = inr (inl refl);
  whole = by_nothing (IsWholeBy [] (heads_on b) [] (take h.0 memory_bytes) true);
}

-- ---- one head
-- the response was sent whole, behind what the head asks, and the connection is closed behind it unless it goes on; or the send
-- failed, or the memory response was sent. What was sent is by the answers, and where the connection goes on it is whole
pub record SentFor (c : ℕ) (goes : Bool) (h : List ℕ) (talk talk' : Option Talk) (answered : List Answered) : Type 0 where
  pub part : List ℕ
  pub fails : Bool
  pub spoke : Spoke c part fails talk talk'
  pub all : (HasMemory answered × (length answered ≡ length (requests_in (judge h))) × (closes_behind (judge h) ≡ not goes)) ⊎ (fails ≡ true)
      ⊎ (part ≡ memory_bytes)
  pub by : IsTextBy (h ∷ []) answered part
  pub whole : goes ≡ true → (r : Response) × IsResponseBy h answered r × Spoke c (response_bytes r) false talk talk'

-- the response was sent whole
abbrev Whole : ℕ → List ℕ → List Answered → Option Talk → Option Talk → Type 0
Whole c h xs talk talk' = (r : Response) × IsResponseBy h xs r × Spoke c (response_bytes r) false talk talk'

want_for : (c : ℕ) (h : List ℕ) (whole : Bool) (talk talk' : Option Talk) (xs : List Answered) → SaidOn c memory_bytes whole talk talk'
    → SentFor c false h talk talk' xs
want_for c h true talk talk' xs said = record {
  part = memory_bytes;
  fails = false;
  spoke = said;
  all = inr (inr refl);
  by = inr (whole_part memory_bytes);
  whole = by_nothing (Whole c h xs talk talk');
}
want_for c h false talk talk' xs said = record {
  part = take said.0 memory_bytes;
  fails = true;
  spoke = said.1;
  all = inr (inl refl);
  by = inr (said.0, refl);
  whole = by_nothing (Whole c h xs talk talk');
}

sent_for : (c : ℕ) (r : Response) (goes : Bool) (h : List ℕ) (talk talk' : Option Talk) (xs : List Answered) → HasMemory xs
    → length xs ≡ length (requests_in (judge h)) → r.closes ≡ closes_behind (judge h) → IsResponseBy h xs r → Delivered c r goes talk talk'
    → SentFor c goes h talk talk' xs
sent_for c r true h talk talk' xs memory all closes by d = record {
  part = response_bytes r;
  fails = false;
  spoke = d.1;
  all = inl (memory, all, sym closes ∙ d.0);
  by = inl (r, by, whole_part (response_bytes r));
  whole = λ e. (r, by, d.1);
}
sent_for c r false h talk talk' xs memory all closes by (inl d) = record {
  part = response_bytes r;
  fails = false;
  spoke = d.1;
  all = inl (memory, all, sym closes ∙ d.0);
  by = inl (r, by, whole_part (response_bytes r));
  whole = by_nothing (Whole c h xs talk talk');
}
sent_for c r false h talk talk' xs memory all closes by (inr (inl d)) = record {
  part = take d.0 (response_bytes r);
  fails = true;
  spoke = d.1;
  all = inr (inl refl);
  by = inl (r, by, (d.0, refl));
  whole = by_nothing (Whole c h xs talk talk');
}
sent_for c r false h talk talk' xs memory all closes by (inr (inr s)) = want_for c h s.0 talk talk' xs s.1

-- the first head, behind which the connection is to be closed
all_stop : (c : ℕ) (goes : Bool) (h b : List ℕ) (talk talk' : Option Talk) (xs : List Answered) (P : Type 0) → goes ≡ false
    → (closes_behind (judge h) ≡ true → heads_on b ≡ h ∷ [])
    → (HasMemory xs × (length xs ≡ length (requests_in (judge h))) × (closes_behind (judge h) ≡ not goes)) ⊎ P
    → (HasMemory xs × (length xs ≡ length (requests_on b))) ⊎ P
all_stop c goes h b talk talk' xs P off alone (inl k) =
    let one = alone (k.2 ∙ ap not off) in
    inl (k.0, k.1 ∙ sym (ap length (append-nil (requests_in (judge h)))) ∙ sym (ap (λ l. length (requests_to l)) one))
all_stop c goes h b talk talk' xs P off alone (inr p) = inr p

before_stop : (c : ℕ) (goes : Bool) (h b : List ℕ) (later : List (List ℕ)) (talk talk' : Option Talk) (xs : List Answered) → goes ≡ false
    → length xs ≤ length (requests_in (judge h)) → heads_on b ≡ h ∷ later → (closes_behind (judge h) ≡ true → heads_on b ≡ h ∷ [])
    → SentFor c goes h talk talk' xs
    → SentBefore c false b talk talk' xs
before_stop c goes h b later talk talk' xs off few is alone s = record {
  sent = [];
  part = s.part;
  fails = s.fails;
  spoke = s.spoke;
  by = subst (λ l. IsTextBy l xs s.part) (sym is) s.by;
  enough = let first = ap (λ l. length (requests_to (take 1 l))) is in let one = ap length (append-nil (requests_in (judge h))) in
      omega (arith, few, first, one);
  all = all_stop c goes h b talk talk' xs ((s.fails ≡ true) ⊎ (s.part ≡ memory_bytes)) off alone s.all;
  whole = by_nothing (IsWholeBy [] (heads_on b) xs s.part s.fails);
}

-- ---- heads behind heads
pub asked_both : (hs ks : List (List ℕ)) → requests_to (hs ++ ks) ≡ requests_to hs ++ requests_to ks
asked_both hs ks = flat_map-append (λ h. requests_in (judge h)) hs ks

pub enough_both : (hs left all : List (List ℕ)) (xs ys : List Answered) (m n total : ℕ) → all ≡ hs ++ left → requests_to hs ≡ requests_of xs → length hs ≡ m
    → total ≡ m + n → length ys ≤ length (requests_to (take (n + 1) left))
    → length (xs ++ ys) ≤ length (requests_to (take (total + 1) all))
enough_both hs left all xs ys m n total cut asked each sum few =
    let first : take (total + 1) all ≡ hs ++ take (n + 1) left =
    ap (take (total + 1)) cut ∙ ap (λ i. take i (hs ++ left)) (let e : total + 1 ≡ length hs + (n + 1) = omega (arith, each, sum) in e)
    ∙ take-append-add hs left (n + 1) in
    let whole : length (requests_to (take (total + 1) all)) ≡ length (requests_to hs) + length (requests_to (take (n + 1) left)) =
    ap (λ l. length (requests_to l)) first ∙ ap length (asked_both hs (take (n + 1) left)) ∙ length-append (requests_to hs) (requests_to (take (n + 1) left)) in
    let front : length (requests_to hs) ≡ length xs = ap length asked ∙ requests_length xs in
    omega (arith, whole, front, few, length-append xs ys)

pub memory_both : (xs ys : List Answered) (b left : List ℕ) (P : Type 0) → requests_on b ≡ requests_of xs ++ requests_on left → HasMemory xs
    → (HasMemory ys × (length ys ≡ length (requests_on left))) ⊎ P → (HasMemory (xs ++ ys) × (length (xs ++ ys) ≡ length (requests_on b))) ⊎ P
memory_both xs ys b left P cut h (inl k) =
    let count : length (xs ++ ys) ≡ length (requests_on b) =
    omega (arith, length-append xs ys, requests_length xs, k.1, ap length cut, length-append (requests_of xs) (requests_on left)) in
    inl (All-append (λ (a : Answered). is_want a.1 ≡ false) xs ys h k.0, count)
memory_both xs ys b left P cut h (inr p) = inr p

-- the event is a piece
abbrev pub is_piece : Event → Bool
is_piece (events.Opened c) = false
is_piece (events.Piece c n) = true
is_piece (events.Ended c) = false
is_piece events.Over = false

pub none_ok : {T E : Type 0} (r : Result T E) (P : T → Type 0) → IsErr r → IfOk r P
none_ok (Ok x) P h = absurd cc
none_ok (Err e) P h = tt

-- where no bytes come behind
pub cut_here : (b left : List ℕ) (heads : List (List ℕ)) → ((more : List ℕ) → heads_on (b ++ more) ≡ heads ++ heads_on (left ++ more))
    → heads_on b ≡ heads ++ heads_on left
cut_here b left heads h = ap heads_on (sym (append-nil b)) ∙ h [] ∙ ap (λ l. heads ++ heads_on l) (append-nil left)

module _ {K : Type 0} (Leaves : K → Request → Result Reply FetchFault → K → Type 0) where
  pub in_turn_both : (xs ys : List Answered) (s t u : K) → InTurn Leaves xs s t → InTurn Leaves ys t u → InTurn Leaves (xs ++ ys) s u
  in_turn_both [] ys s t u h k = subst (λ x. InTurn Leaves ys x u) h k
  in_turn_both (x ∷ xs) ys s t u h k = (h.0, h.1, in_turn_both xs ys h.0 t u h.2 k)

  -- ---- some first requests
  abbrev pub asks_none : (qs : List Request) (s : K) → AsksOf Leaves false qs s s
  asks_none qs s = record { answered = []; later = qs; cut = refl; in_turn = refl; all = by_nothing ((qs ≡ []) × HasMemory []) }

  abbrev pub asks_nothing : (whole : Bool) (s : K) → AsksOf Leaves whole [] s s
  asks_nothing whole s = record { answered = []; later = []; cut = refl; in_turn = refl; all = λ e. (refl, All-nil (λ (a : Answered). is_want a.1 ≡ false)) }

  pub asks_one : (whole : Bool) (q : Request) (r : Result Reply FetchFault) (s t : K) (Sent : List Answered → Type 0) → Leaves s q r t
      → (whole ≡ true → is_want r ≡ false) → Sent ((q, r) ∷ []) → AsksAsSent Leaves whole (q ∷ []) s t Sent
  asks_one whole q r s t Sent h memory sent = record {
    asks = record {
      answered = (q, r) ∷ [];
      later = [];
      cut = refl;
      in_turn = (t, h, refl);
      all = λ e. (refl, All-cons (λ (a : Answered). is_want a.1 ≡ false) (q, r) [] (memory e) (All-nil (λ (a : Answered). is_want a.1 ≡ false)));
    };
    sent = sent;
  }

  abbrev pub asks_whole : (whole less : Bool) (qs : List Request) (s t : K) → (less ≡ true → whole ≡ true) → AsksOf Leaves whole qs s t
      → AsksOf Leaves less qs s t
  asks_whole whole less qs s t h a = record { answered = a.answered; later = a.later; cut = a.cut; in_turn = a.in_turn; all = λ e. a.all (h e) }

  abbrev asks_some : (qs more all : List Request) (s t : K) → all ≡ qs ++ more → (whole : Bool) → AsksOf Leaves whole qs s t → AsksOf Leaves false all s t
  asks_some qs more all s t e whole a = record {
    answered = a.answered;
    later = a.later ++ more;
    cut = e ∙ ap (λ l. l ++ more) a.cut ∙ append_assoc (requests_of a.answered) a.later more;
    in_turn = a.in_turn;
    all = by_nothing ((a.later ++ more ≡ []) × HasMemory a.answered);
  }

  pub asks_no_bytes : (whole : Bool) (s : K) (Sent : List Answered → Type 0) → Sent [] → AsksAsSent Leaves whole (requests_on []) s s Sent
  asks_no_bytes whole s Sent h = subst (λ l. AsksAsSent Leaves whole l s s Sent) (sym requests-none) (record { asks = asks_nothing whole s; sent = h })

  pub unasked : (old new : Lefts) (v : Event) (piece : List ℕ) (s : K) (talk talk' : Option Talk) → is_piece v ≡ false
      → AsksAsSent Leaves (goes_on new v) (requests_on (bytes_to_answer old v piece)) s s (SentAt v (goes_on new v) (bytes_to_answer old v piece) talk talk')
  unasked old new (events.Opened c) piece s talk talk' none = asks_no_bytes true s (λ xs. xs ≡ []) refl
  unasked old new (events.Piece c n) piece s talk talk' none = absurd cc
  unasked old new (events.Ended c) piece s talk talk' none = asks_no_bytes true s (λ xs. xs ≡ []) refl
  unasked old new events.Over piece s talk talk' none = asks_no_bytes true s (λ xs. xs ≡ []) refl

  -- no more answers than requests
  asks_below : (whole : Bool) (qs : List Request) (s t : K) (a : AsksOf Leaves whole qs s t) → length a.answered ≤ length qs
  asks_below whole qs s t a = omega (arith, ap length a.cut, length-append (requests_of a.answered) a.later, requests_length a.answered)

  -- as many where all were asked
  asks_all : (qs : List Request) (s t : K) (a : AsksOf Leaves true qs s t) → length a.answered ≡ length qs
  asks_all qs s t a = omega (arith, ap length a.cut, length-append (requests_of a.answered) a.later, requests_length a.answered, ap length (a.all refl).0)

  -- ---- parameters and heads
  pub asks_by : (whole : Bool) (qs : List Request) (s t : K) (Sent Other : List Answered → Type 0) → ((xs : List Answered) → Sent xs → Other xs)
      → AsksAsSent Leaves whole qs s t Sent → AsksAsSent Leaves whole qs s t Other
  asks_by whole qs s t Sent Other f a = record { asks = a.asks; sent = f a.asks.answered a.sent }

  pub asks_params : (whole : Bool) (p : List ℕ) (q : Request) (s t : K) (Sent : List Answered → Type 0) → request_refusal p ≡ None → q ≡ request_of p
      → AsksAsSent Leaves whole (q ∷ []) s t Sent → AsksAsSent Leaves whole (requests_by p (request_refusal p)) s t Sent
  asks_params whole p q s t Sent none is h =
      subst (λ r. AsksAsSent Leaves whole (requests_by p r) s t Sent) (sym none) (subst (λ x. AsksAsSent Leaves whole (x ∷ []) s t Sent) is h)

  pub by_refusal : (whole : Bool) (p : List ℕ) (r : RequestRefusal) (s : K) (Sent : List Answered → Type 0) → request_refusal p ≡ Some r → Sent []
      → AsksAsSent Leaves whole (requests_by p (request_refusal p)) s s Sent
  by_refusal whole p r s Sent e h =
      subst (λ o. AsksAsSent Leaves whole (requests_by p o) s s Sent) (sym e) (record { asks = asks_nothing whole s; sent = h })

  -- where memory ran out there is no response
  pub for_memory : (result : Result Answer Memory) (qs : List Request) (s : K) (Sent : List Answered → Type 0) → IfOk result (λ a. ⊥) → Sent []
      → AsksAsSent Leaves (is_ok result) qs s s Sent
  for_memory (Ok a) qs s Sent h k = absurd h
  for_memory (Err e) qs s Sent h k = record { asks = asks_none qs s; sent = k }

  never : (P : Type 0) (result : Result Answer Memory) → (P → ⊥) → IfOk result (λ a. P) → IfOk result (λ a. ⊥)
  never P (Ok a) f h = f h
  never P (Err e) f h = tt

  pub asks_head : (whole : Bool) (bytes p : List ℕ) (close : Bool) (s t : K) (Sent : List Answered → Type 0) → judge bytes ≡ asks p close
      → AsksAsSent Leaves whole (requests_by p (request_refusal p)) s t Sent → AsksAsSent Leaves whole (requests_in (judge bytes)) s t Sent
  asks_head whole bytes p close s t Sent e h = subst (λ j. AsksAsSent Leaves whole (requests_in j) s t Sent) (sym e) h

  refused_so : (whole : Bool) (j k : Judgement) (s : K) (Sent : List Answered → Type 0) → j ≡ k → requests_in k ≡ [] → Sent []
      → AsksAsSent Leaves whole (requests_in j) s s Sent
  refused_so whole j k s Sent e none h =
      subst (λ l. AsksAsSent Leaves whole l s s Sent) (sym (ap requests_in e ∙ none)) (record { asks = asks_nothing whole s; sent = h })

  pub refused_head : (j : Judgement) (fault : HeadFault) (result : Result Answer Memory) (s : K) (Sent : List Answered → Type 0) → IsHeadCause j fault
      → IfOk result (λ a. fault ≡ heads.Memory → ⊥) → Sent [] → AsksAsSent Leaves (is_ok result) (requests_in j) s s Sent
  refused_head j heads.NotHead result s Sent cause h k = refused_so (is_ok result) j _ s Sent cause refl k
  refused_head j heads.Body result s Sent cause h k = refused_so (is_ok result) j _ s Sent cause refl k
  refused_head j (heads.Path close) result s Sent cause h k = refused_so (is_ok result) j _ s Sent cause refl k
  refused_head j (heads.Method close) result s Sent cause h k = refused_so (is_ok result) j _ s Sent cause refl k
  refused_head j heads.Memory result s Sent cause h k =
      for_memory result (requests_in j) s Sent (never (heads.Memory ≡ heads.Memory → ⊥) result (λ f. f refl) h) k

  -- what was sent of one head's response
  pub asks_sent : (c : ℕ) (answer : Result Answer Memory) (goes : Bool) (h : List ℕ) (s t : K) (talk talk' : Option Talk)
      → IfOk answer (λ a. a.close ≡ closes_behind (judge h)) → IsSent c answer goes talk talk'
      → AsksAsSent Leaves (is_ok answer) (requests_in (judge h)) s t (λ xs. IfOk answer (λ a. IsResponseBy h xs (response a)))
      → AsksAsSent Leaves goes (requests_in (judge h)) s t (SentFor c goes h talk talk')
  asks_sent c (Ok x) goes h s t talk talk' closes sent a = record {
    asks = asks_whole true goes (requests_in (judge h)) s t (λ e. refl) a.asks;
    sent = sent_for c (response x) goes h talk talk' a.asks.answered (a.asks.all refl).1 (asks_all (requests_in (judge h)) s t a.asks) closes a.sent sent;
  }
  asks_sent c (Err e) goes h s t talk talk' closes sent a = record {
    asks = asks_whole false goes (requests_in (judge h)) s t (λ on. sym sent.0 ∙ on) a.asks;
    sent = subst (λ g. SentFor c g h talk talk' a.asks.answered) (sym sent.0) (want_for c h sent.1.0 talk talk' a.asks.answered sent.1.1);
  }

  -- ---- turns
  module _ (c : ℕ) (u r : List ℕ) (skip end used : ℕ) (goes : Bool) (s t : K) (talk talk' : Option Talk) (span : Span u r skip end used)
      (a : AsksAsSent Leaves goes (requests_in (judge (slice_range (u ++ take used r) skip (length (u ++ take used r))))) s t
      (SentFor c goes (slice_range (u ++ take used r) skip (length (u ++ take used r))) talk talk')) where
    -- the head's own bytes, of which some were unread
    abbrev own : List ℕ
    own = slice_range (u ++ take used r) skip (length (u ++ take used r))

    turned_goes : goes ≡ true → closes_behind (judge own) ≡ false → AsksAlong Leaves c (u ++ r) (drop used r) s t talk talk'
    turned_goes on stays =
        let said = a.sent.whole on in
        let is = head_bytes u r skip end used span.total span.within span.front in
        let e : (more : List ℕ) → heads_on ((u ++ r) ++ more) ≡ own ∷ heads_on (drop end (u ++ r) ++ more) =
        λ more. subst (λ x. heads_on ((u ++ r) ++ more) ≡ x ∷ heads_on (drop end (u ++ r) ++ more)) (sym is)
        (heads-goes_behind (u ++ r) more skip end span.found (subst (λ x. closes_behind (judge x) ≡ false) is stays)) in
        record {
          heads = own ∷ [];
          cut = λ more. e more ∙ ap (λ l. own ∷ heads_on (l ++ more)) (behind_head u r end used span.total);
          answered = a.asks.answered;
          asked = append-nil (requests_in (judge own)) ∙ a.asks.cut ∙ ap (λ l. requests_of a.asks.answered ++ l) (a.asks.all on).0
              ∙ append-nil (requests_of a.asks.answered);
          in_turn = a.asks.in_turn;
          memory = (a.asks.all on).1;
          sent = said.0 ∷ [];
          spoke = subst (λ l. Spoke c l false talk talk') (sym (append-nil (response_bytes said.0))) said.2;
          each = refl;
          by = are_one said.0 own a.asks.answered said.1;
        }

    turned_stops : goes ≡ false → AsksAsSent Leaves false (requests_on (u ++ r)) s t (SentBefore c false (u ++ r) talk talk')
    turned_stops off =
        let is = head_bytes u r skip end used span.total span.within span.front in
        let x = heads-head (u ++ r) skip end span.found in
        let heads : heads_on (u ++ r) ≡ own ∷ x.0 = x.1 ∙ ap (λ l. l ∷ x.0) (sym is) in
        let alone : closes_behind (judge own) ≡ true → heads_on (u ++ r) ≡ own ∷ [] =
        λ closes. heads-closes (u ++ r) skip end span.found (subst (λ l. closes_behind (judge l) ≡ true) is closes) ∙ ap (λ l. l ∷ []) (sym is) in
        record {
          asks = asks_some (requests_in (judge own)) (requests_to x.0) (requests_on (u ++ r)) s t (ap requests_to heads) goes a.asks;
          sent = before_stop c goes own (u ++ r) x.0 talk talk' a.asks.answered off (asks_below goes (requests_in (judge own)) s t a.asks) heads alone a.sent;
        }

  pub turned_head : (c : ℕ) (u r : List ℕ) (skip end used : ℕ) (goes : Bool) (turn : HeadTurn) (s t : K) (talk talk' : Option Talk)
      → turn ≡ cond goes (turns.Next used) turns.Stops → Span u r skip end used
      → (goes ≡ true → closes_behind (judge (slice_range (u ++ take used r) skip (length (u ++ take used r)))) ≡ false)
      → AsksAsSent Leaves goes (requests_in (judge (slice_range (u ++ take used r) skip (length (u ++ take used r))))) s t
      (SentFor c goes (slice_range (u ++ take used r) skip (length (u ++ take used r))) talk talk')
      → AsksBy Leaves c u r turn s t talk talk'
  turned_head c u r skip end used true turn s t talk talk' is span going a =
      subst (λ x. AsksBy Leaves c u r x s t talk talk') (sym is) (turned_goes c u r skip end used true s t talk talk' span a refl (going refl))
  turned_head c u r skip end used false turn s t talk talk' is span going a =
      subst (λ x. AsksBy Leaves c u r x s t talk talk') (sym is) (turned_stops c u r skip end used false s t talk talk' span a refl)

  pub starved_stops : (c : ℕ) (b : List ℕ) (s : K) (talk talk' : Option Talk) → Starved c talk talk'
      → AsksAsSent Leaves false (requests_on b) s s (SentBefore c false b talk talk')
  starved_stops c b s talk talk' h = record { asks = asks_none (requests_on b) s; sent = want_before c b h.0 talk talk' h.1 }

  pub turned_held : (c : ℕ) (u r u' : List ℕ) (turn : HeadTurn) (s : K) (talk talk' : Option Talk) → frame (u ++ r) ≡ framed.More
      → HoldsBytes c u r turn u' talk talk' → AsksBy Leaves c u r turn s s talk talk'
  turned_held c u r u' (turns.Next i) s talk talk' f h = absurd h
  turned_held c u r u' turns.Holds s talk talk' f h = (heads-more (u ++ r) f, refl, h.1)
  turned_held c u r u' turns.Stops s talk talk' f h = starved_stops c (u ++ r) s talk talk' h

  pub turned_long : (c : ℕ) (b : List ℕ) (s : K) (talk talk' : Option Talk) → frame b ≡ framed.TooLong → IsTurnedAway c talk talk'
      → AsksAsSent Leaves false (requests_on b) s s (SentBefore c false b talk talk')
  turned_long c b s talk talk' f h =
      record { asks = asks_none (requests_on b) s; sent = before_none c b talk talk' (heads-long b f) (some_refused c talk talk' h) }

  -- ---- the way through the bytes
  pub along_start : (c : ℕ) (b : List ℕ) (s : K) (talk : Option Talk) → AsksAlong Leaves c b b s s talk talk
  along_start c b s talk =
      record {
        heads = [];
        cut = λ more. refl;
        answered = [];
        asked = refl;
        in_turn = refl;
        memory = All-nil (λ (a : Answered). is_want a.1 ≡ false);
        sent = [];
        spoke = spoke_nothing c talk;
        each = refl;
        by = (refl, refl);
      }

  pub along_both : (c : ℕ) (b left last : List ℕ) (s t v : K) (talk mid talk' : Option Talk) → AsksAlong Leaves c b left s t talk mid
      → AsksAlong Leaves c left last t v mid talk' → AsksAlong Leaves c b last s v talk talk'
  along_both c b left last s t v talk mid talk' h k = record {
    heads = h.heads ++ k.heads;
    cut = λ more. h.cut more ∙ ap (λ l. h.heads ++ l) (k.cut more) ∙ sym (append_assoc h.heads k.heads (heads_on (last ++ more)));
    answered = h.answered ++ k.answered;
    asked = asked_both h.heads k.heads ∙ ap₂ (λ x y. x ++ y) h.asked k.asked ∙ sym (requests_both h.answered k.answered);
    in_turn = in_turn_both h.answered k.answered s t v h.in_turn k.in_turn;
    memory = All-append (λ (a : Answered). is_want a.1 ≡ false) h.answered k.answered h.memory k.memory;
    sent = h.sent ++ k.sent;
    spoke = subst (λ l. Spoke c l false talk talk') (sym (bytes_both h.sent k.sent))
        (spoke_both c (all_bytes h.sent) (all_bytes k.sent) false talk mid talk' h.spoke k.spoke);
    each = omega (arith, h.each, k.each, length-append h.heads k.heads, length-append h.sent k.sent);
    by = are_both h.sent k.sent h.heads k.heads h.answered k.answered h.by k.by;
  }

  pub along_next : (c : ℕ) (b left u u' later : List ℕ) (s t v : K) (talk mid talk' : Option Talk) → u' ≡ [] → later ≡ left
      → AsksAlong Leaves c b u s t talk mid → AsksAlong Leaves c u left t v mid talk' → AsksAlong Leaves c b (u' ++ later) s v talk talk'
  along_next c b left u u' later s t v talk mid talk' empty is h k =
      subst (λ l. AsksAlong Leaves c b (l ++ later) s v talk talk') (sym empty)
      (subst (λ l. AsksAlong Leaves c b l s v talk talk') (sym is) (along_both c b u left s t v talk mid talk' h k))

  pub along_hold : (c : ℕ) (whole : Bool) (b left : List ℕ) (s t u : K) (talk mid talk' : Option Talk) → AsksAlong Leaves c b left s t talk mid
      → (heads_on left ≡ []) × (u ≡ t) × (talk' ≡ mid) → AsksAsSent Leaves whole (requests_on b) s u (SentBefore c whole b talk talk')
  along_hold c whole b left s t u talk mid talk' h end =
      let all : heads_on b ≡ h.heads = cut_here b left h.heads h.cut ∙ ap (λ l. h.heads ++ l) end.0 ∙ append-nil h.heads in
      let asked : requests_on b ≡ requests_of h.answered = ap requests_to all ∙ h.asked in
      let count : length h.answered ≡ length (requests_on b) = omega (arith, ap length asked, requests_length h.answered) in
      let first : take (length h.sent + 1) (heads_on b) ≡ heads_on b = take_all (length h.sent + 1) (heads_on b) (omega (arith, ap length all, h.each)) in
      record {
        asks = record {
          answered = h.answered;
          later = [];
          cut = asked ∙ sym (append-nil (requests_of h.answered));
          in_turn = subst (InTurn Leaves h.answered s) (sym end.1) h.in_turn;
          all = λ e. (refl, h.memory);
        };
        sent = record {
          sent = h.sent;
          part = [];
          fails = false;
          spoke = subst (λ l. Spoke c l false talk talk') (sym (append-nil (all_bytes h.sent)))
              (subst (Spoke c (all_bytes h.sent) false talk) (sym end.2) h.spoke);
          by = subst (λ l. SentBy h.sent l h.answered []) (sym all) (by_all h.sent h.heads h.answered h.by);
          enough = omega (arith, count, ap (λ l. length (requests_to l)) first);
          all = inl (h.memory, count);
          whole = λ e. (subst (λ l. AreResponsesBy h.sent l h.answered) (sym all) h.by, refl, refl);
        };
      }

  -- the bytes that are left are the unread ones
  pub along_rest : (c : ℕ) (b left unread : List ℕ) (s t u : K) (talk mid talk' : Option Talk) → AsksAlong Leaves c b left s t talk mid
      → (heads_on left ≡ []) × (u ≡ t) × (talk' ≡ mid) → unread ≡ left → IsRest b unread
  along_rest c b left unread s t u talk mid talk' h end is = λ more.
      let all : heads_on b ≡ h.heads = cut_here b left h.heads h.cut ∙ ap (λ l. h.heads ++ l) end.0 ∙ append-nil h.heads in
      h.cut more ∙ ap₂ (λ x y. x ++ heads_on (y ++ more)) (sym all) (sym is)

  pub along_stop : (c : ℕ) (b left : List ℕ) (s t u : K) (talk mid talk' : Option Talk) → AsksAlong Leaves c b left s t talk mid
      → AsksAsSent Leaves false (requests_on left) t u (SentBefore c false left mid talk')
      → AsksAsSent Leaves false (requests_on b) s u (SentBefore c false b talk talk')
  along_stop c b left s t u talk mid talk' h a =
      let here = cut_here b left h.heads h.cut in
      let cut : requests_on b ≡ requests_of h.answered ++ requests_on left =
      ap requests_to here ∙ asked_both h.heads (heads_on left) ∙ ap (λ l. l ++ requests_on left) h.asked in
      record {
        asks = record {
          answered = h.answered ++ a.asks.answered;
          later = a.asks.later;
          cut = cut ∙ ap (λ l. requests_of h.answered ++ l) a.asks.cut ∙ sym (append_assoc (requests_of h.answered) (requests_of a.asks.answered) a.asks.later)
              ∙ ap (λ l. l ++ a.asks.later) (sym (requests_both h.answered a.asks.answered));
          in_turn = in_turn_both h.answered a.asks.answered s t u h.in_turn a.asks.in_turn;
          all = λ e. absurd cc;
        };
        sent = record {
          sent = h.sent ++ a.sent.sent;
          part = a.sent.part;
          fails = a.sent.fails;
          spoke = subst (λ l. Spoke c l a.sent.fails talk talk')
              (sym (ap (λ l. l ++ a.sent.part) (bytes_both h.sent a.sent.sent) ∙ append_assoc (all_bytes h.sent) (all_bytes a.sent.sent) a.sent.part))
              (spoke_both c (all_bytes h.sent) (all_bytes a.sent.sent ++ a.sent.part) a.sent.fails talk mid talk' h.spoke a.sent.spoke);
          by = subst (λ l. SentBy (h.sent ++ a.sent.sent) l (h.answered ++ a.asks.answered) a.sent.part) (sym here)
              (by_behind h.sent a.sent.sent h.heads (heads_on left) h.answered a.asks.answered a.sent.part h.by a.sent.by);
          enough = enough_both h.heads (heads_on left) (heads_on b) h.answered a.asks.answered (length h.sent) (length a.sent.sent)
              (length (h.sent ++ a.sent.sent)) here h.asked h.each (length-append h.sent a.sent.sent) a.sent.enough;
          all = memory_both h.answered a.asks.answered b left ((a.sent.fails ≡ true) ⊎ (a.sent.part ≡ memory_bytes)) cut h.memory a.sent.all;
          whole = λ e. absurd cc;
        };
      }

  -- ---- a piece
  pub asks_counted : (whole : Bool) (old : Left) (taken : ℕ) (unread piece counted : List ℕ) (s t : K) (Sent : List ℕ → List Answered → Type 0)
      → record { taken = taken; unread = unread } ≡ old → counted ≡ take (MAX_CONNECTION_BYTES - taken) piece
      → AsksAsSent Leaves whole (requests_on (unread ++ counted)) s t (Sent (unread ++ counted))
      → AsksAsSent Leaves whole (requests_on (old.unread ++ take (MAX_CONNECTION_BYTES - old.taken) piece)) s t
      (Sent (old.unread ++ take (MAX_CONNECTION_BYTES - old.taken) piece))
  asks_counted whole old taken unread piece counted s t Sent is e a =
      subst (λ (l : Left). AsksAsSent Leaves whole (requests_on (l.unread ++ take (MAX_CONNECTION_BYTES - l.taken) piece)) s t
      (Sent (l.unread ++ take (MAX_CONNECTION_BYTES - l.taken) piece))) is
      (subst (λ x. AsksAsSent Leaves whole (requests_on (unread ++ x)) s t (Sent (unread ++ x))) e a)

  -- a connection that was kept, and is put back or not
  pub asks_of_line : (c : ℕ) (core core' : Lefts) (l : Left) (piece : List ℕ) (kept : Option Left) (s t : K) (talk mid talk' : Option Talk)
      → core' ≡ slice_set core c kept → c < length core → Some l ≡ left_at core c → talk' ≡ mid
      → AsksAsSent Leaves (is_some kept) (requests_on (l.unread ++ take (MAX_CONNECTION_BYTES - l.taken) piece)) s t
      (SentBefore c (is_some kept) (l.unread ++ take (MAX_CONNECTION_BYTES - l.taken) piece) talk mid)
      → AsksAsSent Leaves (is_some (left_at core' c)) (requests_on (bytes_behind (left_at core c) piece)) s t
      (SentBefore c (is_some (left_at core' c)) (bytes_behind (left_at core c) piece) talk talk')
  asks_of_line c core core' l piece kept s t talk mid talk' is within was same a =
      let at : left_at core' c ≡ kept = ap (λ k. left_at k c) is ∙ set_at core c c kept within ∙ ap (λ b. cond b kept (left_at core c)) (itself c) in
      subst (λ x. AsksAsSent Leaves (is_some x) (requests_on (bytes_behind (left_at core c) piece)) s t
      (SentBefore c (is_some x) (bytes_behind (left_at core c) piece) talk talk')) (sym at)
      (subst (λ x. AsksAsSent Leaves (is_some kept) (requests_on (bytes_behind x piece)) s t
      (SentBefore c (is_some kept) (bytes_behind x piece) talk talk')) was
      (subst (λ x. AsksAsSent Leaves (is_some kept) (requests_on (l.unread ++ take (MAX_CONNECTION_BYTES - l.taken) piece)) s t
      (SentBefore c (is_some kept) (l.unread ++ take (MAX_CONNECTION_BYTES - l.taken) piece) talk x)) (sym same) a))

-- ---- an engine
-- a count of reads that rose twice
pub reads_both : (m n before mid now : ℕ) → ReadsWithin m before mid → ReadsWithin n mid now → ReadsWithin (m + n) before now
reads_both m n before mid now h k = record { later = omega (arith, h.later, k.later); within = omega (arith, h.within, k.within) }

caused_rose : (read : Bool) (before now : ℕ) → CausedReads read before now → RoseBy (cond read 1 0) before now
caused_rose true before now h = rose_one before now (h.failed refl)
caused_rose false before now h = rose_none before now h.later

-- the same where the store tells these bytes
abbrev due_where : (told told' : Option (List ℕ)) → told ≡ told' → (a : Answered) (old : EngineView) (n : ℕ) (new : EngineView) → IsDue told a old n new
    → IsDue told' a old n new
due_where told told' e a old n new h = record {
  answer = h.answer;
  reply = h.reply;
  few = h.few;
  index = h.index;
  keeps = h.keeps;
  unchanged = λ b is. h.unchanged b (e ∙ is);
  changed = subst (λ x. IfErr h.answer (IsChangeIn old.index x)) e h.changed;
  right = λ b is. h.right b (e ∙ is);
  sum = h.sum;
}

-- the reads that are due for requests which an engine was asked in turn
pub record SumOf (told : Option (List ℕ)) (xs : List Answered) (s t : Standing) : Type 0 where
  pub n : ℕ
  pub are_due : AreDue told xs s.engine n t.engine
  pub reads : ReadsWithin n s.reads t.reads
  pub sharp : ForSome told (λ b. StandsFor b s.engine.index → AreGood b s.engine → ReadsWithin (sharp_sum told b xs s.engine n t.engine are_due) s.reads t.reads)
  pub rose : RoseBy (read_failures xs) s.faults t.faults

sum_of : (told : Option (List ℕ)) (xs : List Answered) (s t : Standing) → s.told ≡ told → InTurn EngineLeaves xs s t → SumOf told xs s t
sum_of told [] s t e h =
    subst (λ (x : Standing). SumOf told [] s x) (sym h) (record {
      n = 0;
      are_due = (refl, refl);
      reads = record { later = omega arith; within = omega arith };
      sharp = λ b is stands good. record { later = omega arith; within = omega arith };
      rose = rose_none s.faults s.faults (omega arith);
    })
sum_of told (a ∷ xs) s t e h =
    let others = sum_of told xs h.0 t (h.1.told ∙ e) h.2 in
    record {
      n = h.1.n + others.n;
      are_due = (h.1.n, others.n, h.0.engine, refl, due_where s.told told e a s.engine h.1.n h.0.engine h.1.is_due, others.are_due);
      reads = reads_both h.1.n others.n s.reads h.0.reads t.reads h.1.reads others.reads;
      sharp = λ b is stands good.
          let right = h.1.is_due.right b (e ∙ is) stands good in
          reads_both (sharp_due b a.0 s.engine h.1.is_due.answer) (sharp_sum told b xs h.0.engine others.n t.engine others.are_due) s.reads h.0.reads t.reads
          (h.1.sharp b (e ∙ is) stands good) (others.sharp b is (subst (StandsFor b) (sym h.1.is_due.index) stands) right.good);
      rose = rose_both (cond (is_read a.1) 1 0) (read_failures xs) s.faults h.0.faults t.faults
          (caused_rose (is_read a.1) s.faults h.0.faults h.1.caused) others.rose;
    }

pub stands_so : (b b' : Option (List ℕ)) (e e' : EngineView) (m m' n n' : ℕ) → b ≡ b' → e ≡ e' → m ≡ m' → n ≡ n' → standing b e m n ≡ standing b' e' m' n'
stands_so b b' e e' m m' n n' h i j k = ap (λ x. standing x e m n) h ∙ ap (λ x. standing b' x m n) i ∙ ap (λ x. standing b' e' x n) j ∙ ap (standing b' e' m') k

abbrev Within : Bool → List Request → (List Answered → Type 0) → Standing → Standing → Type 0
Within whole qs Sent s t = AnswersWithin s.told whole qs s.engine t.engine s.reads t.reads s.faults t.faults Sent

within_due : (whole : Bool) (qs : List Request) (s t : Standing) (Sent : List Answered → Type 0) → AsksAsSent EngineLeaves whole qs s t Sent
    → Within whole qs Sent s t
within_due whole qs s t Sent a =
    let sum = sum_of s.told a.asks.answered s t refl a.asks.in_turn in
    record {
      answered = a.asks.answered;
      later = a.asks.later;
      cut = a.asks.cut;
      all = a.asks.all;
      n = sum.n;
      are_due = sum.are_due;
      reads = sum.reads;
      sharp = sum.sharp;
      rose = sum.rose;
      sent = a.sent;
    }

-- the same of an engine and counts that are these
pub within_for : (whole : Bool) (qs : List Request) (s t : Standing) (told : Option (List ℕ)) (old new : EngineView) (before now failed failed' : ℕ)
    (Sent : List Answered → Type 0) → s ≡ standing told old before failed → t ≡ standing t.told new now failed'
    → AsksAsSent EngineLeaves whole qs s t Sent → AnswersWithin told whole qs old new before now failed failed' Sent
within_for whole qs s t told old new before now failed failed' Sent e f a =
    subst (λ x. Within whole qs Sent x (standing t.told new now failed')) e (subst (Within whole qs Sent s) f (within_due whole qs s t Sent a))

-- ---- responses
open_by : (c : ℕ) (r : Response) (goes : Bool) (talk talk' : Option Talk) → Delivered c r goes talk talk' → goes ≡ true → r.closes ≡ false
open_by c r true talk talk' h on = h.0
open_by c r false talk talk' h on = absurd cc

pub sent_open : (c : ℕ) (bytes other : List ℕ) (answer : Result Answer Memory) (goes : Bool) (talk talk' : Option Talk) → bytes ≡ other
    → IfOk answer (λ a. a.close ≡ closes_behind (judge bytes)) → IsSent c answer goes talk talk' → goes ≡ true → closes_behind (judge other) ≡ false
sent_open c bytes other (Ok a) goes talk talk' e closes h on =
    ap (λ l. closes_behind (judge l)) (sym e) ∙ sym closes ∙ open_by c (response a) goes talk talk' h on
sent_open c bytes other (Err x) goes talk talk' e closes h on = absurd (let y : true ≡ false = sym on ∙ h.0 in cc)

-- some corpus
nowhere : Corpus
nowhere = record { titles = map.empty; rows = [] }

pub refused_close : (j : Judgement) (fault : HeadFault) (r : Response) → IsHeadCause j fault → IsJudgedSo fault r → r.closes ≡ closes_behind j
refused_close j fault r cause h = ap (λ (x : Response). x.closes) (h nowhere j cause) ∙ closes_by nowhere j

-- ---- one request of an engine
pub few_titles : (q : Request) (r : Result (Reply × Note) FetchFault) → IfOk r (λ x. length x.0.hits ≤ q.hits) → titles_asked q r ≤ q.hits
few_titles q (Ok x) h = h
few_titles q (Err e) h = omega arith

pub read_in : (r : Result (Reply × Note) FetchFault) → is_read (reply_in r) ≡ is_read r
read_in (Ok x) = refl
read_in (Err refusals.Read) = refl
read_in (Err (refusals.Changed rule at)) = refl
read_in (Err refusals.Memory) = refl

pub same_refusal : (answer : Result (Reply × Note) FetchFault) (e : FetchFault) (r : Result Reply FetchFault) → answer ≡ Err e → IsErrAnd r (λ x. x ≡ e)
    → r ≡ reply_in answer
same_refusal answer e (Ok x) was is = absurd is
same_refusal answer e (Err x) was is = ap Err is ∙ sym (ap reply_in was)
