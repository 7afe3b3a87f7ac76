-- Which requests are answered of the bytes of a connection, and how much may be read for them.
--
-- Source: this engine's own. The law `heads_are_served` in `src/laws.rt` says that what is served of bytes is the responses to
-- these heads.
--
--   closes_behind j         the connection is closed after the response to the judgement
--   requests_by p r         the request of parameters with this first refusal; none where there is one
--   requests_in j           the request that a judgement asks; none where the head or its parameters are refused
--   heads_framed            the heads by what framing found
--   heads_among n b         the heads of unread bytes, at most n of them
--   heads_on b              the heads of unread bytes, up to the first after which the connection is closed; of no bytes none
--   requests_to hs          the requests of some heads
--   requests_on b           those of the heads of unread bytes
--   IsRest b u              whatever bytes come behind b, their heads are those of b and then those behind the bytes u
--   bytes_behind l piece    the bytes that a piece leaves to be answered on a connection of which l is kept
--   bytes_to_answer core e piece    those that an event leaves; none where it is no piece
--   goes_on core e          the connection of a piece is kept; so it is said of each event that is no piece
--   Answered                a request and the answer to it
--   requests_of xs          the requests that were answered
--   reply_in r              an answer of an engine, without how the reply was made
--   is_want r, read_failures xs      the answer is want of memory; how many answers are a failed read
--   IsRightOver b q e r e'  over the bytes b of the index: the right reply, and what is kept behind it
--   response_by close r     the response by the answer to a request; none by want of memory
--   IsBy right close xs r   r is the response by the answers to what is asked; where nothing is, the right one over each corpus
--   IsResponseBy h xs r     the same to a head
--   IsPartOf text part      some first bytes of a text
--   IsTextBy hs xs part     some first bytes of the response to the first of some heads by these answers, or of that of memory
--   AreResponsesBy rs hs xs     the responses to heads, head by head, by the answers to what they ask
--   IsWholeBy               such responses, nothing behind them, and no send failed
--   SentBy rs hs xs part    such responses to some first heads, and behind them some first bytes of the next one
--   IsDue told a e n e'     n reads are due for a request of the engine e with this answer, which leaves the engine e'
--   AreDue told xs e n e'   the same of requests that are asked one after the other
--   sharp_due b q e r       the reads due for a request of the engine e with this answer, over the bytes b, without blocks that no hit reaches
--   sharp_sum told b xs     their sum for requests that are asked one after the other
--   HasMemory xs            none of the answers is want of memory
--   SentBefore c goes b xs  behind a response that wasn't sent whole on the connection c nothing was asked of the bytes b; where it
--                           goes on each head has its response
--   SentAt event goes b xs  the same where the event is a piece
--   AnswersWithin           some first requests were answered, and no more was read than is due for them, and over bytes of the index no
--                           block that no hit reaches
use Rattle.std.specs.Prelude.{◌≡◌, ◌⊎◌, ℕ, suc, ◌+◌, ◌-◌, ◌≤◌, Bool, true, false, cond, List, [], ◌∷◌, ◌++◌, map, length, take, drop, slice_range, All, Option}
use Rattle.std.specs.Prelude.{Some, None, is_some, Result, Ok, Err, IfOk, IfErr}
use Prim.Native.Nat.{zero}
use Rattle.std.specs.List.{flat_map}
use Rattle.std.specs.Option.{ForSome}
use Rattle.cs_base.specs.declared.content.limits.TheConstants.{MAX_CONNECTION_BYTES}
use Rattle.cs_base.specs.declared.outside.hub.Event.{Event}
use Rattle.cs_base.specs.declared.outside.hub.Event.TheVariants.{Opened, Piece, Ended, Over}
use Rattle.cs_base.specs.outside.Causes.{ReadsWithin}
use Rattle.cs_base.specs.outside.Hub.{Talk}
use Rattle.cs_file.specs.Indexes.{StandsFor}
use Rattle.cs_model.specs.Corpus.{Corpus}
use Rattle.cs_model.specs.Parameters.{RequestRefusal, request_of, request_refusal}
use Rattle.cs_model.specs.Replies.{Reply, reply_text}
use Rattle.cs_model.specs.Requests.{Request, reply_of}
use Rattle.cs_model_index.specs.Sections.{file_corpus}
use Rattle.cs_model_kept.specs.Due.{due}
use Rattle.cs_model_kept.specs.Sharp.{sharp}
use Rattle.cs_model_serving.specs.declared.framed.Framed.{Framed}
use Rattle.cs_model_serving.specs.declared.framed.Framed.TheVariants.{Head, More, TooLong}
use Rattle.cs_model_serving.specs.Connections.{Left}
use Rattle.cs_model_serving.specs.Framing.{frame}
use Rattle.cs_model_serving.specs.Heads.{Judgement, refused, asks, judge}
use Rattle.cs_model_serving.specs.Responses.{Response, all_bytes, index_changed, memory_bytes, read_failed, response_bytes, response_to, to_refused, too_long}
use Rattle.cs_file.specs.declared.fault.FetchFault.{FetchFault}
use Rattle.cs_file.specs.declared.fault.FetchFault.TheVariants as faults
use Rattle.cs_engine.specs.declared.note.Note.{Note}
use Rattle.cs_rows.specs.IndexReading.{IsChangeIn, division}
use Rattle.cs_engine.specs.Asking.{titles_asked}
use Rattle.cs_file.specs.CallAnswers.{is_changed, is_read}
use Rattle.cs_engine.specs.Keeping.{AreGood, EngineView, IsAfter, KeepsAnswers, note_plan}
use Rattle.cs_hub.specs.HubFollowing.{Lefts, left_at}
use Rattle.cs_hub.specs.Speaking.{Spoke}
use Rattle.cs_hub.specs.Streams.{RoseBy}

-- ---- requests
-- as the response itself says, over each corpus
abbrev pub closes_behind : Judgement → Bool
closes_behind (refused r) = (to_refused r).closes
closes_behind (asks p close) = close

-- what parameters ask, where they aren't refused; no parameters ask the empty query
abbrev pub requests_by : List ℕ → Option RequestRefusal → List Request
requests_by p None = request_of p ∷ []
requests_by p (Some r) = []

-- a head that is refused asks nothing
abbrev pub requests_in : Judgement → List Request
requests_in (refused r) = []
requests_in (asks p close) = requests_by p (request_refusal p)

-- the bytes of a head, and unless the connection is closed those of the heads behind it; none where no head is found
abbrev pub heads_framed : List ℕ → Framed → (List ℕ → List (List ℕ)) → List (List ℕ)
heads_framed b (Head skip end) later = slice_range b skip end ∷ cond (closes_behind (judge (slice_range b skip end))) [] (later (drop end b))
heads_framed b More later = []
heads_framed b TooLong later = []

-- of at most 0 heads none
abbrev pub heads_among : ℕ → List ℕ → List (List ℕ)
heads_among zero b = []
heads_among (suc n) b = heads_framed b (frame b) (heads_among n)

-- the heads that are answered, each by its own bytes; there are no more of them than bytes
unfoldable pub heads_on : List ℕ → List (List ℕ)
heads_on b = heads_among (length b) b

-- what some heads ask, in their order; none ask nothing
abbrev pub requests_to : List (List ℕ) → List Request
requests_to hs = flat_map (λ h. requests_in (judge h)) hs

-- what the heads of the bytes ask; of no bytes nothing
abbrev pub requests_on : List ℕ → List Request
requests_on b = requests_to (heads_on b)

-- u are the bytes behind the last head of b: no head begins before them that ends in bytes behind b
abbrev pub IsRest : List ℕ → List ℕ → Type 0
IsRest b u = (more : List ℕ) → heads_on (b ++ more) ≡ heads_on b ++ heads_on (u ++ more)

-- ---- events
-- the bytes that weren't read, and behind them those of the piece that count; none on a connection that isn't kept
abbrev pub bytes_behind : Option Left → List ℕ → List ℕ
bytes_behind None piece = []
bytes_behind (Some l) piece = l.unread ++ take (MAX_CONNECTION_BYTES - l.taken) piece

-- an event that is no piece leaves none
abbrev pub bytes_to_answer : Lefts → Event → List ℕ → List ℕ
bytes_to_answer core (Opened c) piece = []
bytes_to_answer core (Piece c n) piece = bytes_behind (left_at core c) piece
bytes_to_answer core (Ended c) piece = []
bytes_to_answer core Over piece = []

-- something is kept of the connection of a piece; of other events it is said in any case
abbrev pub goes_on : Lefts → Event → Bool
goes_on core (Opened c) = true
goes_on core (Piece c n) = is_some (left_at core c)
goes_on core (Ended c) = true
goes_on core Over = true

-- ---- answers
-- the answer is a reply, or why there is none
abbrev pub Answered : Type 0
Answered = Request × Result Reply FetchFault

-- in their order; of no answers none
abbrev pub requests_of : List Answered → List Request
requests_of xs = map (λ a. a.0) xs

-- the reply alone; what kept it from being given stays
abbrev pub reply_in : Result (Reply × Note) FetchFault → Result Reply FetchFault
reply_in (Ok r) = Ok r.0
reply_in (Err e) = Err e

-- a reply isn't
abbrev pub is_want : Result Reply FetchFault → Bool
is_want (Err faults.Memory) = true
is_want _ = false

-- of no answers none is
abbrev pub read_failures : List Answered → ℕ
read_failures [] = 0
read_failures (a ∷ xs) = cond (is_read a.1) 1 0 + read_failures xs

-- ---- reads
-- where there is a reply it is the right one, and behind it exactly this is kept; what is kept stays good, behind a refusal too
pub record IsRightOver (b : List ℕ) (q : Request) (old : EngineView) (answer : Result (Reply × Note) FetchFault) (new : EngineView) : Type 0 where
  pub right : IfOk answer (λ r. r.0 ≡ reply_of (file_corpus b) q)
  pub after : IsAfter b q.query old answer new
  pub good : AreGood b new

-- so many reads are due for a request by the plan from what the engine keeps and by the titles of its answer, which are at most as
-- many as hits are asked, and this engine is left behind it; where the store tells the bytes of the index no change is told, and
-- over each store the answer tells a change only by a rule that a block or a title breaks, with its place
pub record IsDue (told : Option (List ℕ)) (a : Answered) (old : EngineView) (n : ℕ) (new : EngineView) : Type 0 where
  pub answer : Result (Reply × Note) FetchFault
  pub reply : a.1 ≡ reply_in answer
  pub few : titles_asked a.0 answer ≤ a.0.hits
  pub index : new.index ≡ old.index
  pub keeps : KeepsAnswers old.index a.0.query old.answers answer new.answers
  pub unchanged : ForSome told (λ b. StandsFor b old.index → is_changed answer ≡ false)
  pub changed : IfErr answer (IsChangeIn old.index told)
  pub right : ForSome told (λ b. StandsFor b old.index → AreGood b old → IsRightOver b a.0 old answer new)
  pub sum : n ≡ due (division old.index) a.0 (note_plan a.0.query old.answers) (titles_asked a.0 answer)

-- the sum for requests that are asked one after the other, each of the engine that the one before left; for none no read is due,
-- and the engine stays as it is
abbrev pub AreDue : Option (List ℕ) → List Answered → EngineView → ℕ → EngineView → Type 0
AreDue told [] old n new = (n ≡ 0) × (new ≡ old)
AreDue told (a ∷ xs) old n new = (one : ℕ) × (others : ℕ) × (mid : EngineView) × (n ≡ one + others) × IsDue told a old one mid × AreDue told xs mid others new

-- by the same plan and titles as `due`
abbrev pub sharp_due : List ℕ → Request → EngineView → Result (Reply × Note) FetchFault → ℕ
sharp_due b q old answer = sharp (division old.index) (file_corpus b) q (note_plan q.query old.answers) (titles_asked q answer)

-- by the plans and titles that are due; 0 for none
abbrev pub sharp_sum : (told : Option (List ℕ)) (b : List ℕ) (xs : List Answered) (old : EngineView) (n : ℕ) (new : EngineView)
    → AreDue told xs old n new → ℕ
sharp_sum told b [] old n new h = 0
sharp_sum told b (a ∷ xs) old n new h = sharp_due b a.0 old h.4.answer + sharp_sum told b xs h.2 h.1 new h.5

-- ---- between answers
-- of no answers none is
abbrev pub HasMemory : List Answered → Type 0
HasMemory xs = All (λ a. is_want a.1 ≡ false) xs

-- in the place of a reply why there is none: a failed read, or exactly the change that was told
abbrev pub response_by : Bool → Result Reply FetchFault → Option Response
response_by close (Ok r) = Some (record { status = 200; closes = close; body = reply_text r })
response_by close (Err faults.Read) = Some (read_failed close)
response_by close (Err (faults.Changed rule at)) = Some (index_changed rule at close)
response_by close (Err faults.Memory) = None

-- one request is asked, or nothing is
abbrev pub IsBy : (Corpus → Response) → Bool → List Answered → Response → Type 0
IsBy right close [] r = (k : Corpus) → r ≡ right k
IsBy right close (a ∷ xs) r = (xs ≡ []) × (response_by close a.1 ≡ Some r)

-- by the head's own bytes
abbrev pub IsResponseBy : List ℕ → List Answered → Response → Type 0
IsResponseBy h xs r = IsBy (λ k. response_to k h) (closes_behind (judge h)) xs r

-- all or none of them included
abbrev pub IsPartOf : List ℕ → List ℕ → Type 0
IsPartOf text part = (n : ℕ) × (part ≡ take n text)

-- where there is no head more, of the response that says so
abbrev pub IsTextBy : List (List ℕ) → List Answered → List ℕ → Type 0
IsTextBy [] xs part = IsPartOf (response_bytes too_long) part ⊎ IsPartOf memory_bytes part
IsTextBy (h ∷ hs) xs part = ((r : Response) × IsResponseBy h xs r × IsPartOf (response_bytes r) part) ⊎ IsPartOf memory_bytes part

-- one response to each head, by as many answers as it asks requests; to no heads none
abbrev pub AreResponsesBy : List Response → List (List ℕ) → List Answered → Type 0
AreResponsesBy [] hs xs = (hs ≡ []) × (xs ≡ [])
AreResponsesBy (r ∷ rs) [] xs = ⊥
AreResponsesBy (r ∷ rs) (h ∷ hs) xs =
    (ys : List Answered) × (zs : List Answered) × (xs ≡ ys ++ zs) × IsResponseBy h ys r × AreResponsesBy rs hs zs

-- in the order of the heads; the last answers are those for the bytes behind the responses
abbrev pub SentBy : List Response → List (List ℕ) → List Answered → List ℕ → Type 0
SentBy [] hs xs part = IsTextBy hs xs part
SentBy (r ∷ rs) [] xs part = ⊥
SentBy (r ∷ rs) (h ∷ hs) xs part =
    (ys : List Answered) × (zs : List Answered) × (xs ≡ ys ++ zs) × IsResponseBy h ys r × SentBy rs hs zs part

-- one response to each head by the answers, nothing behind them, and no send failed
abbrev pub IsWholeBy : List Response → List (List ℕ) → List Answered → List ℕ → Bool → Type 0
IsWholeBy rs hs xs part fails = AreResponsesBy rs hs xs × (part ≡ []) × (fails ≡ false)

-- on the connection whole responses were sent, to the first heads of the bytes, and perhaps bytes behind them. Each is by the answers
-- to what its head asks, whatever the store tells. No more was answered
-- than these heads and the next one ask: so behind a response that wasn't sent whole nothing was. All that the heads ask was
-- answered, and no answer is want of memory, unless a send failed or the memory response came last. Where the connection goes on,
-- one whole response was sent to each head, and nothing behind them
pub record SentBefore (c : ℕ) (goes : Bool) (b : List ℕ) (talk talk' : Option Talk) (answered : List Answered) : Type 0 where
  pub sent : List Response
  pub part : List ℕ
  pub fails : Bool
  pub spoke : Spoke c (all_bytes sent ++ part) fails talk talk'
  pub by : SentBy sent (heads_on b) answered part
  pub enough : length answered ≤ length (requests_to (take (length sent + 1) (heads_on b)))
  pub all : (HasMemory answered × (length answered ≡ length (requests_on b))) ⊎ (fails ≡ true) ⊎ (part ≡ memory_bytes)
  pub whole : goes ≡ true → IsWholeBy sent (heads_on b) answered part fails

-- at an event that is no piece nothing is asked
abbrev pub SentAt : Event → Bool → List ℕ → Option Talk → Option Talk → List Answered → Type 0
SentAt (Opened c) goes b talk talk' answered = answered ≡ []
SentAt (Piece c m) goes b talk talk' answered = SentBefore c goes b talk talk' answered
SentAt (Ended c) goes b talk talk' answered = answered ≡ []
SentAt Over goes b talk talk' answered = answered ≡ []

-- some first ones of these requests were answered, as many as were sent; where `whole` all of them and none met want of memory. No
-- more was read than is due for them, and where the store tells the bytes of the index and what is kept is good, no block that no hit
-- reaches. No more answers are failed reads than the count of failures rose by
pub record AnswersWithin (told : Option (List ℕ)) (whole : Bool) (qs : List Request) (old new : EngineView) (before now failed failed' : ℕ)
    (Sent : List Answered → Type 0) : Type 0 where
  pub answered : List Answered
  pub later : List Request
  pub cut : qs ≡ requests_of answered ++ later
  pub all : whole ≡ true → (later ≡ []) × HasMemory answered
  pub n : ℕ
  pub are_due : AreDue told answered old n new
  pub reads : ReadsWithin n before now
  pub sharp : ForSome told (λ b. StandsFor b old.index → AreGood b old → ReadsWithin (sharp_sum told b answered old n new are_due) before now)
  pub rose : RoseBy (read_failures answered) failed failed'
  pub sent : Sent answered
