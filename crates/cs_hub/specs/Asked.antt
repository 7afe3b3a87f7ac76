-- What is asked of an answerer, one request after the other.
--
--   InTurn Leaves xs s t    requests with these answers led from the state s to t, each by Leaves
--   AsksOf Leaves whole qs s t      some first ones of the requests did, and where `whole` all
--   AsksAsSent Leaves whole qs s t Sent   the same, of as many as Sent says
--   AsksAlong Leaves c b left s t   those of the bytes b before the bytes that are left did, each answered so
--   AsksBy                  what a turn asked, by what it gave
--   StaysAnswering          what every call keeps of what answers requests
--   LeavesIndex             what every call keeps of an engine and its store
--   Standing, standing      an engine over its store, as it stands between requests
--   EngineLeaves s q r t    a request was asked of an engine over its store
use Rattle.std.specs.Prelude.{◌≡◌, ◌≤◌, ℕ, Bool, true, false, List, [], ◌∷◌, ◌++◌, length, drop, Option, Result}
use Rattle.std.specs.Option.{ForSome}
use Rattle.cs_base.specs.outside.Causes.{ReadsWithin}
use Rattle.cs_base.specs.outside.Hub.{Talk}
use Rattle.cs_file.specs.CallAnswers.{is_read}
use Rattle.cs_engine.specs.Keeping.{AreGood, EngineView}
use Rattle.cs_file.specs.declared.fault.FetchFault.{FetchFault}
use Rattle.cs_file.specs.Indexes.{CausedReads, StandsFor}
use Rattle.cs_model.specs.Corpus.{Corpus}
use Rattle.cs_model.specs.Replies.{Reply}
use Rattle.cs_model.specs.Requests.{Request}
use Rattle.cs_model_serving.specs.Responses.{Response, all_bytes}
use Rattle.cs_hub.specs.declared.reading.HeadTurn.{HeadTurn}
use Rattle.cs_hub.specs.declared.reading.HeadTurn.TheVariants as turns
use Rattle.cs_hub.specs.DueReads.{Answered, AreResponsesBy, HasMemory, IsDue, SentBefore}
use Rattle.cs_hub.specs.DueReads.{heads_on, requests_of, requests_on, requests_to, sharp_due}
use Rattle.cs_hub.specs.Speaking.{Spoke}

module _ {K : Type 0} (Leaves : K → Request → Result Reply FetchFault → K → Type 0) where
  -- each state is the one that the request before left; of no requests the last is the first
  abbrev pub InTurn : List Answered → K → K → Type 0
  InTurn [] s t = t ≡ s
  InTurn (a ∷ xs) s t = (mid : K) × Leaves s a.0 a.1 mid × InTurn xs mid t

-- the requests behind them aren't asked, as where a send failed or memory ran out; where `whole` there are none behind, and memory
-- didn't run out
pub record AsksOf {K : Type 0} (Leaves : K → Request → Result Reply FetchFault → K → Type 0) (whole : Bool) (qs : List Request) (s t : K) : Type 0 where
  pub answered : List Answered
  pub later : List Request
  pub cut : qs ≡ requests_of answered ++ later
  pub in_turn : InTurn Leaves answered s t
  pub all : whole ≡ true → (later ≡ []) × HasMemory answered

-- so many were asked as what was sent between the two states allows
pub record AsksAsSent {K : Type 0} (Leaves : K → Request → Result Reply FetchFault → K → Type 0) (whole : Bool) (qs : List Request) (s t : K)
    (Sent : List Answered → Type 0) : Type 0 where
  pub asks : AsksOf Leaves whole qs s t
  pub sent : Sent asks.answered

-- the heads of the bytes that are left, with any behind them, come behind these, and only whole responses were sent, one to each head
pub record AsksAlong {K : Type 0} (Leaves : K → Request → Result Reply FetchFault → K → Type 0) (c : ℕ) (b left : List ℕ) (s t : K)
    (talk talk' : Option Talk) : Type 0 where
  pub heads : List (List ℕ)
  pub cut : (more : List ℕ) → heads_on (b ++ more) ≡ heads ++ heads_on (left ++ more)
  pub answered : List Answered
  pub asked : requests_to heads ≡ requests_of answered
  pub in_turn : InTurn Leaves answered s t
  pub memory : HasMemory answered
  pub sent : List Response
  pub spoke : Spoke c (all_bytes sent) false talk talk'
  pub each : length heads ≡ length sent
  pub by : AreResponsesBy sent heads answered

-- a head was answered; or no head ends there, and nothing was asked or sent; or the connection is to be closed
abbrev pub AsksBy : {K : Type 0} → (K → Request → Result Reply FetchFault → K → Type 0) → ℕ → List ℕ → List ℕ → HeadTurn → K → K → Option Talk → Option Talk → Type 0
AsksBy Leaves c unread rest (turns.Next used) s t talk talk' = AsksAlong Leaves c (unread ++ rest) (drop used rest) s t talk talk'
AsksBy Leaves c unread rest turns.Holds s t talk talk' = (heads_on (unread ++ rest) ≡ []) × (t ≡ s) × (talk' ≡ talk)
AsksBy Leaves c unread rest turns.Stops s t talk talk' = AsksAsSent Leaves false (requests_on (unread ++ rest)) s t (SentBefore c false (unread ++ rest) talk talk')

-- it answers over each corpus that it answered over, what is lent to it stays, and its count of failures doesn't fall
pub record StaysAnswering {A L : Type 0} (over : A → Corpus → Type 0) (lends : A → L) (fails : A → ℕ) (old now : A) : Type 0 where
  pub still : (k : Corpus) → over old k → over now k
  pub lent : lends now ≡ lends old
  pub later : fails old ≤ fails now

-- the index and how many answers may be kept stay, and so do the bytes that the store tells and what is lent to it; its count of
-- failures doesn't fall
pub record LeavesIndex {S L : Type 0} (tells : S → Option (List ℕ)) (lends : S → L) (fails : S → ℕ) (engine engine' : EngineView) (old now : S) : Type 0 where
  pub index : engine'.index ≡ engine.index
  pub capacity : engine'.answers.capacity ≡ engine.answers.capacity
  pub bytes : tells now ≡ tells old
  pub lent : lends now ≡ lends old
  pub later : fails old ≤ fails now

-- the bytes that the store tells, the engine, and the counts of reads and of failures
pub record Standing : Type 0 where
  pub told : Option (List ℕ)
  pub engine : EngineView
  pub reads : ℕ
  pub faults : ℕ

-- such an engine, by these
abbrev pub standing : Option (List ℕ) → EngineView → ℕ → ℕ → Standing
standing told e reads faults = record { told = told; engine = e; reads = reads; faults = faults }

-- no more is read than is due, and where the store tells the bytes of the index and what is kept is good, no block that no hit reaches;
-- a failed read is told where the count of failures rose
pub record EngineLeaves (s : Standing) (q : Request) (r : Result Reply FetchFault) (t : Standing) : Type 0 where
  pub n : ℕ
  pub is_due : IsDue s.told (q, r) s.engine n t.engine
  pub told : t.told ≡ s.told
  pub reads : ReadsWithin n s.reads t.reads
  pub sharp : ForSome s.told (λ b. StandsFor b s.engine.index → AreGood b s.engine
      → ReadsWithin (sharp_due b q s.engine is_due.answer) s.reads t.reads)
  pub caused : CausedReads (is_read r) s.faults t.faults
