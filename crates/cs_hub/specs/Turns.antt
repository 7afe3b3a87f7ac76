-- What becomes of the bytes of one connection: head by head, and piece by piece.
--
--   IsOpen unread seen       the unread bytes hold no whole head, and this was seen of them
--   IsFor right r            r may be sent in the place of `right`: it doesn't say Changed, and Read only where a failure was counted
--   IsGiven                  r is that for the response of each corpus that is answered over
--   Delivered c r goes       a response was sent; the connection goes on or is to be closed
--   IsSent                   the same of what may be a response, or want of memory
--   IsOne                    one response was sent, and later bytes are served behind it
--   HoldsBytes, IsTurnedAway what was done where no head ends: the bytes were kept, or more can't come
--   GoesOn, KeepsUnread, Stops  what a turn did: a head was answered; none ends there; the connection is to be closed
--   Turned                   these by what the turn gave
--   HoldsOn, Holds           all that is served was sent, and the connection goes on
--   KeepsBelow               what is kept of a connection that goes on, by how many bytes were taken
--   Received                 what a piece did, by what is kept of the connection
--   IsAlong, Along           on the way through the bytes, some first responses were sent
use Rattle.std.specs.Prelude.{◌≡◌, ◌⊎◌, ℕ, ◌+◌, ◌-◌, ◌<◌, ◌≤◌, Bool, true, false, List, [], ◌∷◌, ◌++◌, length, take, drop, All, Option, Some, None, Result, Ok}
use Rattle.std.specs.Prelude.{Err}
use Rattle.std.specs.List.{AllZip}
use Rattle.cs_base.specs.declared.content.limits.TheConstants.{MAX_CONNECTION_BYTES, MAX_HEAD_BYTES}
use Rattle.cs_base.specs.outside.Hub.{Talk}
use Rattle.cs_base.specs.declared.memory.Memory.{Memory}
use Rattle.cs_http.specs.Looking.{IsSeen}
use Rattle.cs_http.specs.declared.framing.Seen.{Seen}
use Rattle.cs_model.specs.Corpus.{Corpus}
use Rattle.cs_model_serving.specs.declared.framed.Framed.TheVariants as framed
use Rattle.cs_model_serving.specs.Framing.{frame}
use Rattle.cs_model_serving.specs.Responses.{Response, response_bytes, all_bytes, too_long}
use Rattle.cs_model_serving.specs.Connections.{Left, MayReplace, serve, answers_on, reads, changes}
use Rattle.cs_model_serving.specs.ServingLaws.{answers_before}
use Rattle.cs_hub.specs.declared.reading.HeadTurn.{HeadTurn}
use Rattle.cs_hub.specs.declared.reading.HeadTurn.TheVariants as turns
use Rattle.cs_hub.specs.declared.answer.Answer.{Answer}
use Rattle.cs_hub.specs.Responding.{response}
use Rattle.cs_hub.specs.DueReads.{IsRest}
use Rattle.cs_hub.specs.Streams.{RoseBy}
use Rattle.cs_hub.specs.Speaking.{Spoke, Starved, IsServed, IsEnded, Says}

-- ---- unread bytes
-- no head ends in the bytes, which may be none, and what was seen of them is kept
pub record IsOpen (unread : List ℕ) (seen : Seen) : Type 0 where
  pub is_seen : IsSeen unread seen
  pub count : seen.count ≡ length unread
  pub few : seen.count < MAX_HEAD_BYTES

-- ---- responses
-- r may be sent in the place of the response; it isn't a Changed, and where it is a Read a failure was counted
pub record IsFor (right r : Response) (before now : ℕ) : Type 0 where
  pub replaces : MayReplace right r
  pub unchanged : changes (r ∷ []) ≡ 0
  pub rose : RoseBy (reads (r ∷ [])) before now

-- the same for each corpus that is answered over
abbrev pub IsGiven : (Corpus → Type 0) → (Corpus → Response) → Response → ℕ → ℕ → Type 0
IsGiven Over right r before now = (k : Corpus) → Over k → IsFor (right k) r before now

-- a response was sent whole, and closes the connection or not; or the send failed, or memory ran out
abbrev pub Delivered : ℕ → Response → Bool → Option Talk → Option Talk → Type 0
Delivered c r true talk talk' = (r.closes ≡ false) × Spoke c (response_bytes r) false talk talk'
Delivered c r false talk talk' =
    ((r.closes ≡ true) × Spoke c (response_bytes r) false talk talk')
    ⊎ ((count : ℕ) × Spoke c (take count (response_bytes r)) true talk talk')
    ⊎ Starved c talk talk'

-- the response was sent where there is one; want of memory was told where there is none
abbrev pub IsSent : ℕ → Result Answer Memory → Bool → Option Talk → Option Talk → Type 0
IsSent c (Ok a) goes talk talk' = Delivered c (response a) goes talk talk'
IsSent c (Err e) goes talk talk' = (goes ≡ false) × Starved c talk talk'

-- ---- turns
-- the bytes of one response, in the place of the first that is served of b; the others are served of the later bytes
pub record IsOne (k : Corpus) (b later more : List ℕ) (sent : List Response) : Type 0 where
  pub right : Response
  pub r : Response
  pub is : sent ≡ r ∷ []
  pub bytes : more ≡ response_bytes r
  pub replaces : MayReplace right r
  pub going : r.closes ≡ false
  pub joined : serve k b ≡ answers_on right (serve k later)

-- a head was answered, which ends behind so many bytes more; none is unread then
pub record GoesOn (Over : Corpus → Type 0) (c used : ℕ) (unread rest unread' : List ℕ) (before now : ℕ) (talk talk' : Option Talk) : Type 0 where
  pub some : 0 < used
  pub within : used ≤ length rest
  pub emptied : unread' ≡ []
  pub says : Says Over c false (λ k more sent. IsOne k (unread ++ rest) (drop used rest) more sent) before now talk talk'

-- no head ends there, and the bytes are kept
pub record KeepsUnread (unread rest unread' : List ℕ) (before now : ℕ) (talk talk' : Option Talk) : Type 0 where
  pub waits : frame (unread ++ rest) ≡ framed.More
  pub kept : unread' ≡ unread ++ rest
  pub untold : talk' ≡ talk
  pub same : now ≡ before

-- bytes in which no head ends were kept, or memory ran out
abbrev pub HoldsBytes : ℕ → List ℕ → List ℕ → HeadTurn → List ℕ → Option Talk → Option Talk → Type 0
HoldsBytes c unread rest (turns.Next n) unread' talk talk' = ⊥
HoldsBytes c unread rest turns.Holds unread' talk talk' = (unread' ≡ unread ++ rest) × (talk' ≡ talk)
HoldsBytes c unread rest turns.Stops unread' talk talk' = Starved c talk talk'

-- the response where no head ends was sent, or memory ran out
abbrev pub IsTurnedAway : ℕ → Option Talk → Option Talk → Type 0
IsTurnedAway c talk talk' = ((goes : Bool) × Delivered c too_long goes talk talk') ⊎ Starved c talk talk'

-- what is served of the bytes was met, and the connection is to be closed
abbrev pub Stops : (Corpus → Type 0) → ℕ → List ℕ → ℕ → ℕ → Option Talk → Option Talk → Type 0
Stops Over c b before now talk talk' = (fails : Bool) × Says Over c fails (λ k more sent. IsEnded (serve k b) more fails sent) before now talk talk'

-- by what the turn gave
abbrev pub Turned : (Corpus → Type 0) → ℕ → List ℕ → List ℕ → HeadTurn → List ℕ → ℕ → ℕ → Option Talk → Option Talk → Type 0
Turned Over c unread rest (turns.Next used) unread' before now talk talk' = GoesOn Over c used unread rest unread' before now talk talk'
Turned Over c unread rest turns.Holds unread' before now talk talk' = KeepsUnread unread rest unread' before now talk talk'
Turned Over c unread rest turns.Stops unread' before now talk talk' = Stops Over c (unread ++ rest) before now talk talk'

-- ---- pieces
-- each response that is served of b was sent, the connection goes on, and the bytes behind the last head are unread
pub record HoldsOn (k : Corpus) (b unread' more : List ℕ) (sent : List Response) : Type 0 where
  pub served : IsServed (serve k b).responses more sent
  pub going : (serve k b).done ≡ false
  pub rest : unread' ≡ (serve k b).rest

-- all that is served of b was sent, and the connection goes on
abbrev pub Holds : (Corpus → Type 0) → ℕ → List ℕ → List ℕ → ℕ → ℕ → Option Talk → Option Talk → Type 0
Holds Over c b unread' before now talk talk' = Says Over c false (λ k more sent. HoldsOn k b unread' more sent) before now talk talk'

-- these unread bytes where fewer bytes were taken than count; otherwise nothing
abbrev pub KeepsBelow : ℕ → List ℕ → Option Left → Type 0
KeepsBelow taken unread (Some l) = (taken < MAX_CONNECTION_BYTES) × (l ≡ record { taken = taken; unread = unread })
KeepsBelow taken unread None = MAX_CONNECTION_BYTES ≤ taken

-- a piece, of which the first bytes up to the limit count: the connection is kept with these bytes taken; or it is to be closed,
-- by a response, for want of memory, by a failed send or because the limit was reached
abbrev pub Received : (Corpus → Type 0) → ℕ → Left → List ℕ → Option Left → ℕ → ℕ → Option Talk → Option Talk → Type 0
Received Over c old piece (Some l) before now talk talk' =
    Holds Over c (old.unread ++ take (MAX_CONNECTION_BYTES - old.taken) piece) l.unread before now talk talk' × (l.taken ≡ old.taken + length piece)
    × (l.taken < MAX_CONNECTION_BYTES) × IsRest (old.unread ++ take (MAX_CONNECTION_BYTES - old.taken) piece) l.unread
Received Over c old piece None before now talk talk' =
    Stops Over c (old.unread ++ take (MAX_CONNECTION_BYTES - old.taken) piece) before now talk talk'
    ⊎ ((unread' : List ℕ) × Holds Over c (old.unread ++ take (MAX_CONNECTION_BYTES - old.taken) piece) unread' before now talk talk'
    × (MAX_CONNECTION_BYTES ≤ old.taken + length piece))

-- ---- on the way
-- some first responses to b were met, after which the connection goes on, and the others are served of the bytes that are left
pub record IsAlong (k : Corpus) (b left more : List ℕ) (sent : List Response) : Type 0 where
  pub first : List Response
  pub each : AllZip MayReplace first sent
  pub bytes : more ≡ all_bytes sent
  pub going : All (λ r. r.closes ≡ false) sent
  pub joined : serve k b ≡ answers_before first (serve k left)

-- so much was sent so far
abbrev pub Along : (Corpus → Type 0) → ℕ → List ℕ → List ℕ → ℕ → ℕ → Option Talk → Option Talk → Type 0
Along Over c b left before now talk talk' = Says Over c false (λ k more sent. IsAlong k b left more sent) before now talk talk'
