-- How the serving core stands beside a hub: which connections it keeps, and that each opened one is right.
--
-- Source: this engine's own.
--
--   Lefts                    what is kept of connections, each at its number; None where nothing is
--   left_at core c           that of connection c; None behind the last slot
--   slots_of kept n          what a look-up by number has at the first n numbers
--   AreKeptBelow kept n      it has nothing at the others
--   HasLive core s           the connections that are kept are the live ones of the hub
--   HasLiveBut core s e      the same before a step, but for the connection that the event opened or ended
--   IsWhole e piece          the bytes are those of the event's piece
--   IsHeard                  from this state and talk the hub gave the event
--   HasCause                 a connection that is kept didn't end; one that isn't has a cause
--   IsRight                  how one connection stands, with these responses in the places of its answers
--   AreRight                 each opened connection is right; at most n responses say Read
--   Follows k core s talk n  the core follows the hub for the corpus k
--   AreServed                it does at the end, and the count of failures rose by as many as say Read
--   StaysRight               where the core followed the hub before the event, it follows it after the step
--   IsOther e d              the event isn't of connection d
--   LeavesOthers             a step changes nothing on another connection
use Rattle.std.specs.Prelude.{◌≡◌, ◌⊎◌, ℕ, suc, ◌+◌, ◌<◌, ◌≤◌, Bool, true, false, ◌||◌, ◌==◌, List, [], ◌∷◌, length, slice_index_or, Option, Some, None, is_some}
use Prim.Native.Nat.{zero}
use Rattle.std.specs.Option.{ForSome, option_map}
use Rattle.std.specs.FinSet as set
use Rattle.cs_base.specs.outside.Hub.{Talk, Listening, IsLive, IsOrderly, Happens, sent_on, came_of, hears}
use Rattle.cs_base.specs.declared.outside.hub.Event.{Event}
use Rattle.cs_base.specs.declared.outside.hub.Event.TheVariants.{Opened, Piece, Ended, Over}
use Rattle.cs_model.specs.Corpus.{Corpus}
use Rattle.cs_model_serving.specs.Responses.{Response}
use Rattle.cs_model_serving.specs.Connections.{Left, StandsBy, IsStopped, is_finished, reads, changes}
use Rattle.cs_hub.specs.Streams.{bytes_that_came, ended_on, RoseBy, sum_below}

-- ---- what is kept
-- what is kept of each connection at its number; None of one that isn't live
abbrev pub Lefts : Type 0
Lefts = List (Option Left)

-- what is kept of a connection; None where there is no slot for it
abbrev pub left_at : Lefts → ℕ → Option Left
left_at core c = slice_index_or core c None

-- what a look-up by number has at the first n numbers, in their order
abbrev pub slots_of : (ℕ → Option Left) → ℕ → Lefts
slots_of kept zero = []
slots_of kept (suc n) = kept 0 ∷ slots_of (λ c. kept (suc c)) n

-- it has something at numbers below n alone
abbrev pub AreKeptBelow : (ℕ → Option Left) → ℕ → Type 0
AreKeptBelow kept n = (c : ℕ) → is_some (kept c) ≡ true → c < n

-- the live connections are those of which something is kept; of no slots there is none
abbrev pub HasLive : Lefts → Listening → Type 0
HasLive core s = (d : ℕ) → is_some (left_at core d) ≡ set.contains s.live d

-- before the step of an event: the connection that it opened is live and not kept, the one that it ended is kept and not live,
-- and on the others the core has what is live
abbrev pub HasLiveBut : Lefts → Listening → Event → Type 0
HasLiveBut core s (Opened c) = IsLive s c × (left_at core c ≡ None) × ((d : ℕ) → (d == c) ≡ false → is_some (left_at core d) ≡ set.contains s.live d)
HasLiveBut core s (Piece c n) = IsLive s c × HasLive core s
HasLiveBut core s (Ended c) =
    (set.contains s.live c ≡ false) × (is_some (left_at core c) ≡ true) × ((d : ℕ) → (d == c) ≡ false → is_some (left_at core d) ≡ set.contains s.live d)
HasLiveBut core s Over = HasLive core s

-- ---- events
-- the bytes are those of a piece, at least one; for any other event they may be any
abbrev pub IsWhole : Event → List ℕ → Type 0
IsWhole (Opened c) piece = Unit {0}
IsWhole (Piece c n) piece = (length piece ≡ n) × (0 < n)
IsWhole (Ended c) piece = Unit {0}
IsWhole Over piece = Unit {0}

-- the event is one that may come from the first state into a buffer of so many bytes, and a hub that tells its talk told it
pub record IsHeard (s : Listening) (talk : Option Talk) (room : ℕ) (event : Event) (piece : List ℕ) (s' : Listening) (talk' : Option Talk) : Type 0 where
  pub happens : Happens s room event s'
  pub came : talk' ≡ option_map (hears (came_of event piece)) talk
  pub orderly : IsOrderly s' talk'

-- ---- connections that stand right
-- a connection that is kept didn't end, and Over didn't come; one that isn't kept ended or Over came, or it is finished, or was
-- sent the memory response, or a send on it failed
abbrev pub HasCause : Corpus → List ℕ → List ℕ → Bool → Bool → Option Left → List Response → Type 0
HasCause k b s broken ended (Some left) sent = ended ≡ false
HasCause k b s broken ended None sent = (ended ≡ true) ⊎ (is_finished k b ≡ true) ⊎ IsStopped k b s sent ⊎ (broken ≡ true)

-- the connection stands right by these responses, of which none says Changed, and has a cause where it isn't kept
pub record IsRight (k : Corpus) (b s : List ℕ) (broken ended : Bool) (left : Option Left) (sent : List Response) : Type 0 where
  pub stands : StandsBy k b s broken left sent
  pub unchanged : changes sent ≡ 0
  pub cause : HasCause k b s broken ended left sent

-- each opened connection is right by what came on it and what was sent, with some responses in the places of its answers; of
-- all these responses at most n say Read
pub record AreRight (k : Corpus) (core : Lefts) (s : Listening) (t : Talk) (n : ℕ) : Type 0 where
  pub sent : ℕ → List Response
  pub right : (c : ℕ) → c < s.opened → IsRight k (bytes_that_came c t.came) (sent_on t c) (set.contains t.broken c) (ended_on c t.came || s.over)
      (left_at core c) (sent c)
  pub few : sum_below s.opened (λ c. reads (sent c)) ≤ n

-- the core follows a hub for the corpus: it keeps the live connections, and over a hub that tells its talk each opened one is
-- right; before anything was opened the core of no slots follows it, with 0
pub record Follows (k : Corpus) (core : Lefts) (s : Listening) (talk : Option Talk) (n : ℕ) : Type 0 where
  pub live : HasLive core s
  pub orderly : IsOrderly s talk
  pub right : ForSome talk (λ t. AreRight k core s t n)

-- a core follows the hub at the end, and no more responses say Read than the count of failures rose by
pub record AreServed (k : Corpus) (s : Listening) (talk : Option Talk) (before now : ℕ) : Type 0 where
  pub core : Lefts
  pub failed : ℕ
  pub follows : Follows k core s talk failed
  pub rose : RoseBy failed before now

-- a step keeps this: where the core followed the hub before the event came, it follows it after the step, and the responses that
-- the step sent say Read at most as often as the count of failures rose
pub record StaysRight (k : Corpus) (core core' : Lefts) (event : Event) (piece : List ℕ) (heard s' : Listening) (told talk' : Option Talk)
    (before now : ℕ) : Type 0 where
  pub stays : (s : Listening) (talk : Option Talk) (room n : ℕ) → Follows k core s talk n → IsHeard s talk room event piece heard told
      → (more : ℕ) × Follows k core' s' talk' (n + more) × RoseBy more before now

-- ---- isolation
-- the event isn't of this connection; Over is of each
abbrev pub IsOther : Event → ℕ → Type 0
IsOther (Opened c) d = (d == c) ≡ false
IsOther (Piece c n) d = (d == c) ≡ false
IsOther (Ended c) d = (d == c) ≡ false
IsOther Over d = ⊥

-- on a connection that isn't the event's, what is kept stays, it is live where it was, and nothing is sent
pub record LeavesOthers (event : Event) (core core' : Lefts) (s s' : Listening) (talk talk' : Option Talk) : Type 0 where
  pub left : (d : ℕ) → IsOther event d → left_at core' d ≡ left_at core d
  pub live : (d : ℕ) → IsOther event d → set.contains s'.live d ≡ set.contains s.live d
  pub sent : ForSome talk (λ t. ForSome talk' (λ u. (d : ℕ) → IsOther event d → (sent_on u d ≡ sent_on t d)
      × (set.contains u.broken d ≡ set.contains t.broken d)))
