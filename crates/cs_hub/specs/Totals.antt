-- What all events together ask of an engine, and how much may be read for it.
--
-- Source: this engine's own.
--
--   came_within c came       the bytes that came on a connection, those behind `MAX_CONNECTION_BYTES` left out
--   by_conn c xs             the answers to the requests of one connection, in order, of those to the requests of all
--   all_answers xs           those of all connections, in the order in which they were asked
--   HasAskedOn b s broken xs of the bytes b that came on a connection these requests were asked, and s was sent by their answers
--   AsksInAll                the requests of all connections were asked so, and no more was read than is due for them, and over bytes of the index
--                            no block that no hit reaches
--   HasAskedAll b s xs l     all that the bytes of a live connection ask was asked and answered, and l is kept of it
--   AsksSoFar                the same of all connections, with what the core keeps of those that are live
--   StaysAsked               what a round keeps of it
use Rattle.std.specs.Prelude.{◌≡◌, ◌⊎◌, ℕ, ◌+◌, ◌<◌, ◌≤◌, Bool, true, ◌==◌, cond, List, [], ◌∷◌, ◌++◌, map, length, take, Option, Some}
use Rattle.std.specs.Option.{ForSome}
use Rattle.std.specs.FinSet as set
use Rattle.cs_base.specs.declared.content.limits.TheConstants.{MAX_CONNECTION_BYTES}
use Rattle.cs_base.specs.outside.Causes.{ReadsWithin}
use Rattle.cs_base.specs.outside.Hub.{Came, Talk, sent_on}
use Rattle.cs_engine.specs.Keeping.{AreGood, EngineView}
use Rattle.cs_file.specs.Indexes.{StandsFor}
use Rattle.cs_model.specs.Requests.{Request}
use Rattle.cs_model_serving.specs.Connections.{Left}
use Rattle.cs_model_serving.specs.Responses.{Response, all_bytes, memory_bytes}
use Rattle.cs_hub.specs.DueReads.{Answered, AreDue, AreResponsesBy, HasMemory, IsRest, SentBy, heads_on, read_failures, requests_of, requests_on, requests_to, sharp_sum}
use Rattle.cs_hub.specs.HubFollowing.{Lefts, left_at}
use Rattle.cs_hub.specs.Streams.{RoseBy, bytes_that_came}

-- none where no piece came
abbrev pub came_within : ℕ → List Came → List ℕ
came_within c came = take MAX_CONNECTION_BYTES (bytes_that_came c came)

-- none where nothing was asked on it
abbrev pub by_conn : ℕ → List (ℕ × Answered) → List Answered
by_conn c [] = []
by_conn c (x ∷ xs) = cond (c == x.0) (x.1 ∷ by_conn c xs) (by_conn c xs)

-- without their connections; of none there are none
abbrev pub all_answers : List (ℕ × Answered) → List Answered
all_answers xs = map (λ x. x.1) xs

-- first ones of the requests that the heads of the bytes ask were asked, in order, and no other. Whole responses were sent to the first
-- heads, each by the answers to what its head asks, and perhaps bytes behind them; no more was asked than these heads and the next one
-- ask. All that the bytes ask was asked, and no answer is want of memory, unless a send failed or the memory response came last
pub record HasAskedOn (b s : List ℕ) (broken : Bool) (xs : List Answered) : Type 0 where
  pub later : List Request
  pub cut : requests_on b ≡ requests_of xs ++ later
  pub sent : List Response
  pub part : List ℕ
  pub bytes : s ≡ all_bytes sent ++ part
  pub by : SentBy sent (heads_on b) xs part
  pub enough : length xs ≤ length (requests_to (take (length sent + 1) (heads_on b)))
  pub all : (HasMemory xs × (length xs ≡ length (requests_on b))) ⊎ (broken ≡ true) ⊎ (part ≡ memory_bytes)

-- each request that was asked is of a connection, and of the bytes that came on it, where the hub tells them. Each was asked of the
-- engine that the one before it left; no more was read than is due for all of them, and where the store tells the bytes of the index and
-- what was kept at first is good, no block that no hit reaches. No more answers are failed reads than the count of failures rose by
pub record AsksInAll (told : Option (List ℕ)) (old new : EngineView) (before now failed failed' : ℕ) (talk : Option Talk) : Type 0 where
  pub asked : List (ℕ × Answered)
  pub n : ℕ
  pub are_due : AreDue told (all_answers asked) old n new
  pub reads : ReadsWithin n before now
  pub sharp : ForSome told (λ b. StandsFor b old.index → AreGood b old → ReadsWithin (sharp_sum told b (all_answers asked) old n new are_due) before now)
  pub rose : RoseBy (read_failures (all_answers asked)) failed failed'
  pub each : ForSome talk (λ t. (c : ℕ) → HasAskedOn (came_within c t.came) (sent_on t c) (set.contains t.broken c) (by_conn c asked))

-- ---- on the way
-- one whole response was sent to each head, nothing behind them, and the unread bytes are those behind the last head
pub record HasAskedAll (b s : List ℕ) (xs : List Answered) (l : Left) : Type 0 where
  pub taken : l.taken ≡ length b
  pub room : l.taken < MAX_CONNECTION_BYTES
  pub rest : IsRest b l.unread
  pub asked : requests_on b ≡ requests_of xs
  pub memory : HasMemory xs
  pub sent : List Response
  pub bytes : s ≡ all_bytes sent
  pub by : AreResponsesBy sent (heads_on b) xs

-- before anything was opened nothing was asked
pub record AsksSoFar (told : Option (List ℕ)) (core : Lefts) (old new : EngineView) (before now failed failed' : ℕ) (talk : Option Talk) : Type 0 where
  pub all : AsksInAll told old new before now failed failed' talk
  pub live : ForSome talk (λ t. (c : ℕ) (l : Left) → left_at core c ≡ Some l → HasAskedAll (bytes_that_came c t.came) (sent_on t c) (by_conn c all.asked) l)

-- whatever engine and counts serving began with
abbrev pub StaysAsked : Option (List ℕ) → Lefts → Lefts → EngineView → EngineView → ℕ → ℕ → ℕ → ℕ → Option Talk → Option Talk → Type 0
StaysAsked told core core' old new before now failed failed' talk talk' =
    (e : EngineView) (m n : ℕ) → AsksSoFar told core e old m before n failed talk → AsksSoFar told core' e new m now n failed' talk'
