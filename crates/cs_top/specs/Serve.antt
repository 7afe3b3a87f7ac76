-- What `serve INDEX PORT CONNS` does.
--
--   serving_line p           the line that is put, once it listens
--   CanServe h i             the index file is held, and is an index file
--   ServeStops e h i         what shows that it ended so before it listened
--   IsUntouched w net        nothing is put, and the hub tells what it told
--   IsListening p n net      the hub is as `listen` leaves it
--   HasToldPort p w          the line is put whole
--   IsServing p n w net      the line is put, the hub has the port and the room for connections, and none broke but by a failed send
--   IsOver n net             no connection is live, and no more will be
--   HasStopped p n w net     how it stands where serving didn't begin
--   ServeEnds e i p n w net  how it may end over any files
--   ServeFailed p n w net P  how it failed: before it served, or while it did, and then P
--   FailsBehind p n w net P  where it failed behind the line, the hub did, and then P
--   AreAnswered h i ..       what was sent on each connection is right, and why it ended
--   IsExact k b s            what was sent is exactly what answers the bytes b, or its beginning and the memory response
--   AreExact k s t           so it is on each opened connection that isn't broken
--   ServesAll h i net        over a hub that tells its talk, so it is on each opened connection, by the corpus of the index file
--   ServeTold                how it ended over files that tell
--   ServeCaused              why it ends: where it failed a count rose; while it serves reads may fail
--   ServeRan e i p n m       a whole run; where all is done and no read failed, each connection has exactly what answers its bytes, but
--                            for those on which a send failed
use Rattle.std.specs.Prelude.{◌≡◌, ◌⊎◌, ℕ, ◌<◌, ◌≤◌, true, false, List, [], ◌∷◌, ◌++◌, Some, None, codes}
use Rattle.std.specs.Option.{ForSome, option_map}
use Rattle.std.specs.FinMap as map
use Rattle.std.specs.FinSet as set
use Rattle.cs_base.specs.outside.Causes.{Rose}
use Rattle.cs_base.specs.outside.Hub.{Listening, Talk, listens, sent_on, silent}
use Rattle.cs_base.specs.outside.Outside.{Grew, GrewByPrefix, Held, IsHeld}
use Rattle.cs_hub.specs.HubFollowing.{AreServed}
use Rattle.cs_hub.specs.Speaking.{AreUnbroken}
use Rattle.cs_hub.specs.Streams.{bytes_that_came}
use Rattle.cs_model.specs.Corpus.{Corpus}
use Rattle.cs_model.specs.Digits.{number_of}
use Rattle.cs_model_index.specs.BlockRules.{broken_at}
use Rattle.cs_model_index.specs.FileRules.{damage, IsIndexFile}
use Rattle.cs_model_index.specs.Sections.{file_corpus}
use Rattle.cs_model_serving.specs.Connections.{answers}
use Rattle.cs_model_serving.specs.Responses.{Response, all_bytes, memory_bytes}
use Rattle.cs_indexing.specs.CommandLine.{Ending, done, absent, damaged, failed, no_memory}
use Rattle.cs_indexing.specs.Met.{Listened, Met, Wrote, held_bytes}

-- the line with the word of the port, as it stands in the command; zeros in front of it stay
abbrev pub serving_line : List ℕ → List ℕ
serving_line p = codes "serving " ++ (p ++ 10 ∷ [])

-- the file is held, and breaks no rule of index files
abbrev pub CanServe : Held → List ℕ → Type 0
CanServe h i = IsHeld (map.get h i) × IsIndexFile (held_bytes h i)

-- Before it listens: a name that isn't held is said to be absent, and damage is the first broken rule and its place.
abbrev pub ServeStops : Ending → Held → List ℕ → Type 0
ServeStops (absent name) h i = (name ≡ i) × (map.get h i ≡ None)
ServeStops (damaged rule at) h i = IsHeld (map.get h i) × (damage (held_bytes h i) ≡ Some (broken_at rule at))
ServeStops no_memory h i = IsHeld (map.get h i)
ServeStops failed h i = Unit {0}
ServeStops e h i = ⊥

-- ---- out and the hub
-- nothing is put, and the hub tells what it told; its count of `listen` and `next` is said elsewhere
pub record IsUntouched (w : Wrote) (net : Listened) : Type 0 where
  pub put : w.new ≡ w.old
  pub state : net.new.state ≡ net.old.state
  pub talk : net.new.talk ≡ net.old.talk
  pub sends : net.new.send_faults ≡ net.old.send_faults

-- it listens, and nothing came yet
pub record IsListening (p n : List ℕ) (net : Listened) : Type 0 where
  pub state : net.new.state ≡ listens (number_of p) (number_of n)
  pub talk : net.new.talk ≡ option_map (λ _. silent) net.old.talk
  pub sends : net.new.send_faults ≡ net.old.send_faults

-- exactly the line is put, and out didn't fail
pub record HasToldPort (p : List ℕ) (w : Wrote) : Type 0 where
  pub line : Grew w.old (serving_line p) w.new
  pub count : w.now ≡ w.before

-- the line is put, and the hub has this port and room for so many connections, of which any may be opened; where no send failed, no
-- connection is broken
pub record IsServing (p n : List ℕ) (w : Wrote) (net : Listened) : Type 0 where
  pub put : HasToldPort p w
  pub port : net.new.state.port ≡ number_of p
  pub conns : net.new.state.conns ≡ number_of n
  pub sends : net.old.send_faults ≤ net.new.send_faults
  pub unbroken : ¬ Rose net.old.send_faults net.new.send_faults → ForSome net.new.talk AreUnbroken

-- no connection is live, and all were opened or nothing more comes
pub record IsOver (n : List ℕ) (net : Listened) : Type 0 where
  pub live : (c : ℕ) → set.contains net.new.state.live c ≡ false
  pub opened : (net.new.state.opened ≡ number_of n) ⊎ (net.new.state.over ≡ true)

-- where it failed before it served: all is as it was, and the hub's count didn't fall; or it listens, and out alone failed after some
-- first bytes of the line
abbrev pub HasStopped : List ℕ → List ℕ → Wrote → Listened → Type 0
HasStopped p n w net =
    (IsUntouched w net × (net.old.faults ≤ net.new.faults))
    ⊎ (GrewByPrefix w.old (serving_line p) w.new × Rose w.before w.now × IsListening p n net × (net.new.faults ≡ net.old.faults))

-- how it failed: before it served, or while it did by the hub's count, and then P too
abbrev pub ServeFailed : List ℕ → List ℕ → Wrote → Listened → Type 0 → Type 0
ServeFailed p n w net P = HasStopped p n w net ⊎ (IsServing p n w net × Rose net.old.faults net.new.faults × P)

-- Where the line was put whole, over an out that tells and didn't fail, it served, and failed by the hub's count of `listen` and `next`
-- alone; and then P.
abbrev pub FailsBehind : List ℕ → List ℕ → Wrote → Listened → Type 0 → Type 0
FailsBehind p n w net P = ForSome w.old (λ b. Grew w.old (serving_line p) w.new → ¬ Rose w.before w.now → IsServing p n w net × Rose net.old.faults net.new.faults × P)

-- how it may end over any files: done after the line, and over; a refused file leaves all as it was, and so does want of memory, or
-- that comes after the line, before the first event
abbrev pub ServeEnds : Ending → List ℕ → List ℕ → List ℕ → Wrote → Listened → Type 0
ServeEnds done i p n w net = IsServing p n w net × IsOver n net
ServeEnds (absent name) i p n w net = (name ≡ i) × IsUntouched w net
ServeEnds (damaged rule at) i p n w net = IsUntouched w net
ServeEnds no_memory i p n w net = IsUntouched w net ⊎ (HasToldPort p w × IsListening p n net)
ServeEnds failed i p n w net = ServeFailed p n w net (Unit {0})
ServeEnds e i p n w net = ⊥

-- ---- over files that tell
-- the file is an index file, and over a hub that tells its talk each opened connection was sent what is right for its bytes over the
-- corpus of the file, and one that isn't live has a cause; before and now are the files' count
abbrev pub AreAnswered : Held → List ℕ → ℕ → ℕ → Listened → Type 0
AreAnswered h i before now net = CanServe h i × AreServed (file_corpus (held_bytes h i)) net.new.state net.new.talk before now

-- exactly the responses to the bytes b, one after the other; or some first ones of them, maybe none, and then the memory response
abbrev pub IsExact : Corpus → List ℕ → List ℕ → Type 0
IsExact k b s =
    (s ≡ all_bytes (answers k b).responses)
    ⊎ ((first : List Response) × (later : List Response) × ((answers k b).responses ≡ first ++ later) × (s ≡ all_bytes first ++ memory_bytes))

-- so it is on each opened connection on which no send failed
abbrev pub AreExact : Corpus → Listening → Talk → Type 0
AreExact k s t = (c : ℕ) → c < s.opened → set.contains t.broken c ≡ false → IsExact k (bytes_that_came c t.came) (sent_on t c)

-- so it is on each opened connection, by the corpus of the index file; nothing is said over a hub that doesn't tell its talk
abbrev pub ServesAll : Held → List ℕ → Listened → Type 0
ServesAll h i net = ForSome net.new.talk (λ t. (c : ℕ) → c < net.new.state.opened → IsExact (file_corpus (held_bytes h i)) (bytes_that_came c t.came) (sent_on t c))

-- how it ended: a refusal by its cause; done, and where it failed while it served, each connection stands right
abbrev pub ServeTold : Ending → Held → List ℕ → List ℕ → List ℕ → ℕ → ℕ → Wrote → Listened → Type 0
ServeTold done h i p n before now w net = AreAnswered h i before now net
ServeTold failed h i p n before now w net = ServeFailed p n w net (AreAnswered h i before now net)
ServeTold e h i p n before now w net = ServeStops e h i

-- ---- causes
-- where it failed one of the counts rose, and none fell; where it is done reads may have failed; else the counts are as they were
abbrev pub ServeCaused : Ending → ℕ → ℕ → ℕ → ℕ → ℕ → ℕ → Type 0
ServeCaused failed files_before files_now out_before out_now hub_before hub_now =
    (Rose files_before files_now ⊎ Rose out_before out_now ⊎ Rose hub_before hub_now) × (files_before ≤ files_now) × (out_before ≤ out_now) × (hub_before ≤ hub_now)
ServeCaused done files_before files_now out_before out_now hub_before hub_now = (files_before ≤ files_now) × (out_now ≡ out_before) × (hub_now ≡ hub_before)
ServeCaused e files_before files_now out_before out_now hub_before hub_now = (files_now ≡ files_before) × (out_now ≡ out_before) × (hub_now ≡ hub_before)

-- a whole run; it changes no file
pub record ServeRan {H : Type 0} (e : Ending) (i p n : List ℕ) (m : Met H) : Type 0 where
  pub ends : ServeEnds e i p n m.out m.net
  pub told : ForSome m.held (λ h. ServeTold e h i p n m.files_before m.files_now m.out m.net)
  pub behind : e ≡ failed → FailsBehind p n m.out m.net (ForSome m.held (λ h. AreAnswered h i m.files_before m.files_now m.net))
  pub exact : e ≡ done → ¬ Rose m.files_before m.files_now → ForSome m.held (λ h. ForSome m.net.new.talk (λ t. AreExact (file_corpus (held_bytes h i)) m.net.new.state t))
  pub caused : ServeCaused e m.files_before m.files_now m.out.before m.out.now m.net.old.faults m.net.new.faults
  pub files : m.held_now ≡ m.held
