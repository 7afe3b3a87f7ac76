-- What is sent on one connection, and how it meets what is served there.
--
--   left_code                what is kept of a connection, as a pair
--   Did c more fails t u     between these talks so much more was sent on connection c, a send on it failed or not, and on the
--                            others nothing happened
--   Spoke                    the same of talks that may not be told
--   SaidOn c text whole        a text was sent on it, whole or cut off at some byte
--   Starved c                the memory response was, whole or cut off
--   BreaksBy before now      a connection broke only where the count of failed sends rose
--   AreUnbroken t            no connection is broken
--   Calm                     what every call of the hub but `next` keeps
--   IsServed rs s sent       s is the responses `sent`, one in the place of each of rs
--   IsCutShort rs s sent     s is such responses for some first ones of rs, after which the connection goes on, and then the
--                            memory response
--   IsMet rs s sent          one of the two
--   IsEnded a s fails sent   what is served was met, and nothing more is to be sent; where a send failed, some first bytes were
--   IsCounted P before now   some responses meet P; none says Changed, and as many say Read as failures were counted at most
--   Says                     what was sent on a connection, and by each corpus that is answered over what it meets
use Rattle.std.specs.Prelude.{◌≡◌, ◌⊎◌, ◌≤◌, refl, ℕ, Bool, true, false, ◌||◌, ◌==◌, List, ◌++◌, take, All, Option, Some, None}
use Rattle.std.specs.Coded.{Coded, code_by, coded×, coded_list, coded_ℕ}
use Rattle.std.specs.FinSet as set
use Rattle.std.specs.List.{AllZip}
use Rattle.std.specs.Option.{option_map}
use Rattle.cs_base.specs.outside.Causes.{Rose}
use Rattle.cs_base.specs.outside.Hub.{Listening, Talk, IsOrderly, sent_on}
use Rattle.cs_model.specs.Corpus.{Corpus}
use Rattle.cs_model_serving.specs.Responses.{Response, all_bytes, memory_bytes}
use Rattle.cs_model_serving.specs.Connections.{Left, Served, MayReplace, reads, changes}
use Rattle.cs_hub.specs.Streams.{RoseBy}

-- the number of bytes taken, and the unread bytes
abbrev pub left_code : Coded Left
left_code = code_by (ℕ × List ℕ) (coded× coded_ℕ (coded_list coded_ℕ)) (λ l. (l.taken, l.unread)) (λ p. record { taken = p.0; unread = p.1 }) (λ _. refl)

-- ---- sending
-- from one talk to the next no event came, these bytes more were sent on the connection, perhaps none, and it broke or didn't
pub record Did (c : ℕ) (more : List ℕ) (fails : Bool) (t u : Talk) : Type 0 where
  pub came : u.came ≡ t.came
  pub own : sent_on u c ≡ sent_on t c ++ more
  pub whole : set.contains u.broken c ≡ (fails || set.contains t.broken c)
  pub others : (d : ℕ) → (d == c) ≡ false → (sent_on u d ≡ sent_on t d) × (set.contains u.broken d ≡ set.contains t.broken d)

-- a hub that doesn't tell its talk still doesn't; of one that does, the same
abbrev pub Spoke : ℕ → List ℕ → Bool → Option Talk → Option Talk → Type 0
Spoke c more fails None None = Unit {0}
Spoke c more fails None (Some u) = ⊥
Spoke c more fails (Some t) None = ⊥
Spoke c more fails (Some t) (Some u) = Did c more fails t u

-- a text was sent whole; or some first bytes of it, all or none of them included, and the connection broke
abbrev pub SaidOn : ℕ → List ℕ → Bool → Option Talk → Option Talk → Type 0
SaidOn c text true talk talk' = Spoke c text false talk talk'
SaidOn c text false talk talk' = (count : ℕ) × Spoke c (take count text) true talk talk'

-- the memory response was sent, whole or not
abbrev pub Starved : ℕ → Option Talk → Option Talk → Type 0
Starved c talk talk' = (whole : Bool) × SaidOn c memory_bytes whole talk talk'

-- the count of failed sends didn't fall, and where it didn't rise the same connections are broken, none more and none less, or that
-- still isn't told
pub record BreaksBy (before now : ℕ) (talk talk' : Option Talk) : Type 0 where
  pub later : before ≤ now
  pub unbroken : ¬ Rose before now → option_map (λ t. t.broken) talk' ≡ option_map (λ t. t.broken) talk

-- on no connection did a send fail, also of those that weren't opened
abbrev pub AreUnbroken : Talk → Type 0
AreUnbroken t = (c : ℕ) → set.contains t.broken c ≡ false

-- the state and the count of `listen` and `next` stay, a connection breaks only where a send failed, and what holds after each call
-- of a hub
pub record Calm {H : Type 0} (stands : H → Listening) (tells : H → Option Talk) (fails send_fails : H → ℕ) (old now : H) : Type 0 where
  pub state : stands now ≡ stands old
  pub faults : fails now ≡ fails old
  pub breaks : BreaksBy (send_fails old) (send_fails now) (tells old) (tells now)
  pub orderly : IsOrderly (stands old) (tells old) → IsOrderly (stands now) (tells now)

-- ---- what is met
-- one response in the place of each, in order; of none nothing
pub record IsServed (rs : List Response) (s : List ℕ) (sent : List Response) : Type 0 where
  pub each : AllZip MayReplace rs sent
  pub bytes : s ≡ all_bytes sent

-- one in the place of each of some first ones, none of which closes the connection, and then the memory response; that response
-- alone where there are none
pub record IsCutShort (rs : List Response) (s : List ℕ) (sent : List Response) : Type 0 where
  pub first : List Response
  pub later : List Response
  pub cut : rs ≡ first ++ later
  pub each : AllZip MayReplace first sent
  pub going : All (λ r. r.closes ≡ false) sent
  pub bytes : s ≡ all_bytes sent ++ memory_bytes

-- in one of these two ways
abbrev pub IsMet : List Response → List ℕ → List Response → Type 0
IsMet rs s sent = IsServed rs s sent ⊎ IsCutShort rs s sent

-- what is served was met: each response was sent and the last one closes the connection, or memory ran out; where a send failed,
-- what was sent are some first bytes of this, or of what would have been sent
abbrev pub IsEnded : Served → List ℕ → Bool → List Response → Type 0
IsEnded a s false sent = (IsServed a.responses s sent × (a.done ≡ true)) ⊎ IsCutShort a.responses s sent
IsEnded a s true sent = (more : List ℕ) × IsMet a.responses (s ++ more) sent

-- ---- what is counted
-- these responses are met, none of them says Changed, and no more say Read than the count of failures rose by
pub record IsCounted (P : List Response → Type 0) (before now : ℕ) : Type 0 where
  pub sent : List Response
  pub meets : P sent
  pub unchanged : changes sent ≡ 0
  pub rose : RoseBy (reads sent) before now

-- these bytes more were sent on the connection; by each corpus that is answered over they are what P says, where P may say it
-- of no bytes
pub record Says (Over : Corpus → Type 0) (c : ℕ) (fails : Bool) (P : Corpus → List ℕ → List Response → Type 0) (before now : ℕ)
    (talk talk' : Option Talk) : Type 0 where
  pub more : List ℕ
  pub spoke : Spoke c more fails talk talk'
  pub counted : (k : Corpus) → Over k → IsCounted (P k more) before now
