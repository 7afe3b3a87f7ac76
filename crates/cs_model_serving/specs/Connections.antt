-- What a connection is to be sent for the bytes that came on it, and how it may stand.
--
-- Source: RFC 9112, section 9.3, for several heads on a connection, answered in order; the rest is this engine's own.
--
--   Served                  the responses to some bytes, the bytes behind the last head answered, whether a response closed
--                           the connection
--   waits b                 no head is answered
--   ends r rest             the last response
--   answers_on r s          a response before others
--   answered_by             the same by whether the connection is closed
--   answered r rest later   a response, and where the connection goes on what is served of the bytes behind its head
--   framed k b f later      what is served by what framing found
--   serve_heads k n b       what is served of unread bytes, by at most n heads
--   serve k b               what is served of unread bytes; of no bytes nothing
--   answers k b             what is served of the bytes that came on a connection, of which those behind the limit don't count
--   is_finished k b         a response closed the connection, or as many bytes came as count
--   MayReplace r s          s may be sent in the place of r: r itself, or in the place of a 200 a 500 with the same closing
--   says_read, says_changed     a 500 that says that the index wasn't read; one that says that it changed
--   reads rs, changes rs    how many of some responses are such; 0 of none
--   IsAnswered k b s sent   s is, for the bytes b, the responses `sent`, one in the place of each answer
--   IsStopped k b s sent    s is such responses for some first answers, none of which closed the connection, and then the
--                           memory response
--   IsFair k b s sent       one of these two
--   IsPartFair k b s sent   s is some first bytes of what is
--   Left                    what is kept of a live connection: how many bytes were taken, and those that aren't read
--   StandsLive, StandsShut  a live connection stands right; one that isn't live does
--   StandsBy                one of these by the responses in the places of the answers
--   StandsRight             a connection stands right, by what came, what was sent, whether a send failed, what is kept
use Rattle.std.specs.Prelude.{◌≡◌, ◌⊎◌, ℕ, suc, Bool, true, false, not, ◌&&◌, ◌||◌, ◌==◌, nat_le, List, [], ◌∷◌, ◌++◌, length, take, drop, slice_range, All, count_by, Option, Some, None, codes}
use Prim.Native.Nat.{zero}
use Rattle.std.specs.List.{AllZip}
use Rattle.std.specs.Str.{bytes_eq}
use Rattle.cs_base.specs.declared.content.limits.TheConstants.{MAX_CONNECTION_BYTES}
use Rattle.cs_model.specs.Corpus.{Corpus}
use Rattle.cs_model.specs.Faults.{error_text}
use Rattle.cs_model_serving.specs.declared.framed.Framed.{Framed}
use Rattle.cs_model_serving.specs.declared.framed.Framed.TheVariants.{Head, More, TooLong}
use Rattle.cs_model_serving.specs.Framing.{frame}
use Rattle.cs_model_serving.specs.Responses.{Response, all_bytes, response_to, too_long, read_failed, index_changed, memory_bytes}

-- ---- answers
-- the responses in order, the bytes behind the last head that was answered, and whether a response closed the connection
pub record Served : Type 0 where
  pub responses : List Response
  pub rest : List ℕ
  pub done : Bool

-- no head is there to be answered
abbrev pub waits : List ℕ → Served
waits b = record { responses = []; rest = b; done = false }

-- a response after which the connection is closed; the bytes behind aren't read
abbrev pub ends : Response → List ℕ → Served
ends r rest = record { responses = r ∷ []; rest = rest; done = true }

-- a response before those that follow, of which there may be none
abbrev pub answers_on : Response → Served → Served
answers_on r s = record { responses = r ∷ s.responses; rest = s.rest; done = s.done }

-- by whether the connection is closed after the response; where it isn't, the bytes behind the head are served
abbrev pub answered_by : Bool → Response → List ℕ → (List ℕ → Served) → Served
answered_by true r rest later = ends r rest
answered_by false r rest later = answers_on r (later rest)

-- a response to a head, and then what is served of the bytes behind it unless the connection is closed
abbrev pub answered : Response → List ℕ → (List ℕ → Served) → Served
answered r rest later = answered_by r.closes r rest later

-- by what framing found: nothing while more is to come, the response for a head that is too long, that of a head
abbrev pub framed : Corpus → List ℕ → Framed → (List ℕ → Served) → Served
framed k b (Head skip end) later = answered (response_to k (slice_range b skip end)) (drop end b) later
framed k b More later = waits b
framed k b TooLong later = ends too_long b

-- what is served of unread bytes, by at most n heads; by none nothing
abbrev pub serve_heads : Corpus → ℕ → List ℕ → Served
serve_heads k zero b = waits b
serve_heads k (suc n) b = framed k b (frame b) (serve_heads k n)

-- what is served of unread bytes, which have no more heads than bytes: head by head, until no head is there or the connection
-- is closed; of no bytes nothing. `AreFramed` says so
unfoldable pub serve : Corpus → List ℕ → Served
serve k b = serve_heads k (length b) b

-- what is served of the bytes that came on a connection, those behind `MAX_CONNECTION_BYTES` left out; of no bytes nothing
unfoldable pub answers : Corpus → List ℕ → Served
answers k b = serve k (take MAX_CONNECTION_BYTES b)

-- a response closed the connection, or it has as many bytes as count; with no bytes neither
abbrev pub is_finished : Corpus → List ℕ → Bool
is_finished k b = (answers k b).done || nat_le MAX_CONNECTION_BYTES (length b)

-- ---- what may be sent
-- in the place of a response it itself, and in the place of a 200 a 500 with the same closing: Read, or Changed with any rule
-- and place
abbrev pub MayReplace : Response → Response → Type 0
MayReplace r s =
    (s ≡ r)
    ⊎ ((r.status ≡ 200) × ((s ≡ read_failed r.closes) ⊎ ((rule : ℕ) × (at : ℕ) × (s ≡ index_changed rule at r.closes))))

-- the response says that the index wasn't read
abbrev pub says_read : Response → Bool
says_read r = r.status == 500 && bytes_eq r.body (error_text (codes "read"))

-- the response says that the index changed, as each 500 does that isn't a Read
abbrev pub says_changed : Response → Bool
says_changed r = r.status == 500 && not (says_read r)

-- how many of the responses say that the index wasn't read; 0 of none
abbrev pub reads : List Response → ℕ
reads rs = count_by says_read rs

-- how many of the responses say that the index changed; 0 of none
abbrev pub changes : List Response → ℕ
changes rs = count_by says_changed rs

-- the first form: s is the bytes of the responses `sent`, one in the place of each answer to b, in order; nothing where there
-- is no answer
pub record IsAnswered (k : Corpus) (b s : List ℕ) (sent : List Response) : Type 0 where
  pub each : AllZip MayReplace (answers k b).responses sent
  pub bytes : s ≡ all_bytes sent

-- the second form: responses in the places of some first answers, none of which closed the connection, and then the memory
-- response; where there are none, that response alone
pub record IsStopped (k : Corpus) (b s : List ℕ) (sent : List Response) : Type 0 where
  pub first : List Response
  pub later : List Response
  pub cut : (answers k b).responses ≡ first ++ later
  pub each : AllZip MayReplace first sent
  pub going : All (λ r. r.closes ≡ false) sent
  pub bytes : s ≡ all_bytes sent ++ memory_bytes

-- s is fair for b, by these responses before any memory response
abbrev pub IsFair : Corpus → List ℕ → List ℕ → List Response → Type 0
IsFair k b s sent = IsAnswered k b s sent ⊎ IsStopped k b s sent

-- s is some first bytes of what is fair for b, all or none of them included
abbrev pub IsPartFair : Corpus → List ℕ → List ℕ → List Response → Type 0
IsPartFair k b s sent = (more : List ℕ) × IsFair k b (s ++ more) sent

-- ---- how a connection stands
-- what is kept of a live connection: the number of bytes that were taken, and those that aren't read, of which there may be none
pub record Left : Type 0 where
  pub taken : ℕ
  pub unread : List ℕ

-- a live connection: no send failed, it isn't finished, all its heads are answered, all its bytes were taken, and those behind
-- the last head are kept
pub record StandsLive (k : Corpus) (b s : List ℕ) (broken : Bool) (left : Left) (sent : List Response) : Type 0 where
  pub whole : broken ≡ false
  pub unfinished : is_finished k b ≡ false
  pub answered : IsAnswered k b s sent
  pub taken : left.taken ≡ length b
  pub unread : left.unread ≡ (answers k b).rest

-- a connection that isn't live: what was sent is fair, or where a send failed some first bytes of what is fair
abbrev pub StandsShut : Corpus → List ℕ → List ℕ → Bool → List Response → Type 0
StandsShut k b s false sent = IsFair k b s sent
StandsShut k b s true sent = IsPartFair k b s sent

-- a connection stands right, with these responses in the places of its answers: b came on it, s was sent, a send failed or not,
-- and `left` is kept of it, None where it isn't live
abbrev pub StandsBy : Corpus → List ℕ → List ℕ → Bool → Option Left → List Response → Type 0
StandsBy k b s broken (Some left) sent = StandsLive k b s broken left sent
StandsBy k b s broken None sent = StandsShut k b s broken sent

-- the same with some responses; it holds in these three cases and in no other
abbrev pub StandsRight : Corpus → List ℕ → List ℕ → Bool → Option Left → Type 0
StandsRight k b s broken left = (sent : List Response) × StandsBy k b s broken left sent
