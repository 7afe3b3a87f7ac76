-- What holds of framing, heads, responses and answers.
--
--   AreHeads              what is read of bytes is the head that they are by the grammar, and is None where they are none
--   HeadsStay             a head that is found is found at that place alone, whatever bytes follow; so is one that is too long
--   HeadsAreWithin        a head has text, and ends within the bytes and within the limit
--   AreFramed             unread bytes are served head by head
--   GoOn                  bytes behind bytes that don't close the connection are served with those that weren't read
--   Stay                  bytes behind bytes that close the connection change nothing
--   PrefixesAreAnswered   the answers to some first bytes are the first answers to all bytes
--   MemoryIsConstant      the constant bytes of the memory response are those of that response
--   FaultsAreCounted      a Read is counted as a Read, a Changed as a Changed, and a response to a head as neither
use Rattle.std.specs.Prelude.{◌≡◌, ◌↔◌, ℕ, ◌<◌, ◌≤◌, Bool, true, false, List, ◌++◌, length, Some, None}
use Rattle.httparse.specs.Grammar.{RequestHead}
use Rattle.cs_base.specs.declared.content.limits.TheConstants.{MAX_HEAD_BYTES}
use Rattle.cs_model.specs.Corpus.{Corpus}
use Rattle.cs_model_serving.specs.declared.framed.Framed.TheVariants.{Head, TooLong}
use Rattle.cs_model_serving.specs.Framing.{frame}
use Rattle.cs_model_serving.specs.HeadReader.{IsHead, IsNoHead, read_head}
use Rattle.cs_model_serving.specs.Responses.{Response, response_bytes, response_to, read_failed, index_changed, out_of_memory, memory_bytes}
use Rattle.cs_model_serving.specs.Connections.{Served, framed, serve, answers, says_read, says_changed}

-- the head that is read is the one that the bytes are, and where none is read they are none
pub record AreHeads : Type 0 where
  pub some : (bytes : List ℕ) (h : RequestHead) → (read_head bytes ≡ Some h) ↔ IsHead bytes h
  pub none : (bytes : List ℕ) → (read_head bytes ≡ None) ↔ IsNoHead bytes

-- with more bytes behind them, bytes have the head that they had, or still have none within the limit
pub record HeadsStay : Type 0 where
  pub head : (b more : List ℕ) (skip end : ℕ) → frame b ≡ Head skip end → frame (b ++ more) ≡ Head skip end
  pub too_long : (b more : List ℕ) → frame b ≡ TooLong → frame (b ++ more) ≡ TooLong

-- a head has at least one byte behind the empty lines in front, and ends within the bytes and within `MAX_HEAD_BYTES`
abbrev pub HeadsAreWithin : Type 0
HeadsAreWithin = (b : List ℕ) (skip end : ℕ) → frame b ≡ Head skip end → (skip < end) × (end ≤ length b) × (end ≤ MAX_HEAD_BYTES)

-- what is served of bytes is what framing finds, and then what is served of the bytes behind the head
abbrev pub AreFramed : Type 0
AreFramed = (k : Corpus) (b : List ℕ) → serve k b ≡ framed k b (frame b) (serve k)

-- responses before those that follow, of both of which there may be none
abbrev pub answers_before : List Response → Served → Served
answers_before rs s = record { responses = rs ++ s.responses; rest = s.rest; done = s.done }

-- while the connection goes on, more bytes are served behind those that aren't read
abbrev pub GoOn : Type 0
GoOn = (k : Corpus) (b more : List ℕ) → (serve k b).done ≡ false → serve k (b ++ more) ≡ answers_before (serve k b).responses (serve k ((serve k b).rest ++ more))

-- once the connection is closed, more bytes have no response
abbrev pub Stay : Type 0
Stay = (k : Corpus) (b more : List ℕ) → (serve k b).done ≡ true → ((serve k (b ++ more)).responses ≡ (serve k b).responses) × ((serve k (b ++ more)).done ≡ true)

-- the answers to bytes with more behind them begin with the answers to those bytes
abbrev pub PrefixesAreAnswered : Type 0
PrefixesAreAnswered = (k : Corpus) (x y : List ℕ) → (later : List Response) × ((answers k (x ++ y)).responses ≡ (answers k x).responses ++ later)

-- the constant is the response that closes the connection for want of memory
abbrev pub MemoryIsConstant : Type 0
MemoryIsConstant = memory_bytes ≡ response_bytes out_of_memory

-- each 500 is counted once, by its text; a response to a head is no 500
pub record FaultsAreCounted : Type 0 where
  pub read : (close : Bool) → (says_read (read_failed close) ≡ true) × (says_changed (read_failed close) ≡ false)
  pub changed : (rule at : ℕ) (close : Bool) → (says_read (index_changed rule at close) ≡ false) × (says_changed (index_changed rule at close) ≡ true)
  pub none : (k : Corpus) (bytes : List ℕ) → (says_read (response_to k bytes) ≡ false) × (says_changed (response_to k bytes) ≡ false)
