-- What a reader knows of a text, by its tokens.
--
--   held tail rest         the tokens of a tail, and those before it
--   settled tail rest      the tokens whose atoms are among the gathered parts
--   Agrees tail rest       what the tail says of the tokens `rest` before it is so
--   Stands done all g      g has the parts of the tokens `done` and the counts of the tokens `all`
--   StandsBehind rest r    the reader r stands behind the tokens of its tail and `rest`
--   StandsBehindAll ts r   it stands behind the tokens ts
--   JudgesTokens ts result       behind the tokens ts: the reader that follows them, or their fault
--   JudgesNext r ts result       behind the reader r and the tokens `rest` before its tail: it judges the tokens ts rest
--   JudgesBegun t tail g result  behind a tail and what is gathered: it judges their tokens with the new token t, where the grammar lets it stand
--   fault_at at stop       the fault of a text whose reader stops at the byte `at`
--   IsAnswerTo cs result   the answer to the characters cs of a key text
use Rattle.std.specs.Prelude.{◌≡◌, ℕ, ◌+◌, ◌≤◌, List, [], ◌∷◌, false, reverse, length, Some, Result, Ok, Err}
use Rattle.cs_model.specs.Tokens.{Token, Word, Value, Run, Gap, Dollar, Bar, Colon, Open, Close, size}
use Rattle.cs_model.specs.Grammar.{spot, tie, steps, reading, query_of}
use Rattle.cs_model.specs.Refusals.{refused, verdict, parts_in, atoms_in, depth, newest, Bad, Limit, IsAccepted, IsRefused}
use Rattle.cs_base.specs.declared.content.limits.TheConstants.{MAX_PLAIN_WORD_BYTES, MAX_QUERY_BYTES, MAX_PARTS, MAX_ATOMS, MAX_DEPTH}
use Rattle.cs_base.specs.declared.content.query.Query.{Query}
use Rattle.cs_query.specs.declared.fault.QueryFault.{QueryFault}
use Rattle.cs_query.specs.declared.fault.QueryFault.TheVariants as faults
use Rattle.cs_query.specs.declared.fault.Stop.{Stop}
use Rattle.cs_query.specs.declared.fault.Stop.TheVariants as stops
use Rattle.cs_query.specs.declared.reader.Tail.{Tail}
use Rattle.cs_query.specs.declared.reader.Tail.TheVariants as tails
use Rattle.cs_query.specs.declared.reader.Gathered.{Gathered}
use Rattle.cs_query.specs.declared.reader.Reader.{Reader}

-- the tokens of a tail, and those before it
abbrev pub held : Tail → List Token → List Token
held tails.Start rest = []
held (tails.Gap n) rest = Gap n ∷ rest
held (tails.Run s r) rest = Run r ∷ rest
held (tails.Word t w) rest = Word w ∷ rest
held (tails.Value t n v) rest = Value v ∷ Colon ∷ Word n ∷ rest
held tails.Dollar rest = Dollar ∷ rest
held tails.Bar rest = Bar ∷ rest
held tails.Open rest = Open ∷ rest
held tails.Close rest = Close ∷ rest

-- the tokens whose atoms are in the parts: all but those of a word or a value, which may go on
abbrev pub settled : Tail → List Token → List Token
settled (tails.Word t w) rest = rest
settled (tails.Value t n v) rest = rest
settled t rest = held t rest

-- the tail's spot or tie is that which the tokens before it give; other tails say nothing of them
abbrev pub Agrees : Tail → List Token → Type 0
Agrees (tails.Run s r) rest = s ≡ spot rest
Agrees (tails.Word t w) rest = t ≡ tie rest
Agrees (tails.Value t n v) rest = t ≡ tie rest
Agrees _ rest = Unit {0}

-- The parts and brackets are those of the tokens `done`, and the counts are those of the tokens `all`.
pub record Stands (done all : List Token) (g : Gathered) : Type 0 where
  pub built : reading (steps done) ≡ record { parts = g.parts; open_now = reverse g.open_now }
  pub begun : parts_in (steps all) ≡ g.begun
  pub atoms : atoms_in (steps all) ≡ g.atoms
  pub few : g.begun ≤ MAX_PARTS
  pub some : g.atoms ≤ MAX_ATOMS
  pub shallow : length g.open_now ≤ MAX_DEPTH
  pub left : size all + depth all + g.room ≡ MAX_QUERY_BYTES

-- The reader stands behind the tokens of its tail and `rest`, and none of them is refused.
pub record StandsBehind (rest : List Token) (r : Reader) : Type 0 where
  pub agrees : Agrees r.tail rest
  pub fine : refused (held r.tail rest) ≡ false
  pub short : newest (held r.tail rest) ≤ MAX_PLAIN_WORD_BYTES
  pub stands : Stands (settled r.tail rest) (held r.tail rest) r.gathered

-- The reader stands behind these tokens.
abbrev pub StandsBehindAll : List Token → Reader → Type 0
StandsBehindAll ts r = (rest : List Token) × (ts ≡ held r.tail rest) × StandsBehind rest r

-- These are the tokens with the new character: the reader follows them, or it names their fault.
abbrev pub JudgesTokens : List Token → Result Reader Stop → Type 0
JudgesTokens ts (Ok r) = StandsBehindAll ts r
JudgesTokens ts (Err stops.Bad) = verdict ts ≡ Some Bad
JudgesTokens ts (Err (stops.Limit which)) = verdict ts ≡ Some (Limit which)
JudgesTokens ts (Err stops.Memory) = Unit {0}

-- The next reader, or the fault of the newest character, whatever stands before the tail.
abbrev pub JudgesNext : Reader → (List Token → List Token) → Result Reader Stop → Type 0
JudgesNext r ts result = (rest : List Token) → StandsBehind rest r → JudgesTokens (ts rest) result

-- The token begins, so that the tail's atom is settled; nothing is said where the grammar refuses it.
abbrev pub JudgesBegun : Token → Tail → Gathered → Result Reader Stop → Type 0
JudgesBegun t tail g result = (rest : List Token) → Agrees tail rest → Stands (settled tail rest) (held tail rest) g
    → refused (t ∷ held tail rest) ≡ false → JudgesTokens (t ∷ held tail rest) result

-- the fault of a text whose character at the byte `at` stops the reader
abbrev pub fault_at : ℕ → Stop → QueryFault
fault_at at stops.Bad = faults.Bad at
fault_at at (stops.Limit which) = faults.Limit at which
fault_at at stops.Memory = faults.Memory

-- The answer to the characters of a key text: its query exactly where it is accepted, or its first refused character, unless memory runs out.
abbrev pub IsAnswerTo : List ℕ → Result Query QueryFault → Type 0
IsAnswerTo cs (Ok q) = IsAccepted cs × (q ≡ query_of cs)
IsAnswerTo cs (Err (faults.Bad at)) = IsRefused cs at Bad
IsAnswerTo cs (Err (faults.Limit at which)) = IsRefused cs at (Limit which)
IsAnswerTo cs (Err faults.Memory) = Unit {0}
