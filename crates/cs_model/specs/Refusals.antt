-- Which characters of a key text are refused, and which key texts are accepted. Each character is judged by the tokens of the
-- text up to and including it.
--
-- Source: the rules and the limits are this engine's own.
--
--   takes_dollar ts, takes_bar ts   whether a dollar, a bar may stand directly behind the tokens ts; behind none neither may
--   ends_name ts                    whether the newest token is a word that is a name
--   depth ts                        how many brackets are open behind the tokens ts; behind none 0
--   refused ts                      the grammar refuses the newest token; of no tokens it refuses none
--   newest ts                       the bytes of the newest token, where it is a word or a value; else 0
--   begins_part t                   1 where an atom so tied begins a part, else 0
--   parts_in ss, atoms_in ss        how many parts begin, and how many atoms are, in the steps ss; in none 0
--   QueryRefusal                    why a character is refused: Bad, by the grammar, or Limit, by this limit alone
--   verdict ts                      the fault of the newest character, the grammar before the limits, and these in their
--                                   order; None where there is none
--   place_of cs k                   the number of bytes before the character k, counted from 0
--   IsAccepted cs                   no character of cs is refused, as in the empty text
--   IsRefused cs at f               the first refused character of cs stands at the byte `at`, and its fault is f
--   IsOfGrammar q                   q is the query of some accepted text
--   PrefixesAreAccepted             the law that each prefix of an accepted text is accepted
--   QueriesHaveFewParts             the law that a query has at most `MAX_PARTS` parts at its top
use Rattle.std.specs.Prelude.{◌≡◌, ℕ, ◌+◌, ◌<◌, ◌≤◌, List, [], ◌∷◌, Bool, true, false, not, nat_lt, nat_le, length, take, Option, None, Some, encode_utf8_all}
use Rattle.std.specs.Str.{chars, IsUtf8}
use Rattle.cs_base.specs.declared.content.limits.TheConstants.{MAX_PLAIN_WORD_BYTES, MAX_QUERY_BYTES, MAX_PARTS, MAX_ATOMS, MAX_DEPTH}
use Rattle.cs_base.specs.declared.content.query.Query.{Query, out-Query}
use Rattle.cs_base.specs.declared.content.query.Which.{Which}
use Rattle.cs_base.specs.declared.content.query.Which.TheVariants as limits
use Rattle.cs_model.specs.declared.kinds.Tie.{Tie}
use Rattle.cs_model.specs.declared.kinds.Tie.TheVariants.{Begins}
use Rattle.cs_model.specs.Collection.{has_name_form}
use Rattle.cs_model.specs.First.{unless, first_reason}
use Rattle.cs_model.specs.Tokens.{Token, Word, Value, Run, Gap, Dollar, Bar, Colon, Open, Close, tokens, size}
use Rattle.cs_model.specs.Grammar.{Step, Leaf, Enter, Leave, steps, reading, query_of}

-- ---- the grammar
-- a dollar may stand directly behind a word, or a value that isn't empty; behind no token it may not
abbrev pub takes_dollar : List Token → Bool
takes_dollar (Word w ∷ ts) = true
takes_dollar (Value (x ∷ v) ∷ ts) = true
takes_dollar _ = false

-- a bar may stand directly behind a word, a value, a dollar or a closing bracket; behind no token it may not
abbrev pub takes_bar : List Token → Bool
takes_bar (Word w ∷ ts) = true
takes_bar (Value v ∷ ts) = true
takes_bar (Dollar ∷ ts) = true
takes_bar (Close ∷ ts) = true
takes_bar _ = false

-- a colon and an opening bracket may stand directly behind a word that is a name; behind no token they may not
abbrev pub ends_name : List Token → Bool
ends_name (Word w ∷ ts) = has_name_form w
ends_name _ = false

-- how many brackets are open behind these tokens; behind none 0
abbrev pub depth : List Token → ℕ
depth ts = length (reading (steps ts)).open_now

-- the newest token stands where the grammar takes none of its kind, so that its first character is refused; of no tokens none
-- is
abbrev pub refused : List Token → Bool
refused (Dollar ∷ ts) = not (takes_dollar ts)
refused (Bar ∷ ts) = not (takes_bar ts)
refused (Value v ∷ Colon ∷ ts) = not (ends_name ts)
refused (Open ∷ ts) = not (ends_name ts)
refused (Close ∷ ts) = not (nat_lt 0 (depth ts))
refused (Gap n ∷ Bar ∷ ts) = true
refused (Run r ∷ Bar ∷ ts) = true
refused (Word w ∷ Dollar ∷ ts) = true
refused (Word w ∷ Close ∷ ts) = true
refused _ = false

-- ---- the limits
-- the bytes of the newest word or value; 0 where the newest token is neither
abbrev pub newest : List Token → ℕ
newest (Word w ∷ ts) = length w
newest (Value v ∷ ts) = length v
newest _ = 0

-- 1 where an atom so tied begins a part, and 0 where it goes on with one
abbrev pub begins_part : Tie → ℕ
begins_part (Begins excluded) = 1
begins_part _ = 0

-- how many parts begin, over all brackets; in no steps 0
abbrev pub parts_in : List Step → ℕ
parts_in [] = 0
parts_in (Leaf t a ∷ ss) = parts_in ss + begins_part t
parts_in (Enter t n ∷ ss) = parts_in ss + begins_part t
parts_in (Leave ∷ ss) = parts_in ss

-- how many atoms there are, over all brackets, joins included; in no steps 0
abbrev pub atoms_in : List Step → ℕ
atoms_in [] = 0
atoms_in (Leaf t a ∷ ss) = atoms_in ss + 1
atoms_in (Enter t n ∷ ss) = atoms_in ss + 1
atoms_in (Leave ∷ ss) = atoms_in ss

-- ---- the verdict
-- why a character is refused: by the grammar, or by this limit alone
pub data QueryRefusal : Type 0 where
  Bad : QueryRefusal
  Limit : Which → QueryRefusal

-- the fault of the newest character; None where it is accepted, and where there is no token
abbrev pub verdict : List Token → Option QueryRefusal
verdict ts = first_reason (
    unless (not (refused ts)) Bad
    ∷ unless (nat_le (size ts + depth ts) MAX_QUERY_BYTES) (Limit limits.Query)
    ∷ unless (nat_le (newest ts) MAX_PLAIN_WORD_BYTES) (Limit limits.Word)
    ∷ unless (nat_le (parts_in (steps ts)) MAX_PARTS) (Limit limits.Parts)
    ∷ unless (nat_le (atoms_in (steps ts)) MAX_ATOMS) (Limit limits.Atoms)
    ∷ unless (nat_le (depth ts) MAX_DEPTH) (Limit limits.Depth)
    ∷ [])

-- ---- accepted texts
-- the place of the character k, counted from 0; where the text has fewer, the number of all its bytes
abbrev pub place_of : List ℕ → ℕ → ℕ
place_of cs k = length (encode_utf8_all (take k cs))

-- no character is refused, each judged by the tokens of the text up to and including it; the empty text is accepted
abbrev pub IsAccepted : List ℕ → Type 0
IsAccepted cs = (k : ℕ) → k ≤ length cs → verdict (tokens (take k cs)) ≡ None

-- the longest accepted prefix has `count` characters and ends at the byte `at`, and the next character has this fault; the
-- empty text is never refused
pub record IsRefused (cs : List ℕ) (at : ℕ) (fault : QueryRefusal) : Type 0 where
  pub count : ℕ
  pub within : count < length cs
  pub place : at ≡ place_of cs count
  pub before : IsAccepted (take count cs)
  pub here : verdict (tokens (take (count + 1) cs)) ≡ Some fault

-- a query that the grammar gives for some accepted text, as it gives the empty query for the empty text
pub record IsOfGrammar (q : Query) : Type 0 where
  pub text : List ℕ
  pub utf8 : IsUtf8 text
  pub accepted : IsAccepted (chars text)
  pub read : q ≡ query_of (chars text)

-- ---- laws
-- what an accepted text begins with, cut between two characters, is accepted too, down to the empty text
abbrev pub PrefixesAreAccepted : Type 0
PrefixesAreAccepted = (cs : List ℕ) (n : ℕ) → IsAccepted cs → IsAccepted (take n cs)

-- a query of the grammar has at most `MAX_PARTS` parts, those within its brackets not counted
abbrev pub QueriesHaveFewParts : Type 0
QueriesHaveFewParts = (q : Query) → IsOfGrammar q → length (out-Query q).parts ≤ MAX_PARTS
