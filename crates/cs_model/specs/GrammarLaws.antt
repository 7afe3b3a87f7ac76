-- What holds of the tokens of a text, and of the parts of a query.
--
--   HaveAllBytes        the tokens of a text have its bytes
--   belongs t ts        the token t, directly behind the tokens ts, would be part of the newest of them
--   AreApart ts            no token of ts belongs to the one before it
--   AreMaximal          so it is with the tokens of each text: each word, value, run and gap is as long as it can be
--   PartsHaveChains     each part of a query of the grammar has an alternative
--   SpacesSeparate      the parts of two texts with a space between them are those of the first and then those of the second
use Rattle.std.specs.Prelude.{◌≡◌, ℕ, ◌≤◌, nat_eq, not, Bool, true, false, List, [], ◌∷◌, ◌++◌, length, encode_utf8_all}
use Rattle.std.specs.List.{AllByRecursion, starts_with}
use Rattle.cs_base.specs.content.Bytes.{space, dot}
use Rattle.cs_base.specs.declared.content.query.Query.{Query, out-Query}
use Rattle.cs_base.specs.declared.content.query.Part.{out-Part}
use Rattle.cs_model.specs.Words.{is_word_char}
use Rattle.cs_model.specs.Tokens.{Token, Word, Value, Run, Gap, tokens, size}
use Rattle.cs_model.specs.Grammar.{query_of}
use Rattle.cs_model.specs.Refusals.{IsOfGrammar, depth}

-- ---- tokens
-- so no character is lost, and none is counted twice
abbrev pub HaveAllBytes : Type 0
HaveAllBytes = (cs : List ℕ) → size (tokens cs) ≡ length (encode_utf8_all cs)

-- of the characters of a run, which are . - _ and ', a value takes all but the dot
abbrev pub belongs : Token → List Token → Bool
belongs (Word w) (Word u ∷ ts) = true
belongs (Word w) (Value v ∷ ts) = true
belongs (Run r) (Value v ∷ ts) = not (starts_with nat_eq r (dot ∷ []))
belongs (Run r) (Run s ∷ ts) = true
belongs (Gap n) (Gap m ∷ ts) = true
belongs t ts = false

-- of no token it holds
abbrev pub AreApart : List Token → Type 0
AreApart [] = Unit {0}
AreApart (t ∷ ts) = (belongs t ts ≡ false) × AreApart ts

-- no token ends before its characters do
abbrev pub AreMaximal : Type 0
AreMaximal = (cs : List ℕ) → AreApart (tokens cs)

-- ---- queries
-- those within its brackets not asked
abbrev pub PartsHaveChains : Type 0
PartsHaveChains = (q : Query) → IsOfGrammar q → AllByRecursion (λ p. 1 ≤ length (out-Part p).chains) (out-Query q).parts

-- behind a space a text goes on as a text of its own, where it begins with a word character and no bracket is open before it
abbrev pub SpacesSeparate : Type 0
SpacesSeparate = (cs ds : List ℕ) (x : ℕ) → depth (tokens cs) ≡ 0 → is_word_char x ≡ true
    → (out-Query (query_of (cs ++ space ∷ x ∷ ds))).parts ≡ (out-Query (query_of cs)).parts ++ (out-Query (query_of (x ∷ ds))).parts
