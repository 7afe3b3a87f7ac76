-- The tokens of a key text. A key text is given by the list of its characters, and tokens hold the bytes of theirs.
--
-- Source: the signs are this engine's own; which characters are word characters follows Unicode's general categories (Words).
--
--   class_of x           what the character x is to the grammar
--   Token                Word, Value, Run, Gap and the signs Dollar, Bar, Colon, Open and Close
--   begun k x ts         the tokens ts, and behind them a token that a character of class k with the bytes x begins
--   grown k x ts         the tokens ts with that character behind them, in the newest token where it belongs to it
--   with_next x ts       the tokens ts with the character x behind them
--   tokens_after ts xs   the tokens ts with the characters xs behind them; with none ts
--   tokens cs            the tokens of the characters cs, the newest first; of none []
--   token_size t         the bytes of the token t, of an empty value 0
--   size ts              the bytes of the text that has these tokens; of no tokens 0
--
-- A Word is a maximal run of word characters, a Run one of the characters . - _ ' and a Gap one of all other characters.
-- A Value holds what follows a colon at once, as long as word characters and - _ ' come, perhaps nothing; the last three each
-- become _ in it.
use Rattle.std.specs.Prelude.{ℕ, List, [], ◌∷◌, ◌++◌, ◌+◌, ◌||◌, ◌==◌, length, fold, if◌then◌else◌}
use Rattle.std.specs.Char.{encode_utf8}
use Rattle.cs_model.specs.declared.kinds.Class.{Class}
use Rattle.cs_model.specs.declared.kinds.Class.TheVariants as c
use Rattle.cs_model.specs.Words.{is_word_char}
use Rattle.cs_base.specs.content.Bytes.{dollar, apostrophe, dash, dot, colon, open_bracket, close_bracket, low_line, bar}

-- what a character is to the grammar: a word character, one of the signs . - _ ' $ | : [ ], or any other
abbrev pub class_of : ℕ → Class
class_of x =
    if is_word_char x then c.Letter
    else if x == dot then c.Dot
    else if (x == dash) || ((x == low_line) || (x == apostrophe)) then c.Joiner
    else if x == dollar then c.Dollar
    else if x == bar then c.Bar
    else if x == colon then c.Colon
    else if x == open_bracket then c.Open
    else if x == close_bracket then c.Close
    else c.Other

-- a token with the bytes of its characters, of a gap their number alone; a value may have none
pub data Token : Type 0 where
  Word : List ℕ → Token
  Value : List ℕ → Token
  Run : List ℕ → Token
  Gap : ℕ → Token
  Dollar : Token
  Bar : Token
  Colon : Token
  Open : Token
  Close : Token

-- Lists of tokens have the newest first.

-- a character of class k, with the bytes x, begins a token; behind a colon stands a value at once, which is empty
abbrev pub begun : Class → List ℕ → List Token → List Token
begun c.Letter x ts = Word x ∷ ts
begun c.Dot x ts = Run x ∷ ts
begun c.Joiner x ts = Run x ∷ ts
begun c.Dollar x ts = Dollar ∷ ts
begun c.Bar x ts = Bar ∷ ts
begun c.Colon x ts = Value [] ∷ Colon ∷ ts
begun c.Open x ts = Open ∷ ts
begun c.Close x ts = Close ∷ ts
begun c.Other x ts = Gap (length x) ∷ ts

-- a character of class k, with the bytes x, lengthens the newest token where it belongs to it, and else begins one, as behind
-- no token
abbrev pub grown : Class → List ℕ → List Token → List Token
grown c.Letter x (Word w ∷ ts) = Word (w ++ x) ∷ ts
grown c.Letter x (Value v ∷ ts) = Value (v ++ x) ∷ ts
grown c.Dot x (Run r ∷ ts) = Run (r ++ x) ∷ ts
grown c.Joiner x (Value v ∷ ts) = Value (v ++ low_line ∷ []) ∷ ts
grown c.Joiner x (Run r ∷ ts) = Run (r ++ x) ∷ ts
grown c.Other x (Gap n ∷ ts) = Gap (n + length x) ∷ ts
grown k x ts = begun k x ts

-- the tokens of a text that is longer by the character x, which behind no token makes one, or two where it is a colon
abbrev pub with_next : ℕ → List Token → List Token
with_next x ts = grown (class_of x) (encode_utf8 x) ts

-- the tokens of a text that is longer by these characters; by none the same
abbrev pub tokens_after : List Token → List ℕ → List Token
tokens_after ts xs = fold (λ us x. with_next x us) ts xs

-- the tokens of a text, the newest first; of the empty text none
abbrev pub tokens : List ℕ → List Token
tokens cs = tokens_after [] cs

-- the bytes of a token; a sign has one, an empty value none
abbrev pub token_size : Token → ℕ
token_size (Word w) = length w
token_size (Value v) = length v
token_size (Run r) = length r
token_size (Gap n) = n
token_size _ = 1

-- the bytes of the text that has these tokens; of none 0
abbrev pub size : List Token → ℕ
size [] = 0
size (t ∷ ts) = size ts + token_size t
