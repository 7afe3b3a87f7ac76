-- The steps of an accepted text, each with what its atom is made of, the newest first; their text, and its tokens.
--
--   Piece                    a word, an exact word, a facet's value, an exact one, a bracket that opens or one that closes
--   step_of p                its step
--   IsWord w, IsValue v      the bytes of a word, or of a facet's value, that is short enough
--   fresh ps                 nothing stands before the next atom within its bracket
--   linkable ps              the next atom may be linked to the newest one
--   Well ps                  the steps of some accepted text, perhaps with more brackets closed
--   told ps                  their canonical text, as characters
--   toks ps                  the tokens of that text
use Rattle.std.specs.Prelude.{◌≡◌, ℕ, ◌+◌, ◌-◌, ◌≤◌, ◌<◌, List, [], ◌∷◌, ◌++◌, Bool, true, false, ◌||◌, ◌==◌, length}
use Rattle.std.specs.List.{list_all}
use Rattle.std.specs.Str.{chars, IsUtf8}
use Rattle.cs_base.specs.declared.content.limits.TheConstants.{MAX_DEPTH, MAX_PLAIN_WORD_BYTES}
use Rattle.cs_base.specs.declared.content.query.Atom.{Prefix, Exact}
use Rattle.cs_model.specs.declared.kinds.Tie.{Tie}
use Rattle.cs_model.specs.declared.kinds.Tie.TheVariants.{Begins, Alternative, Linked as LinkedBy}
use Rattle.cs_model.specs.Words.{is_word_char}
use Rattle.cs_model.specs.Tokens.{Token, Word, Value, Run, Gap, Dollar, Bar, Colon, Open, Close}
use Rattle.cs_model.specs.Collection.{has_name_form, named}
use Rattle.cs_model.specs.Grammar.{Step, Leaf, Enter, Leave}
use Rattle.cs_model.specs.Canonical.{link_text}

pub data Piece : Type 0 where
  Plain : Tie → List ℕ → Piece
  Whole : Tie → List ℕ → Piece
  Valued : Tie → List ℕ → List ℕ → Piece
  WholeValued : Tie → List ℕ → List ℕ → Piece
  Opens : Tie → List ℕ → Piece
  Closes : Piece

abbrev pub step_of : Piece → Step
step_of (Plain t w) = Leaf t (Prefix w)
step_of (Whole t w) = Leaf t (Exact w)
step_of (Valued t n v) = Leaf t (Prefix (named n v))
step_of (WholeValued t n v) = Leaf t (Exact (named n v))
step_of (Opens t n) = Enter t n
step_of Closes = Leave

-- ---- what stands in a piece
pub record IsWord (w : List ℕ) : Type 0 where
  pub utf8 : IsUtf8 w
  pub letters : list_all is_word_char (chars w) ≡ true
  pub some : 1 ≤ length w
  pub short : length w ≤ MAX_PLAIN_WORD_BYTES

abbrev pub is_value_char : ℕ → Bool
is_value_char x = is_word_char x || x == 95

pub record IsValue (v : List ℕ) : Type 0 where
  pub utf8 : IsUtf8 v
  pub letters : list_all is_value_char (chars v) ≡ true
  pub short : length v ≤ MAX_PLAIN_WORD_BYTES

abbrev pub fresh : List Piece → Bool
fresh [] = true
fresh (Opens t n ∷ ps) = true
fresh (p ∷ ps) = false

-- a value, which may go on, isn't followed by a link
abbrev pub linkable : List Piece → Bool
linkable [] = false
linkable (Opens t n ∷ ps) = false
linkable (Valued t n v ∷ ps) = false
linkable (p ∷ ps) = true

abbrev pub TieFits : Tie → List Piece → Type 0
TieFits (Begins e) ps = Unit {0}
TieFits Alternative ps = fresh ps ≡ false
TieFits (LinkedBy l) ps = linkable ps ≡ true

-- the brackets that are open
abbrev pub open_in : List Piece → ℕ
open_in [] = 0
open_in (Opens t n ∷ ps) = open_in ps + 1
open_in (Closes ∷ ps) = open_in ps - 1
open_in (p ∷ ps) = open_in ps

-- a name, as a word and in its form
pub record IsNameWord (n : List ℕ) : Type 0 where
  pub word : IsWord n
  pub form : has_name_form n ≡ true

-- a piece behind others
abbrev pub Fits : Piece → List Piece → Type 0
Fits (Plain t w) ps = TieFits t ps × IsWord w
Fits (Whole t w) ps = TieFits t ps × IsWord w
Fits (Valued t n v) ps = TieFits t ps × IsNameWord n × IsValue v
Fits (WholeValued t n v) ps = TieFits t ps × IsNameWord n × IsValue v × (1 ≤ length v)
Fits (Opens t n) ps = TieFits t ps × IsNameWord n × (open_in ps < MAX_DEPTH)
Fits Closes ps = 1 ≤ open_in ps

abbrev pub Well : List Piece → Type 0
Well [] = Unit {0}
Well (p ∷ ps) = Fits p ps × Well ps

-- ---- the text
abbrev pub minus : Bool → List ℕ
minus true = 45 ∷ []
minus false = []

abbrev pub space : Bool → List ℕ
space true = []
space false = 32 ∷ []

-- what stands before an atom, which begins a bracket or the text where the flag is set
abbrev pub between : Tie → Bool → List ℕ
between (Begins e) f = space f ++ minus e
between Alternative f = 124 ∷ []
between (LinkedBy l) f = link_text l

-- the atom of a piece as characters
abbrev pub spelled : Piece → List ℕ
spelled (Plain t w) = chars w
spelled (Whole t w) = chars w ++ 36 ∷ []
spelled (Valued t n v) = chars n ++ 58 ∷ chars v
spelled (WholeValued t n v) = (chars n ++ 58 ∷ chars v) ++ 36 ∷ []
spelled (Opens t n) = chars n ++ 91 ∷ []
spelled Closes = 93 ∷ []

abbrev pub before : Piece → Bool → List ℕ
before (Plain t w) f = between t f
before (Whole t w) f = between t f
before (Valued t n v) f = between t f
before (WholeValued t n v) f = between t f
before (Opens t n) f = between t f
before Closes f = []

abbrev pub told : List Piece → List ℕ
told [] = []
told (p ∷ ps) = told ps ++ (before p (fresh ps) ++ spelled p)

-- ---- its tokens
abbrev pub minus_toks : Bool → List Token → List Token
minus_toks true ts = Run (45 ∷ []) ∷ ts
minus_toks false ts = ts

abbrev pub space_toks : Bool → List Token → List Token
space_toks true ts = ts
space_toks false ts = Gap 1 ∷ ts

abbrev pub between_toks : Tie → Bool → List Token → List Token
between_toks (Begins e) f ts = minus_toks e (space_toks f ts)
between_toks Alternative f ts = Bar ∷ ts
between_toks (LinkedBy l) f ts = Run (link_text l) ∷ ts

abbrev pub toks : List Piece → List Token
toks [] = []
toks (Plain t w ∷ ps) = Word w ∷ between_toks t (fresh ps) (toks ps)
toks (Whole t w ∷ ps) = Dollar ∷ Word w ∷ between_toks t (fresh ps) (toks ps)
toks (Valued t n v ∷ ps) = Value v ∷ Colon ∷ Word n ∷ between_toks t (fresh ps) (toks ps)
toks (WholeValued t n v ∷ ps) = Dollar ∷ Value v ∷ Colon ∷ Word n ∷ between_toks t (fresh ps) (toks ps)
toks (Opens t n ∷ ps) = Open ∷ Word n ∷ between_toks t (fresh ps) (toks ps)
toks (Closes ∷ ps) = Close ∷ toks ps
