-- Documents as lines of a collection, whatever form they come in.
--
-- Source: this engine's own.
--
--   is_break b                      whether the byte is a tab, LF or CR
--   flat_byte b                     a space for such a byte, and any other byte as it is
--   flat s                          the bytes s with each such byte replaced by a space
--   columns_of title facets text    the flat columns with a tab between each two
--   translated title facets text    the line of a document with these columns, its LF included
--   usual_weights_line              the line that every translation begins with, its LF included
use Rattle.std.specs.Prelude.{ℕ, Bool, ◌==◌, ◌||◌, if◌then◌else◌, List, [], ◌∷◌, ◌++◌, map, codes}
use Rattle.cs_base.specs.content.Bytes.{carriage_return, line_feed, space, tab}

-- the byte ends a column or a line: a tab, LF or CR
abbrev pub is_break : ℕ → Bool
is_break b = (b == tab) || ((b == line_feed) || (b == carriage_return))

-- a space in the place of a byte that ends a column or a line; another byte, a space too, stays
abbrev pub flat_byte : ℕ → ℕ
flat_byte b = if is_break b then space else b

-- bytes with no tab, LF and CR, as many as before; of the empty text nothing
abbrev pub flat : List ℕ → List ℕ
flat s = map flat_byte s

-- title, facets and text of a document in one line, each flat; of empty columns two tabs
abbrev pub columns_of : List ℕ → List ℕ → List ℕ → List ℕ
columns_of title facets text = flat title ++ (tab ∷ (flat facets ++ (tab ∷ flat text)))

-- the line of a document, its LF included; of empty columns two tabs and LF
unfoldable pub translated : List ℕ → List ℕ → List ℕ → List ℕ
translated title facets text = columns_of title facets text ++ line_feed ∷ []

-- the weights of a collection that names none, as its first line
unfoldable pub usual_weights_line : List ℕ
usual_weights_line = codes "#weights title=4 facet=2 text=1" ++ line_feed ∷ []
