-- The pieces of a facets column, one after another.
--
--   is_semicolon b      the byte that cuts the column
--   IsNamed p           the piece isn't refused
--   CanBeListed doc     the document's pieces aren't refused, and it has few words
--   one_piece p rest    the pieces of a column whose first one is p, if p has bytes, and behind it those of rest
--   is_lone column      whether the column is a name, an `=` and one small word
use Rattle.std.specs.Prelude.{◌≡◌, ℕ, ◌+◌, ◌≤◌, Bool, true, ◌&&◌, ◌==◌, List, [], ◌∷◌, ◌++◌, length, filter}
use Rattle.std.specs.List.{AllByRecursion, before_first, list_any}
use Rattle.cs_base.specs.declared.content.doc.Doc.{Doc}
use Rattle.cs_base.specs.declared.content.limits.TheConstants.{MAX_DOC_WORDS}
use Rattle.cs_model.specs.Collection.{is_equals, has_name_form, piece_name, piece_value, facet_pieces}
use Rattle.cs_model.specs.Words.{is_filled, words}
use Rattle.cs_text.specs.WordPieces.{is_small_word}

abbrev pub is_semicolon : ℕ → Bool
is_semicolon b = b == 59

abbrev pub one_piece : List ℕ → List ℕ → List (List ℕ)
one_piece p rest = filter is_filled (p ∷ []) ++ facet_pieces rest

-- a piece that isn't refused: it has an `=`, and before it a name
pub record IsNamed (p : List ℕ) : Type 0 where
  pub cut : list_any is_equals p ≡ true
  pub name : has_name_form (piece_name p) ≡ true

abbrev pub AreNamed : List (List ℕ) → Type 0
AreNamed ps = AllByRecursion IsNamed ps

-- a document whose line isn't refused, as far as its rows ask
pub record CanBeListed (doc : Doc) : Type 0 where
  pub pieces : AreNamed (facet_pieces doc.facets)
  pub few : length (words doc.title) + length (words doc.text) ≤ MAX_DOC_WORDS

-- a column whose one facet word has its name and its value as they stand; one without `=` isn't
abbrev pub is_lone : List ℕ → Bool
is_lone column = has_name_form (before_first is_equals column) && is_small_word (piece_value column)
