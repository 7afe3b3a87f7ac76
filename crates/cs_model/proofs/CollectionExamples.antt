-- Collections on worked texts: lines, columns, facets, refusals, and what a corpus has of them.
use Rattle.std.proofs.Common.{◌≡◌, true, false, [], ◌∷◌, ◌++◌, refl, codes}
use Rattle.std.specs.Prelude.{Some, None, replicate}
use Rattle.std.specs.Char.{encode_utf8}
use Rattle.std.specs.Str.{chars, is_utf8}
use Rattle.caseless.proofs.Computing.{caseless}
use Rattle.ucd_category.proofs.Computing.{ucd_category}
use Rattle.unicode.specs.GeneralCategory.{general_category}
use Rattle.cs_model.specs.First.{first_reason}
use Rattle.cs_model.specs.KeyText.{norm}
use Rattle.cs_model.specs.Words.{is_word_char, cut, words}
use Rattle.cs_model.specs.Collection.{collection_lines, doc_lines, columns, facet_pieces, facet_words, has_name_form, too_large, not_utf8, bad_facet, bad_name, docs_refusal, documents}
use Rattle.cs_model.specs.Replies.{shown_word}
use Rattle.cs_model.specs.Outputs.{script_lines}
use lib.Utf8

-- ---- lines and documents
-- a byte order mark is skipped, and CR LF ends a line
lines-marked : collection_lines (239 ∷ 187 ∷ 191 ∷ codes "a\r\n\nb") ≡ (1, codes "a") ∷ (2, []) ∷ (3, codes "b") ∷ []
lines-marked = refl

-- a CR that no LF follows belongs to its line
lines-return : collection_lines (codes "a\r") ≡ (1, codes "a\r") ∷ []
lines-return = refl

-- the empty collection has no line
lines-empty : collection_lines [] ≡ []
lines-empty = refl

-- a line without bytes is no document, and is counted as a line
doc_lines-counted : doc_lines (239 ∷ 187 ∷ 191 ∷ codes "a\r\n\nb") ≡ record { doc = 0; line = 1; bytes = codes "a" } ∷ record { doc = 1; line = 3; bytes = codes "b" } ∷ []
doc_lines-counted = refl

-- so a document keeps the number of its line
documents-counted : documents (239 ∷ 187 ∷ 191 ∷ codes "a\r\n\nb")
    ≡ record { title = codes "a"; facets = []; text = []; line = 1 } ∷ record { title = codes "b"; facets = []; text = []; line = 3 } ∷ []
documents-counted = refl

-- a line of a script without bytes is skipped, and counted
lines-script : script_lines (codes "q=a\r\n\nq=b") ≡ (1, codes "q=a") ∷ (3, codes "q=b") ∷ []
lines-script = refl

-- ---- columns
-- further tabs belong to the text
columns-tabs : columns (codes "a\tb\tc\td") ≡ record { title = codes "a"; facets = codes "b"; text = codes "c\td" }
columns-tabs = refl

-- missing columns are empty
columns-title : columns (codes "a") ≡ record { title = codes "a"; facets = []; text = [] }
columns-title = refl

-- ---- facets
-- spaces at both ends of a piece are dropped, and an empty piece is ignored
pieces-spaces : facet_pieces (codes " author=Bast ; ;year=2006") ≡ codes "author=Bast" ∷ codes "year=2006" ∷ []
pieces-spaces = refl

-- a name may have digits behind its first letter
names-forms : has_name_form (codes "author1") ≡ true
names-forms = refl

-- a name begins with a letter
names-digit : has_name_form (codes "1a") ≡ false
names-digit = refl

-- no letters are no name
names-empty : has_name_form [] ≡ false
names-empty = refl

-- a name has at most sixteen bytes
names-long : has_name_form (replicate 17 97) ≡ false
names-long = refl

-- a facet word has the name and the slug of the value, both in lower case
facet_words-columns : facet_words (codes "author=Bast;author=Weber;year=2006") ≡ codes ":author:bast" ∷ codes ":author:weber" ∷ codes ":year:2006" ∷ []
unfolding words norm chars cut caseless is_word_char general_category ucd_category lib.Utf8.encode
facet_words-columns = refl

-- spaces around a piece and before its sign mean nothing, and the words of a value are joined by low lines
facet_words-slug : facet_words (codes "Publisher =O'Reilly & Co.; lang=de") ≡ codes ":publisher:o_reilly_co" ∷ codes ":lang:de" ∷ []
unfolding words norm chars cut caseless is_word_char general_category ucd_category lib.Utf8.encode
facet_words-slug = refl

-- a value without a word gives no facet word
facet_words-none : facet_words (codes "k=--") ≡ []
unfolding words norm chars cut caseless is_word_char general_category ucd_category lib.Utf8.encode
facet_words-none = refl

-- a facet word is shown without its leading colon
shown-facet : shown_word (codes ":author:bast") ≡ codes "author:bast"
shown-facet = refl

-- any other word is shown as it is
shown-plain : shown_word (codes "typed") ≡ codes "typed"
shown-plain = refl

-- ---- refusals
-- the first refusal that is there
first-refusal : first_reason (None ∷ Some (bad_facet 1) ∷ Some too_large ∷ []) ≡ Some (bad_facet 1)
first-refusal = refl

-- a piece needs the sign between name and value
refusal-no_sign : docs_refusal (codes "a\tb\tc") ≡ Some (bad_facet 1)
unfolding is_utf8 words norm chars cut caseless is_word_char general_category ucd_category lib.Utf8.encode
refusal-no_sign = refl

-- and a name before it
refusal-no_name : docs_refusal (codes "x\t1a=b") ≡ Some (bad_name 1)
unfolding is_utf8 words norm chars cut caseless is_word_char general_category ucd_category lib.Utf8.encode
refusal-no_name = refl

-- the second line is no UTF-8
refusal-bytes : docs_refusal (codes "a\n" ++ 255 ∷ []) ≡ Some (not_utf8 2)
unfolding is_utf8 words norm chars cut caseless is_word_char general_category ucd_category lib.Utf8.encode
refusal-bytes = refl

-- a collection of no lines is accepted
refusal-empty : docs_refusal [] ≡ None
refusal-empty = refl
