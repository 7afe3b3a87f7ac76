-- The rows of documents, listed document by document, under the weights w.
--
--   listed_facets column     the facet words of a column, each once, by bytes
--   listed_doc w p           the rows of a document of number p.0, in their order
--   HasUtf8Word r            the row's word is UTF-8
--   listed_rows w d docs     the rows of documents that are numbered from d, in their order
use Rattle.std.specs.Prelude.{ℕ, ◌++◌, List, map}
use Rattle.std.specs.List.{flat_map, enumerate_from}
use Rattle.std.specs.Str.{IsUtf8}
use Rattle.std.specs.Ordering.{nat_cmp}
use Rattle.std.specs.Cmp.Lexicographic.{slice_cmp}
use Rattle.cs_base.specs.content.Members.{members_in}
use Rattle.cs_base.specs.declared.content.doc.Doc.{Doc}
use Rattle.cs_base.specs.declared.content.doc.Row.{Row}
use Rattle.cs_base.specs.declared.content.scores.Weights.{Weights}
use Rattle.cs_model.specs.Collection.{facet_words}
use Rattle.cs_model.specs.Corpus.{placed, title_rows, text_rows}

-- none where no piece has a word
abbrev pub listed_facets : List ℕ → List (List ℕ)
listed_facets column = members_in (slice_cmp nat_cmp) (facet_words column)

-- facet words first, at position 0
abbrev pub listed_doc : Weights → ℕ × Doc → List Row
listed_doc w p = map (λ x. placed p.0 w.facet (0, x)) (listed_facets p.1.facets) ++ title_rows w p.0 p.1 ++ text_rows w p.0 p.1

abbrev pub listed_rows : Weights → ℕ → List Doc → List Row
listed_rows w d docs = flat_map (listed_doc w) (enumerate_from d docs)

abbrev pub HasUtf8Word : Row → Type 0
HasUtf8Word r = IsUtf8 r.word
