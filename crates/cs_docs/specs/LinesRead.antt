-- A collection that is read line by line.
--
--   doc_lines_from d n ls     the documents of lines that begin at line n, where d documents stand before them
--   documents_from d n ls     the same as documents
--   weights_lines_of ls       the weights line of lines that begin at line 1, as a list
--   doc_lines_of ls           the documents of lines that begin at line 1, but for the weights line
--   numbered_line d n l       the line l, which is line n, as document d
--   title_only l              the line l as a title, without facets and text
--   doc_of n l                the document of the line l, which is line n
--   doc_of_lent d             the document that d lends
use Rattle.std.specs.Prelude.{ℕ, ◌&&◌, not, List, [], map, filter}
use Rattle.std.specs.List.{enumerate_from}
use Rattle.cs_base.specs.declared.content.doc.Doc.{Doc}
use Rattle.cs_docs.specs.declared.document.LentDoc.{LentDoc}
use Rattle.cs_model.specs.Collection.{DocLine, doc_line, document, is_weights_line}
use Rattle.cs_model.specs.Words.{is_filled}

-- none where no line has bytes
abbrev pub doc_lines_from : ℕ → ℕ → List (List ℕ) → List DocLine
doc_lines_from d n ls = map doc_line (enumerate_from d (filter (λ l. is_filled l.1) (enumerate_from n ls)))

abbrev pub documents_from : ℕ → ℕ → List (List ℕ) → List Doc
documents_from d n ls = map document (doc_lines_from d n ls)

-- empty where the first line names no weights, and where there is no line
abbrev pub weights_lines_of : List (List ℕ) → List (ℕ × List ℕ)
weights_lines_of ls = filter is_weights_line (enumerate_from 1 ls)

-- those of a collection are its `doc_lines`
abbrev pub doc_lines_of : List (List ℕ) → List DocLine
doc_lines_of ls = map doc_line (enumerate_from 0 (filter (λ l. is_filled l.1 && not (is_weights_line l)) (enumerate_from 1 ls)))

-- the number of the document that the line would be
abbrev pub numbered_line : ℕ → ℕ → List ℕ → DocLine
numbered_line d n l = record { doc = d; line = n; bytes = l }

-- one whose columns are empty where the line is
abbrev pub doc_of : ℕ → List ℕ → Doc
doc_of n l = document (numbered_line 0 n l)

-- the same columns and line
abbrev pub doc_of_lent : LentDoc → Doc
doc_of_lent d = record { title = d.title.now; facets = d.facets.now; text = d.text.now; line = d.line }

-- the line as a title, without facets and text
abbrev pub title_only : DocLine → Doc
title_only l = record { title = l.bytes; facets = []; text = []; line = l.line }
