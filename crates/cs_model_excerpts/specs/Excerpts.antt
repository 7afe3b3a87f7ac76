-- The excerpt of a document for a query: the shortest run of its text words that has a word of every part.
--
-- Source: this engine's own.
--
--   at d p r                     the row r is of document d at position p
--   serves k d t part j          over the corpus k the text word at place j, from 0, of document d with t title words serves the part
--   marks_in k d doc part        that for each text word
--   is_positive p, positive q    whether a part isn't excluded; those parts of a query
--   is_textual marks             some word has a mark
--   textual marks                of the marks of parts those that have one
--   bracketed marks (j, w)       the word w at place j, between brackets where it serves a part
--   run_text ws marks r          the words of a run, at most `MAX_EXCERPT_WORDS` of them, with a space between each two
--   shown_run ws marks o         that of the run o; nothing where there is none
--   excerpt_of ws marks          the excerpt of text words by the marks of the textual parts; nothing where there is no such part
--   excerpt k q d doc            the excerpt of document d of a corpus
--   own_excerpt q doc            the excerpt of a document by the marks of its own text words
use Rattle.std.specs.Prelude.{ℕ, suc, ◌+◌, ◌-◌, Bool, not, ◌&&◌, ◌==◌, if◌then◌else◌, List, [], ◌∷◌, ◌++◌, map, filter, length, take, drop, Option, None, Some}
use Rattle.std.specs.List.{enumerate_from, join_with_byte, list_any, range_with_len}
use Rattle.cs_base.specs.content.Bytes.{close_bracket, open_bracket, space}
use Rattle.cs_base.specs.declared.content.doc.Doc.{Doc}
use Rattle.cs_base.specs.declared.content.doc.Row.{Row}
use Rattle.cs_base.specs.declared.content.scores.TheConstants.{BEHIND_TITLE}
use Rattle.cs_base.specs.declared.content.query.Part.{Part, out-Part}
use Rattle.cs_base.specs.declared.content.query.Query.{Query, out-Query}
use Rattle.cs_model.specs.Answers.{rows_of_part}
use Rattle.cs_model.specs.Corpus.{Corpus}
use Rattle.cs_model.specs.Words.{words}
use Rattle.cs_model_excerpts.specs.OwnWords.{part_marks}
use Rattle.cs_model_excerpts.specs.Runs.{has_mark_at, shortest}
use Rattle.cs_model_excerpts.specs.declared.limits.TheConstants.{MAX_EXCERPT_WORDS}

-- ---- which words serve a part
-- the row is of this document at this position, whatever its word
abbrev pub at : ℕ → ℕ → Row → Bool
at d p r = (r.doc == d) && (r.pos == p)

-- the part has a row at the position of this text word, which for the first one is `BEHIND_TITLE` behind the last title word
abbrev pub serves : Corpus → ℕ → ℕ → Part → ℕ → Bool
serves k d t part j = list_any (at d (t + BEHIND_TITLE + j)) (rows_of_part k part).rows

-- for each text word whether it serves the part; none for a document without text
abbrev pub marks_in : Corpus → ℕ → Doc → Part → List Bool
marks_in k d doc part = map (serves k d (length (words doc.title)) part) (range_with_len 0 (length (words doc.text)))

-- the part isn't excluded
abbrev pub is_positive : Part → Bool
is_positive p = not (out-Part p).excluded

-- the positive parts of a query, in order; of the empty query none
abbrev pub positive : Query → List Part
positive q = filter is_positive (out-Query q).parts

-- some word has a mark; of no words none
abbrev pub is_textual : List Bool → Bool
is_textual marks = list_any (λ b. b) marks

-- the marks of the parts that some text word serves; none where no part is served by one
abbrev pub textual : List (List Bool) → List (List Bool)
textual marks = filter is_textual marks

-- ---- what is shown
-- a word with its place, between brackets where it serves some part
abbrev pub bracketed : List (List Bool) → ℕ × List ℕ → List ℕ
bracketed marks p = if list_any (λ m. has_mark_at m p.0) marks then open_bracket ∷ (p.1 ++ (close_bracket ∷ [])) else p.1

-- the first `MAX_EXCERPT_WORDS` words of a run, all where it has no more, with a space between each two
abbrev pub run_text : List (List ℕ) → List (List Bool) → ℕ × ℕ → List ℕ
run_text ws marks r = join_with_byte space (map (bracketed marks) (take MAX_EXCERPT_WORDS (take (suc r.1 - r.0) (drop r.0 (enumerate_from 0 ws)))))

-- the text of a run; nothing where there is none
abbrev pub shown_run : List (List ℕ) → List (List Bool) → Option (ℕ × ℕ) → List ℕ
shown_run ws marks None = []
shown_run ws marks (Some r) = run_text ws marks r

-- the text of the shortest run in which each of these parts has a mark; nothing where there is no part
abbrev pub excerpt_of : List (List ℕ) → List (List Bool) → List ℕ
excerpt_of ws [] = []
excerpt_of ws (m ∷ ms) = shown_run ws (m ∷ ms) (shortest (m ∷ ms) (length ws))

-- the excerpt of document d over a corpus, of which `doc` is that document; nothing where no text word serves a positive part
unfoldable pub excerpt : Corpus → Query → ℕ → Doc → List ℕ
excerpt k q d doc = excerpt_of (words doc.text) (textual (map (marks_in k d doc) (positive q)))

-- the same from the document's own text words; nothing where none of them serves a positive part
unfoldable pub own_excerpt : Query → Doc → List ℕ
own_excerpt q doc = excerpt_of (words doc.text) (textual (map (part_marks (words doc.text)) (positive q)))
