-- What a line of a script does and answers, where documents are added and deleted.
--
-- Source: RFC 8259 for JSON; the lines, keys and words are this engine's own.
--
--   LiveLine, live_line l       whether a line adds, deletes or asks, with what stands behind its first four bytes or with all of it
--   second_line l               bytes as the second line of a collection, whose first line is no document
--   rule_words r                why such a line is refused, without the line's number
--   document_data rule          {"error":"document","rule":R}: the document isn't accepted
--   full_word f, full_data f    {"error":"full","which":W}: there is no more room
--   added_data d m              {"doc":D,"state":M}: the document has the number D, behind M changes
--   deleted_data m              {"state":M}: it is deleted, behind M changes
--   change_text, absent_text    {"error":"change"}: nothing is added, or no number is there; {"error":"no document"}
--   document_text r, full_text f, added_text d m, deleted_text m    the texts of the others
--   Outcome                     said, a text alone; or done, a change
--   by_refusals r f doc         what becomes of a document with these refusals
--   added_outcome w k s l       what becomes of a document that is added
--   deleted_outcome s l         what becomes of a number that is deleted
--   line_outcome w k s l        what becomes of a line, by what it is
--   outcome w k s l             what becomes of a line
--   outcome_text k s o          what is answered
--   outcome_state w k s o       the state behind it
--   changes_of o                the changes that it makes: one or none
use Rattle.std.specs.Prelude.{ℕ, ◌+◌, if◌then◌else◌, List, [], ◌∷◌, drop, length, Option, None, Some, codes}
use Rattle.std.specs.FinMap as map
use Rattle.serde_json.specs.Data.{Data, object, string, number, unsigned, no_members, member}
use Rattle.serde_json.specs.Written.{compact_text}
use Rattle.cs_base.specs.declared.content.doc.Doc.{Doc}
use Rattle.cs_base.specs.declared.content.scores.Weights.{Weights}
use Rattle.cs_model.specs.Answers.{begins}
use Rattle.cs_model.specs.Collection.{CollectionRefusal, DocLine, document, in_line, line_refusal, refusal_words}
use Rattle.cs_model.specs.Corpus.{Corpus}
use Rattle.cs_model.specs.Faults.{error_text}
use Rattle.cs_model.specs.Outputs.{text}
use Rattle.cs_model.specs.Digits.{has_digits, number_of}
use Rattle.cs_model_changes.specs.Changes.{Change, added, deleted}
use Rattle.cs_model_live.specs.LiveStates.{Full, LiveState, changed, full_docs, full_refusal, full_rows, full_words, next_doc}
use Rattle.cs_model_live.specs.declared.limits.TheConstants.{MAX_DOC_DIGITS}

-- ---- lines
-- a line that adds a document, deletes a number, or asks with parameters; the first two with what stands behind, which may be nothing
pub data LiveLine : Type 0 where
  adds : List ℕ → LiveLine
  deletes : List ℕ → LiveLine
  asks : List ℕ → LiveLine

-- a line that begins with `add ` or `del ` changes the corpus, and every other one asks, as one that begins with `add` and no space
abbrev pub live_line : List ℕ → LiveLine
live_line l = if begins (codes "add ") l then adds (drop (length (codes "add ")) l) else if begins (codes "del ") l then deletes (drop (length (codes "del ")) l) else asks l

-- bytes as line 2 of a collection, where they are its first document
abbrev pub second_line : List ℕ → DocLine
second_line l = record { doc = 0; line = 2; bytes = l }

-- ---- texts
-- what is said of line 2, without the line's number
abbrev pub rule_words : CollectionRefusal → List ℕ
rule_words r = drop (length (in_line 2 [])) (refusal_words r)

-- a document that isn't accepted, with the rule that it breaks
abbrev pub document_data : List ℕ → Data
document_data rule = object (member (codes "error") (string (codes "document")) (member (codes "rule") (string rule) no_members))

-- the word of what there is no room for
abbrev pub full_word : Full → List ℕ
full_word full_docs = codes "documents"
full_word full_rows = codes "rows"
full_word full_words = codes "words"

-- a document for which there is no room
abbrev pub full_data : Full → Data
full_data f = object (member (codes "error") (string (codes "full")) (member (codes "which") (string (full_word f)) no_members))

-- a document that is added: its number, and the number of changes with this one
abbrev pub added_data : ℕ → ℕ → Data
added_data d m = object (member (codes "doc") (number (unsigned d)) (member (codes "state") (number (unsigned m)) no_members))

-- a document that is deleted: the number of changes with this one
abbrev pub deleted_data : ℕ → Data
deleted_data m = object (member (codes "state") (number (unsigned m)) no_members)

-- the text of a line that names no change
abbrev pub change_text : List ℕ
change_text = error_text (codes "change")

-- the text where no document has the number
abbrev pub absent_text : List ℕ
absent_text = error_text (codes "no document")

-- the text of a document that isn't accepted
unfoldable pub document_text : CollectionRefusal → List ℕ
document_text r = compact_text (document_data (rule_words r))

-- the text of a document for which there is no room
unfoldable pub full_text : Full → List ℕ
full_text f = compact_text (full_data f)

-- the text of a document that is added
unfoldable pub added_text : ℕ → ℕ → List ℕ
added_text d m = compact_text (added_data d m)

-- the text of a document that is deleted
unfoldable pub deleted_text : ℕ → List ℕ
deleted_text m = compact_text (deleted_data m)

-- ---- outcomes
-- what becomes of a line: a text, with the state as it is, or a change
pub data Outcome : Type 0 where
  said : List ℕ → Outcome
  done : Change → Outcome

-- what becomes of a document by the refusal of its line and by that of its room; without either it is added
abbrev pub by_refusals : Option CollectionRefusal → Option Full → Doc → Outcome
by_refusals (Some r) f doc = said (document_text r)
by_refusals None (Some f) doc = said (full_text f)
by_refusals None None doc = done (added doc)

-- what becomes of a document's line; of nothing no document
abbrev pub added_outcome : Weights → Corpus → LiveState → List ℕ → Outcome
added_outcome w k s [] = said change_text
added_outcome w k s (b ∷ l) = by_refusals (line_refusal (second_line (b ∷ l))) (full_refusal w k s (document (second_line (b ∷ l)))) (document (second_line (b ∷ l)))

-- what becomes of a number, leading zeros read: of 1 to 7 digits that a document has now its deletion
abbrev pub deleted_outcome : LiveState → List ℕ → Outcome
deleted_outcome s l =
    if has_digits MAX_DOC_DIGITS l then (if map.contains_key s.corpus.titles (number_of l) then done (deleted (number_of l)) else said absent_text) else said change_text

-- what becomes of a line that adds, deletes or asks; one that asks has the text that answers it over the corpus now
abbrev pub line_outcome : Weights → Corpus → LiveState → LiveLine → Outcome
line_outcome w k s (adds l) = added_outcome w k s l
line_outcome w k s (deletes l) = deleted_outcome s l
line_outcome w k s (asks l) = said (text s.corpus l)

-- what becomes of a line, over the state before it
abbrev pub outcome : Weights → Corpus → LiveState → List ℕ → Outcome
outcome w k s l = line_outcome w k s (live_line l)

-- what is answered, a change by its number, and an addition by the document's too
abbrev pub outcome_text : Corpus → LiveState → Outcome → List ℕ
outcome_text k s (said t) = t
outcome_text k s (done (added doc)) = added_text (next_doc k s) (s.changes + 1)
outcome_text k s (done (deleted d)) = deleted_text (s.changes + 1)

-- the state behind a line, without a change as before
abbrev pub outcome_state : Weights → Corpus → LiveState → Outcome → LiveState
outcome_state w k s (said t) = s
outcome_state w k s (done c) = changed w k s c

-- the one change that is made, or none
abbrev pub changes_of : Outcome → List Change
changes_of (said t) = []
changes_of (done c) = c ∷ []
