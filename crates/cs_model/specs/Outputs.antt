-- What a run may put for the lines of a script.
--
-- Source: this engine's own.
--
--   script_lines s         the lines of a script that have bytes, each with its number from 1 among all lines; of no bytes
--                          none
--   ScriptFault            why a line isn't read: script_line_too_long or script_line_not_utf8, with the line's number
--   line_fault l           too long, else not UTF-8; None where the line is read
--   fault_words f          what is said of a fault
--   first_fault ls         the first fault of a line; None where each line is read
--   is_readable l          the line has no fault
--   readable_lines ls      the lines before the first that has a fault; all where none has one
--   text_by k p r          the text for the parameters p of which r is the first refusal: the reply where there is none
--   text k p               the text that answers the parameters p over the corpus k: the reply, or the fault of the first
--                          refusal
--   memory_text            the text in its place where memory ran out
--   read_text              the text in a reply's place where the index file couldn't be read
--   IsChangedText t        t stands in a reply's place where the index file isn't what it was
--   MayPut                 which text may be put for which line
--   IsAnswer k l t         t may be put for the line: its text or the memory text
--   IsAnswerWithFaults k l t      the same, or in a reply's place the text of a failed read or of a changed index file
--   failed_reads ts        how many of the texts are that of a failed read
--   OneEach A xs ts        as many texts as members, each text one of its member by A
--   AnswersFirst A ls ts   the same over so many first lines
--   put_of ts              what is put for texts: each with LF behind it
--   PutAll A ls ts old new     the texts answer all lines, and a sink that tells grew by what is put for them
--   PutSome A ls ts old new    the texts answer some first lines, and it grew by some first bytes of that
--
-- A script begins and ends its lines as a collection does: EF BB BF in front is skipped once, LF ends a line with one CR
-- before it, and the last line needs no ending.
use Rattle.std.specs.Prelude.{◌≡◌, ◌⊎◌, ℕ, Bool, nat_le, List, [], ◌∷◌, ◌++◌, filter, map, length, take, Option, None, Some, codes}
use Rattle.std.specs.List.{flat_map, prefix_len}
use Rattle.std.specs.Option.{is_none}
use Rattle.std.specs.Str.{is_utf8, bytes_eq}
use Rattle.cs_base.specs.content.Bytes.{line_feed}
use Rattle.cs_base.specs.outside.Outside.{Grew, GrewByPrefix}
use Rattle.cs_base.specs.declared.content.limits.TheConstants.{MAX_SCRIPT_LINE_BYTES}
use Rattle.cs_model.specs.Collection.{collection_lines, in_line}
use Rattle.cs_model.specs.Words.{is_filled}
use Rattle.cs_model.specs.Corpus.{Corpus}
use Rattle.cs_model.specs.Faults.{error_text, changed_text}
use Rattle.cs_model.specs.First.{unless, first_reason}
use Rattle.cs_model.specs.Parameters.{RequestRefusal, request_of, request_refusal, refusal_text}
use Rattle.cs_model.specs.Replies.{reply_text}
use Rattle.cs_model.specs.Requests.{reply_of}

-- ---- lines
-- the lines of a script that have bytes, each with its number among all lines; of the empty script none
abbrev pub script_lines : List ℕ → List (ℕ × List ℕ)
script_lines s = filter (λ l. is_filled l.1) (collection_lines s)

-- why a line isn't read, with its number among all lines, those without bytes included
pub data ScriptFault : Type 0 where
  script_line_too_long : ℕ → ScriptFault
  script_line_not_utf8 : ℕ → ScriptFault

-- the fault of a line, measured without its ending; None where it is read, as one of exactly `MAX_SCRIPT_LINE_BYTES` bytes of
-- UTF-8 is
abbrev pub line_fault : ℕ × List ℕ → Option ScriptFault
line_fault l = first_reason (
    unless (nat_le (length l.1) MAX_SCRIPT_LINE_BYTES) (script_line_too_long l.0)
    ∷ unless (is_utf8 l.1) (script_line_not_utf8 l.0)
    ∷ [])

-- why a line of a script isn't read, without an ending
abbrev pub fault_words : ScriptFault → List ℕ
fault_words (script_line_too_long n) = in_line n (codes "too long")
fault_words (script_line_not_utf8 n) = in_line n (codes "not UTF-8")

-- the first fault of a line, in the order of lines; of no lines None
abbrev pub first_fault : List (ℕ × List ℕ) → Option ScriptFault
first_fault ls = first_reason (map line_fault ls)

-- the line has no fault, as a line without bytes
abbrev pub is_readable : ℕ × List ℕ → Bool
is_readable l = is_none (line_fault l)

-- the lines before the first that has a fault, without their numbers; all where none has one
unfoldable pub readable_lines : List (ℕ × List ℕ) → List (List ℕ)
readable_lines ls = map (λ l. l.1) (take (prefix_len is_readable ls) ls)

-- ---- texts
-- the text that answers parameters with this first refusal; where there is none, that of the reply
abbrev pub text_by : Corpus → List ℕ → Option RequestRefusal → List ℕ
text_by k p None = reply_text (reply_of k (request_of p))
text_by k p (Some r) = refusal_text r

-- the text that answers a line over a corpus, which for no parameters is the reply to the empty query
unfoldable pub text : Corpus → List ℕ → List ℕ
text k p = text_by k p (request_refusal p)

-- the text in the place of a line's own where memory ran out
abbrev pub memory_text : List ℕ
memory_text = error_text (codes "memory")

-- the text in a reply's place where the index file couldn't be read
abbrev pub read_text : List ℕ
read_text = error_text (codes "read")

-- a text in a reply's place where the index file isn't what it was: it names a broken rule and its place, whichever they are
abbrev pub IsChangedText : List ℕ → Type 0
IsChangedText t = (rule : ℕ) × (at : ℕ) × (t ≡ changed_text rule at)

-- which text may be put for which line; for some line there may be none
abbrev pub MayPut : Type 1
MayPut = List ℕ → List ℕ → Type 0

-- an answer to a line: its text, or at any line the text of want of memory
abbrev pub IsAnswer : Corpus → MayPut
IsAnswer k l t = (t ≡ text k l) ⊎ (t ≡ memory_text)

-- an answer to a line, or in a reply's place the text of a failed read or of a changed index file; a refused line has neither
abbrev pub IsAnswerWithFaults : Corpus → MayPut
IsAnswerWithFaults k l t = IsAnswer k l t ⊎ ((request_refusal l ≡ None) × ((t ≡ read_text) ⊎ IsChangedText t))

-- how many of the texts are that of a failed read, which no reply and no other fault has; of no texts 0
unfoldable pub failed_reads : List (List ℕ) → ℕ
failed_reads ts = length (filter (λ t. bytes_eq t read_text) ts)

-- ---- outputs, by what may be put for a line
-- as many texts as members, in order, each one of its member by A; of no members no text
abbrev pub OneEach : {X T : Type 0} → (X → T → Type 0) → List X → List T → Type 0
OneEach A [] [] = Unit {0}
OneEach A [] (t ∷ ts) = ⊥
OneEach A (x ∷ xs) [] = ⊥
OneEach A (x ∷ xs) (t ∷ ts) = A x t × OneEach A xs ts

-- the texts answer so many first lines, one each; there are no more of them than lines, and maybe none
abbrev pub AnswersFirst : MayPut → List (List ℕ) → List (List ℕ) → Type 0
AnswersFirst A ls ts = OneEach A (take (length ts) ls) ts

-- what is put for texts, each with LF behind it; nothing for none
abbrev pub put_of : List (List ℕ) → List ℕ
put_of ts = flat_map (λ t. t ++ line_feed ∷ []) ts

-- the texts answer all lines, and what a sink tells grew by them; where it told nothing it still doesn't
abbrev pub PutAll : MayPut → List (List ℕ) → List (List ℕ) → Option (List ℕ) → Option (List ℕ) → Type 0
PutAll A ls ts old new = OneEach A ls ts × Grew old (put_of ts) new

-- the texts answer some first lines, and what a sink tells grew by some first bytes of them, none or all of them included
abbrev pub PutSome : MayPut → List (List ℕ) → List (List ℕ) → Option (List ℕ) → Option (List ℕ) → Type 0
PutSome A ls ts old new = AnswersFirst A ls ts × GrewByPrefix old (put_of ts) new
