-- What answers the lines of a script: an engine and the bytes of its index file, made in memory or held by the files.
--
--   FileView                   an index file: its bytes where they were made, else its name and size
--   home_seen f                an index file of the code
--   bytes_there f held         the bytes that it tells; None where the files don't tell
--   IsThere i f held           a file that fits the index
--   AnswersOver e f held k     k is the corpus of an index file that stands for the engine's index, and what the engine keeps is good
--   StaysOver e e' f f' h h'    what a corpus is answered over is so still, with the same index, file and files
--   IsReplayed k l t           t may be put for the line over an index file: its text, the memory text, or in a reply's place that of a
--                              failed read
--   MayAnswer docs f k         what may be put for a line over this file, with these documents at hand for excerpts
--   WhatCame                   what came of the lines so far: only answers, or a failed read or a change too
--   worst a b                  what came of some lines and of more
--   CameCounts came before now     a count of failures rose where a failed read came, and else stayed
--   CameOver e f h came ..     what may come of lines over an engine, a file and files, with its count
--   Costs came before now t    a count rose where the text is that of a failed read, and that is said to have come
--   came_of_answer a           what comes of a line by what is put for it
--   line_bytes a               what is put for it, with its line ending
--   HasText A l a              what is put for a line has a text by A; no change is put
use Rattle.std.specs.Prelude.{◌≡◌, ◌≢◌, ◌⊎◌, ℕ, ◌≤◌, true, List, [], ◌∷◌, ◌++◌, Option, Some, None, is_some}
use Rattle.std.specs.Option.{option_or}
use Rattle.cs_base.specs.outside.Causes.{Rose}
use Rattle.cs_base.specs.outside.Outside.{Held, file_bytes}
use Rattle.cs_engine.specs.Keeping.{EngineView, AreGood}
use Rattle.cs_file.specs.Indexes.{IndexView, HasAllBlocks, StandsFor}
use Rattle.cs_model.specs.Corpus.{Corpus}
use Rattle.cs_model.specs.Outputs.{MayPut, IsAnswer, memory_text, read_text}
use Rattle.cs_model.specs.Parameters.{request_refusal}
use Rattle.cs_model_index.specs.Sections.{file_corpus}
use Rattle.cs_indexing.specs.Met.{HasToldSize}
use Rattle.cs_top.specs.HitForms.{AtHand, MayShow}
use Rattle.cs_top.specs.declared.answering.Home.{Home}
use Rattle.cs_top.specs.declared.answering.Home.TheVariants as homes
use Rattle.cs_top.specs.declared.script.WhatCame.{WhatCame}
use Rattle.cs_top.specs.declared.script.WhatCame.TheVariants.{Answered, Read, Changed}
use Rattle.cs_top.specs.declared.script.answers.Answer.{Answer}
use Rattle.cs_top.specs.declared.script.answers.Answer.TheVariants as answers

-- an index file that was made has bytes, and its name and size don't count
pub record FileView : Type 0 where
  pub made : Option (List ℕ)
  pub name : List ℕ
  pub size : ℕ

-- one that is made has no name
abbrev pub home_seen : Home → FileView
home_seen (homes.Memory s) = record { made = Some s.bytes; name = []; size = 0 }
home_seen (homes.Files f) = record { made = None; name = f.name.now; size = f.size }

-- those that were made, else those that the files tell; none of a name that isn't held
abbrev pub bytes_there : FileView → Option Held → Option (List ℕ)
bytes_there f held = option_or f.made (file_bytes held f.name)

-- a file that is held has this size, and the bytes fit the index
pub record IsThere (i : IndexView) (f : FileView) (held : Option Held) : Type 0 where
  pub sized : f.made ≡ None → HasToldSize held f.name f.size
  pub fits : HasAllBlocks (bytes_there f held) i

-- the bytes are told, they stand for the index, what is kept of answers is good over them, and this is their corpus; of files that
-- don't tell there is no such corpus
abbrev pub AnswersOver : EngineView → FileView → Option Held → Corpus → Type 0
AnswersOver e f held k = (b : List ℕ) × (bytes_there f held ≡ Some b) × StandsFor b e.index × AreGood b e × (k ≡ file_corpus b)

-- where it answered over a corpus it still does; the index, the file and what is held are the same in any case
pub record StaysOver (e e' : EngineView) (f f' : FileView) (held held' : Option Held) : Type 0 where
  pub stays : (k : Corpus) → AnswersOver e f held k → AnswersOver e' f' held' k
  pub engine : e'.index ≡ e.index
  pub file : f' ≡ f
  pub files : held' ≡ held

-- an answer to the line, or in the place of a reply the text of a failed read; a refused line has its own text
abbrev pub IsReplayed : Corpus → MayPut
IsReplayed k l t = IsAnswer k l t ⊎ ((request_refusal l ≡ None) × (t ≡ read_text))

-- an answer with or without excerpts, or in a reply's place the text of a failed read; a file that was made in memory is never read in vain
abbrev pub MayAnswer : AtHand → FileView → Corpus → MayPut
MayAnswer docs f k l t = MayShow docs k l t ⊎ ((f.made ≡ None) × (request_refusal l ≡ None) × (t ≡ read_text))

-- a failed read goes before a change, and a change before answers
abbrev pub worst : WhatCame → WhatCame → WhatCame
worst Read b = Read
worst Changed Read = Read
worst Changed b = Changed
worst Answered b = b

-- where a failed read came it rose, and else it is as it was; it never falls
pub record CameCounts (came : WhatCame) (before now : ℕ) : Type 0 where
  pub later : before ≤ now
  pub read : came ≡ Read → Rose before now
  pub quiet : came ≢ Read → now ≡ before

-- no change over a corpus that is answered, and no failed read over a file in memory; of no lines nothing but answers
pub record CameOver (e : EngineView) (f : FileView) (held : Option Held) (came : WhatCame) (before now : ℕ) : Type 0 where
  pub unchanged : (k : Corpus) → AnswersOver e f held k → came ≢ Changed
  pub unread : is_some f.made ≡ true → came ≢ Read
  pub counts : CameCounts came before now

-- a failed read costs, and where none is said to have come there is no such text; no change comes
pub record Costs (came : WhatCame) (before now : ℕ) (t : List ℕ) : Type 0 where
  pub later : before ≤ now
  pub read : t ≡ read_text → Rose before now
  pub clean : came ≢ Read → t ≢ read_text
  pub unchanged : came ≢ Changed

-- by what is put for it
abbrev pub came_of_answer : Answer → WhatCame
came_of_answer (answers.Text b) = Answered
came_of_answer answers.Memory = Answered
came_of_answer answers.Read = Read
came_of_answer (answers.Changed b) = Changed

-- where there is no memory for a text, that of want of memory
abbrev pub line_bytes : Answer → List ℕ
line_bytes (answers.Text b) = b.items
line_bytes answers.Memory = memory_text ++ 10 ∷ []
line_bytes answers.Read = read_text ++ 10 ∷ []
line_bytes (answers.Changed (Some b)) = b.items
line_bytes (answers.Changed None) = memory_text ++ 10 ∷ []

-- what is put has a text by A, which is that of a failed read where it says so; nothing is said of want of memory
abbrev pub HasText : MayPut → List ℕ → Answer → Type 0
HasText A l (answers.Text b) = (t : List ℕ) × (b.items ≡ t ++ 10 ∷ []) × A l t × (t ≢ read_text)
HasText A l answers.Memory = Unit {0}
HasText A l answers.Read = A l read_text
HasText A l (answers.Changed b) = ⊥
