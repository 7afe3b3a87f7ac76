-- Which texts are put for the lines of a script over any files, whatever they hold, by the texts that lines may have of their own, and by the
-- form in which hits are shown.
--
-- Source: this engine's own.
--
--   OwnText                       which texts lines may have of their own
--   IsTextOf own t                such a text, or that of a failed read or of a changed index file
--   TextOf own came t             the text of a line, by what came of it
--   TextsOf own came ts           the texts of some lines, by what came of them
--   PutsLineOf, CutsLineOf, PutsTextsOf, EndsOf      as the ones below
--   IsOwnText form t              the text of a reply, of a refusal or of want of memory
--   IsLineText form t             the same, or that of a failed read or of a changed index file
--   TextBy form came t            the text of a line, by what came of it
--   HasTextBy form a              what is put for a line has a text by what comes of it
--   IsChangeLine i told a         the text of a change names a rule that bytes of the index file break, and its place
--   PutsLine form came old new    nothing was put for a line without bytes, or a text by what came of it
--   CutsLine form e w             the script ends so at a line, before its text was put whole
--   PutsTexts form came old new   texts were put for some lines, by what came of them
--   EndsBy form e w               a script may end so, by the texts that were put
use Rattle.std.specs.Prelude.{◌≡◌, ◌≢◌, ◌⊎◌, ℕ, List, [], ◌∷◌, ◌++◌, All, Contains, Option, Some}
use Rattle.cs_base.specs.outside.Causes.{Rose}
use Rattle.cs_base.specs.outside.Outside.{Grew, GrewByPrefix}
use Rattle.cs_rows.specs.IndexReading.{BreaksIndex}
use Rattle.cs_file.specs.Indexes.{IndexView}
use Rattle.cs_model.specs.Faults.{changed_text}
use Rattle.cs_model.specs.Outputs.{IsChangedText, memory_text, put_of, read_text}
use Rattle.cs_model.specs.Parameters.{RequestRefusal, refusal_text}
use Rattle.cs_indexing.specs.CommandLine.{Ending, done, failed, script_refused, changed}
use Rattle.cs_indexing.specs.Met.{Wrote}
use Rattle.cs_indexing.specs.declared.words.HitForm.{HitForm}
use Rattle.cs_top.specs.Answering.{came_of_answer, line_bytes}
use Rattle.cs_top.specs.HitForms.{IsReplyIn}
use Rattle.cs_top.specs.declared.script.WhatCame.{WhatCame}
use Rattle.cs_top.specs.declared.script.WhatCame.TheVariants.{Answered, Read, Changed}
use Rattle.cs_top.specs.declared.script.answers.Answer.{Answer}
use Rattle.cs_top.specs.declared.script.answers.Answer.TheVariants as answers

-- which texts lines may have of their own; that of want of memory is one
abbrev pub OwnText : Type 1
OwnText = List ℕ → Type 0

-- such a text, that of a failed read, or that of a changed index file
abbrev pub IsTextOf : OwnText → List ℕ → Type 0
IsTextOf own t = own t ⊎ ((t ≡ read_text) ⊎ IsChangedText t)

-- a change has the text of want of memory where there is no memory for its own
abbrev pub TextOf : OwnText → WhatCame → List ℕ → Type 0
TextOf own Answered t = own t
TextOf own Read t = t ≡ read_text
TextOf own Changed t = IsChangedText t ⊎ (t ≡ memory_text)

-- Where no failed read came none of them has the text of one, and where each line was answered none has that of a changed index file;
-- where a change came some one has the text of a change.
pub record TextsOf (own : OwnText) (came : WhatCame) (ts : List (List ℕ)) : Type 0 where
  pub each : All (IsTextOf own) ts
  pub unread : came ≢ Read → All (λ t. t ≢ read_text) ts
  pub unchanged : came ≡ Answered → All (λ t. ¬ IsChangedText t) ts
  pub changed : came ≡ Changed → (t : List ℕ) × Contains ts t × (IsChangedText t ⊎ (t ≡ memory_text))

-- a line without bytes counts as answered
abbrev pub PutsLineOf : OwnText → WhatCame → Option (List ℕ) → Option (List ℕ) → Type 0
PutsLineOf own came old new = ((came ≡ Answered) × (new ≡ old)) ⊎ ((t : List ℕ) × TextOf own came t × Grew old (t ++ 10 ∷ []) new)

-- at a refused line nothing is put; nor where the files failed, and where out did some first bytes of a text
abbrev pub CutsLineOf : OwnText → Ending → Wrote → Type 0
CutsLineOf own (script_refused f) w = w.new ≡ w.old
CutsLineOf own failed w = (w.new ≡ w.old) ⊎ (Rose w.before w.now × ((came : WhatCame) × (t : List ℕ) × TextOf own came t × GrewByPrefix w.old (t ++ 10 ∷ []) w.new))
CutsLineOf own e w = ⊥

-- what a sink tells grew by such texts, each with its line ending; of no lines by nothing
abbrev pub PutsTextsOf : OwnText → WhatCame → Option (List ℕ) → Option (List ℕ) → Type 0
PutsTextsOf own came old new = (ts : List (List ℕ)) × TextsOf own came ts × Grew old (put_of ts) new

-- Done: each line was answered. Changed: some line has the text of a change, and none that of a failed read. At a refused line and at a
-- failure any texts may stand, the last of them maybe in part, but only where out failed. It ends in no other way.
abbrev pub EndsOf : OwnText → Ending → Wrote → Type 0
EndsOf own done w = PutsTextsOf own Answered w.old w.new
EndsOf own changed w = PutsTextsOf own Changed w.old w.new
EndsOf own (script_refused f) w = (ts : List (List ℕ)) × All (IsTextOf own) ts × Grew w.old (put_of ts) w.new
EndsOf own failed w = (ts : List (List ℕ)) × All (IsTextOf own) ts × GrewByPrefix w.old (put_of ts) w.new × (¬ Rose w.before w.now → Grew w.old (put_of ts) w.new)
EndsOf own e w = ⊥

-- ---- by the form in which hits are shown
-- the text of some reply, of some refusal, or of want of memory
abbrev pub IsOwnText : HitForm → List ℕ → Type 0
IsOwnText form t = IsReplyIn form t ⊎ (((r : RequestRefusal) × (t ≡ refusal_text r)) ⊎ (t ≡ memory_text))

-- such a text, that of a failed read, or that of a changed index file
abbrev pub IsLineText : HitForm → List ℕ → Type 0
IsLineText form = IsTextOf (IsOwnText form)

-- a change has the text of want of memory where there is no memory for its own
abbrev pub TextBy : HitForm → WhatCame → List ℕ → Type 0
TextBy form = TextOf (IsOwnText form)

-- the text stands before the line ending
abbrev pub HasTextBy : HitForm → Answer → Type 0
HasTextBy form a = (t : List ℕ) × (line_bytes a ≡ t ++ 10 ∷ []) × TextBy form (came_of_answer a) t

-- of a file that tells, these are its bytes; without memory for that text, and of other answers, nothing is said
abbrev pub IsChangeLine : IndexView → Option (List ℕ) → Answer → Type 0
IsChangeLine i told (answers.Changed (Some b)) = (rule : ℕ) × (at : ℕ) × BreaksIndex i told rule at × (b.items ≡ changed_text rule at ++ 10 ∷ [])
IsChangeLine i told a = Unit {0}

-- a line without bytes counts as answered
abbrev pub PutsLine : HitForm → WhatCame → Option (List ℕ) → Option (List ℕ) → Type 0
PutsLine form = PutsLineOf (IsOwnText form)

-- at a refused line nothing is put; nor where the files failed, and where out did some first bytes of a text
abbrev pub CutsLine : HitForm → Ending → Wrote → Type 0
CutsLine form = CutsLineOf (IsOwnText form)

-- what a sink tells grew by such texts, each with its line ending; of no lines by nothing
abbrev pub PutsTexts : HitForm → WhatCame → Option (List ℕ) → Option (List ℕ) → Type 0
PutsTexts form = PutsTextsOf (IsOwnText form)

-- each text is one of this form
abbrev pub EndsBy : HitForm → Ending → Wrote → Type 0
EndsBy form = EndsOf (IsOwnText form)
