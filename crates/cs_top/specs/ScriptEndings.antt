-- How the lines of a script end a run, and what was put for them, over any relation R of lines and texts, or A of a line and its text; and how
-- one line is met.
--
--   MayPutAll                   which texts may be put for which lines
--   ScriptEndsBy R e ls ts w    the script ended so, and the texts ts were put
--   ScriptEnds A e ls ts w      the same, each text by its own line
--   script_ending r             the ending of a run whose script ended so
--   Tally came before now ts    a count of failures rose by at least as many as say that a read failed, and none does where none came
--   ShortTally e w before now ts     the same of a script that ended early; where its end is a failure and out's count didn't rise, the
--                               count rose once more
--   ScriptCaused e made ..      why a script ends early: where it failed a count rose, and else out's count is as it was
--   IsReadable ls               each line is read
--   Passes A l old new came ..    the line l has no bytes, and nothing was put; or it is read, and a text was put for it
--   StopsAt A e l w ..            the script ends so at the line l, before a text was put for it whole
--   IsFirstLine s l behind        l is the first line of the bytes s, and these stand behind it; or both are too long a line
--   Reaches A s p q old new ..    from one place of a script to the next, a line was met and passed
--   EndsAt A e s p w ..           the script ends so at the line at that place
--
-- The last two numbers of what is said of a line are a count of the files' failures before and after it.
use Rattle.std.specs.Prelude.{◌≡◌, ◌≢◌, ◌⊎◌, ℕ, ◌+◌, ◌≤◌, Bool, true, List, None, Some, ◌<◌, [], ◌∷◌, ◌++◌, length, drop, take, Option, Result, Ok, Err}
use Rattle.cs_base.specs.outside.Causes.{Rose}
use Rattle.cs_base.specs.outside.Outside.{Grew, GrewByPrefix}
use Rattle.cs_hub.specs.Streams.{RoseBy}
use Rattle.cs_model.specs.Outputs.{MayPut, OneEach, put_of, failed_reads, first_fault, readable_lines, line_fault}
use Rattle.cs_indexing.specs.CommandLine.{Ending, changed, done, failed, script_refused}
use Rattle.cs_indexing.specs.Met.{Wrote}
use Rattle.cs_indexing.specs.Views.{of_script, stop_ending}
use Rattle.cs_indexing.specs.declared.unread.ScriptStop.{ScriptStop}
use Rattle.cs_top.specs.declared.script.WhatCame.{WhatCame}
use Rattle.cs_top.specs.declared.script.WhatCame.TheVariants.{Read, Changed, Answered}
use Rattle.std.specs.Str.Lines.{lines}
use Rattle.cs_base.specs.declared.content.limits.TheConstants.{MAX_SCRIPT_LINE_BYTES}
use Rattle.cs_top.specs.Answering.{Costs}
use Rattle.cs_top.specs.declared.lines.Place.{Place}

-- which texts may be put for which lines; for some lines there may be none
abbrev pub MayPutAll : Type 1
MayPutAll = List (List ℕ) → List (List ℕ) → Type 0

-- Done: each line is read, and answered. A refused line: it is the first with a fault, and those before it were answered.
-- Failed: some first lines were answered, the last of them maybe in part, but only where out failed. It ends in no other way.
abbrev pub ScriptEndsBy : MayPutAll → Ending → List (ℕ × List ℕ) → List (List ℕ) → Wrote → Type 0
ScriptEndsBy R done ls ts w = (first_fault ls ≡ None) × (R (readable_lines ls) ts × Grew w.old (put_of ts) w.new)
ScriptEndsBy R (script_refused f) ls ts w = (first_fault ls ≡ Some f) × (R (readable_lines ls) ts × Grew w.old (put_of ts) w.new)
ScriptEndsBy R failed ls ts w = (R (take (length ts) (readable_lines ls)) ts × GrewByPrefix w.old (put_of ts) w.new) × (¬ Rose w.before w.now → Grew w.old (put_of ts) w.new)
ScriptEndsBy R e ls ts w = ⊥

-- one text a line
abbrev pub ScriptEnds : MayPut → Ending → List (ℕ × List ℕ) → List (List ℕ) → Wrote → Type 0
ScriptEnds A e ls ts w = ScriptEndsBy (OneEach A) e ls ts w

-- where each line is answered all is done; a failed read is a failure, and a change has its own ending
abbrev pub script_ending : Result WhatCame ScriptStop → Ending
script_ending (Ok Answered) = done
script_ending (Ok Read) = failed
script_ending (Ok Changed) = changed
script_ending (Err s) = stop_ending (of_script s)

-- of no texts that the count didn't fall
pub record Tally (came : WhatCame) (before now : ℕ) (ts : List (List ℕ)) : Type 0 where
  pub rose : RoseBy (failed_reads ts) before now
  pub clean : came ≢ Read → failed_reads ts ≡ 0
  pub unchanged : came ≢ Changed

-- a failed call of the files that no text tells of costs one more
pub record ShortTally (e : Ending) (w : Wrote) (before now : ℕ) (ts : List (List ℕ)) : Type 0 where
  pub rose : RoseBy (failed_reads ts) before now
  pub more : e ≡ failed → ¬ Rose w.before w.now → RoseBy (failed_reads ts + 1) before now

-- over an index file in memory the files' count rises only where reading the script failed
abbrev pub ScriptCaused : Ending → Bool → ℕ → ℕ → ℕ → ℕ → Type 0
ScriptCaused failed made files_before files_now out_before out_now = (Rose files_before files_now ⊎ Rose out_before out_now) × (files_before ≤ files_now) × (out_before ≤ out_now)
ScriptCaused e made files_before files_now out_before out_now = (files_before ≤ files_now) × (made ≡ true → files_now ≡ files_before) × (out_now ≡ out_before)

-- so it is of no lines
abbrev pub IsReadable : List (ℕ × List ℕ) → Type 0
IsReadable ls = first_fault ls ≡ None

-- the line is passed: it has no bytes, and nothing was put; or it is read, and a text was put for it whole, by what came of it
abbrev pub Passes : MayPut → ℕ × List ℕ → Option (List ℕ) → Option (List ℕ) → WhatCame → ℕ → ℕ → Type 0
Passes A l old new came before now =
    ((l.1 ≡ []) × (new ≡ old) × (came ≡ Answered) × (now ≡ before))
    ⊎ ((l.1 ≢ []) × (line_fault l ≡ None) × ((t : List ℕ) × A l.1 t × Costs came before now t × Grew old (t ++ 10 ∷ []) new))

-- the script ends so at the line, before a text was put for it whole; it ends at no line in another way
abbrev pub StopsAt : MayPut → Ending → ℕ × List ℕ → Wrote → ℕ → ℕ → Type 0
StopsAt A (script_refused f) l w before now = (l.1 ≢ []) × (line_fault l ≡ Some f) × (w.new ≡ w.old) × (now ≡ before)
StopsAt A failed l w before now = (l.1 ≢ []) × (line_fault l ≡ None) × Rose w.before w.now × ((came : WhatCame) × (t : List ℕ) × A l.1 t × Costs came before now t × GrewByPrefix w.old (t ++ 10 ∷ []) w.new)
StopsAt A e l w before now = ⊥

-- l is the first line of the bytes s, and these stand behind it; or both l and that line have too many bytes
abbrev pub IsFirstLine : List ℕ → List ℕ → List ℕ → Type 0
IsFirstLine s l behind =
    (lines s ≡ l ∷ lines behind)
    ⊎ ((MAX_SCRIPT_LINE_BYTES < length l) × ((first : List ℕ) × (ls : List (List ℕ)) × (lines s ≡ first ∷ ls) × (MAX_SCRIPT_LINE_BYTES < length first)))

-- from one place of a script to the next, one line was met and passed
abbrev pub Reaches : MayPut → List ℕ → Place → Place → Option (List ℕ) → Option (List ℕ) → WhatCame → ℕ → ℕ → Type 0
Reaches A s p q old new came before now =
    (l : List ℕ) × (lines (drop p.at s) ≡ l ∷ lines (drop q.at s)) × (q.number ≡ p.number + 1) × Passes A (q.number, l) old new came before now

-- the script ends so at the line at that place; a file may fail before the line is known, and nothing was put then
abbrev pub EndsAt : MayPut → Ending → List ℕ → Place → Wrote → ℕ → ℕ → Type 0
EndsAt A e s p w before now =
    ((e ≡ failed) × (w.new ≡ w.old) × Rose before now × (before ≤ now))
    ⊎ ((l : List ℕ) × (ls : List (List ℕ)) × (lines (drop p.at s) ≡ l ∷ ls) × StopsAt A e (p.number + 1, l) w before now)
