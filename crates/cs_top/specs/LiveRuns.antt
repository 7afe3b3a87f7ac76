-- What `live INDEX SCRIPT` does: a script whose lines add documents, delete them and ask, over an index file that stays as it is.
--
--   IsCourseFrom b e ls ts       the texts answer the lines over the bytes b of an index file, from its beginning, and e is the state behind them
--   IsCourse b ls ts             the same, whichever the state is
--   IsToldCourse b ls ts         the same of a file that tells its bytes: none is the text of a changed one
--   LiveScript b e ls before now w      how its script ended over the bytes b, and what was put for it
--   LiveTold e h i s before now w       how it ended over files that tell: before its script, with nothing put, or with its script
--   LiveEnds e i s w             how it may end over any files
--   LiveRan e i s m              a whole run
--
-- Before its script a run ends as one of `replay` does, for the same causes, and it can answer the same scripts whole.
use Rattle.std.specs.Prelude.{◌≡◌, ◌⊎◌, ℕ, List}
use Rattle.std.specs.List.{All}
use Rattle.std.specs.Option.{ForSome}
use Rattle.cs_base.specs.outside.Outside.{Held}
use Rattle.cs_model.specs.Outputs.{IsChangedText, failed_reads, script_lines}
use Rattle.cs_model_index.specs.Sections.{file_corpus, image_of}
use Rattle.cs_model_live.specs.Courses.{Course}
use Rattle.cs_model_live.specs.LiveStates.{LiveState, before_changes}
use Rattle.cs_indexing.specs.CommandLine.{Ending}
use Rattle.cs_indexing.specs.Met.{Met, Wrote, held_bytes}
use Rattle.cs_top.specs.LiveTexts.{IsLiveText}
use Rattle.cs_top.specs.ScriptRuns.{CanBeOpened, IndexEnds, IndexScript, ReplayCaused, ReplayStops}

-- over the corpus of the bytes, by their weights; of no lines no texts, and the state before the first change
abbrev pub IsCourseFrom : List ℕ → LiveState → List (List ℕ) → List (List ℕ) → Type 0
IsCourseFrom b e ls ts = Course (image_of b).weights (file_corpus b) (before_changes (file_corpus b)) ls ts e

-- of no lines no texts
abbrev pub IsCourse : List ℕ → List (List ℕ) → List (List ℕ) → Type 0
IsCourse b ls ts = (e : LiveState) × IsCourseFrom b e ls ts

-- a file that tells its bytes is what it was
pub record IsToldCourse (b : List ℕ) (ls ts : List (List ℕ)) : Type 0 where
  pub course : IsCourse b ls ts
  pub unchanged : All (λ t. ¬ IsChangedText t) ts

-- where no read failed no text says so
abbrev pub LiveScript : List ℕ → Ending → List (ℕ × List ℕ) → ℕ → ℕ → Wrote → Type 0
LiveScript b = IndexScript (λ ls ts. IsToldCourse b ls ts × (failed_reads ts ≡ 0)) (IsToldCourse b)

-- how it ended over files that tell: before its script, with nothing put, or with its script; the numbers are the files' count before
-- and after it
abbrev pub LiveTold : Ending → Held → List ℕ → List ℕ → ℕ → ℕ → Wrote → Type 0
LiveTold e h i s before now w =
    (ReplayStops e h i s × (w.new ≡ w.old)) ⊎ (CanBeOpened h i s × LiveScript (held_bytes h i) e (script_lines (held_bytes h s)) before now w)

-- lines that add and delete have texts of their own too
abbrev pub LiveEnds : Ending → List ℕ → List ℕ → Wrote → Type 0
LiveEnds = IndexEnds IsLiveText

-- a whole run; it changes no file, and meets no hub
pub record LiveRan {H : Type 0} (e : Ending) (i s : List ℕ) (m : Met H) : Type 0 where
  pub ends : LiveEnds e i s m.out
  pub told : ForSome m.held (λ h. LiveTold e h i s m.files_before m.files_now m.out)
  pub caused : ReplayCaused e m.files_before m.files_now m.out.before m.out.now
  pub files : m.held_now ≡ m.held
  pub hub : m.hub_now ≡ m.hub
