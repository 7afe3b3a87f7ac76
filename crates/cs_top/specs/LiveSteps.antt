-- One line of a script that adds documents, deletes them and asks: how it leads from one state of a live corpus to the next.
--
--   IsLiveStep b s l t e        over the bytes b of an index file that tells them, the line l may be answered by t in the state s, and e is the state then
--   LineText b s                a text that a line may have in this state
--   IsToldCourseTo b e ls ts    a course of lines from the beginning, which leads to the state e
--   LivePasses b s l old new came .. e    the line l has no bytes, and nothing was put; or it is read, and a text was put for it. It leads to e
--   LiveReaches b s x p q old new came .. e    from one place of a script x to the next, a line was met and passed
use Rattle.std.specs.Prelude.{◌≡◌, ◌≢◌, ◌⊎◌, ℕ, ◌+◌, List, [], ◌∷◌, ◌++◌, drop, Option, None}
use Rattle.std.specs.List.{All}
use Rattle.std.specs.Str.Lines.{lines}
use Rattle.cs_base.specs.outside.Outside.{Grew}
use Rattle.cs_model.specs.Outputs.{IsChangedText, MayPut, line_fault}
use Rattle.cs_model_index.specs.Sections.{file_corpus, image_of}
use Rattle.cs_model_live.specs.Courses.{IsLineStep}
use Rattle.cs_model_live.specs.LiveStates.{LiveState}
use Rattle.cs_top.specs.Answering.{Costs}
use Rattle.cs_top.specs.LiveRuns.{IsCourseFrom}
use Rattle.cs_top.specs.declared.lines.Place.{Place}
use Rattle.cs_top.specs.declared.script.WhatCame.{WhatCame}
use Rattle.cs_top.specs.declared.script.WhatCame.TheVariants.{Answered}

-- over the corpus of the bytes, by their weights; the file is what it was
pub record IsLiveStep (b : List ℕ) (s : LiveState) (l t : List ℕ) (e : LiveState) : Type 0 where
  pub step : IsLineStep (image_of b).weights (file_corpus b) s l t e
  pub unchanged : ¬ IsChangedText t

-- whichever state is behind it
abbrev pub LineText : List ℕ → LiveState → MayPut
LineText b s l t = (e : LiveState) × IsLiveStep b s l t e

-- of no lines no texts, and the state before the first change
pub record IsToldCourseTo (b : List ℕ) (e : LiveState) (ls ts : List (List ℕ)) : Type 0 where
  pub course : IsCourseFrom b e ls ts
  pub unchanged : All (λ t. ¬ IsChangedText t) ts

-- the line is passed: it has no bytes, and nothing was put; or it is read, and a text was put for it whole, by what came of it
abbrev pub LivePasses : List ℕ → LiveState → ℕ × List ℕ → Option (List ℕ) → Option (List ℕ) → WhatCame → ℕ → ℕ → LiveState → Type 0
LivePasses b s l old new came before now e =
    ((l.1 ≡ []) × (new ≡ old) × (came ≡ Answered) × (now ≡ before) × (e ≡ s))
    ⊎ ((l.1 ≢ []) × (line_fault l ≡ None) × ((t : List ℕ) × IsLiveStep b s l.1 t e × Costs came before now t × Grew old (t ++ 10 ∷ []) new))

-- from one place of a script to the next, one line was met and passed
abbrev pub LiveReaches : List ℕ → LiveState → List ℕ → Place → Place → Option (List ℕ) → Option (List ℕ) → WhatCame → ℕ → ℕ → LiveState → Type 0
LiveReaches b s x p q old new came before now e =
    (l : List ℕ) × (lines (drop p.at x) ≡ l ∷ lines (drop q.at x)) × (q.number ≡ p.number + 1) × LivePasses b s (q.number, l) old new came before now e
