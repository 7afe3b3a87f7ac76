-- What may be answered to the lines of a script over a live corpus, one after the other.
--
-- Source: this engine's own.
--
--   MayFail l t                   the text t of a failed read or of a changed index file may stand in the place of a reply to the line
--   IsLineFault l t               t may stand in the place of the line's own text: of want of memory at each line
--   IsLineStep w k s l t e        over the state s the line l may be answered by t, and the state is e then
--   Course w k s ls ts e          over s the lines may be answered by the texts, one each, and the state is e behind all of them
--   step_changes w k s l t e h    the changes that a step makes: one or none
--   made w k s ls ts e c          the changes that a course makes, in order
--   additions_in cs               the documents that changes add, in order
--   IsChanged w k cs e            e is what the changes cs make of k
--   CoursesAreChanges             the law that the state behind a course is what its changes make of the corpus
--   CoursesGoOn                   the law that a course and one that goes on from its end are one
use Rattle.std.specs.Prelude.{◌≡◌, ◌⊎◌, ℕ, List, [], ◌∷◌, ◌++◌, length, None}
use Rattle.cs_base.specs.declared.content.doc.Doc.{Doc}
use Rattle.cs_base.specs.declared.content.scores.Weights.{Weights}
use Rattle.cs_model.specs.Corpus.{Corpus, by_number}
use Rattle.cs_model.specs.Outputs.{IsChangedText, memory_text, read_text}
use Rattle.cs_model.specs.Parameters.{request_refusal}
use Rattle.cs_model_changes.specs.Changes.{Change, added, deleted, now}
use Rattle.cs_model_live.specs.LiveLines.{LiveLine, adds, asks, changes_of, deletes, live_line, outcome, outcome_state, outcome_text}
use Rattle.cs_model_live.specs.LiveStates.{LiveState, before_changes}

-- a line that asks, and whose parameters aren't refused, may meet a failed read or a changed index file; no change reads the file
abbrev pub MayFail : LiveLine → List ℕ → Type 0
MayFail (adds l) t = ⊥
MayFail (deletes l) t = ⊥
MayFail (asks l) t = (request_refusal l ≡ None) × ((t ≡ read_text) ⊎ IsChangedText t)

-- a text in the place of a line's own: of want of memory at each line, else of a reply that can't be made
abbrev pub IsLineFault : List ℕ → List ℕ → Type 0
IsLineFault l t = (t ≡ memory_text) ⊎ MayFail (live_line l) t

-- the line's own text, and the state that it makes; or a fault's text, and the state as before
pub data IsLineStep (w : Weights) (k : Corpus) (s : LiveState) (l t : List ℕ) (e : LiveState) : Type 0 where
  own : t ≡ outcome_text k s (outcome w k s l) → e ≡ outcome_state w k s (outcome w k s l) → IsLineStep w k s l t e
  failed : IsLineFault l t → e ≡ s → IsLineStep w k s l t e

-- a step for each line, each over the state that the one before it left; of no lines no text, and the state as it is
abbrev pub Course : Weights → Corpus → LiveState → List (List ℕ) → List (List ℕ) → LiveState → Type 0
Course w k s [] [] e = e ≡ s
Course w k s [] (t ∷ ts) e = ⊥
Course w k s (l ∷ ls) [] e = ⊥
Course w k s (l ∷ ls) (t ∷ ts) e = (m : LiveState) × IsLineStep w k s l t m × Course w k m ls ts e

-- ---- the changes of a course
-- those of the line's own outcome; of a fault none
abbrev pub step_changes : (w : Weights) (k : Corpus) (s : LiveState) (l t : List ℕ) (e : LiveState) → IsLineStep w k s l t e → List Change
step_changes w k s l t e (own h i) = changes_of (outcome w k s l)
step_changes w k s l t e (failed h i) = []

-- step by step, in order; of no lines none
abbrev pub made : (w : Weights) (k : Corpus) (s : LiveState) (ls ts : List (List ℕ)) (e : LiveState) → Course w k s ls ts e → List Change
made w k s [] [] e c = []
made w k s [] (t ∷ ts) e c = absurd c
made w k s (l ∷ ls) [] e c = absurd c
made w k s (l ∷ ls) (t ∷ ts) e c = step_changes w k s l t c.0 c.1 ++ made w k c.0 ls ts e c.2

-- the documents that are added, in order, deletions being left out
abbrev pub additions_in : List Change → List Doc
additions_in [] = []
additions_in (added doc ∷ cs) = doc ∷ additions_in cs
additions_in (deleted d ∷ cs) = additions_in cs

-- the state that changes make of a corpus: its corpus, how many they are, and which documents they add
pub record IsChanged (w : Weights) (k : Corpus) (cs : List Change) (e : LiveState) : Type 0 where
  pub corpus : e.corpus ≡ now w k cs
  pub changes : e.changes ≡ length cs
  pub additions : e.additions ≡ additions_in cs

-- from the beginning, over a corpus whose documents are numbered from 0 without gaps
abbrev pub CoursesAreChanges : Type 0
CoursesAreChanges = (w : Weights) (k : Corpus) (titles : List (List ℕ)) (ls ts : List (List ℕ)) (e : LiveState) → by_number titles ≡ k.titles → (c : Course w k (before_changes k) ls ts e) → IsChanged w k (made w k (before_changes k) ls ts e c) e

-- so a course may be made line by line; either may be of no lines
abbrev pub CoursesGoOn : Type 0
CoursesGoOn = (w : Weights) (k : Corpus) (s m e : LiveState) (ls ks ts us : List (List ℕ)) → Course w k s ls ts m → Course w k m ks us e → Course w k s (ls ++ ks) (ts ++ us) e
