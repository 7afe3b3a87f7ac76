-- What answers the lines of a script that adds documents and deletes them: an index under changes, over its file, which the files hold.
--
-- Source: this engine's own.
--
--   IsAt b l s                  over the bytes b of its index, an index under changes is in the state s of a live corpus
--   IsLiveAt b l s              the same, the bytes stand for the index, and what is kept of answers is good
--   LiveOver l f held b s       the same over a file that tells these bytes
--   StaysIndex l l' h h'        the index and what is held are the same
--   AnswersNow l f held k       k is the corpus of such a state
--   LiveStanding, live_standing     an index under changes, the name of its file, and what the files hold
--   LeavesLive s t              it stays in each state in which it was
--   LiveLeaves s q r t          a request with this answer was asked of them
--   Tells b s m o e             o is put as the text of the outcome m in this state, and leads to the state e; or as that of want of memory, and the
--                               state stays
use Rattle.std.specs.Prelude.{◌≡◌, ◌⊎◌, ℕ, List, [], ◌∷◌, ◌++◌, Option, Some, Result}
use Rattle.cs_base.specs.outside.Outside.{Held, file_bytes}
use Rattle.cs_file.specs.Indexes.{StandsFor}
use Rattle.cs_file.specs.declared.fault.FetchFault.{FetchFault}
use Rattle.cs_live.specs.Lives.{AreGoodNow, IsBehind, LiveView}
use Rattle.cs_model.specs.Corpus.{Corpus}
use Rattle.cs_model.specs.Outputs.{memory_text}
use Rattle.cs_model.specs.Replies.{Reply}
use Rattle.cs_model.specs.Requests.{Request}
use Rattle.cs_model_changes.specs.Changes.{Change}
use Rattle.cs_model_index.specs.Sections.{file_corpus, image_of}
use Rattle.cs_model_live.specs.Courses.{IsChanged}
use Rattle.cs_model_live.specs.LiveLines.{Outcome as Became, outcome_state, outcome_text}
use Rattle.cs_model_live.specs.LiveStates.{LiveState}
use Rattle.cs_top.specs.LiveTexts.{told_bytes}
use Rattle.cs_top.specs.declared.live.outcomes.Outcome.{Outcome}

-- the state is what some changes make of the corpus of the bytes, and so is the index under changes
pub record IsAt (b : List ℕ) (l : LiveView) (s : LiveState) : Type 0 where
  pub made : List Change
  pub behind : IsBehind b made l
  pub state : IsChanged l.state.index.weights (file_corpus b) made s

-- so it answers right
pub record IsLiveAt (b : List ℕ) (l : LiveView) (s : LiveState) : Type 0 where
  pub stands : StandsFor b l.state.index
  pub at : IsAt b l s
  pub good : AreGoodNow b l

-- of files that don't tell there are no such bytes
pub record LiveOver (l : LiveView) (name : List ℕ) (held : Option Held) (b : List ℕ) (s : LiveState) : Type 0 where
  pub told : file_bytes held name ≡ Some b
  pub live : IsLiveAt b l s

-- whatever else is changed
pub record StaysIndex (l l' : LiveView) (held held' : Option Held) : Type 0 where
  pub index : l'.state.index ≡ l.state.index
  pub files : held' ≡ held

-- over the corpus of the bytes, by their weights
abbrev pub Tells : List ℕ → LiveState → Became → Outcome → LiveState → Type 0
Tells b s m o e =
    ((told_bytes o ≡ outcome_text (file_corpus b) s m ++ 10 ∷ []) × (e ≡ outcome_state (image_of b).weights (file_corpus b) s m))
    ⊎ ((told_bytes o ≡ memory_text ++ 10 ∷ []) × (e ≡ s))

-- of files that don't tell there is no such corpus
abbrev pub AnswersNow : LiveView → List ℕ → Option Held → Corpus → Type 0
AnswersNow l name held k = (b : List ℕ) × (s : LiveState) × LiveOver l name held b s × (k ≡ s.corpus)

-- an index under changes over its file
pub record LiveStanding : Type 0 where
  pub live : LiveView
  pub name : List ℕ
  pub held : Option Held

-- as they stand
abbrev pub live_standing : LiveView → List ℕ → Option Held → LiveStanding
live_standing l name held = record { live = l; name = name; held = held }

-- over the same files, by the same index
pub record LeavesLive (s t : LiveStanding) : Type 0 where
  pub stays : StaysIndex s.live t.live s.held t.held
  pub over : (b : List ℕ) (e : LiveState) → LiveOver s.live s.name s.held b e → LiveOver t.live s.name t.held b e

-- whatever the answer is
abbrev pub LiveLeaves : LiveStanding → Request → Result Reply FetchFault → LiveStanding → Type 0
LiveLeaves s q r t = LeavesLive s t
