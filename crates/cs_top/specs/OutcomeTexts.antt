-- Which texts are put for a line, by what came of its parameters.
--
-- Source: this engine's own.
--
--   MayTell docs o t       t may be put where o came, with these documents at hand for excerpts
--   came_of_outcome o      what comes of the line
--   IsAnswerBy docs o a    a is put where o came
use Rattle.std.specs.Prelude.{◌≡◌, ◌⊎◌, ℕ, List, [], ◌∷◌, ◌++◌, Option}
use Rattle.cs_file.specs.Indexes.{IndexView}
use Rattle.cs_hub.specs.Outcomes.{TellsChange}
use Rattle.cs_hub.specs.declared.outcomes.RequestOutcome.{RequestOutcome}
use Rattle.cs_hub.specs.declared.outcomes.RequestOutcome.TheVariants as outcomes
use Rattle.cs_json.specs.FaultTexts.{fault_text}
use Rattle.cs_json.specs.declared.fault.Fault.TheVariants as faults
use Rattle.cs_model.specs.Outputs.{memory_text, read_text}
use Rattle.cs_top.specs.Answering.{came_of_answer, line_bytes}
use Rattle.cs_top.specs.HitForms.{AtHand, shown_reply}
use Rattle.cs_top.specs.PutTexts.{IsChangeLine}
use Rattle.cs_top.specs.declared.script.WhatCame.{WhatCame}
use Rattle.cs_top.specs.declared.script.WhatCame.TheVariants.{Answered, Read, Changed}
use Rattle.cs_top.specs.declared.script.answers.Answer.{Answer}

-- the text of what came, or where there is no memory for it that of want of memory; that of a failed read takes none
abbrev pub MayTell : AtHand → RequestOutcome → List ℕ → Type 0
MayTell docs (outcomes.Refused e) t = (t ≡ fault_text (faults.Refused e)) ⊎ (t ≡ memory_text)
MayTell docs (outcomes.Replied q r) t = (t ≡ shown_reply docs q.query r) ⊎ (t ≡ memory_text)
MayTell docs outcomes.Read t = t ≡ read_text
MayTell docs (outcomes.Changed rule at) t = (t ≡ fault_text (faults.Changed rule at)) ⊎ (t ≡ memory_text)
MayTell docs outcomes.Memory t = t ≡ memory_text

-- want of memory is an answer
abbrev pub came_of_outcome : RequestOutcome → WhatCame
came_of_outcome (outcomes.Refused e) = Answered
came_of_outcome (outcomes.Replied q r) = Answered
came_of_outcome outcomes.Read = Read
came_of_outcome (outcomes.Changed rule at) = Changed
came_of_outcome outcomes.Memory = Answered

-- the text stands before the line ending; a change that tells of an index has the text of that change
pub record IsAnswerBy (docs : AtHand) (o : RequestOutcome) (a : Answer) : Type 0 where
  pub text : List ℕ
  pub is : line_bytes a ≡ text ++ 10 ∷ []
  pub told : MayTell docs o text
  pub came : came_of_answer a ≡ came_of_outcome o
  pub changed : (i : IndexView) (told : Option (List ℕ)) → TellsChange i told o → IsChangeLine i told a
