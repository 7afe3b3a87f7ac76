-- Which texts lines may have of their own where documents are added and deleted.
--
--   IsOutcomeText t     the text of what becomes of a line that adds or deletes a document
--   IsLiveText t        the same, or that of a reply, of a refusal or of want of memory
--   told_bytes o        what is put for an outcome, with its line ending
--   HasOutcomeText o    this is one of these texts, or that of want of memory
use Rattle.std.specs.Prelude.{◌≡◌, ◌⊎◌, ℕ, List, [], ◌∷◌, ◌++◌}
use Rattle.cs_live_lines.specs.LineViews.{broken}
use Rattle.cs_live_lines.specs.declared.document.LineRule.{LineRule}
use Rattle.cs_model_live.specs.LiveLines.{absent_text, added_text, change_text, deleted_text, document_text, full_text}
use Rattle.cs_model_live.specs.LiveStates.{Full}
use Rattle.cs_indexing.specs.declared.words.HitForm.TheVariants.{Titled}
use Rattle.cs_top.specs.PutTexts.{IsOwnText}
use Rattle.cs_top.specs.declared.live.outcomes.Outcome.{Outcome}
use Rattle.cs_top.specs.declared.live.outcomes.Outcome.TheVariants.{Line, Added, Deleted}

-- no change is named, no document has the number, the document breaks a rule of one line, there is no room for it, it is added, it is deleted
abbrev pub IsOutcomeText : List ℕ → Type 0
IsOutcomeText t =
    (t ≡ change_text)
    ⊎ ((t ≡ absent_text) ⊎ (((r : LineRule) × (t ≡ document_text (broken r))) ⊎ (((f : Full) × (t ≡ full_text f)) ⊎ (((d : ℕ) × (m : ℕ) × (t ≡ added_text d m)) ⊎ ((m : ℕ) × (t ≡ deleted_text m))))))

-- hits have titles alone
abbrev pub IsLiveText : List ℕ → Type 0
IsLiveText t = IsOwnText Titled t ⊎ IsOutcomeText t

-- a line is put as it is
abbrev pub told_bytes : Outcome → List ℕ
told_bytes (Line bytes) = bytes.now
told_bytes (Added doc changes) = added_text doc changes ++ 10 ∷ []
told_bytes (Deleted changes) = deleted_text changes ++ 10 ∷ []

-- the text stands before the line ending
abbrev pub HasOutcomeText : Outcome → Type 0
HasOutcomeText o = (t : List ℕ) × (told_bytes o ≡ t ++ 10 ∷ []) × IsLiveText t
