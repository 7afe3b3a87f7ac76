-- That no text of what becomes of a change is that of a failed read or of a changed index file.
--
--   live_apart     so the texts of a script that changes a corpus are apart from these
use Rattle.std.proofs.Common.{◌≡◌, ◌≢◌, ◌∙◌, ℕ, List, inl, inr, refl, sym, ap, arith}
use Rattle.std.specs.Prelude.{get_or}
use Rattle.serde_json.proofs.OnLiterals.{serde_json_on_literals}
use Rattle.cs_live_lines.specs.LineViews.{broken}
use Rattle.cs_model.specs.Collection.{CollectionRefusal}
use Rattle.cs_model.specs.Faults.{changed_text, error_text}
use Rattle.cs_model.specs.Outputs.{IsChangedText, read_text}
use Rattle.cs_model_live.specs.LiveLines.{absent_text, added_text, change_text, deleted_text, document_text, full_text}
use Rattle.cs_model_live.specs.LiveStates.{Full}
use Rattle.cs_indexing.specs.declared.words.HitForm.TheVariants.{Titled}
use Rattle.cs_top.specs.LiveTexts.{IsLiveText, IsOutcomeText}
use Rattle.cs_top.proofs.PutTextLemmas.{IsApart}
use Rattle.cs_top.proofs.TextsApart.{own_unchanged, own_unread}

abbrev byte : ℕ → List ℕ → ℕ
byte n t = get_or t n 0

-- two texts that have other bytes at a place
apart : (n : ℕ) (t u : List ℕ) (a b : ℕ) → byte n t ≡ a → byte n u ≡ b → a ≢ b → t ≢ u
apart n t u a b p q other is = other (sym p ∙ ap (byte n) is ∙ q)

read_bytes : (byte 2 read_text ≡ 101) × (byte 10 read_text ≡ 114)
unfolding error_text serde_json_on_literals
read_bytes = (refl, refl)

changed_byte : (rule at : ℕ) → byte 2 (changed_text rule at) ≡ 97
unfolding changed_text serde_json_on_literals
changed_byte rule at = refl

change_bytes : (byte 2 change_text ≡ 101) × (byte 10 change_text ≡ 99)
unfolding error_text serde_json_on_literals
change_bytes = (refl, refl)

absent_bytes : (byte 2 absent_text ≡ 101) × (byte 10 absent_text ≡ 110)
unfolding error_text serde_json_on_literals
absent_bytes = (refl, refl)

document_bytes : (r : CollectionRefusal) → (byte 2 (document_text r) ≡ 101) × (byte 10 (document_text r) ≡ 100)
unfolding document_text serde_json_on_literals
document_bytes r = (refl, refl)

full_bytes : (f : Full) → (byte 2 (full_text f) ≡ 101) × (byte 10 (full_text f) ≡ 102)
unfolding full_text serde_json_on_literals
full_bytes f = (refl, refl)

added_byte : (d m : ℕ) → byte 2 (added_text d m) ≡ 100
unfolding added_text serde_json_on_literals
added_byte d m = refl

deleted_byte : (m : ℕ) → byte 2 (deleted_text m) ≡ 115
unfolding deleted_text serde_json_on_literals
deleted_byte m = refl

outcome_unread : (t : List ℕ) → IsOutcomeText t → t ≢ read_text
outcome_unread t (inl is) e = apart 10 change_text read_text 99 114 change_bytes.1 read_bytes.1 (λ x. omega (arith, x)) (sym is ∙ e)
outcome_unread t (inr (inl is)) e = apart 10 absent_text read_text 110 114 absent_bytes.1 read_bytes.1 (λ x. omega (arith, x)) (sym is ∙ e)
outcome_unread t (inr (inr (inl (r, is)))) e = apart 10 (document_text (broken r)) read_text 100 114 (document_bytes (broken r)).1 read_bytes.1 (λ x. omega (arith, x)) (sym is ∙ e)
outcome_unread t (inr (inr (inr (inl (f, is))))) e = apart 10 (full_text f) read_text 102 114 (full_bytes f).1 read_bytes.1 (λ x. omega (arith, x)) (sym is ∙ e)
outcome_unread t (inr (inr (inr (inr (inl (d, m, is)))))) e = apart 2 (added_text d m) read_text 100 101 (added_byte d m) read_bytes.0 (λ x. omega (arith, x)) (sym is ∙ e)
outcome_unread t (inr (inr (inr (inr (inr (m, is)))))) e = apart 2 (deleted_text m) read_text 115 101 (deleted_byte m) read_bytes.0 (λ x. omega (arith, x)) (sym is ∙ e)

-- by its third byte
outcome_byte : (t : List ℕ) → IsOutcomeText t → byte 2 t ≢ 97
outcome_byte t (inl is) e = let b = ap (byte 2) is ∙ change_bytes.0 in omega (arith, b, e)
outcome_byte t (inr (inl is)) e = let b = ap (byte 2) is ∙ absent_bytes.0 in omega (arith, b, e)
outcome_byte t (inr (inr (inl (r, is)))) e = let b = ap (byte 2) is ∙ (document_bytes (broken r)).0 in omega (arith, b, e)
outcome_byte t (inr (inr (inr (inl (f, is))))) e = let b = ap (byte 2) is ∙ (full_bytes f).0 in omega (arith, b, e)
outcome_byte t (inr (inr (inr (inr (inl (d, m, is)))))) e = let b = ap (byte 2) is ∙ added_byte d m in omega (arith, b, e)
outcome_byte t (inr (inr (inr (inr (inr (m, is)))))) e = let b = ap (byte 2) is ∙ deleted_byte m in omega (arith, b, e)

live_unread : (t : List ℕ) → IsLiveText t → t ≢ read_text
live_unread t (inl h) = own_unread Titled t h
live_unread t (inr h) = outcome_unread t h

live_unchanged : (t : List ℕ) → IsLiveText t → ¬ IsChangedText t
live_unchanged t (inl h) = own_unchanged Titled t h
live_unchanged t (inr h) = λ c. outcome_byte t h (ap (byte 2) c.2 ∙ changed_byte c.0 c.1)

pub live_apart : IsApart IsLiveText
live_apart = record { memory = inl (inr (inr refl)); unread = live_unread; unchanged = live_unchanged }
