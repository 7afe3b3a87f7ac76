use Rattle.std.proofs.Common.{◌≡◌, ℕ, List, [], ◌∷◌, refl, ap, sym, Bool, true, false, Some, None, lit<}
use Rattle.std.proofs.lemmas.Bool.{eqb-true}
use Rattle.std.proofs.lemmas.Str.Pattern.{strip_prefix_char}
use Rattle.std.specs.Prelude.{if◌then◌else◌, ◌==◌}
use Rattle.cs_model.specs.Canonical.{word_text}
use Rattle.cs_query.proofs.printing.word_text.Goals as goal

no_colon_at : (b : Bool) (x : ℕ) (w : List ℕ) → (x == 58) ≡ b → ((rest : List ℕ) → x ∷ w ≡ 58 ∷ rest → ⊥) → (if b then w else x ∷ w) ≡ x ∷ w
no_colon_at true x w e none = absurd (none w (ap (λ y. y ∷ w) (eqb-true x 58 e)))
no_colon_at false x w e none = refl

no_colon : (w : List ℕ) → ((rest : List ℕ) → w ≡ 58 ∷ rest → ⊥) → w ≡ word_text w
no_colon [] none = refl
no_colon (x ∷ w) none = sym (no_colon_at (x == 58) x w refl none)

pub returns-in-Some : goal.returns-in-Some
returns-in-Some c = sym (ap word_text (strip_prefix_char 58 c.args.word.now (Some c.in-Some.rest) c.in-Some.ensures.cases (lit< tt)))

pub returns-in-None : goal.returns-in-None
returns-in-None c = no_colon c.args.word.now (strip_prefix_char 58 c.args.word.now None c.in-None.ensures.cases (lit< tt))
