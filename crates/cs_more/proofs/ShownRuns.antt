-- An excerpt by its marks.
use Rattle.std.proofs.Common.{◌≡◌, ℕ, List, [], ◌∷◌, true, false, Bool, map, length, Option, refl, sym, ap, ◌∙◌, arith}
use Rattle.std.specs.Prelude.{◌==◌, filter}
use Rattle.std.proofs.lemmas.Bool.{false≢true}
use Rattle.std.proofs.lemmas.Bool.Decides.{nat_tests}
use Rattle.cs_base.specs.declared.content.doc.Doc.{Doc}
use Rattle.cs_base.specs.declared.content.query.Query.{Query, out-Query}
use Rattle.cs_model.specs.Words.{words}
use Rattle.cs_model_excerpts.specs.Runs.{shortest}
use Rattle.cs_model_excerpts.specs.Excerpts.{own_excerpt, excerpt_of, is_positive, shown_run, textual}
use Rattle.cs_model_excerpts.specs.OwnWords.{part_marks}

excerpt_marked : (ws : List (List ℕ)) (ms : List (List Bool)) (b : Bool) → b ≡ (length ms == 0) → b ≡ false → excerpt_of ws ms ≡ shown_run ws ms (shortest ms (length ws))
excerpt_marked ws [] b e f = absurd (false≢true (sym f ∙ e))
excerpt_marked ws (m ∷ ms) b e f = refl

excerpt_unmarked : (ws : List (List ℕ)) (ms : List (List Bool)) (b : Bool) → b ≡ (length ms == 0) → b ≡ true → [] ≡ excerpt_of ws ms
excerpt_unmarked ws [] b e t = refl
excerpt_unmarked ws (m ∷ ms) b e t = let some : (length (m ∷ ms) == 0) ≡ false = grind (arith, nat_tests) in absurd (false≢true (sym some ∙ sym e ∙ t))

module _ (q : Query) (doc : Doc) (ws : List (List ℕ)) (ms : List (List Bool)) (b : Bool) (own : ws ≡ words doc.text)
    (marks : ms ≡ textual (map (part_marks ws) (filter is_positive (out-Query q).parts))) (empty : b ≡ (length ms == 0)) where
  same : excerpt_of ws ms ≡ own_excerpt q doc
  unfolding own_excerpt
  same = ap (excerpt_of ws) marks ∙ ap (λ v. excerpt_of v (textual (map (part_marks v) (filter is_positive (out-Query q).parts)))) own

  pub none_marked : (t : List ℕ) → t ≡ [] → b ≡ true → t ≡ own_excerpt q doc
  none_marked t e h = e ∙ excerpt_unmarked ws ms b empty h ∙ same

  pub run_shown : (t : List ℕ) (o : Option (ℕ × ℕ)) (n : ℕ) → b ≡ false → n ≡ length ws → o ≡ shortest ms n → t ≡ shown_run ws ms o → t ≡ own_excerpt q doc
  run_shown t o n h l e s = s ∙ ap (shown_run ws ms) (e ∙ ap (shortest ms) l) ∙ sym (excerpt_marked ws ms b empty h) ∙ same
