use Rattle.std.proofs.Common.{◌≡◌, ◌++◌, ◌∷◌, [], ◌∙◌, ℕ, List, ap, sym}
use Rattle.std.specs.Prelude.{codes}
use Rattle.std.specs.Fmt.{decimal}
use Rattle.std.proofs.lemmas.List.{append_assoc}
use Rattle.cs_merge.specs.Merging.{merge_refusal_of}
use Rattle.cs_indexing.specs.CommandLine.{line_of}
use Rattle.cs_indexing.specs.Views.{merge_ending}
use Rattle.cs_indexing.proofs.ending.said_of_merge.Goals as goal

-- the ending of a line stands behind its last word
ended_behind : (s t : List ℕ) → codes "merge: targets " ++ (s ++ (codes " and " ++ (t ++ codes " differ\n"))) ≡ codes "merge: " ++ ((codes "targets " ++ (s ++ (codes " and " ++ (t ++ codes " differ")))) ++ 10 ∷ [])
ended_behind s t =
    sym (ap (λ x. codes "merge: targets " ++ x) (append_assoc s (codes " and " ++ (t ++ codes " differ")) (10 ∷ []) ∙ ap (λ x. s ++ (codes " and " ++ x)) (append_assoc t (codes " differ") (10 ∷ []))))

pub returns-in-Targets : goal.returns-in-Targets
returns-in-Targets c = ended_behind (decimal c.in-Targets.first) (decimal c.in-Targets.second) ∙ ap (λ f. line_of (merge_ending (merge_refusal_of f))) (sym c.in-Targets.is)
