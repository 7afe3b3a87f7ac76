-- The pieces of which the text of a change is put.
use Rattle.std.proofs.Common.{◌≡◌, ℕ, ◌∷◌, ◌++◌, [], append_assoc}
use Rattle.std.specs.Prelude.{codes}
use Rattle.std.specs.Fmt.{decimal}
use Rattle.serde_json.proofs.OnLiterals.{serde_json_on_literals}
use Rattle.cs_model_live.specs.LiveLines.{added_text, deleted_text}

pub added_pieces : (d m : ℕ) → codes "{\"doc\":" ++ (decimal d ++ (codes ",\"state\":" ++ (decimal m ++ codes "}\n"))) ≡ added_text d m ++ 10 ∷ []
unfolding added_text serde_json_on_literals
added_pieces d m = simp append_assoc

pub deleted_pieces : (m : ℕ) → codes "{\"state\":" ++ (decimal m ++ codes "}\n") ≡ deleted_text m ++ 10 ∷ []
unfolding deleted_text serde_json_on_literals
deleted_pieces m = simp append_assoc
