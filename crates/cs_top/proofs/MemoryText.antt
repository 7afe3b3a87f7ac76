-- The lines that stand in a reply's place where memory ran out, and where a read failed.
use Rattle.std.proofs.Common.{◌≡◌, ◌++◌, ◌∷◌, [], refl}
use Rattle.std.specs.Prelude.{codes}
use Rattle.serde_json.proofs.OnLiterals.{serde_json_on_literals}
use Rattle.cs_model.specs.Faults.{error_text}
use Rattle.cs_model.specs.Outputs.{memory_text, read_text}

pub memory_line : codes "{\"error\":\"memory\"}\n" ≡ memory_text ++ 10 ∷ []
unfolding error_text serde_json_on_literals
memory_line = refl

pub read_line : codes "{\"error\":\"read\"}\n" ≡ read_text ++ 10 ∷ []
unfolding error_text serde_json_on_literals
read_line = refl
