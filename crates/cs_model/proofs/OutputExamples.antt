-- The definitions of a script's lines and of what is put for them, on small scripts.
use Rattle.std.proofs.Common.{◌≡◌, ℕ, List, [], ◌∷◌, inl, inr, refl, sym, ◌∙◌}
use Rattle.std.specs.Prelude.{replicate, Some, None, codes}
use Rattle.serde_json.proofs.OnLiterals.{serde_json_on_literals}
use Rattle.cs_model.specs.Corpus.{Corpus}
use Rattle.cs_model.specs.Faults.{error_text}
use Rattle.cs_model.specs.Outputs.{IsAnswer, IsAnswerWithFaults, failed_reads, first_fault, memory_text, put_of, read_text, readable_lines, script_lines, script_line_too_long}
use Rattle.cs_model.specs.Parameters.{RequestRefusal, request_refusal}

-- a line without bytes is left out, and counted
lines-empty_line : script_lines (239 ∷ 187 ∷ 191 ∷ 97 ∷ 13 ∷ 10 ∷ 10 ∷ 98 ∷ []) ≡ (1, 97 ∷ []) ∷ (3, 98 ∷ []) ∷ []
lines-empty_line = refl

-- a carriage return at the end of the last line belongs to it
lines-last_return : script_lines (97 ∷ 10 ∷ 98 ∷ 13 ∷ []) ≡ (1, 97 ∷ []) ∷ (2, 98 ∷ 13 ∷ []) ∷ []
lines-last_return = refl

-- a line above 4,096 bytes is too long, and no line from it on is read
fault-long : first_fault ((3, replicate 4097 97) ∷ (4, 98 ∷ []) ∷ []) ≡ Some (script_line_too_long 3)
fault-long = refl

readable-long : readable_lines ((3, replicate 4097 97) ∷ (4, 98 ∷ []) ∷ []) ≡ []
unfolding readable_lines
readable-long = refl

-- each text has its line feed
put-two : put_of (codes "a" ∷ codes "" ∷ []) ≡ codes "a\n\n"
put-two = refl

-- of a failed read, of no memory and of a failed read again two are of a failed read
reads-two : failed_reads (read_text ∷ memory_text ∷ read_text ∷ []) ≡ 2
unfolding failed_reads error_text serde_json_on_literals
reads-two = refl

-- a refused line keeps its own text, whatever becomes of the index file
refused-own : (k : Corpus) (l t : List ℕ) (r : RequestRefusal) → request_refusal l ≡ Some r → IsAnswerWithFaults k l t → IsAnswer k l t
refused-own k l t r h (inl a) = a
refused-own k l t r h (inr a) = let e : None ≡ Some r = sym a.0 ∙ h in absurd cc
