-- The lines of outcomes that are always the same.
use Rattle.std.proofs.Common.{◌≡◌, ◌++◌, ◌∷◌, [], refl}
use Rattle.std.specs.Prelude.{codes}
use Rattle.std.specs.Fmt.{digits}
use Rattle.serde_json.proofs.OnLiterals.{serde_json_on_literals}
use Rattle.cs_base.specs.content.Bytes.{line_feed}
use Rattle.cs_model.specs.Faults.{error_text}
use Rattle.cs_model.specs.Collection.{bad_facet, bad_name, line_too_long, not_utf8, words_too_many}
use Rattle.cs_model_live.specs.LiveLines.{absent_text, change_text, document_text, full_text}
use Rattle.cs_model_live.specs.LiveStates.{full_docs, full_rows, full_words}

pub change_line : codes "{\"error\":\"change\"}\n" ≡ change_text ++ line_feed ∷ []
unfolding error_text serde_json_on_literals
change_line = refl

pub absent_line : codes "{\"error\":\"no document\"}\n" ≡ absent_text ++ line_feed ∷ []
unfolding error_text serde_json_on_literals
absent_line = refl

pub full_docs_line : codes "{\"error\":\"full\",\"which\":\"documents\"}\n" ≡ full_text full_docs ++ line_feed ∷ []
unfolding full_text serde_json_on_literals
full_docs_line = refl

pub full_rows_line : codes "{\"error\":\"full\",\"which\":\"rows\"}\n" ≡ full_text full_rows ++ line_feed ∷ []
unfolding full_text serde_json_on_literals
full_rows_line = refl

pub full_words_line : codes "{\"error\":\"full\",\"which\":\"words\"}\n" ≡ full_text full_words ++ line_feed ∷ []
unfolding full_text serde_json_on_literals
full_words_line = refl

pub not_utf8_line : codes "{\"error\":\"document\",\"rule\":\"not UTF-8\"}\n" ≡ document_text (not_utf8 2) ++ line_feed ∷ []
unfolding document_text digits serde_json_on_literals
not_utf8_line = refl

pub line_too_long_line : codes "{\"error\":\"document\",\"rule\":\"line too long\"}\n" ≡ document_text (line_too_long 2) ++ line_feed ∷ []
unfolding document_text digits serde_json_on_literals
line_too_long_line = refl

pub words_too_many_line : codes "{\"error\":\"document\",\"rule\":\"too many words\"}\n" ≡ document_text (words_too_many 2) ++ line_feed ∷ []
unfolding document_text digits serde_json_on_literals
words_too_many_line = refl

pub bad_facet_line : codes "{\"error\":\"document\",\"rule\":\"bad facet\"}\n" ≡ document_text (bad_facet 2) ++ line_feed ∷ []
unfolding document_text digits serde_json_on_literals
bad_facet_line = refl

pub bad_name_line : codes "{\"error\":\"document\",\"rule\":\"bad facet name\"}\n" ≡ document_text (bad_name 2) ++ line_feed ∷ []
unfolding document_text digits serde_json_on_literals
bad_name_line = refl
