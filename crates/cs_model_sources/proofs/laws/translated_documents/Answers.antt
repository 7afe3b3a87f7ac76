use Rattle.cs_model_sources.proofs.TranslatedLemmas.{columns_kept, documents_are_lines}
use Rattle.cs_model_sources.proofs.laws.translated_documents.Goals as goal

pub returns : goal.returns
returns c = record { lines = documents_are_lines; columns = columns_kept }
