use Rattle.std.proofs.Common.{sym, subst}
use Rattle.std.specs.Prelude.{codes, ◌≡◌, ◌∷◌, ◌++◌, []}
use Rattle.cs_base.specs.content.Bytes.{line_feed}
use Rattle.cs_live_lines.proofs.OutcomeLines.{full_docs_line, full_rows_line, full_words_line}
use Rattle.cs_live_lines.specs.LineViews.{full_seen}
use Rattle.cs_live_lines.specs.declared.texts.Full.{Full}
use Rattle.cs_model_live.specs.LiveLines.{full_text}
use Rattle.cs_live_lines.proofs.texts.full_line.Goals as goal

pub returns-in-Docs : goal.returns-in-Docs
returns-in-Docs c = subst (λ (f : Full). codes "{\"error\":\"full\",\"which\":\"documents\"}\n" ≡ full_text (full_seen f) ++ line_feed ∷ []) (sym c.in-Docs.is) full_docs_line

pub returns-in-Rows : goal.returns-in-Rows
returns-in-Rows c = subst (λ (f : Full). codes "{\"error\":\"full\",\"which\":\"rows\"}\n" ≡ full_text (full_seen f) ++ line_feed ∷ []) (sym c.in-Rows.is) full_rows_line

pub returns-in-Words : goal.returns-in-Words
returns-in-Words c = subst (λ (f : Full). codes "{\"error\":\"full\",\"which\":\"words\"}\n" ≡ full_text (full_seen f) ++ line_feed ∷ []) (sym c.in-Words.is) full_words_line
