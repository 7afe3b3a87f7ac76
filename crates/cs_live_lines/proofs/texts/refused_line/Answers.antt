use Rattle.std.proofs.Common.{sym, subst}
use Rattle.std.specs.Prelude.{codes, ◌≡◌, ◌∷◌, ◌++◌, []}
use Rattle.cs_base.specs.content.Bytes.{line_feed}
use Rattle.cs_live_lines.proofs.OutcomeLines.{bad_facet_line, bad_name_line, line_too_long_line, not_utf8_line, words_too_many_line}
use Rattle.cs_live_lines.specs.LineViews.{broken}
use Rattle.cs_live_lines.specs.declared.document.LineRule.{LineRule}
use Rattle.cs_model_live.specs.LiveLines.{document_text}
use Rattle.cs_live_lines.proofs.texts.refused_line.Goals as goal

pub returns-in-NotUtf8 : goal.returns-in-NotUtf8
returns-in-NotUtf8 c = subst (λ (r : LineRule). codes "{\"error\":\"document\",\"rule\":\"not UTF-8\"}\n" ≡ document_text (broken r) ++ line_feed ∷ []) (sym c.in-NotUtf8.is) not_utf8_line

pub returns-in-LineTooLong : goal.returns-in-LineTooLong
returns-in-LineTooLong c = subst (λ (r : LineRule). codes "{\"error\":\"document\",\"rule\":\"line too long\"}\n" ≡ document_text (broken r) ++ line_feed ∷ []) (sym c.in-LineTooLong.is) line_too_long_line

pub returns-in-WordsTooMany : goal.returns-in-WordsTooMany
returns-in-WordsTooMany c = subst (λ (r : LineRule). codes "{\"error\":\"document\",\"rule\":\"too many words\"}\n" ≡ document_text (broken r) ++ line_feed ∷ []) (sym c.in-WordsTooMany.is) words_too_many_line

pub returns-in-BadFacet : goal.returns-in-BadFacet
returns-in-BadFacet c = subst (λ (r : LineRule). codes "{\"error\":\"document\",\"rule\":\"bad facet\"}\n" ≡ document_text (broken r) ++ line_feed ∷ []) (sym c.in-BadFacet.is) bad_facet_line

pub returns-in-BadName : goal.returns-in-BadName
returns-in-BadName c = subst (λ (r : LineRule). codes "{\"error\":\"document\",\"rule\":\"bad facet name\"}\n" ≡ document_text (broken r) ++ line_feed ∷ []) (sym c.in-BadName.is) bad_name_line
