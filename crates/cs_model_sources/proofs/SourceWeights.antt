-- A translation has one weights line, its first one, which says the usual weights.
--
--   weights_first    the usual weights line and bytes behind it are a collection with these weights
--   weights_usual    the law
use Rattle.std.proofs.Common.{◌≡◌, ℕ, ◌+◌, ◌≤◌, true, false, cond, List, [], ◌∷◌, ◌++◌, map, refl, subst, ◌∙◌, ap, arith, append_assoc, codes}
use Rattle.std.specs.Prelude.{◌==◌, ◌&&◌, filter, Some, None, if◌then◌else◌}
use Rattle.std.specs.List.{enumerate_from, flat_map}
use Rattle.std.specs.Str.{chars, is_utf8}
use Rattle.std.specs.Str.Lines.{lines}
use Rattle.std.proofs.lemmas.Bool.Decides.{nat_tests}
use Rattle.std.proofs.lemmas.List.{append-nil}
use Rattle.csv.specs.Reading.{default_config, records, strip_bom}
use Rattle.cs_base.specs.content.Bytes.{line_feed}
use Rattle.cs_model.specs.Collection.{is_weights_line, weights_lines, weights_of_lines, weights_refusal, without_mark}
use Rattle.cs_model.specs.Weights.{names_weights, weights_said}
use Rattle.cs_model_sources.specs.CsvSources.{csv_flat, document_line, is_header}
use Rattle.cs_model_sources.specs.JsonSources.{lines_flat}
use Rattle.cs_model_sources.specs.SourceLaws.{HasUsualWeights, WeightsAreUsual}
use Rattle.cs_model_sources.specs.Translated.{usual_weights_line}
use Rattle.cs_model_sources.specs.declared.flat.Flat.{Flat}
use Rattle.cs_model_sources.specs.declared.flat.Why.TheVariants.{Header}
use Rattle.cs_model_sources.proofs.TranslatedLemmas.{line_bytes, line_first, unbroken}
use lib.Utf8

abbrev usual_text : List ℕ
usual_text = codes "#weights title=4 facet=2 text=1"

not_first : (n : ℕ) → 2 ≤ n → (n == 1) ≡ false
not_first n h = grind (arith, nat_tests)

-- lines behind the first one
none_later : (n : ℕ) (ls : List (List ℕ)) → 2 ≤ n → filter is_weights_line (enumerate_from n ls) ≡ []
none_later n [] h = refl
none_later n (l ∷ ls) h =
    ap (λ b. cond (b && names_weights l) ((n, l) ∷ filter is_weights_line (enumerate_from (n + 1) ls)) (filter is_weights_line (enumerate_from (n + 1) ls))) (not_first n h)
    ∙ none_later (n + 1) ls (omega (arith, h))

one_line : (rest : List ℕ) → weights_lines (usual_weights_line ++ rest) ≡ (1, usual_text) ∷ []
unfolding usual_weights_line
one_line rest =
    ap (λ ls. filter is_weights_line (enumerate_from 1 ls)) (ap lines (append_assoc usual_text (line_feed ∷ []) rest) ∙ line_first usual_text rest (line_bytes usual_text (unbroken usual_text refl)))
    ∙ ap (λ ls. (1, usual_text) ∷ ls) (none_later 2 (lines rest) (omega arith))

weights_first : (rest : List ℕ) → HasUsualWeights (usual_weights_line ++ rest)
unfolding weights_said chars is_utf8 lib.Utf8.encode
weights_first rest = record { said = ap weights_of_lines (one_line rest); kept = ap (map weights_refusal) (one_line rest) }

weights_alone : HasUsualWeights usual_weights_line
weights_alone = subst HasUsualWeights (append-nil usual_weights_line) (weights_first [])

table_weights : (rs : List (List (List ℕ))) → HasUsualWeights (csv_flat rs).tsv
unfolding csv_flat
table_weights [] = weights_alone
table_weights (names ∷ rows) =
    elim (is_header names) as (λ b. let f : Flat = if b then record { tsv = usual_weights_line ++ flat_map (document_line names) rows; bad = None } else record { tsv = usual_weights_line; bad = Some (record { line = 1; why = Header }) } in HasUsualWeights f.tsv) [
      | true ↦ weights_first (flat_map (document_line names) rows)
      | false ↦ weights_alone
    ]

pub weights_usual : WeightsAreUsual
weights_usual = record { tables = λ b. table_weights (records default_config (strip_bom b)); lines = λ b. weights_first (lines_flat 1 (lines (without_mark b))).tsv }
