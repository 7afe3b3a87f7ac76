-- How many lines the translation of a source has.
--
--   AddsLine          bytes in front of others are one line more
--   lines_counted     the law of JSON lines
--   records_counted   the law of tables
use Rattle.std.proofs.Common.{◌≡◌, ℕ, suc, ◌+◌, true, List, [], ◌∷◌, ◌++◌, length, Option, Some, None, refl, ◌∙◌, ap, arith, append_assoc, codes}
use Rattle.std.specs.List.{flat_map}
use Rattle.std.specs.Str.Lines.{lines}
use Rattle.serde_json.specs.Data.{Data, null, boolean, number, string, array, object}
use Rattle.cs_base.specs.content.Bytes.{line_feed}
use Rattle.cs_model_sources.specs.CsvSources.{csv_flat, document_line, is_header}
use Rattle.cs_model_sources.specs.JsonSources.{LineRead, given, bad, columns_line, json_value, line_read, lines_flat, read_value, value_line, with_line}
use Rattle.cs_model_sources.specs.SourceLaws.{LinesAreCounted}
use Rattle.cs_model_sources.specs.Translated.{translated, usual_weights_line}
use Rattle.cs_model_sources.specs.declared.flat.BadLine.{BadLine}
use Rattle.cs_model_sources.specs.declared.flat.Flat.{Flat}
use Rattle.cs_model_sources.proofs.TranslatedLemmas.{documents_are_lines, line_bytes, line_first, unbroken}

abbrev AddsLine : List ℕ → Type 0
AddsLine t = (rest : List ℕ) → length (lines (t ++ rest)) ≡ suc (length (lines rest))

document_adds : (title facets text : List ℕ) → AddsLine (translated title facets text)
document_adds title facets text rest = ap length (documents_are_lines title facets text rest)

weights_add : AddsLine usual_weights_line
unfolding usual_weights_line
weights_add rest =
    let text = codes "#weights title=4 facet=2 text=1" in
    ap length (ap lines (append_assoc text (line_feed ∷ []) rest) ∙ line_first text rest (line_bytes text (unbroken text refl)))

-- ---- tables
records_add : (names : List (List ℕ)) (rows : List (List (List ℕ))) → length (lines (flat_map (document_line names) rows)) ≡ length rows
unfolding document_line
records_add names [] = refl
records_add names (r ∷ rows) = document_adds _ _ _ (flat_map (document_line names) rows) ∙ ap suc (records_add names rows)

pub records_counted : (names : List (List ℕ)) (rows : List (List (List ℕ))) → is_header names ≡ true → length (lines (csv_flat (names ∷ rows)).tsv) ≡ length (names ∷ rows)
unfolding csv_flat
records_counted names rows h = rw h (weights_add (flat_map (document_line names) rows) ∙ ap suc (records_add names rows))

-- ---- lines of JSON
abbrev GivesLine : LineRead → Type 0
GivesLine (given t) = AddsLine t
GivesLine (bad w) = Unit {0}

columns_give : (title facets text : Option (List ℕ)) → GivesLine (columns_line title facets text)
columns_give None facets text = tt
columns_give (Some title) None text = tt
columns_give (Some title) (Some facets) None = tt
columns_give (Some title) (Some facets) (Some text) = document_adds title facets text

value_gives : (d : Data) → GivesLine (value_line d)
value_gives null = tt
value_gives (boolean b) = tt
value_gives (number n) = tt
value_gives (string s) = tt
value_gives (array ds) = tt
value_gives (object ms) = columns_give _ _ _

read_gives : (v : Option Data) → GivesLine (read_value v)
read_gives None = tt
read_gives (Some d) = value_gives d

line_gives : (l : List ℕ) → GivesLine (line_read l)
unfolding line_read
line_gives [] = λ rest. ap length (line_first [] rest tt)
line_gives (b ∷ l) = read_gives (json_value (b ∷ l))

all_with : (n : ℕ) (r : LineRead) (f : Flat) (m : ℕ) → GivesLine r → (f.bad ≡ None → length (lines f.tsv) ≡ m) → (with_line n r f).bad ≡ None → length (lines (with_line n r f).tsv) ≡ suc m
all_with n (given t) f m g k h = g f.tsv ∙ ap suc (k h)
all_with n (bad w) f m g k h = absurd cc

all_counted : (n : ℕ) (ls : List (List ℕ)) → (lines_flat n ls).bad ≡ None → length (lines (lines_flat n ls).tsv) ≡ length ls
all_counted n [] h = refl
all_counted n (l ∷ ls) h = all_with n (line_read l) (lines_flat (n + 1) ls) (length ls) (line_gives l) (all_counted (n + 1) ls) h

abbrev bad_number : Option BadLine → ℕ
bad_number None = 0
bad_number (Some b) = b.line

before_with : (n : ℕ) (r : LineRead) (f : Flat) (b : BadLine) → GivesLine r → (f.bad ≡ Some b → n + 1 + length (lines f.tsv) ≡ b.line) → (with_line n r f).bad ≡ Some b → n + length (lines (with_line n r f).tsv) ≡ b.line
before_with n (given t) f b g k h = let more = g f.tsv in let later = k h in omega (arith, more, later)
before_with n (bad w) f b g k h = let same : n ≡ b.line = ap bad_number h in omega (arith, same)

before_counted : (n : ℕ) (ls : List (List ℕ)) (b : BadLine) → (lines_flat n ls).bad ≡ Some b → n + length (lines (lines_flat n ls).tsv) ≡ b.line
before_counted n [] b h = absurd cc
before_counted n (l ∷ ls) b h = before_with n (line_read l) (lines_flat (n + 1) ls) b (line_gives l) (before_counted (n + 1) ls b) h

pub lines_counted : LinesAreCounted
lines_counted = record { all = all_counted; before = before_counted }
