-- What a source is translated to, by its first record.
use Rattle.std.proofs.Common.{◌≡◌, ◌<◌, ◌≤◌, ℕ, List, [], ◌∷◌, ◌++◌, true, false, length, Some, None, refl, ap, sym, arith}
use Rattle.std.specs.Prelude.{codes}
use Rattle.std.specs.List.{flat_map}
use Rattle.cs_base.specs.declared.content.limits.TheConstants.{MAX_COLLECTION_BYTES}
use Rattle.csv.specs.Reading.{default_config, records, strip_bom}
use Rattle.cs_model_sources.specs.CsvSources.{column, csv_flat, flat_of_csv, is_header}
use Rattle.cs_more.specs.RecordsLeft.{record_line}
use Rattle.cs_model_sources.specs.Translated.{usual_weights_line}
use Rattle.cs_model_sources.specs.declared.flat.Flat.{Flat}
use Rattle.cs_model_sources.specs.declared.flat.Why.TheVariants.{Header}
use Rattle.cs_more.specs.declared.header.HeaderColumns.{HeaderColumns}
use Rattle.cs_more.proofs.RecordsRead.{lines_same}

abbrev pub good : List ℕ → Flat
good tsv = record { tsv = tsv; bad = None }

abbrev pub bad_header : Flat
bad_header = record { tsv = usual_weights_line; bad = Some (record { line = 1; why = Header }) }

module _ (b : List ℕ) where
  pub no_rows : records default_config (strip_bom b) ≡ [] → good usual_weights_line ≡ flat_of_csv b
  unfolding csv_flat
  no_rows h = sym (ap csv_flat h)

  pub bad_rows : (names : List (List ℕ)) (rows : List (List (List ℕ))) → records default_config (strip_bom b) ≡ names ∷ rows → is_header names ≡ false → bad_header ≡ flat_of_csv b
  unfolding csv_flat
  bad_rows names rows h e = rw (h, e) refl

  pub good_rows : (names : List (List ℕ)) (rows : List (List (List ℕ))) (c : HeaderColumns) → records default_config (strip_bom b) ≡ names ∷ rows → is_header names ≡ true
      → c.title ≡ column (codes "title") names → c.facets ≡ column (codes "facets") names → c.text ≡ column (codes "text") names
      → good (usual_weights_line ++ flat_map (record_line c) rows) ≡ flat_of_csv b
  unfolding csv_flat
  good_rows names rows c h e t f x = rw (h, e) (ap (λ ls. good (usual_weights_line ++ ls)) (lines_same names c rows t f x))

pub weights_short : length usual_weights_line ≤ MAX_COLLECTION_BYTES
unfolding usual_weights_line
weights_short = omega arith

-- the bytes of a translation that is given
pub given_few : (a b : Flat) (n : ℕ) → a ≡ b → length a.tsv ≤ n → length b.tsv ≤ n
given_few a b n e l = omega (arith, ap (λ (f : Flat). length f.tsv) e, l)

pub given_many : (a b : Flat) (n : ℕ) → a ≡ b → n < length a.tsv → n < length b.tsv
given_many a b n e l = omega (arith, ap (λ (f : Flat). length f.tsv) e, l)
