use Rattle.std.proofs.Common.{◌≡◌, ◌<◌, ◌∙◌, ◌++◌, ◌∷◌, [], ap, sym, arith, rules, length}
use Rattle.std.specs.List.{flat_map}
use Rattle.std.specs.Result.{IsErrOf}
use Rattle.cs_base.specs.declared.content.limits.TheConstants.{MAX_COLLECTION_BYTES}
use Rattle.csv.specs.Reading.{default_config, records, strip_bom}
use Rattle.csv.specs.Records.{fields_of}
use Rattle.cs_model_sources.specs.CsvSources.{flat_of_csv}
use Rattle.cs_more.specs.RecordsLeft.{record_line, records_left}
use Rattle.cs_model_sources.specs.Translated.{usual_weights_line}
use Rattle.cs_more.specs.declared.fault.FlatFault.TheVariants.{TooLarge}
use Rattle.cs_more.proofs.TableFlats.{bad_header, bad_rows, given_few, given_many, good, good_rows, no_rows, weights_short}
use Rattle.cs_more.proofs.csv_source.flat_csv.Goals as goal

pub returns-then-not-branch-clause-ok : goal.returns-then-not-branch-clause-ok
returns-then-not-branch-clause-ok c =
    let none : records default_config (strip_bom c.args.source.now) ≡ [] = sym c.records_in-reader.ensures.left ∙ rw c.if-not-branch.true at c.in_ok-next_record.ensures.left in
    ap good (c.from_vec.ensures ∙ c.in_ok-tsv.ensures.ok) ∙ no_rows c.args.source.now none

pub returns-then-not-branch-clause-few : goal.returns-then-not-branch-clause-few
returns-then-not-branch-clause-few c =
    let none : records default_config (strip_bom c.args.source.now) ≡ [] = sym c.records_in-reader.ensures.left ∙ rw c.if-not-branch.true at c.in_ok-next_record.ensures.left in
    (c.if-source-gt-MAX_COLLECTION_BYTES.false, given_few (good usual_weights_line) (flat_of_csv c.args.source.now) _ (no_rows c.args.source.now none) weights_short)

pub returns-in_default-clause-ok : goal.returns-in_default-clause-ok
returns-in_default-clause-ok c =
    let names = fields_of c.next_record.new.fields in
    let rows = records_left c.next_record.new.reader in
    let first : records default_config (strip_bom c.args.source.now) ≡ names ∷ rows = sym c.records_in-reader.ensures.left ∙ rw c.if-not-branch.false at c.in_ok-next_record.ensures.left in
    ap (λ x. record bad_header { tsv = x }) (c.from_vec-in_default.ensures ∙ c.in_ok-tsv.ensures.ok) ∙ bad_rows c.args.source.now names rows first (sym c.in_default.ensures.is)

pub returns-in_default-clause-few : goal.returns-in_default-clause-few
returns-in_default-clause-few c =
    let names = fields_of c.next_record.new.fields in
    let rows = records_left c.next_record.new.reader in
    let first : records default_config (strip_bom c.args.source.now) ≡ names ∷ rows = sym c.records_in-reader.ensures.left ∙ rw c.if-not-branch.false at c.in_ok-next_record.ensures.left in
    (c.if-source-gt-MAX_COLLECTION_BYTES.false, given_few bad_header (flat_of_csv c.args.source.now) _ (bad_rows c.args.source.now names rows first (sym c.in_default.ensures.is)) weights_short)

pub returns-in_err-push_records-clause-too_large : goal.returns-in_err-push_records-clause-too_large
returns-in_err-push_records-clause-too_large c =
    let names = fields_of c.next_record.new.fields in
    let rows = records_left c.next_record.new.reader in
    let first : records default_config (strip_bom c.args.source.now) ≡ names ∷ rows = sym c.records_in-reader.ensures.left ∙ rw c.if-not-branch.false at c.in_ok-next_record.ensures.left in
    let columns = c.in-Some.ensures.some in
    let whole = ap (λ x. good (x ++ flat_map (record_line c.in-Some.columns) rows)) c.in_ok-tsv.ensures.ok ∙ good_rows c.args.source.now names rows c.in-Some.columns first (sym c.in-Some.ensures.is) columns.0 columns.1 columns.2 in
    let large : IsErrOf c.push_records.result TooLarge → MAX_COLLECTION_BYTES < length (flat_of_csv c.args.source.now).tsv =
    λ e. given_many (good (c.in_ok-tsv.tsv.items ++ flat_map (record_line c.in-Some.columns) rows)) (flat_of_csv c.args.source.now) MAX_COLLECTION_BYTES whole (c.push_records.ensures.too_large e) in
    search rules

pub returns-clause-ok : goal.returns-clause-ok
returns-clause-ok c =
    let names = fields_of c.next_record.new.fields in
    let rows = records_left c.next_record.new.reader in
    let first : records default_config (strip_bom c.args.source.now) ≡ names ∷ rows = sym c.records_in-reader.ensures.left ∙ rw c.if-not-branch.false at c.in_ok-next_record.ensures.left in
    let columns = c.in-Some.ensures.some in
    ap good (c.from_vec-2.ensures ∙ c.in_ok-push_records.ensures.ok ∙ ap (λ x. x ++ flat_map (record_line c.in-Some.columns) rows) c.in_ok-tsv.ensures.ok)
    ∙ good_rows c.args.source.now names rows c.in-Some.columns first (sym c.in-Some.ensures.is) columns.0 columns.1 columns.2

pub returns-clause-few : goal.returns-clause-few
returns-clause-few c =
    (c.if-source-gt-MAX_COLLECTION_BYTES.false, given_few (good c.from_vec-2.result) (flat_of_csv c.args.source.now) _ (returns-clause-ok c) (omega (arith, ap length c.from_vec-2.ensures, c.in_ok-push_records.ensures.few)))
