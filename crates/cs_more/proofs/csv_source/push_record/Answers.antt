use Rattle.std.proofs.Common.{◌<◌, ◌∙◌, ◌++◌, ap, length, rules, subst}
use Rattle.std.specs.Result.{IsErrOf}
use Rattle.cs_base.specs.declared.content.limits.TheConstants.{MAX_COLLECTION_BYTES}
use Rattle.csv.specs.Records.{fields_of}
use Rattle.cs_more.specs.declared.fault.FlatFault.TheVariants.{TooLarge}
use Rattle.cs_more.proofs.RecordsRead.{line_of_fields}
use Rattle.cs_more.proofs.csv_source.push_record.Goals as goal

pub returns-clause-ok : goal.returns-clause-ok
returns-clause-ok c =
    c.in_ok-push_document_line.ensures.ok
    ∙ ap (λ x. c.args.tsv.now.items ++ x) (line_of_fields c.args.columns (fields_of c.args.fields.now) _ _ _ c.field_in-title.ensures c.field_in-facets.ensures c.field_in-text.ensures)

pub returns-in_err-push_document_line-clause-too_large : goal.returns-in_err-push_document_line-clause-too_large
returns-in_err-push_document_line-clause-too_large c =
    let line = line_of_fields c.args.columns (fields_of c.args.fields.now) _ _ _ c.field_in-title.ensures c.field_in-facets.ensures c.field_in-text.ensures in
    let large = subst (λ x. IsErrOf c.push_document_line.result TooLarge → MAX_COLLECTION_BYTES < length (c.args.tsv.now.items ++ x)) line c.push_document_line.ensures.too_large in
    search rules
