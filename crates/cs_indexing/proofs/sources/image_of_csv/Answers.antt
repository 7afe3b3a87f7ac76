use Rattle.std.proofs.Common.{◌≡◌, None, rules, subst}
use Rattle.cs_model.specs.Collection.{weights}
use Rattle.cs_model.specs.Corpus.{corpus}
use Rattle.cs_model_sources.specs.CsvSources.{flat_of_csv}
use Rattle.cs_model_sources.specs.SourceRefusals.{source_refusal}
use Rattle.cs_model_sources.specs.declared.flat.Flat.{Flat}
use Rattle.cs_indexing.specs.Filed.{IsFiled}
use Rattle.cs_indexing.specs.Views.{IsImportCause}
use Rattle.cs_indexing.proofs.SourceLemmas.{source_accepted, source_caused}
use Rattle.cs_indexing.proofs.sources.image_of_csv.Goals as goal

pub returns-in_err-image-clause-err : goal.returns-in_err-image-clause-err
returns-in_err-image-clause-err c =
    let s = c.deref.result.now in
    let e = c.in_err-image.field-0.0 in
    let few = c.in-Ok.ensures.few in
    let cause : IsImportCause flat_of_csv c.args.table.items e =
    subst (λ b. IsImportCause flat_of_csv b e) c.deref.ensures.value (source_caused flat_of_csv s c.in-Ok.flat e c.in-Ok.ensures.ok few.0 few.1 c.in_err-image.ensures.err) in
    search rules

pub returns-clause-ok : goal.returns-clause-ok
returns-clause-ok c =
    let i = c.in_ok-image.image in
    subst (λ b. IsFiled (corpus (flat_of_csv b).tsv) (weights (flat_of_csv b).tsv) i) c.deref.ensures.value
    (subst (λ (f : Flat). IsFiled (corpus f.tsv) (weights f.tsv) i) c.in-Ok.ensures.ok c.in_ok-image.ensures.ok)

pub returns-clause-accepted : goal.returns-clause-accepted
returns-clause-accepted c =
    let few = c.in-Ok.ensures.few in
    subst (λ b. source_refusal flat_of_csv b ≡ None) c.deref.ensures.value
    (source_accepted flat_of_csv c.deref.result.now c.in-Ok.flat c.in-Ok.ensures.ok few.0 few.1 c.in_ok-image.ensures.accepted)
