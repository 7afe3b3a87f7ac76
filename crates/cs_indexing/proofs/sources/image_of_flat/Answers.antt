use Rattle.std.proofs.Common.{◌≡◌, None, rules, subst}
use Rattle.std.specs.Prelude.{MatchOption, Some}
use Rattle.cs_model.specs.Corpus.{refusal}
use Rattle.cs_indexing.specs.Views.{collection_refusal_of}
use Rattle.cs_indexing.proofs.SourceLemmas.{flat_caused}
use Rattle.cs_indexing.proofs.sources.image_of_flat.Goals as goal

pub returns-in-Err-clause-err : goal.returns-in-Err-clause-err
returns-in-Err-clause-err c =
    let flat = c.args.flat.now in
    let o = collection_refusal_of c.in-Err.fault in
    let same : c.as_slice.result.now ≡ flat.tsv = search rules in
    let bad : flat.bad ≡ None = search rules in
    flat_caused flat o bad (subst (λ b. MatchOption o (Unit {0}) (λ r. refusal b ≡ Some r)) same c.in-Err.ensures.err)
