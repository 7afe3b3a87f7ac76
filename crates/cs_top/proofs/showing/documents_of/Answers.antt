use Rattle.std.proofs.Common.{◌≡◌, ◌∷◌, List, [], ℕ, ap, map}
use Rattle.std.specs.Prelude.{MatchOption, Option, Some, None}
use Rattle.cs_docs.specs.LinesRead.{doc_of_lent}
use Rattle.cs_model.specs.Collection.{CollectionRefusal, docs_refusal, documents, weights}
use Rattle.cs_model.specs.Corpus.{refusal, rows_of, rows_refusal}
use Rattle.cs_model.specs.First.{first_reason}
use Rattle.cs_indexing.specs.declared.collection.CollectionFault.TheVariants.{Documents}
use Rattle.cs_indexing.proofs.SourceLemmas.{unrefused}
use Rattle.cs_top.proofs.ShownLemmas.{few_words}
use Rattle.cs_top.proofs.showing.documents_of.Goals as goal

-- the refusal of a collection's documents is the collection's
of_collection : (b : List ℕ) (named : Option CollectionRefusal) → MatchOption named (Unit {0}) (λ r. docs_refusal b ≡ Some r) → MatchOption named (Unit {0}) (λ r. refusal b ≡ Some r)
of_collection b None h = tt
of_collection b (Some r) h = ap (λ x. first_reason (x ∷ rows_refusal (rows_of (weights b) (documents b)) ∷ [])) h

pub want_of-requires : goal.want_of-requires
want_of-requires c = unrefused c.args.bytes.now (Documents c.in-Err.fault) c.requires.accepted (of_collection c.args.bytes.now _ c.in-Err.ensures.err)

pub returns-in-Ok-clause-few : goal.returns-in-Ok-clause-few
returns-in-Ok-clause-few c = few_words c.args.bytes.now (map doc_of_lent c.in-Ok.collected.docs.items) c.in-Ok.ensures.accepted c.in-Ok.ensures.ok
