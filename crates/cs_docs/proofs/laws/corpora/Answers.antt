use Rattle.cs_docs.proofs.CorpusLaws.{corpus_is, corpus_of_is}
use Rattle.cs_docs.proofs.laws.corpora.Goals as goal

pub returns-clause-collections : goal.returns-clause-collections
returns-clause-collections c = corpus_is

pub returns-clause-documents : goal.returns-clause-documents
returns-clause-documents c = corpus_of_is
