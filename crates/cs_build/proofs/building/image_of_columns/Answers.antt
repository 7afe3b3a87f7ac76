use Rattle.cs_build.proofs.LimitLemmas.{on_ok, has_limits}
use Rattle.cs_build.proofs.WritableLemmas.{can_be_written}
use Rattle.cs_build.proofs.building.image_of_columns.Goals as goal

pub returns-clause-writable : goal.returns-clause-writable
returns-clause-writable c = λ bytes.
    on_ok c.built.result _ _ _ _ (λ i is titles words. can_be_written c.args.titles c.args.rows c.args.target c.args.weights i c.requires.corpus.named c.requires.few c.requires.few_docs bytes titles words c.requires.target_to is) c.built.ensures.ok c.built.ensures.titles c.built.ensures.few_words

pub returns-clause-limits : goal.returns-clause-limits
returns-clause-limits c = λ k.
    on_ok c.built.result _ _ _ _ (λ i is titles words. has_limits c.args.titles c.args.rows c.args.target c.args.weights i c.requires.corpus.named c.requires.few c.requires.few_docs titles words c.requires.target_from c.requires.target_to k.weights k.texts k.short k.few_bytes k.words k.scored c.requires.corpus.of_docs is) c.built.ensures.ok c.built.ensures.titles c.built.ensures.few_words
