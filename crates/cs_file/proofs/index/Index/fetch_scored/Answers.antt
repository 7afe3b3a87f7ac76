use Rattle.std.proofs.lemmas.Result.{on_ok_weaker}
use Rattle.cs_file.proofs.FetchLemmas.{BlockRead, block_read, can_judge, fault_changed, fault_unchanged, told_within, read_once}
use Rattle.cs_file.proofs.FetchedWords.{docs_known, words_even, words_known}
use Rattle.cs_file.proofs.ScoredLemmas.{scored_stood, scores_even, scores_ranged}
use Rattle.cs_file.proofs.index.Index.fetch_scored.Given as given
use Rattle.cs_file.proofs.index.Index.fetch_scored.Goals as goal

pub read_over-requires : goal.read_over-requires
read_over-requires g c = record { within = told_within c.placed-placed.ensures c.requires.fits }

pub scored_at-requires : goal.scored_at-requires
scored_at-requires g c = can_judge (block_read c.placed-placed.ensures c.in-Ok.ensures.long c.in-Ok.ensures.ok)

pub returns-in-Ok-clause-words_even : goal.returns-in-Ok-clause-words_even
returns-in-Ok-clause-words_even g c = on_ok_weaker c.scored_at.result (λ has. words_even _ _ _ _ _ has.listed) c.scored_at.ensures.ok

pub returns-in-Ok-clause-scores_even : goal.returns-in-Ok-clause-scores_even
returns-in-Ok-clause-scores_even g c = on_ok_weaker c.scored_at.result (scores_even _ _ _) c.scored_at.ensures.ok

-- the bytes that were read are those of the block
read : (g : given.Over) (c : goal.After-scored_at g)
    → BlockRead c.args.self.now (g.S.Store.bytes c.args.store.now) c.args.k c.placed-placed.result c.read_over.new.bytes.items
read g c = block_read c.placed-placed.ensures c.in-Ok.ensures.long c.in-Ok.ensures.ok

pub returns-in-Ok-clause-docs : goal.returns-in-Ok-clause-docs
returns-in-Ok-clause-docs g c = on_ok_weaker c.scored_at.result (λ has. docs_known (read g c) _ _ has.listed) c.scored_at.ensures.ok

pub returns-in-Ok-clause-words : goal.returns-in-Ok-clause-words
returns-in-Ok-clause-words g c = on_ok_weaker c.scored_at.result (λ has. words_known (read g c) _ _ has.listed) c.scored_at.ensures.ok

pub returns-in-Ok-clause-scores : goal.returns-in-Ok-clause-scores
returns-in-Ok-clause-scores g c = on_ok_weaker c.scored_at.result (scores_ranged _ _ _ (can_judge (read g c)).weights) c.scored_at.ensures.ok

pub returns-in-Ok-clause-stood : goal.returns-in-Ok-clause-stood
returns-in-Ok-clause-stood g c = λ b t s. on_ok_weaker c.scored_at.result (scored_stood (read g c) b c.scored_at.new.into t s) c.scored_at.ensures.ok

pub returns-in-Ok-clause-store : goal.returns-in-Ok-clause-store
returns-in-Ok-clause-store g c =
    let over = c.in-Ok.ensures in
    read_once (λ b t s. fault_unchanged (read g c) b c.scored_at.result t s c.scored_at.ensures.exact) (fault_changed (read g c) c.scored_at.result c.scored_at.ensures.exact)
    c.scored_at.ensures.unread over.bytes over.lent over.caused
