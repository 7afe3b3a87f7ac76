use Rattle.std.proofs.lemmas.Result.{on_ok_weaker}
use Rattle.cs_live.proofs.FetchedLemmas.{scored_docs, scored_scores, scored_scores_even, scored_stood, scored_words, scored_words_even}
use Rattle.cs_live.proofs.source.StateSource.fetch_scored.Goals as goal

pub returns-clause-words_even : goal.returns-clause-words_even
returns-clause-words_even g c = on_ok_weaker c.fetch_scored_now.result (scored_words_even c.args.self.now c.fetch_scored_now.ensures.is) c.fetch_scored_now.ensures.fetched

pub returns-clause-scores_even : goal.returns-clause-scores_even
returns-clause-scores_even g c = on_ok_weaker c.fetch_scored_now.result (scored_scores_even c.args.self.now c.fetch_scored_now.ensures.is) c.fetch_scored_now.ensures.fetched

pub returns-clause-docs : goal.returns-clause-docs
returns-clause-docs g c = on_ok_weaker c.fetch_scored_now.result (scored_docs c.args.self.now c.fetch_scored_now.ensures.is) c.fetch_scored_now.ensures.fetched

pub returns-clause-words : goal.returns-clause-words
returns-clause-words g c = on_ok_weaker c.fetch_scored_now.result (scored_words c.args.self.now c.fetch_scored_now.ensures.is) c.fetch_scored_now.ensures.fetched

pub returns-clause-scores : goal.returns-clause-scores
returns-clause-scores g c = on_ok_weaker c.fetch_scored_now.result (scored_scores c.args.self.now c.fetch_scored_now.ensures.is) c.fetch_scored_now.ensures.fetched

pub returns-clause-stood : goal.returns-clause-stood
returns-clause-stood g c b tells stands = on_ok_weaker c.fetch_scored_now.result (scored_stood c.args.self.now c.fetch_scored_now.ensures.is b tells stands) c.fetch_scored_now.ensures.fetched
