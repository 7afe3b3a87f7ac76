-- Hits of some words that are known before.
--
-- Source: this engine's own.
--
--   AreHitsOfWords s k       over a stock they are those of a query of these words alone
use Rattle.std.specs.Prelude.{◌≡◌, filter}
use Rattle.cs_base.specs.declared.content.doc.Base.TheVariants as base
use Rattle.cs_rank.specs.DocScores.{doc_scores}
use Rattle.cs_rows.specs.Stocked.{Stock, is_between}
use Rattle.cs_rows.specs.declared.known.KnownHits.{KnownHits}

-- each document that has a row of them, with its score
abbrev pub AreHitsOfWords : Stock → KnownHits → Type 0
AreHitsOfWords s k = k.hits.now ≡ base.Listed (doc_scores base.All (filter (is_between k.words.0 k.words.1) s.posts))
