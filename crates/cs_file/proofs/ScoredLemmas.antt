-- What the scores are that a fetch puts into columns, beside documents and words.
--
--   decoded_scores      those of a block that was decoded
--   scores_ranged, scores_even     they are in range, and as many as there are documents
--   scored_stood        over bytes that stand for the index they are those of the block's posts
use Rattle.std.proofs.Common.{◌≡◌, ℕ, zero, suc, ◌≤◌, Bool, true, false, List, [], ◌∷◌, length, map, get_or, Option, Some, sym, ap, subst, ◌∙◌, arith}
use Rattle.std.specs.Prelude.{All}
use Rattle.std.specs.List.{AllByRecursion}
use Rattle.std.proofs.lemmas.Bool.{and_parts}
use Rattle.std.proofs.lemmas.List.{get_or_default, length-map}
use Rattle.std.proofs.lemmas.List.Elements.{recursion_from_All}
use Rattle.cs_base.specs.declared.content.doc.Post.{Post}
use Rattle.cs_base.specs.declared.content.scores.TheConstants.{MAX_ROW_SCORE}
use Rattle.cs_base.specs.declared.content.scores.Weights.{Weights}
use Rattle.cs_block.specs.BlockScores.{HasScores}
use Rattle.cs_block.specs.RowRuns.{AreScores, is_position, is_score}
use Rattle.cs_model.specs.Weights.{AreWeights}
use Rattle.cs_model_index.specs.BlockRules.{IsBlock, is_scored, rows_read}
use Rattle.cs_file.specs.CallAnswers.{AreScoredOf}
use Rattle.cs_file.specs.Fetching.{CanBeJudged, HasScored}
use Rattle.cs_file.specs.declared.fetched.Fetched.{Fetched}
use Rattle.cs_file.specs.declared.fetching.PlacedBlock.{PlacedBlock}
use Rattle.cs_file.specs.Indexes.{IndexView, StandsFor, block_posts}
use Rattle.cs_file.proofs.FetchedWords.{doc_words_stood}
use Rattle.cs_file.proofs.FetchLemmas.{BlockRead, read_there}
use Rattle.cs_file.proofs.PostsLemmas.{block_scored}
use Rattle.cs_file.proofs.HeaderWeightsLemmas.{one_reading, score_ranged}

score_here : (w : Weights) (facet : Bool) (p : Post) → is_scored w facet p ≡ true → is_score w facet p.score ≡ true
score_here w true p h = (and_parts (is_position true p.pos) (is_score w true p.score) h).1
score_here w false p h = (and_parts (is_position false p.pos) (is_score w false p.score) h).1

each_score : (w : Weights) (facet : Bool) (rows : List Post) → AllByRecursion (λ p. is_scored w facet p ≡ true) rows → AreScores w facet (map (λ p. p.score) rows)
each_score w facet [] h j lt = absurd (omega (arith, lt))
each_score w facet (p ∷ rows) h zero lt = score_here w facet p h.0
each_score w facet (p ∷ rows) h (suc j) lt = each_score w facet rows h.1 j (omega (arith, lt))

pub decoded_scores : (placed : PlacedBlock) (read : List ℕ) (rows : List Post) (scores : List ℕ) → CanBeJudged placed (length read)
    → IsBlock placed.weights placed.head placed.docs rows read → scores ≡ map (λ p. p.score) rows → HasScores placed.weights placed.head read scores
decoded_scores placed read rows scores can block are =
    let scored = block_scored placed.weights placed.head placed.docs rows read block in
    let each = each_score placed.weights placed.head.facet rows (recursion_from_All (λ p. is_scored placed.weights placed.head.facet p ≡ true) rows scored) in
    record {
      scores_are = are ∙ ap (map (λ (p : Post). p.score)) (sym (one_reading placed.weights can.weights placed.head placed.docs rows read can.few can.shaped block).1);
      in_kind = subst (AreScores placed.weights placed.head.facet) (sym are) each;
    }

pub scores_ranged : (placed : PlacedBlock) (read : List ℕ) (f : Fetched) → AreWeights placed.weights → HasScored placed read f
    → All (λ s. (1 ≤ s) × (s ≤ MAX_ROW_SCORE)) f.scores.items
scores_ranged placed read f are has = λ j d lt.
    let ranged = score_ranged placed.weights are placed.head.facet (get_or f.scores.items j 0) (has.scored.in_kind j lt) in
    subst (λ s. (1 ≤ s) × (s ≤ MAX_ROW_SCORE)) (get_or_default f.scores.items j 0 d lt) ranged

pub scores_even : (placed : PlacedBlock) (read : List ℕ) (f : Fetched) → HasScored placed read f → length f.scores.items ≡ length f.docs.items
scores_even placed read f has =
    let rows = rows_read placed.head read in
    ap length has.scored.scores_are ∙ length-map rows (λ (p : Post). p.score) ∙ sym (ap length has.listed.docs_are ∙ length-map rows (λ (p : Post). p.doc))

pub scored_stood : {i : IndexView} {told : Option (List ℕ)} {k : ℕ} {placed : PlacedBlock} {read : List ℕ} → BlockRead i told k placed read
    → (b : List ℕ) (f : Fetched) → told ≡ Some b → StandsFor b i → HasScored placed read f
    → AreScoredOf (block_posts b k) f.docs.items f.words.items f.scores.items
scored_stood h b f t s has =
    (doc_words_stood h b f.docs.items f.words.items t s has.listed, has.scored.scores_are ∙ ap (map (λ (p : Post). p.score)) (read_there h b t s))
