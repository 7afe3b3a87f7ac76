-- The summary of a trial: what its collection has, and what its queries find and use.
--
-- Source: this engine's own.
--
--   trial_corpus n         the corpus of the collection of trial n
--   hits_found k qs        the numbers of hits of the queries qs, added up
--   trial_plans k qs       the plans of the queries, from an empty list with room for `MAX_ENTRIES` entries on
--   is_narrow p, is_extend p, is_fresh p      which plan p is
--   counted test ps        how many of the plans ps pass
--   summary_line w n       a line of a word and a number, with LF
--   counts n k blocks      the lines of a summary, each a word and its number, by the trial, its corpus and how many blocks the
--                          corpus is divided into
--   summary n k blocks     their text
--   IsSummary n text       the text is the summary of trial n, its blocks being those of an index of its corpus
--   SummariesAreOne        the law that a trial has one summary
--   PlansAreCounted        the law that each query has one of the four plans
use Rattle.std.specs.Prelude.{◌≡◌, ℕ, ◌+◌, Bool, true, false, List, [], ◌∷◌, ◌++◌, map, filter, length, sum, codes}
use Rattle.std.specs.Fmt.{decimal}
use Rattle.std.specs.List.{flat_map}
use Rattle.std.specs.FinMap as map
use Rattle.cs_base.specs.declared.index.plan.Plan.{Plan}
use Rattle.cs_base.specs.declared.index.plan.Plan.TheVariants.{Narrow, Extend, Fresh}
use Rattle.cs_base.specs.declared.content.query.Query.{Query}
use Rattle.cs_model.specs.Answers.{hits, parts_of}
use Rattle.cs_model.specs.Corpus.{Corpus, corpus}
use Rattle.cs_base.specs.declared.content.scores.TheConstants.{USUAL_WEIGHTS}
use Rattle.cs_model_index.specs.declared.limits.TheConstants.{TARGET}
use Rattle.cs_model_index.specs.Images.{Image, IsImage}
use Rattle.cs_model_kept.specs.declared.limits.TheConstants.{MAX_ENTRIES}
use Rattle.cs_model_kept.specs.KeptList.{plans, is_same}
use Rattle.cs_model_trial.specs.Generator.{collection}
use Rattle.cs_model_trial.specs.Sessions.{queries}

-- the corpus of a trial's collection; of trial 0 it would have no document
unfoldable pub trial_corpus : ℕ → Corpus
trial_corpus n = corpus (collection n)

-- how many hits queries have, all queries taken together, each hit counted once a query; 0 for no queries
unfoldable pub hits_found : Corpus → List Query → ℕ
hits_found k qs = sum (map (λ q. length (hits k (parts_of k q))) qs)

-- the plans of queries that are asked one after the other on one engine, which begins with nothing kept; of no queries none
unfoldable pub trial_plans : Corpus → List Query → List Plan
trial_plans k qs = plans k MAX_ENTRIES [] qs

-- that of a shorter prefix was, however short
abbrev pub is_narrow : Plan → Bool
is_narrow (Narrow cut) = true
is_narrow _ = false

-- that of the parts before the last was
abbrev pub is_extend : Plan → Bool
is_extend Extend = true
is_extend _ = false

-- none was
abbrev pub is_fresh : Plan → Bool
is_fresh Fresh = true
is_fresh _ = false

-- how many plans pass; of none 0
abbrev pub counted : (Plan → Bool) → List Plan → ℕ
counted test ps = length (filter test ps)

-- a word, a space, which is 32, a number and LF, which is 10; 0 is told too
abbrev pub summary_line : List ℕ × ℕ → List ℕ
summary_line c = c.0 ++ 32 ∷ decimal c.1 ++ 10 ∷ []

-- the nine lines of a summary in their order, each its word with its number
abbrev pub counts : ℕ → Corpus → ℕ → List (List ℕ × ℕ)
counts n k blocks =
    let qs = queries n in
    let ps = trial_plans k qs in
    (codes "documents", length (map.keys k.titles))
    ∷ (codes "rows", length k.rows)
    ∷ (codes "blocks", blocks)
    ∷ (codes "replies", length qs)
    ∷ (codes "hits", hits_found k qs)
    ∷ (codes "same", counted is_same ps)
    ∷ (codes "narrow", counted is_narrow ps)
    ∷ (codes "extend", counted is_extend ps)
    ∷ (codes "fresh", counted is_fresh ps)
    ∷ []

-- the text of a summary, its lines one after the other
unfoldable pub summary : ℕ → Corpus → ℕ → List ℕ
summary n k blocks = flat_map summary_line (counts n k blocks)

-- the text is the summary of trial n, whose index is the image of its corpus for the target that index files are built with
pub record IsSummary (n : ℕ) (text : List ℕ) : Type 0 where
  pub image : Image
  pub indexed : IsImage (trial_corpus n) TARGET USUAL_WEIGHTS image
  pub told : text ≡ summary n (trial_corpus n) (length image.heads)

-- a trial has one summary, since a corpus has one image
abbrev pub SummariesAreOne : Type 0
SummariesAreOne = (n : ℕ) (s t : List ℕ) → IsSummary n s → IsSummary n t → s ≡ t

-- the four counts of plans make up the number of queries, none of which has two plans
abbrev pub PlansAreCounted : Type 0
PlansAreCounted = (k : Corpus) (qs : List Query) → let ps = trial_plans k qs in counted is_same ps + counted is_narrow ps + counted is_extend ps + counted is_fresh ps ≡ length qs
