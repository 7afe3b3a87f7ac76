-- What `trial N` does.
--
--   kept_after k held qs     the list that is kept after queries, from the list held on
--   with_one_reply p n c     the counts c and one reply more, by its plan and its hits
--   sizes_of c               what counts say of a collection
--   AddUp k qs c             counts are those of the replies to queries
--   HasAsked b qs e c        how an engine stands and what is counted after queries, over the bytes of its index
--   IsSteady b b' e e'       what is asked over stays
--   AreFew n c               no more than n replies were counted
--   TrialEnds e n w          how it may end, and what is put
--   TrialRan e n m           a whole run
use Rattle.std.specs.Prelude.{◌≡◌, ℕ, ◌+◌, ◌*◌, ◌^◌, ◌≤◌, List, [], ◌∷◌, length}
use Rattle.cs_base.specs.outside.Outside.{Grew, GrewByPrefix}
use Rattle.cs_base.specs.declared.content.query.Query.{Query}
use Rattle.cs_base.specs.declared.index.plan.Plan.{Plan}
use Rattle.cs_base.specs.declared.index.plan.Plan.TheVariants.{Same, Narrow, Extend, Fresh}
use Rattle.cs_engine.specs.Keeping.{EngineView, AreGood}
use Rattle.cs_file.specs.Indexes.{StandsFor}
use Rattle.cs_model.specs.Corpus.{Corpus}
use Rattle.cs_model.specs.Digits.{number_of}
use Rattle.cs_model_index.specs.Sections.{file_corpus}
use Rattle.cs_model_kept.specs.KeptList.{KeptList, after_own, kept_at, is_same}
use Rattle.cs_model_kept.specs.declared.limits.TheConstants.{MAX_ENTRIES}
use Rattle.cs_model_trial.specs.Summary.{IsSummary, counted, hits_found, is_extend, is_fresh, is_narrow, trial_plans}
use Rattle.cs_indexing.specs.CommandLine.{Ending, done, failed, no_memory, CausedBy}
use Rattle.cs_indexing.specs.Met.{Met, Wrote}
use Rattle.cs_trial.specs.declared.counts.TrialCounts.{TrialCounts}

-- what is kept after queries that are asked one after the other; of no queries the list itself
abbrev pub kept_after : Corpus → KeptList → List Query → KeptList
kept_after k held [] = held
kept_after k held (q ∷ qs) = kept_after k (after_own held MAX_ENTRIES q k) qs

-- a reply with n hits, which may be none, counts for its plan
abbrev pub with_one_reply : Plan → ℕ → TrialCounts → TrialCounts
with_one_reply Same n c = record c { replies = c.replies + 1; hits = c.hits + n; same = c.same + 1 }
with_one_reply (Narrow cut) n c = record c { replies = c.replies + 1; hits = c.hits + n; narrow = c.narrow + 1 }
with_one_reply Extend n c = record c { replies = c.replies + 1; hits = c.hits + n; extend = c.extend + 1 }
with_one_reply Fresh n c = record c { replies = c.replies + 1; hits = c.hits + n; fresh = c.fresh + 1 }

-- documents, rows and blocks among the counts
abbrev pub sizes_of : TrialCounts → ℕ × ℕ × ℕ
sizes_of c = (c.documents, c.rows, c.blocks)

-- the replies, their hits and their plans are counted, from nothing kept on; of no queries each count is 0
pub record AddUp (k : Corpus) (qs : List Query) (c : TrialCounts) : Type 0 where
  pub replies : c.replies ≡ length qs
  pub hits : c.hits ≡ hits_found k qs
  pub same : c.same ≡ counted is_same (trial_plans k qs)
  pub narrow : c.narrow ≡ counted is_narrow (trial_plans k qs)
  pub extend : c.extend ≡ counted is_extend (trial_plans k qs)
  pub fresh : c.fresh ≡ counted is_fresh (trial_plans k qs)

-- the engine's index is that of the bytes, what it keeps is good and is what the queries leave of nothing kept, and the counts are those
-- of the replies
pub record HasAsked (b : List ℕ) (qs : List Query) (e : EngineView) (c : TrialCounts) : Type 0 where
  pub stands : StandsFor b e.index
  pub good : AreGood b e
  pub room : e.answers.capacity ≡ MAX_ENTRIES
  pub kept : kept_at e.index.words e.answers.entries ≡ kept_after (file_corpus b) [] qs
  pub counts : AddUp (file_corpus b) qs c

-- the engine's index and the bytes that are asked over are as they were
pub record IsSteady (b b' : List ℕ) (e e' : EngineView) : Type 0 where
  pub index : e'.index ≡ e.index
  pub bytes : b' ≡ b

-- at most n replies, each with fewer than 2^32 hits
pub record AreFew (n : ℕ) (c : TrialCounts) : Type 0 where
  pub replies : c.replies ≤ n
  pub hits : c.hits ≤ n * 2 ^ 32
  pub same : c.same ≤ n
  pub narrow : c.narrow ≤ n
  pub extend : c.extend ≤ n
  pub fresh : c.fresh ≤ n

-- Done: the summary of the trial is put. Failed: some first bytes of it. Without memory nothing is put, and it ends in no other way: a
-- request that finds no memory ends the run without a summary.
abbrev pub TrialEnds : Ending → List ℕ → Wrote → Type 0
TrialEnds done n w = (t : List ℕ) × IsSummary (number_of n) t × Grew w.old t w.new
TrialEnds failed n w = (t : List ℕ) × IsSummary (number_of n) t × GrewByPrefix w.old t w.new
TrialEnds no_memory n w = w.new ≡ w.old
TrialEnds e n w = ⊥

-- a whole run; it meets no files and no hub
pub record TrialRan {H : Type 0} (e : Ending) (n : List ℕ) (m : Met H) : Type 0 where
  pub ends : TrialEnds e n m.out
  pub caused : CausedBy e m.out.before m.out.now
  pub files : m.held_now ≡ m.held
  pub files_count : m.files_now ≡ m.files_before
  pub hub : m.hub_now ≡ m.hub
