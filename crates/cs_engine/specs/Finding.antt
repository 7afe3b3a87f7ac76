-- What is found of a query, before it is shown.
--
-- Source: this engine's own.
--
--   CanFind told v q        the query is within its limits, and the source can be read over a store that tells so
--   CanOwn v q e            an entry is in the range of the source, as that of the query is
--   AsksAlone v ps lo hi    these parts ask for the words from lo up to hi alone
--   AsksRange v q lo hi     the query's parts do
--   AreWide v held lo hi    these words have more rows than an entry may, or what is counted of them is held
--   FitsFound i q f         over each store: hits, table, own entry and counted words are in the range of the index
--   IsFoundOver b v q cut p f     over the bytes of its index f is what is found of a query by the plan p
--   IsFoundAnew b v q cut f       by whatever plan
use Rattle.std.specs.Prelude.{◌≡◌, ◌⊎◌, ℕ, ◌*◌, ◌<◌, ◌≤◌, false, true, List, [], ◌∷◌, filter, length, Option, is_some, IfSome}
use Rattle.std.specs.List.{All, list_any}
use Rattle.cs_base.specs.declared.content.doc.Post.{Post}
use Rattle.cs_base.specs.declared.content.limits.TheConstants.{MAX_PARTS}
use Rattle.cs_base.specs.declared.content.query.Part.{Part, out-Part}
use Rattle.cs_base.specs.declared.content.query.Query.{Query, out-Query}
use Rattle.cs_base.specs.declared.content.scores.TheConstants.{MAX_ROW_SCORE}
use Rattle.cs_base.specs.declared.index.plan.Kept.TheVariants as kept
use Rattle.cs_base.specs.declared.index.plan.Plan.{Plan}
use Rattle.cs_file.specs.Indexes.{IndexView}
use Rattle.cs_model.specs.Answers.{rows_of_part}
use Rattle.cs_model.specs.Refusals.{IsOfGrammar}
use Rattle.cs_model_kept.specs.Due.{met_of_part}
use Rattle.cs_model_kept.specs.Entries.{EntryOf, entry_of}
use Rattle.cs_model_kept.specs.KeptList.{is_same, kept_fresh}
use Rattle.cs_rows.specs.IndexReading.{division}
use Rattle.cs_rows.specs.Blockwise.{AreMany, IsWideFound}
use Rattle.cs_engine.specs.HeldRanges.{is_range}
use Rattle.cs_engine.specs.declared.held.HeldKind.TheVariants as kinds
use Rattle.cs_engine.specs.Keeping.{FitsQuery, IsEntryOver}
use Rattle.cs_engine.specs.Loose.{IsTableFor}
use Rattle.cs_rows.specs.Plain.{AreWordsOf}
use Rattle.cs_rows.specs.Sources.{CanRead, IsSource, SourceView, seen}
use Rattle.cs_rows.specs.Steps.{IsBaseOf}
use Rattle.cs_rows.specs.Stocked.{corpus_in, is_between}
use Rattle.cs_engine.specs.declared.finding.QueryFound.{QueryFound}
use Rattle.cs_engine.specs.declared.held.HeldRange.{HeldRange}

-- whatever is asked for
pub record CanFind (told : Option (List ℕ)) (v : SourceView) (q : Query) : Type 0 where
  pub query : IsOfGrammar q
  pub parts : length (out-Query q).parts ≤ MAX_PARTS
  pub opened : CanRead told v

-- whatever its rows and its base are
pub record CanOwn (v : SourceView) (q : Query) (e : EntryOf Post) : Type 0 where
  pub index : IsSource v
  pub parts : length (out-Query q).parts ≤ MAX_PARTS
  pub fits : FitsQuery (seen v) q e

-- by the only part, which is positive
pub record AsksAlone (v : SourceView) (ps : List Part) (lo hi : ℕ) : Type 0 where
  pub part : Part
  pub alone : ps ≡ part ∷ []
  pub positive : (out-Part part).excluded ≡ false
  pub words : AreWordsOf v (met_of_part (division v.index) part) (λ k. (rows_of_part k part).rows) lo hi

-- not so without a part
abbrev pub AsksRange : SourceView → Query → ℕ → ℕ → Type 0
AsksRange v q lo hi = AsksAlone v (out-Query q).parts lo hi

-- only of words with so many rows what is counted is held
abbrev pub AreWide : SourceView → List HeldRange → ℕ → ℕ → Type 0
AreWide v held lo hi = AreMany v lo hi ⊎ (list_any (is_range lo hi kinds.Counted) held ≡ true)

-- whatever store it was read from; hits that are to be held with counted words have no score above a row's
pub record FitsFound (i : IndexView) (q : Query) (f : QueryFound) : Type 0 where
  pub base : IsBaseOf i.docs (MAX_ROW_SCORE * MAX_PARTS) f.hits
  pub table : All (λ w. w.word < length i.words) f.table.first
  pub own : IfSome f.own (FitsQuery i q)
  pub range : IfSome f.range (λ r. (r.counts.high ≤ length i.words) × IsBaseOf i.docs MAX_ROW_SCORE f.hits)

-- where no own entry comes along, it was kept before or is too large; the hits with counted words are those of a query of these words alone
pub record IsFoundOver (b : List ℕ) (v : SourceView) (q : Query) (cut : ℕ) (p : Plan) (f : QueryFound) : Type 0 where
  pub table : IsTableFor v b q cut f.hits f.table
  pub own : IfSome f.own (IsEntryOver (corpus_in (v.stock b)) (seen v) q)
  pub large : is_some f.own ≡ false → is_same p ≡ false → kept_fresh (entry_of (corpus_in (v.stock b)) q) ≡ kept.TooLarge
  pub range : IfSome f.range (λ r. IsWideFound (filter (is_between r.low r.high) (v.stock b).posts) f.hits r.counts)

-- by each plan
abbrev pub IsFoundAnew : List ℕ → SourceView → Query → ℕ → QueryFound → Type 0
IsFoundAnew b v q cut f = (p : Plan) → IsFoundOver b v q cut p f
