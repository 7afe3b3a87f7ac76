-- What the functions say that reading a whole image is made of.
--
-- Source: this engine's own.
--
--   AreTitlesRead i told titles d     the first d titles, as they were read
--   AreBlocksRead i told blocks k     the first k blocks, as they were read
--   IsFilled p                        rows that are as many as their head says, with words of the head
--   block_parts pairs                 what rules 18 and 19 ask of heads and their rows
--   parts_break i blocks              the first of these rules that blocks of an index break
--   IsJudged o r                      the answer of what tries rules, where this is the first broken one
use Rattle.std.specs.Prelude.{◌≡◌, ℕ, ◌+◌, ◌<◌, ◌≤◌, List, [], ◌∷◌, length, map, All, None, Option, Result, MatchResult, slice_index_or}
use Rattle.std.specs.List.{zip}
use Rattle.cs_base.specs.declared.index.block.BlockHead.{BlockHead}
use Rattle.cs_base.specs.declared.index.block.Broken.{Broken}
use Rattle.cs_base.specs.declared.content.doc.Post.{Post}
use Rattle.cs_base.specs.declared.content.limits.TheConstants.{MAX_ROWS}
use Rattle.cs_model.specs.First.{first_reason}
use Rattle.cs_model_index.specs.BlockBounds.{bounded}
use Rattle.cs_model_index.specs.FileRules.{break_of, is_parted, laid, tried}
use Rattle.cs_file.specs.CallAnswers.{IsBlockOf}
use Rattle.cs_file.specs.ImageRead.{IsTitleOf}
use Rattle.cs_file.specs.Indexes.{IndexView}
use Rattle.cs_file.specs.Parting.{part_by}
use Rattle.cs_file.specs.WholeImages.{IsChangeBy, directory_place, entry_bytes_of, has_bounds}
use Rattle.cs_file.specs.declared.fault.FetchFault.{FetchFault}
use Rattle.cs_file.specs.declared.part.BlockPart.{BlockPart}

-- titles up to one of them
pub record AreTitlesRead (i : IndexView) (told : Option (List ℕ)) (titles : List (List ℕ)) (d : ℕ) : Type 0 where
  pub count : length titles ≡ d
  pub each : (j : ℕ) → j < d → IsTitleOf i told j (slice_index_or titles j [])

-- blocks up to one of them
pub record AreBlocksRead (i : IndexView) (told : Option (List ℕ)) (blocks : List (List Post)) (k : ℕ) : Type 0 where
  pub count : length blocks ≡ k
  pub each : (j : ℕ) → j < k → IsBlockOf i told j (slice_index_or blocks j [])

-- few rows, each with a word of the head
pub record IsFilled (p : BlockHead × List Post) : Type 0 where
  pub count : length p.1 ≡ p.0.rows
  pub few : p.0.rows ≤ MAX_ROWS
  pub words : All (λ r. (p.0.lo ≤ r.word) × (r.word < p.0.lo + p.0.words)) p.1

-- with the bounds of the rows
abbrev pub block_parts : List (BlockHead × List Post) → List BlockPart
block_parts pairs = map (λ p. part_by (bounded p.0 p.1) p.1) pairs

-- rule 18, and behind it rule 19 of the heads of the index
unfoldable pub parts_break : IndexView → List (List Post) → Option Broken
parts_break i blocks =
    let items = laid (λ p. entry_bytes_of i) (directory_place i) None (zip i.heads blocks) in
    first_reason (tried 18 (break_of (is_parted i.target i.words) items) ∷ tried 19 (break_of (λ p. has_bounds p.value) items) ∷ [])

-- Ok where no rule is broken
abbrev pub IsJudged : {T : Type 0} → Option Broken → Result T FetchFault → Type 0
IsJudged o r = MatchResult r (λ _. o ≡ None) (IsChangeBy o)
