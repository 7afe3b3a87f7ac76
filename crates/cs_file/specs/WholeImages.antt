-- The image that an opened index reads from a store, whole.
--
-- Source: this engine's own.
--
--   directory_place i         where the directory of the index's file begins
--   entry_bytes_of i          how many bytes it has for a block, by where the blocks begin
--   image_at i b              titles and posts that are read of bytes where the index says that they lie, with what it knows
--   has_bounds p              the bounds of a head are those of its block's rows
--   image_break i b           the first rule that these titles and posts break, or the heads of the index over these posts, with its place
--   IsChangeBy o e            the fault, if it says that something changed, is this broken rule
--   ReadsImage i b r          the image that is read of bytes where no rule is broken, and else the first one
--   IsFileImage im            the image of some index file
use Rattle.std.specs.Prelude.{◌≡◌, ℕ, ◌+◌, ◌*◌, ◌^◌, ◌<◌, ◌==◌, Bool, List, ◌∷◌, [], drop, length, All, None, Some, Option, Result, MatchResult}
use Rattle.std.specs.List.{zip}
use Rattle.std.specs.Str.{is_utf8}
use Rattle.cs_base.specs.declared.index.block.BlockHead.{BlockHead}
use Rattle.cs_base.specs.declared.index.block.Broken.{Broken}
use Rattle.cs_base.specs.declared.content.doc.Post.{Post}
use Rattle.cs_model.specs.First.{first_reason}
use Rattle.cs_model_index.specs.BlockBounds.{least_of, greatest_of}
use Rattle.cs_model_index.specs.BlockRules.{broken_at}
use Rattle.cs_model_index.specs.FileRules.{IsIndexFile, blocks_break, break_of, is_bound, is_parted, laid, tried}
use Rattle.cs_model_index.specs.Images.{Image}
use Rattle.cs_model_index.specs.Layout.{entry_size, file}
use Rattle.cs_model_index.specs.Sections.{blocks_in, image_of, titles_in}
use Rattle.cs_model_index.specs.declared.limits.TheConstants.{BOUNDED_ENTRY_BYTES}
use Rattle.cs_file.specs.Indexes.{IndexView, titles_end}
use Rattle.cs_file.specs.declared.fault.FetchFault.{FetchFault}
use Rattle.cs_file.specs.declared.fault.FetchFault.TheVariants as fetches

-- behind the titles
abbrev pub directory_place : IndexView → ℕ
directory_place i = i.titles_at + titles_end i

-- of no blocks the directory is empty in either version
abbrev pub entry_bytes_of : IndexView → ℕ
entry_bytes_of i = entry_size (i.blocks_at == directory_place i + BOUNDED_ENTRY_BYTES * length i.heads)

-- of bytes that the index wasn't opened over it may break rules
unfoldable pub image_at : IndexView → List ℕ → Image
image_at i b = record {
  titles = titles_in i.offsets (drop i.titles_at b);
  words = i.words;
  heads = i.heads;
  blocks = blocks_in i.heads (drop i.blocks_at b);
  target = i.target;
  weights = i.weights;
}

-- of no rows 0 and 0
abbrev pub has_bounds : BlockHead × List Post → Bool
has_bounds p = is_bound (p.0, (least_of p.1, greatest_of p.1))

-- rule 9 in the titles, then 13 to 17 block by block, then 18, then 19 of the heads of the index, whatever the version of its file
unfoldable pub image_break : IndexView → List ℕ → Option Broken
image_break i b =
    let im = image_at i b in
    first_reason (tried 9 (break_of (λ t. is_utf8 t.value) (laid (λ t. length t) i.titles_at None im.titles))
    ∷ blocks_break i.weights i.docs i.blocks_at i.heads (drop i.blocks_at b)
    ∷ tried 18 (break_of (is_parted i.target i.words) (laid (λ p. entry_bytes_of i) (directory_place i) None (zip i.heads im.blocks)))
    ∷ tried 19 (break_of (λ p. has_bounds p.value) (laid (λ p. entry_bytes_of i) (directory_place i) None (zip i.heads im.blocks))) ∷ [])

-- of a failed read and of want of memory nothing is said
abbrev pub IsChangeBy : Option Broken → FetchFault → Type 0
IsChangeBy o (fetches.Changed rule at) = o ≡ Some (broken_at rule at)
IsChangeBy o fetches.Read = Unit {0}
IsChangeBy o fetches.Memory = Unit {0}

-- Ok exactly where no rule is broken, as far as reads and memory go
abbrev pub ReadsImage : IndexView → List ℕ → Result Image FetchFault → Type 0
ReadsImage i b r = MatchResult r (λ im. (im ≡ image_at i b) × (image_break i b ≡ None)) (IsChangeBy (image_break i b))

-- its file is an index file, of which it is read
pub record IsFileImage (im : Image) : Type 0 where
  pub bytes : All (λ x. x < 2 ^ 8) (file im)
  pub accepted : IsIndexFile (file im)
  pub read : image_of (file im) ≡ im
