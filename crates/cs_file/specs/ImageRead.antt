-- Images whose titles and blocks were read by an index.
--
-- Source: this engine's own.
--
--   IsTitleOf i told d text            the text of title d, in bytes that were read
--   ImageRead i told titles blocks     titles and blocks by the rules, that go with an index
--   read_image i titles blocks         their image
--   ReadImagesAreFiles                 the law that its file is an index file, of which it is read, and that it can be written
--   StoodImagesAreRead                 the law that of bytes which stand for an index their image is read where the index says, and no rule is broken
use Rattle.std.specs.Prelude.{◌≡◌, ℕ, ◌^◌, ◌<◌, true, List, [], length, All, None, Option, slice_index_or}
use Rattle.std.specs.List.{zip}
use Rattle.std.specs.Option.{ForSome}
use Rattle.std.specs.Str.{is_utf8}
use Rattle.cs_base.specs.outside.Outside.{part}
use Rattle.cs_base.specs.declared.content.doc.Post.{Post}
use Rattle.cs_model_index.specs.FileRules.{break_of, is_parted, laid}
use Rattle.cs_model_index.specs.Images.{Image}
use Rattle.cs_model_index.specs.Layout.{offsets_from}
use Rattle.cs_model_index.specs.Sections.{image_of}
use Rattle.cs_file.specs.CallAnswers.{IsBlockOf}
use Rattle.cs_file.specs.Indexes.{IndexView, IsIndex, StandsFor, title_len, title_place, titles_end}
use Rattle.cs_file.specs.WholeImages.{IsFileImage, directory_place, entry_bytes_of, has_bounds, image_at, image_break}
use Rattle.cs_file.specs.Writable.{CanBeWritten}

-- as many bytes as the title has, which are text; of a store that tells, these are its bytes at the title's place
pub record IsTitleOf (i : IndexView) (told : Option (List ℕ)) (d : ℕ) (text : List ℕ) : Type 0 where
  pub len : length text ≡ title_len i d
  pub utf8 : is_utf8 text ≡ true
  pub read : ForSome told (λ b. text ≡ part b (title_place i d) (title_len i d))

-- titles of the index's lengths that are text, and for each head a block with its bounds; the blocks are parted as rule 18 says
pub record ImageRead (i : IndexView) (told : Option (List ℕ)) (titles : List (List ℕ)) (blocks : List (List Post)) : Type 0 where
  pub titles_are : offsets_from 0 titles ≡ i.offsets
  pub few_bytes : titles_end i < 2 ^ 32
  pub texts : All (λ t. is_utf8 t ≡ true) titles
  pub count : length blocks ≡ length i.heads
  pub blocks_are : (k : ℕ) → k < length i.heads → IsBlockOf i told k (slice_index_or blocks k [])
  pub parted : break_of (is_parted i.target i.words) (laid (λ p. entry_bytes_of i) (directory_place i) None (zip i.heads blocks)) ≡ None
  pub bounds : break_of (λ p. has_bounds p.value) (laid (λ p. entry_bytes_of i) (directory_place i) None (zip i.heads blocks)) ≡ None

-- what the index has beside titles and posts is its own
abbrev pub read_image : IndexView → List (List ℕ) → List (List Post) → Image
read_image i titles blocks = record { titles = titles; words = i.words; heads = i.heads; blocks = blocks; target = i.target; weights = i.weights }

-- whatever store they were read from
abbrev pub ReadImagesAreFiles : Type 0
ReadImagesAreFiles = (i : IndexView) (told : Option (List ℕ)) (titles : List (List ℕ)) (blocks : List (List Post)) → IsIndex i → ImageRead i told titles blocks
    → IsFileImage (read_image i titles blocks) × CanBeWritten (read_image i titles blocks)

-- in either version
abbrev pub StoodImagesAreRead : Type 0
StoodImagesAreRead = (i : IndexView) (b : List ℕ) → StandsFor b i → (image_at i b ≡ image_of b) × (image_break i b ≡ None)
