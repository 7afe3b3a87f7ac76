-- What `merge INDEX1 INDEX2 NEW` does: it reads two index files whole, and writes the file of their merge under NEW.
--
--   image_held h i               the image that is read of what a name holds
--   AreIndexFiles h a b          both are held, and are index files
--   CanMerge h a b               they can be merged too
--   AreImages h a b p            both are held and are index files, and these are their images
--   HasMerge h a b x             x is the merge of their images
--   MergeStops e h a b           what shows that it ended so before the new file was made
--   MergeTold e h a b n now      how it ended over files that tell, and what is held then
--   MergeEnds e a b old new      how it may end over any files, and what they tell before and after it
--   MergeRan e a b n m           a whole run
use Rattle.std.specs.Prelude.{◌≡◌, ◌⊎◌, ℕ, List, Option, Some, None}
use Rattle.std.specs.Option.{ForSome}
use Rattle.std.specs.FinMap as map
use Rattle.cs_base.specs.outside.Outside.{Held, IsHeld}
use Rattle.cs_model_index.specs.BlockRules.{broken_at}
use Rattle.cs_model_index.specs.FileRules.{damage, IsIndexFile}
use Rattle.cs_model_index.specs.Images.{Image}
use Rattle.cs_model_index.specs.Sections.{image_of}
use Rattle.cs_model_merge.specs.Merges.{IsMerge, merge_refusal}
use Rattle.cs_indexing.specs.Build.{BuildWrites}
use Rattle.cs_indexing.specs.CommandLine.{Ending, done, damaged, absent, failed, no_memory, changed, merge_refused, CausedBy}
use Rattle.cs_indexing.specs.Met.{Met, held_bytes, AreHeld}

-- ---- over files that tell
-- of what is no index file it isn't meant
abbrev pub image_held : Held → List ℕ → Image
image_held h i = image_of (held_bytes h i)

-- both are held, and neither breaks a rule of index files
abbrev pub AreIndexFiles : Held → List ℕ → List ℕ → Type 0
AreIndexFiles h a b = AreHeld h a b × IsIndexFile (held_bytes h a) × IsIndexFile (held_bytes h b)

-- and nothing refuses their merge
abbrev pub CanMerge : Held → List ℕ → List ℕ → Type 0
CanMerge h a b = AreIndexFiles h a b × (merge_refusal (image_held h a) (image_held h b) ≡ None)

-- the images that are read of both
abbrev pub AreImages : Held → List ℕ → List ℕ → Image × Image → Type 0
AreImages h a b p = AreIndexFiles h a b × (p.0 ≡ image_held h a) × (p.1 ≡ image_held h b)

-- the image of the corpus in which those of both are joined; of two index files without documents there is one too
abbrev pub HasMerge : Held → List ℕ → List ℕ → Image → Type 0
HasMerge h a b x = CanMerge h a b × IsMerge (image_held h a) (image_held h b) x

-- Before the new file is made: the first of the two names that isn't held is said to be absent, damage is the first broken rule, and its
-- place, of the first of the two that is no index file, and a refusal is that of two index files. They never changed.
-- Both sizes are asked before any memory is taken: want of memory hides no absent file.
abbrev pub MergeStops : Ending → Held → List ℕ → List ℕ → Type 0
MergeStops (absent name) h a b = ((name ≡ a) × (map.get h a ≡ None)) ⊎ ((name ≡ b) × IsHeld (map.get h a) × (map.get h b ≡ None))
MergeStops (damaged rule at) h a b =
    AreHeld h a b
    × ((damage (held_bytes h a) ≡ Some (broken_at rule at)) ⊎ (IsIndexFile (held_bytes h a) × (damage (held_bytes h b) ≡ Some (broken_at rule at))))
MergeStops (merge_refused r) h a b = AreIndexFiles h a b × (merge_refusal (image_held h a) (image_held h b) ≡ Some r)
MergeStops no_memory h a b = AreHeld h a b
MergeStops failed h a b = Unit {0}
MergeStops e h a b = ⊥

-- it ended before the new file was made, and all files are as before; or while the file of the merge of both images was written. No
-- other name changes, and each two of the three may be one name
abbrev pub MergeTold : Ending → Held → List ℕ → List ℕ → List ℕ → Option Held → Type 0
MergeTold e h a b n now =
    (MergeStops e h a b × (now ≡ Some h)) ⊎ ((x : Image) × HasMerge h a b x × BuildWrites e h n x now)

-- ---- over any files
-- a name that is said to be absent is one of the two; where one is refused, or both are, or one changed while it was read, all is as before
abbrev pub MergeEnds : Ending → List ℕ → List ℕ → Option Held → Option Held → Type 0
MergeEnds done a b old new = Unit {0}
MergeEnds (absent name) a b old new = ((name ≡ a) ⊎ (name ≡ b)) × (new ≡ old)
MergeEnds (damaged rule at) a b old new = new ≡ old
MergeEnds changed a b old new = new ≡ old
MergeEnds (merge_refused r) a b old new = new ≡ old
MergeEnds failed a b old new = Unit {0}
MergeEnds no_memory a b old new = Unit {0}
MergeEnds e a b old new = ⊥

-- a whole run; it puts nothing, and meets no hub
pub record MergeRan {H : Type 0} (e : Ending) (a b n : List ℕ) (m : Met H) : Type 0 where
  pub ends : MergeEnds e a b m.held m.held_now
  pub told : ForSome m.held (λ h. MergeTold e h a b n m.held_now)
  pub caused : CausedBy e m.files_before m.files_now
  pub put : m.out.new ≡ m.out.old
  pub out_count : m.out.now ≡ m.out.before
  pub hub : m.hub_now ≡ m.hub
