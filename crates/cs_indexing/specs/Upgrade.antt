-- What `upgrade INDEX NEW` does: it reads an index file whole, and writes the file of its image under NEW.
--
--   CanUpgrade h i             the file is held, and is an index file
--   UpgradeStops e h i         what shows that it ended so before the new file was made
--   UpgradeTold e h i n now    how it ended over files that tell, and what is held then
--   UpgradeEnds e i old new    how it may end over any files, and what they tell before and after it
--   UpgradeRan e i n m         a whole run
use Rattle.std.specs.Prelude.{◌≡◌, ◌⊎◌, ℕ, List, Option, Some, None}
use Rattle.std.specs.Option.{ForSome}
use Rattle.std.specs.FinMap as map
use Rattle.cs_base.specs.outside.Outside.{Held, IsHeld}
use Rattle.cs_model_index.specs.BlockRules.{broken_at}
use Rattle.cs_model_index.specs.FileRules.{damage, IsIndexFile}
use Rattle.cs_model_index.specs.Sections.{image_of}
use Rattle.cs_indexing.specs.Build.{BuildWrites}
use Rattle.cs_indexing.specs.CommandLine.{Ending, done, damaged, absent, failed, no_memory, changed, CausedBy}
use Rattle.cs_indexing.specs.Met.{Met, held_bytes}

-- ---- over files that tell
-- the file is held, and breaks no rule of index files
abbrev pub CanUpgrade : Held → List ℕ → Type 0
CanUpgrade h i = IsHeld (map.get h i) × IsIndexFile (held_bytes h i)

-- Before the new file is made: a name that is said to be absent is that of the file to be read, and damage is its first broken rule and
-- the place of that. It never changed.
abbrev pub UpgradeStops : Ending → Held → List ℕ → Type 0
UpgradeStops (absent name) h i = (name ≡ i) × (map.get h i ≡ None)
UpgradeStops (damaged rule at) h i = IsHeld (map.get h i) × (damage (held_bytes h i) ≡ Some (broken_at rule at))
UpgradeStops no_memory h i = IsHeld (map.get h i)
UpgradeStops failed h i = Unit {0}
UpgradeStops e h i = ⊥

-- it ended before the new file was made, and all files are as before; or while the file of the image was written that the bytes to be
-- read have. No other name changes, and both may be one name
abbrev pub UpgradeTold : Ending → Held → List ℕ → List ℕ → Option Held → Type 0
UpgradeTold e h i n now = (UpgradeStops e h i × (now ≡ Some h)) ⊎ (CanUpgrade h i × BuildWrites e h n (image_of (held_bytes h i)) now)

-- ---- over any files
-- a name that is said to be absent is that of the file to be read; where this is refused, or changed while it was read, all is as before
abbrev pub UpgradeEnds : Ending → List ℕ → Option Held → Option Held → Type 0
UpgradeEnds done i old new = Unit {0}
UpgradeEnds (absent name) i old new = (name ≡ i) × (new ≡ old)
UpgradeEnds (damaged rule at) i old new = new ≡ old
UpgradeEnds changed i old new = new ≡ old
UpgradeEnds failed i old new = Unit {0}
UpgradeEnds no_memory i old new = Unit {0}
UpgradeEnds e i old new = ⊥

-- a whole run; it puts nothing, and meets no hub
pub record UpgradeRan {H : Type 0} (e : Ending) (i n : List ℕ) (m : Met H) : Type 0 where
  pub ends : UpgradeEnds e i m.held m.held_now
  pub told : ForSome m.held (λ h. UpgradeTold e h i n m.held_now)
  pub caused : CausedBy e m.files_before m.files_now
  pub put : m.out.new ≡ m.out.old
  pub out_count : m.out.now ≡ m.out.before
  pub hub : m.hub_now ≡ m.hub
