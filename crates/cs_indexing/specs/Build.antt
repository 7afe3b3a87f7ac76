-- What `build COLLECTION INDEX` does, and `import csv SOURCE INDEX` and `import jsonl SOURCE INDEX`, which differ by their source's form.
--
--   HasImage form h c x           x is the image of the source's collection, and the source is held and accepted
--   IsBegun old name b new        a name is as it was, or holds some first ones of the bytes b and isn't finished
--   BuildStops form e h c         what shows that it ended so before the index file was made
--   BuildWrites e h i x now       how it ended while the index file was written, and what is held then
--   BuildTold form e h c i now    how it ended over files that tell, and what is held then
--   BuildEnds form e c            how it may end over any files
--   BuildRan form e c i m         a whole run
--   CanBuild form h c             the index file can be made
use Rattle.std.specs.Prelude.{◌≡◌, ◌⊎◌, ℕ, false, List, Option, Some, None, take}
use Rattle.std.specs.Option.{ForSome}
use Rattle.std.specs.FinMap as map
use Rattle.cs_base.specs.outside.Outside.{File, Held, IsHeld, Sets, whole_file}
use Rattle.cs_model.specs.Collection.{weights}
use Rattle.cs_model.specs.Corpus.{corpus}
use Rattle.cs_model_index.specs.Images.{Image, IsImage}
use Rattle.cs_model_index.specs.Layout.{file}
use Rattle.cs_model_index.specs.declared.limits.TheConstants.{TARGET}
use Rattle.cs_indexing.specs.CommandLine.{Ending, done, refused, absent, failed, no_memory, CausedBy}
use Rattle.cs_indexing.specs.Import.{IsAcceptedAs, IsRefusedAs, collection_in, form_of}
use Rattle.cs_indexing.specs.Met.{Met, held_bytes}
use Rattle.cs_indexing.specs.declared.words.Form.{Form}

-- ---- over files that tell
-- the source is held and accepted
abbrev pub CanBuild : Form → Held → List ℕ → Type 0
CanBuild form h c = IsHeld (map.get h c) × IsAcceptedAs form (held_bytes h c)

-- the image of the corpus of the source's collection, for the target of index files and the collection's weights; the empty source has one too
abbrev pub HasImage : Form → Held → List ℕ → Image → Type 0
HasImage form h c x = CanBuild form h c × IsImage (corpus (collection_in form (held_bytes h c))) TARGET (weights (collection_in form (held_bytes h c))) x

-- the files are as they were, or but for this name, which holds some first ones of the bytes, none of them or all, and isn't finished
abbrev pub IsBegun : Option Held → List ℕ → List ℕ → Option Held → Type 0
IsBegun old name b new = (new ≡ old) ⊎ ((f : File) × (k : ℕ) × (f.bytes ≡ take k b) × (f.finished ≡ false) × Sets old name (λ _. f) new)

-- Before the index file is made: a name that is said to be absent is the source's, and a refusal is that of the source.
-- Its size is asked before any memory is taken: want of memory hides no absent file. Files may take some to tell a size, as that of a
-- stream, which is read whole for it; where they find none, that call fails.
abbrev pub BuildStops : Form → Ending → Held → List ℕ → Type 0
BuildStops form (absent name) h c = (name ≡ c) × (map.get h c ≡ None)
BuildStops form (refused r) h c = IsHeld (map.get h c) × IsRefusedAs form (held_bytes h c) r
BuildStops form no_memory h c = IsHeld (map.get h c)
BuildStops form failed h c = Unit {0}
BuildStops form e h c = ⊥

-- while the index file is written: done, it holds exactly the bytes of the image and is finished; else it may be as it was or begun
abbrev pub BuildWrites : Ending → Held → List ℕ → Image → Option Held → Type 0
BuildWrites done h i x now = Sets (Some h) i (λ _. whole_file (file x)) now
BuildWrites failed h i x now = IsBegun (Some h) i (file x) now
BuildWrites no_memory h i x now = IsBegun (Some h) i (file x) now
BuildWrites e h i x now = ⊥

-- it ended before the index file was made, and all files are as before; or while it was written. No other name changes
abbrev pub BuildTold : Form → Ending → Held → List ℕ → List ℕ → Option Held → Type 0
BuildTold form e h c i now =
    (BuildStops form e h c × (now ≡ Some h)) ⊎ ((x : Image) × HasImage form h c x × BuildWrites e h i x now)

-- ---- over any files
-- how it may end over any files: a name that is said to be absent is the source's, and a refusal is that of a source of its form
abbrev pub BuildEnds : Form → Ending → List ℕ → Type 0
BuildEnds form done c = Unit {0}
BuildEnds form (refused r) c = form_of r ≡ form
BuildEnds form (absent name) c = name ≡ c
BuildEnds form failed c = Unit {0}
BuildEnds form no_memory c = Unit {0}
BuildEnds form e c = ⊥

-- a whole run; it puts nothing, and meets no hub
pub record BuildRan {H : Type 0} (form : Form) (e : Ending) (c i : List ℕ) (m : Met H) : Type 0 where
  pub ends : BuildEnds form e c
  pub told : ForSome m.held (λ h. BuildTold form e h c i m.held_now)
  pub caused : CausedBy e m.files_before m.files_now
  pub put : m.out.new ≡ m.out.old
  pub out_count : m.out.now ≡ m.out.before
  pub hub : m.hub_now ≡ m.hub
