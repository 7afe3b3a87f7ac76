-- What the commands do that answer a script: `ask COLLECTION SCRIPT`, `excerpts COLLECTION SCRIPT`, which differs by the form in which hits
-- are shown, and `replay INDEX SCRIPT`.
--
--   IsReady h c s            the same, and the collection is accepted
--   IsAskedOver h c s docs i      the same, of an image of its corpus, and with its documents at hand or none
--   AskStops e h c s         what shows that `ask` or `excerpts` ended so before its script
--   AskScript form e h c s w      how its script ended, and what was put for it
--   AskTold form e h c s w   how it ended over files that tell: before its script, with nothing put, or with its script
--   AskEnds form e c s w     how it may end over any files
--   AskRan form e c s m      a whole run
--   CanAsk h c s             the script can be answered whole
--   CanBeOpened h i s        both files are held, and the first is an index file
--   ReplayStops e h i s      what shows that `replay` ended so before its script
--   IndexScript A R e ls before now w     how a script over an index file ended, and what was put for it: A and R say which texts may be put for which
--                            lines, A where no read failed
--   ReplayScript k e ls before now w     the same of `replay`, over a corpus
--   ReplayTold               how it ended over files that tell: before its script, with nothing put, or with its script
--   IndexEnds own e i s w    how a run that answers a script over an index file may end over any files, by the texts that lines may have of their own
--   ReplayEnds e i s w       the same of `replay`
--   ReplayCaused             why it ends: where it failed a count rose; a read that failed before a refused line is no failure
--   ReplayRan e i s m        a whole run
--   CanReplay h i s          the script can be answered whole
use Rattle.std.specs.Prelude.{◌≡◌, ◌⊎◌, ℕ, List, Some, None, ◌+◌, ◌≤◌}
use Rattle.std.specs.Option.{ForSome}
use Rattle.std.specs.FinMap as map
use Rattle.cs_base.specs.outside.Outside.{Held, IsHeld}
use Rattle.cs_model.specs.Collection.{weights}
use Rattle.cs_model.specs.Corpus.{corpus, refusal, Corpus}
use Rattle.cs_model.specs.Outputs.{IsAnswer, OneEach, script_lines, failed_reads}
use Rattle.cs_indexing.specs.CommandLine.{Ending, usage, refused, absent, damaged, changed, failed, no_memory, Caused, done, script_refused}
use Rattle.cs_indexing.specs.Filed.{IsFiled}
use Rattle.cs_indexing.specs.Import.{IsRefusedAs, form_of}
use Rattle.cs_indexing.specs.Met.{AreHeld, Met, Wrote, held_bytes}
use Rattle.cs_top.specs.HitForms.{AreDocumentsOf, AtHand, IsAnswerIn}
use Rattle.cs_top.specs.PutTexts.{EndsBy, EndsOf, IsOwnText, OwnText}
use Rattle.cs_top.specs.ScriptEndings.{MayPutAll, ScriptEnds, ScriptEndsBy, IsReadable}
use Rattle.cs_base.specs.outside.Causes.{Rose}
use Rattle.cs_hub.specs.Streams.{RoseBy}
use Rattle.cs_model_index.specs.BlockRules.{broken_at}
use Rattle.cs_model_index.specs.FileRules.{damage, IsIndexFile}
use Rattle.cs_model_index.specs.Images.{Image}
use Rattle.cs_model_index.specs.Sections.{file_corpus}
use Rattle.cs_indexing.specs.declared.words.Form.TheVariants as forms
use Rattle.cs_indexing.specs.declared.words.HitForm.{HitForm}
use Rattle.cs_indexing.specs.declared.words.HitForm.TheVariants.{Titled}
use Rattle.cs_top.specs.Answering.{IsReplayed}

-- ---- `ask` and `excerpts` over files that tell

-- both files are held and the collection is accepted
abbrev pub IsReady : Held → List ℕ → List ℕ → Type 0
IsReady h c s = AreHeld h c s × (refusal (held_bytes h c) ≡ None)

-- the same, where i is an image of its corpus; and the documents at hand for excerpts are its own
pub record IsAskedOver (h : Held) (c s : List ℕ) (docs : AtHand) (i : Image) : Type 0 where
  pub ready : IsReady h c s
  pub filed : IsFiled (corpus (held_bytes h c)) (weights (held_bytes h c)) i
  pub shown : AreDocumentsOf (held_bytes h c) docs

-- Before its script: the first of the two names that isn't held is said to be absent, and a refusal is that of a collection
-- whose script is held. Both sizes are asked before any memory is taken: want of memory hides no absent file. Files may take some to
-- tell a size, as that of a stream, which is read whole for it; where they find none, that call fails.
abbrev pub AskStops : Ending → Held → List ℕ → List ℕ → Type 0
AskStops (absent name) h c s = ((name ≡ c) × (map.get h c ≡ None)) ⊎ ((name ≡ s) × IsHeld (map.get h c) × (map.get h s ≡ None))
AskStops (refused r) h c s = AreHeld h c s × IsRefusedAs forms.Collection (held_bytes h c) r
AskStops no_memory h c s = AreHeld h c s
AskStops failed h c s = Unit {0}
AskStops e h c s = ⊥

-- how its script ended, and the texts that were put, over its collection
abbrev pub AskScript : HitForm → Ending → Held → List ℕ → List ℕ → Wrote → Type 0
AskScript form e h c s w = (ts : List (List ℕ)) × ScriptEnds (IsAnswerIn form (held_bytes h c)) e (script_lines (held_bytes h s)) ts w

-- how it ended over files that tell: before its script, with nothing put, or with its script
abbrev pub AskTold : HitForm → Ending → Held → List ℕ → List ℕ → Wrote → Type 0
AskTold form e h c s w = (AskStops e h c s × (w.new ≡ w.old)) ⊎ (IsReady h c s × AskScript form e h c s w)

-- ---- `ask` and `excerpts` over any files
-- how it may end over any files: a name that is said to be absent is one of the two, nothing is put before the script, and with its
-- script by the texts that were put
abbrev pub AskEnds : HitForm → Ending → List ℕ → List ℕ → Wrote → Type 0
AskEnds form usage c s w = ⊥
AskEnds form (damaged rule at) c s w = ⊥
AskEnds form changed c s w = ⊥
AskEnds form (absent name) c s w = ((name ≡ c) ⊎ (name ≡ s)) × (w.new ≡ w.old)
AskEnds form (refused r) c s w = (form_of r ≡ forms.Collection) × (w.new ≡ w.old)
AskEnds form no_memory c s w = w.new ≡ w.old
AskEnds form e c s w = EndsBy form e w

-- a whole run; it changes no file, and meets no hub
pub record AskRan {H : Type 0} (form : HitForm) (e : Ending) (c s : List ℕ) (m : Met H) : Type 0 where
  pub ends : AskEnds form e c s m.out
  pub told : ForSome m.held (λ h. AskTold form e h c s m.out)
  pub caused : Caused e m.files_before m.files_now m.out.before m.out.now
  pub files : m.held_now ≡ m.held
  pub hub : m.hub_now ≡ m.hub

-- the script can be answered whole
abbrev pub CanAsk : Held → List ℕ → List ℕ → Type 0
CanAsk h c s = IsReady h c s × IsReadable (script_lines (held_bytes h s))

-- ---- `replay` over files that tell
-- both files are held, and the first breaks no rule of index files
abbrev pub CanBeOpened : Held → List ℕ → List ℕ → Type 0
CanBeOpened h i s = AreHeld h i s × IsIndexFile (held_bytes h i)

-- Before its script: the first of the two names that isn't held is said to be absent, and damage is the first broken rule of the
-- index file and its place. Both sizes are asked before any memory is taken: want of memory hides no absent file. Files may take some
-- to tell a size, as that of a stream, which is read whole for it; where they find none, that call fails.
abbrev pub ReplayStops : Ending → Held → List ℕ → List ℕ → Type 0
ReplayStops (absent name) h i s = ((name ≡ i) × (map.get h i ≡ None)) ⊎ ((name ≡ s) × IsHeld (map.get h i) × (map.get h s ≡ None))
ReplayStops (damaged rule at) h i s = AreHeld h i s × (damage (held_bytes h i) ≡ Some (broken_at rule at))
ReplayStops no_memory h i s = AreHeld h i s
ReplayStops failed h i s = Unit {0}
ReplayStops e h i s = ⊥

-- Done: each line was answered, and no read failed. A refused line: those before it were answered. Failed: some first lines were; where
-- out's count didn't rise, and the files' count no more than texts say that a read failed, all of them. It ends in no other way.
-- Of the texts at most as many say that a read failed as the count rose by, unless that stands at its last value.
abbrev pub IndexScript : MayPutAll → MayPutAll → Ending → List (ℕ × List ℕ) → ℕ → ℕ → Wrote → Type 0
IndexScript A R done ls before now w = (ts : List (List ℕ)) × ScriptEndsBy A done ls ts w
IndexScript A R (script_refused f) ls before now w = (ts : List (List ℕ)) × ScriptEndsBy R (script_refused f) ls ts w × RoseBy (failed_reads ts) before now
IndexScript A R failed ls before now w =
    (ts : List (List ℕ)) × ScriptEndsBy R failed ls ts w × RoseBy (failed_reads ts) before now
    × (¬ Rose w.before w.now → ¬ RoseBy (failed_reads ts + 1) before now → ScriptEndsBy R done ls ts w)
IndexScript A R e ls before now w = ⊥

-- each line has its answer, or in a reply's place the text of a failed read
abbrev pub ReplayScript : Corpus → Ending → List (ℕ × List ℕ) → ℕ → ℕ → Wrote → Type 0
ReplayScript k = IndexScript (OneEach (IsAnswer k)) (OneEach (IsReplayed k))

-- how it ended over files that tell: before its script, with nothing put, or with its script; the numbers are the files' count before
-- and after it
abbrev pub ReplayTold : Ending → Held → List ℕ → List ℕ → ℕ → ℕ → Wrote → Type 0
ReplayTold e h i s before now w =
    (ReplayStops e h i s × (w.new ≡ w.old)) ⊎ (CanBeOpened h i s × ReplayScript (file_corpus (held_bytes h i)) e (script_lines (held_bytes h s)) before now w)

-- ---- `replay` over any files
-- how it may end over any files: a name that is said to be absent is one of the two, nothing is put before the script, and with its
-- script by the texts that were put
abbrev pub IndexEnds : OwnText → Ending → List ℕ → List ℕ → Wrote → Type 0
IndexEnds own usage i s w = ⊥
IndexEnds own (refused r) i s w = ⊥
IndexEnds own (absent name) i s w = ((name ≡ i) ⊎ (name ≡ s)) × (w.new ≡ w.old)
IndexEnds own (damaged rule at) i s w = w.new ≡ w.old
IndexEnds own no_memory i s w = w.new ≡ w.old
IndexEnds own e i s w = EndsOf own e w

-- hits are shown by their titles
abbrev pub ReplayEnds : Ending → List ℕ → List ℕ → Wrote → Type 0
ReplayEnds = IndexEnds (IsOwnText Titled)

-- where it failed one of the counts rose; before a refused line reads may have failed; else both are as they were
abbrev pub ReplayCaused : Ending → ℕ → ℕ → ℕ → ℕ → Type 0
ReplayCaused failed files_before files_now out_before out_now = (Rose files_before files_now ⊎ Rose out_before out_now) × (files_before ≤ files_now) × (out_before ≤ out_now)
ReplayCaused (script_refused f) files_before files_now out_before out_now = (files_before ≤ files_now) × (out_now ≡ out_before)
ReplayCaused e files_before files_now out_before out_now = (files_now ≡ files_before) × (out_now ≡ out_before)

-- a whole run; it changes no file, and meets no hub
pub record ReplayRan {H : Type 0} (e : Ending) (i s : List ℕ) (m : Met H) : Type 0 where
  pub ends : ReplayEnds e i s m.out
  pub told : ForSome m.held (λ h. ReplayTold e h i s m.files_before m.files_now m.out)
  pub caused : ReplayCaused e m.files_before m.files_now m.out.before m.out.now
  pub files : m.held_now ≡ m.held
  pub hub : m.hub_now ≡ m.hub

-- the script can be answered whole
abbrev pub CanReplay : Held → List ℕ → List ℕ → Type 0
CanReplay h i s = CanBeOpened h i s × IsReadable (script_lines (held_bytes h s))
