-- Types of the code as what they stand for.
--
--   seen_command                 a command of the code
--   HasNumbers c                 its words of numbers are such numbers; a command without one has them
--   OfFile held f P              over files that tell, P holds of what a file of the code holds
--   IsSized held f               over files that tell, it is held and has its size
--   collection_refusal_of f      the refusal that a fault of a collection names; None for want of memory
--   IsCollectionCause c f        it names the refusal of the collection c; nothing is said of want of memory
--   fault_seen f                 a refused line's fault
--   size_refusal_of f            the refusal that a fault of a source's size names; None for want of memory
--   import_refusal_of f          the same of a fault of a source that is translated
--   source_refusal_of f          the same of a fault of any source
--   fault_form f                 the form of the source that has this fault
--   IsFlatCause t f              it names the refusal of the translation t; nothing is said of want of memory
--   IsImportCause read b f       the same of the source b, which is translated so
--   IsSourceCause form b f       the same of a source of any form
--   collection_ending r          the ending of a run whose source has the refusal r, or no memory
--   merge_ending r               the ending of a run whose index files have the refusal r to be merged, or no memory
--   of_script s                  the stop of a run whose script stops
--   stop_ending s, ended r       the ending of a run that stops, and of any run
--   ReadsFiles h h' before now r     a call with this answer only read files: what they hold is as it was, and why their count rose
--   IsAbsence s name             a stop of a file that should be held: its name is said to be absent, or a call failed
--   IsMissing s f                where a stop says a name to be absent, the file isn't held
--   IsDevice s                   a call failed, or memory ran out
--   IsOfSource form s            a stop of a source: its fault, or a call failed, or memory ran out
--   IsStopCause form b s         where it is a fault of the source b, this has its cause there
--   IsOfIndex s                  a stop of an index file: damage, or a call failed, or memory ran out
--   IsDamage b s                 where it is damage of the bytes b, this is their first broken rule with its place
--   IsOfWhole s                  a stop of an index file that is read whole: damage, a change, or a call failed, or memory ran out
--   IsWholeCause b s             where it is damage of the bytes b, this is their first broken rule with its place; it is no change
--   IsMergeCause a b s           a stop of images that are merged: it is a fault of the merge, and names its first refusal but for want of memory
--   said_text s                  a line on standard error
use Rattle.std.specs.Prelude.{◌≡◌, ℕ, true, List, [], ◌∷◌, ◌++◌, Option, Some, None, MatchOption, Result, Ok, Err, IfErr, OnOk, codes}
use Rattle.std.specs.Fmt.{decimal}
use Rattle.std.specs.Option.{option_map}
use Rattle.cs_base.specs.outside.Outside.{File, Held}
use Rattle.cs_base.specs.declared.content.limits.TheConstants.{MAX_PORT_DIGITS, MAX_PORT, MAX_CONNECTIONS_DIGITS, MAX_CONNECTIONS, MAX_TRIAL_DIGITS, MAX_TRIAL}
use Rattle.cs_model.specs.Collection.{CollectionRefusal, too_large}
use Rattle.cs_model.specs.Corpus.{refusal}
use Rattle.cs_model.specs.Outputs.{ScriptFault, script_line_too_long, script_line_not_utf8}
use Rattle.cs_model_index.specs.BlockRules.{broken_at}
use Rattle.cs_model_index.specs.FileRules.{damage}
use Rattle.cs_model_index.specs.Images.{Image}
use Rattle.cs_model_merge.specs.Merges.{MergeRefusal}
use Rattle.cs_model_sources.specs.CsvSources.{flat_of_csv}
use Rattle.cs_model_sources.specs.JsonSources.{flat_of_jsonl}
use Rattle.cs_model_sources.specs.SourceRefusals.{ImportRefusal, flat_refusal, of_line, of_lines, source_refusal}
use Rattle.cs_model_sources.specs.declared.flat.Flat.{Flat}
use Rattle.cs_more.specs.declared.fault.FlatFault.{FlatFault}
use Rattle.cs_more.specs.declared.fault.FlatFault.TheVariants as sizes
use Rattle.cs_docs.specs.FaultRefusals.{refusal_of, rows_refusal_of, words_said}
use Rattle.cs_build.specs.Building.{build_refusal_of}
use Rattle.cs_merge.specs.Merging.{NamesRefusal, merge_refusal_of}
use Rattle.cs_indexing.specs.CommandLine.{Command, build, ask, replay, serve, trial, upgrade, merge, live, is_number, Ending, done, usage, refused, damaged, absent, failed, no_memory, script_refused, changed, merge_refused, CausedBy}
use Rattle.cs_indexing.specs.Import.{Refusal, of_collection, of_csv, of_jsonl}
use Rattle.cs_indexing.specs.Met.{HasToldSize, OfBytes}
use Rattle.cs_indexing.specs.declared.collection.CollectionFault.{CollectionFault}
use Rattle.cs_indexing.specs.declared.collection.CollectionFault.TheVariants as faults
use Rattle.cs_indexing.specs.declared.ending.RunStop.{RunStop}
use Rattle.cs_indexing.specs.declared.ending.RunStop.TheVariants as stops
use Rattle.cs_indexing.specs.declared.files.HeldFile.{HeldFile}
use Rattle.cs_indexing.specs.declared.unread.ScriptFault.{ScriptFault as Unread}
use Rattle.cs_indexing.specs.declared.unread.ScriptFault.TheVariants as unread
use Rattle.cs_indexing.specs.declared.unread.ScriptStop.{ScriptStop}
use Rattle.cs_indexing.specs.declared.unread.ScriptStop.TheVariants as scripts
use Rattle.cs_indexing.specs.declared.said.Said.{Said}
use Rattle.cs_indexing.specs.declared.said.Said.TheVariants as said
use Rattle.cs_indexing.specs.declared.sources.ImportFault.{ImportFault}
use Rattle.cs_indexing.specs.declared.sources.ImportFault.TheVariants as imports
use Rattle.cs_indexing.specs.declared.sources.SourceFault.{SourceFault}
use Rattle.cs_indexing.specs.declared.sources.SourceFault.TheVariants as sources
use Rattle.cs_indexing.specs.declared.words.Form.{Form}
use Rattle.cs_indexing.specs.declared.words.Form.TheVariants as forms
use Rattle.cs_indexing.specs.declared.words.Command.{Command as Read}
use Rattle.cs_indexing.specs.declared.words.Command.TheVariants as read

-- word by word, variant by variant
abbrev pub seen_command : Read → Command
seen_command (read.Build form c i) = build form c.now i.now
seen_command (read.Ask form c s) = ask form c.now s.now
seen_command (read.Replay i s) = replay i.now s.now
seen_command (read.Serve i p n) = serve i.now p.now n.now
seen_command (read.Trial n) = trial n.now
seen_command (read.Upgrade i n) = upgrade i.now n.now
seen_command (read.Merge a b n) = merge a.now b.now n.now
seen_command (read.Live i s) = live i.now s.now

-- the words of `serve` and of `trial` are such numbers; of another command nothing is said
abbrev pub HasNumbers : Read → Type 0
HasNumbers (read.Serve i p n) = (is_number MAX_PORT_DIGITS MAX_PORT p.now ≡ true) × (is_number MAX_CONNECTIONS_DIGITS MAX_CONNECTIONS n.now ≡ true)
HasNumbers (read.Trial n) = is_number MAX_TRIAL_DIGITS MAX_TRIAL n.now ≡ true
HasNumbers c = Unit {0}

-- what is held under its name; nothing is said over files that don't tell
abbrev pub OfFile : Option Held → HeldFile → (List ℕ → Type 0) → Type 0
OfFile held f P = OfBytes held f.name.now P

-- its size is that of what is held, maybe none; nothing is said over files that don't tell
abbrev pub IsSized : Option Held → HeldFile → Type 0
IsSized held f = HasToldSize held f.name.now f.size

-- a fault of its lines, of its rows or of its words names its own refusal; want of memory none
abbrev pub collection_refusal_of : CollectionFault → Option CollectionRefusal
collection_refusal_of (faults.Documents f) = refusal_of f
collection_refusal_of (faults.Rows f) = rows_refusal_of f
collection_refusal_of (faults.Words f) = build_refusal_of f

-- where it is no want of memory, it is the first refusal of the collection
abbrev pub IsCollectionCause : List ℕ → CollectionFault → Type 0
IsCollectionCause c f = MatchOption (collection_refusal_of f) (Unit {0}) (λ r. refusal c ≡ Some r)

-- the same fault at the same line
abbrev pub fault_seen : Unread → ScriptFault
fault_seen (unread.TooLong n) = script_line_too_long n
fault_seen (unread.NotUtf8 n) = script_line_not_utf8 n

-- only too large is one
abbrev pub size_refusal_of : FlatFault → Option ImportRefusal
size_refusal_of sizes.TooLarge = Some (of_lines too_large)
size_refusal_of sizes.Memory = None

-- a fault of its size, of a line of its own, or of the collection that it gives
abbrev pub import_refusal_of : ImportFault → Option ImportRefusal
import_refusal_of (imports.Size f) = size_refusal_of f
import_refusal_of (imports.Line b) = Some (of_line b)
import_refusal_of (imports.Collection f) = option_map of_lines (collection_refusal_of f)

-- form by form
abbrev pub source_refusal_of : SourceFault → Option Refusal
source_refusal_of (sources.Collection f) = option_map of_collection (collection_refusal_of f)
source_refusal_of (sources.Csv f) = option_map of_csv (import_refusal_of f)
source_refusal_of (sources.JsonLines f) = option_map of_jsonl (import_refusal_of f)

-- variant by variant
abbrev pub fault_form : SourceFault → Form
fault_form (sources.Collection f) = forms.Collection
fault_form (sources.Csv f) = forms.Csv
fault_form (sources.JsonLines f) = forms.JsonLines

-- where it is no want of memory, it is the first refusal of the translation
abbrev pub IsFlatCause : Flat → ImportFault → Type 0
IsFlatCause t f = MatchOption (import_refusal_of f) (Unit {0}) (λ r. flat_refusal t ≡ Some r)

-- where it is no want of memory, it is the first refusal of the source
abbrev pub IsImportCause : (List ℕ → Flat) → List ℕ → ImportFault → Type 0
IsImportCause read b f = MatchOption (import_refusal_of f) (Unit {0}) (λ r. source_refusal read b ≡ Some r)

-- a source has no fault of another form
abbrev pub IsSourceCause : Form → List ℕ → SourceFault → Type 0
IsSourceCause forms.Collection b (sources.Collection f) = IsCollectionCause b f
IsSourceCause forms.Csv b (sources.Csv f) = IsImportCause flat_of_csv b f
IsSourceCause forms.JsonLines b (sources.JsonLines f) = IsImportCause flat_of_jsonl b f
IsSourceCause form b f = ⊥

-- refused with the refusal, and without one for want of memory
abbrev pub collection_ending : Option Refusal → Ending
collection_ending None = no_memory
collection_ending (Some r) = refused r

-- refused with the refusal, and without one for want of memory
abbrev pub merge_ending : Option MergeRefusal → Ending
merge_ending None = no_memory
merge_ending (Some r) = merge_refused r

-- variant by variant
abbrev pub stop_ending : RunStop → Ending
stop_ending stops.Usage = usage
stop_ending (stops.Collection f) = collection_ending (source_refusal_of f)
stop_ending (stops.Absent name) = absent name.now
stop_ending stops.Failed = failed
stop_ending stops.Memory = no_memory
stop_ending (stops.Script f) = script_refused (fault_seen f)
stop_ending (stops.Damaged rule at) = damaged rule at
stop_ending stops.Changed = changed
stop_ending (stops.Merge f) = merge_ending (merge_refusal_of f)

-- a run that doesn't stop is done
abbrev pub ended : Result (Unit {0}) RunStop → Ending
ended (Ok x) = done
ended (Err s) = stop_ending s

-- what is held stays; the count stays too where it gave a value, and else by its stop
pub record ReadsFiles {T : Type 0} (held held' : Option Held) (before now : ℕ) (r : Result T RunStop) : Type 0 where
  pub files : held' ≡ held
  pub quiet : OnOk r (now ≡ before)
  pub caused : IfErr r (λ s. CausedBy (stop_ending s) before now)

-- a line that is refused, or a call that failed
abbrev pub of_script : ScriptStop → RunStop
of_script (scripts.Unread f) = stops.Script f
of_script scripts.Failed = stops.Failed

-- the name that is said is this one; of a failed call nothing is said, and a run stops there in no other way
abbrev pub IsAbsence : RunStop → List ℕ → Type 0
IsAbsence (stops.Absent said) name = said.now ≡ name
IsAbsence stops.Failed name = Unit {0}
IsAbsence s name = ⊥

-- of any other stop nothing is said
abbrev pub IsMissing : RunStop → Option File → Type 0
IsMissing (stops.Absent said) f = f ≡ None
IsMissing s f = Unit {0}

-- a run stops there in no other way
abbrev pub IsDevice : RunStop → Type 0
IsDevice stops.Failed = Unit {0}
IsDevice stops.Memory = Unit {0}
IsDevice s = ⊥

-- a run stops there in no other way
abbrev pub IsOfSource : Form → RunStop → Type 0
IsOfSource form (stops.Collection f) = fault_form f ≡ form
IsOfSource form stops.Failed = Unit {0}
IsOfSource form stops.Memory = Unit {0}
IsOfSource form s = ⊥

-- of any other stop nothing is said
abbrev pub IsStopCause : Form → List ℕ → RunStop → Type 0
IsStopCause form b (stops.Collection f) = IsSourceCause form b f
IsStopCause form b s = Unit {0}

-- a run stops there in no other way
abbrev pub IsOfIndex : RunStop → Type 0
IsOfIndex (stops.Damaged rule at) = Unit {0}
IsOfIndex stops.Failed = Unit {0}
IsOfIndex stops.Memory = Unit {0}
IsOfIndex s = ⊥

-- of any other stop nothing is said
abbrev pub IsDamage : List ℕ → RunStop → Type 0
IsDamage b (stops.Damaged rule at) = damage b ≡ Some (broken_at rule at)
IsDamage b s = Unit {0}

-- a run stops there in no other way
abbrev pub IsOfWhole : RunStop → Type 0
IsOfWhole (stops.Damaged rule at) = Unit {0}
IsOfWhole stops.Changed = Unit {0}
IsOfWhole stops.Failed = Unit {0}
IsOfWhole stops.Memory = Unit {0}
IsOfWhole s = ⊥

-- of a failed call and of want of memory nothing is said; a file that tells its bytes doesn't change, and is no source of another stop
abbrev pub IsWholeCause : List ℕ → RunStop → Type 0
IsWholeCause b (stops.Damaged rule at) = damage b ≡ Some (broken_at rule at)
IsWholeCause b stops.Failed = Unit {0}
IsWholeCause b stops.Memory = Unit {0}
IsWholeCause b s = ⊥

-- a run stops there in no other way
abbrev pub IsMergeCause : Image → Image → RunStop → Type 0
IsMergeCause a b (stops.Merge f) = NamesRefusal a b f
IsMergeCause a b s = ⊥

-- its words with an LF behind them
abbrev pub said_text : Said → List ℕ
said_text (said.Words of line words) = of.now ++ (words_said line words.now ++ 10 ∷ [])
said_text (said.Targets s t) = codes "merge: targets " ++ (decimal s ++ (codes " and " ++ (decimal t ++ codes " differ\n")))
said_text (said.Damage rule at) = codes "index: rule " ++ (decimal rule ++ (codes " at " ++ (decimal at ++ 10 ∷ [])))
