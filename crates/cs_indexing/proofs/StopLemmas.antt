-- What holds at each ending by which a run may stop holds at the ending of its stop.
--
--   absence_by, source_by, index_by         a stop of a file that should be held, of a source, of an index file
--   caused_by                               a stop of a source that is known
--   opened_kind, opened_cause               a stop of opening is one of reading whole
--   whole_by, told_by                       a stop of an index file that is read whole, over any files and over those that tell
--   merged_by                               a stop of images that are merged
--   ended_early                             a stop that is handed on ends the run
use Rattle.std.proofs.Common.{◌≡◌, ℕ, List, refl, sym, subst}
use Rattle.std.specs.Prelude.{Option, Some, None, MatchOption, Result, Ok, Err}
use Rattle.std.specs.Result.{IsErrAnd}
use Rattle.std.specs.Option.{ForSome, option_map}
use Rattle.std.proofs.lemmas.Option.{same_Some}
use Rattle.cs_model.specs.Corpus.{refusal}
use Rattle.cs_model_index.specs.BlockRules.{broken_at}
use Rattle.cs_model_index.specs.FileRules.{damage}
use Rattle.cs_model_index.specs.Images.{Image}
use Rattle.cs_model_merge.specs.Merges.{MergeRefusal, merge_refusal}
use Rattle.cs_model_sources.specs.CsvSources.{flat_of_csv}
use Rattle.cs_model_sources.specs.JsonSources.{flat_of_jsonl}
use Rattle.cs_model_sources.specs.SourceRefusals.{source_refusal}
use Rattle.cs_merge.specs.Merging.{merge_refusal_of}
use Rattle.cs_indexing.specs.CommandLine.{Ending, absent, changed, damaged, failed, merge_refused, no_memory, refused}
use Rattle.cs_indexing.specs.Import.{IsRefusedAs, Refusal, form_of, of_collection, of_csv, of_jsonl}
use Rattle.cs_indexing.specs.Views.{IsAbsence, IsDamage, IsMergeCause, IsOfIndex, IsOfSource, IsOfWhole, IsSourceCause, IsStopCause, IsWholeCause, collection_ending, collection_refusal_of, ended, fault_form, import_refusal_of, merge_ending, source_refusal_of, stop_ending}
use Rattle.cs_indexing.specs.declared.ending.RunStop.{RunStop}
use Rattle.cs_indexing.specs.declared.ending.RunStop.TheVariants as stops
use Rattle.cs_indexing.specs.declared.sources.SourceFault.{SourceFault}
use Rattle.cs_indexing.specs.declared.sources.SourceFault.TheVariants as sources
use Rattle.cs_indexing.specs.declared.words.Form.{Form}
use Rattle.cs_indexing.specs.declared.words.Form.TheVariants as forms

-- a refusal that is made of another one has its form
formed : {A : Type 0} (form : Form) (made : A → Refusal) → ((a : A) → form_of (made a) ≡ form) → (o : Option A) → ForSome (option_map made o) (λ r. form_of r ≡ form)
formed form made all None r is = absurd (cc is)
formed form made all (Some a) r is = subst (λ z. form_of z ≡ form) (same_Some _ _ is) (all a)

-- what a fault names is a refusal of its form
of_form : (f : SourceFault) → ForSome (source_refusal_of f) (λ r. form_of r ≡ fault_form f)
of_form (sources.Collection f) = formed forms.Collection of_collection (λ r. refl) (collection_refusal_of f)
of_form (sources.Csv f) = formed forms.Csv of_csv (λ r. refl) (import_refusal_of f)
of_form (sources.JsonLines f) = formed forms.JsonLines of_jsonl (λ r. refl) (import_refusal_of f)

pub opened_kind : (s : RunStop) → IsOfIndex s → IsOfWhole s
opened_kind (stops.Damaged rule at) is = tt
opened_kind stops.Failed is = tt
opened_kind stops.Memory is = tt
opened_kind stops.Usage is = is
opened_kind (stops.Absent said) is = is
opened_kind (stops.Collection f) is = is
opened_kind (stops.Script f) is = is
opened_kind stops.Changed is = absurd is
opened_kind (stops.Merge f) is = is

pub opened_cause : (b : List ℕ) (s : RunStop) → IsOfIndex s → IsDamage b s → IsWholeCause b s
opened_cause b (stops.Damaged rule at) is broken = broken
opened_cause b stops.Failed is broken = tt
opened_cause b stops.Memory is broken = tt
opened_cause b stops.Usage is broken = is
opened_cause b (stops.Absent said) is broken = is
opened_cause b (stops.Collection f) is broken = is
opened_cause b (stops.Script f) is broken = is
opened_cause b stops.Changed is broken = is
opened_cause b (stops.Merge f) is broken = is

module _ (P : Ending → Type 0) where
  pub absence_by : (s : RunStop) (name : List ℕ) → IsAbsence s name → P (absent name) → P failed → P (stop_ending s)
  absence_by (stops.Absent said) name is gone fault = subst (λ n. P (absent n)) (sym is) gone
  absence_by stops.Failed name is gone fault = fault
  absence_by stops.Usage name is gone fault = absurd is
  absence_by (stops.Collection f) name is gone fault = absurd is
  absence_by stops.Memory name is gone fault = absurd is
  absence_by (stops.Script f) name is gone fault = absurd is
  absence_by (stops.Damaged rule at) name is gone fault = absurd is
  absence_by stops.Changed name is gone fault = absurd is
  absence_by (stops.Merge f) name is gone fault = absurd is

  refused_by : (form : Form) (o : Option Refusal) → ForSome o (λ r. form_of r ≡ form) → ((r : Refusal) → form_of r ≡ form → P (refused r)) → P no_memory → P (collection_ending o)
  refused_by form None has why memory = memory
  refused_by form (Some r) has why memory = why r (has r refl)

  pub source_by : (form : Form) (s : RunStop) → IsOfSource form s → ((r : Refusal) → form_of r ≡ form → P (refused r)) → P failed → P no_memory → P (stop_ending s)
  source_by form (stops.Collection f) is why fault memory = refused_by form (source_refusal_of f) (subst (λ x. ForSome (source_refusal_of f) (λ r. form_of r ≡ x)) is (of_form f)) why memory
  source_by form stops.Failed is why fault memory = fault
  source_by form stops.Memory is why fault memory = memory
  source_by form stops.Usage is why fault memory = absurd is
  source_by form (stops.Absent said) is why fault memory = absurd is
  source_by form (stops.Script f) is why fault memory = absurd is
  source_by form (stops.Damaged rule at) is why fault memory = absurd is
  source_by form stops.Changed is why fault memory = absurd is
  source_by form (stops.Merge f) is why fault memory = absurd is

  option_by : {A : Type 0} (made : A → Refusal) (Q : A → Type 0) (o : Option A) → MatchOption o (Unit {0}) Q → ((a : A) → Q a → P (refused (made a))) → P no_memory → P (collection_ending (option_map made o))
  option_by made Q None h why memory = memory
  option_by made Q (Some a) h why memory = why a h

  refusal_by : (form : Form) (b : List ℕ) (f : SourceFault) → IsSourceCause form b f → ((r : Refusal) → IsRefusedAs form b r → P (refused r)) → P no_memory → P (collection_ending (source_refusal_of f))
  refusal_by forms.Collection b (sources.Collection f) h why memory = option_by of_collection (λ r. refusal b ≡ Some r) (collection_refusal_of f) h (λ r is. why (of_collection r) is) memory
  refusal_by forms.Csv b (sources.Csv f) h why memory = option_by of_csv (λ r. source_refusal flat_of_csv b ≡ Some r) (import_refusal_of f) h (λ r is. why (of_csv r) is) memory
  refusal_by forms.JsonLines b (sources.JsonLines f) h why memory = option_by of_jsonl (λ r. source_refusal flat_of_jsonl b ≡ Some r) (import_refusal_of f) h (λ r is. why (of_jsonl r) is) memory
  refusal_by forms.Collection b (sources.Csv f) h why memory = absurd h
  refusal_by forms.Collection b (sources.JsonLines f) h why memory = absurd h
  refusal_by forms.Csv b (sources.Collection f) h why memory = absurd h
  refusal_by forms.Csv b (sources.JsonLines f) h why memory = absurd h
  refusal_by forms.JsonLines b (sources.Collection f) h why memory = absurd h
  refusal_by forms.JsonLines b (sources.Csv f) h why memory = absurd h

  pub caused_by : (form : Form) (b : List ℕ) (s : RunStop) → IsOfSource form s → IsStopCause form b s → ((r : Refusal) → IsRefusedAs form b r → P (refused r)) → P failed → P no_memory → P (stop_ending s)
  caused_by form b (stops.Collection f) is h why fault memory = refusal_by form b f h why memory
  caused_by form b stops.Failed is h why fault memory = fault
  caused_by form b stops.Memory is h why fault memory = memory
  caused_by form b stops.Usage is h why fault memory = absurd is
  caused_by form b (stops.Absent said) is h why fault memory = absurd is
  caused_by form b (stops.Script f) is h why fault memory = absurd is
  caused_by form b (stops.Damaged rule at) is h why fault memory = absurd is
  caused_by form b stops.Changed is h why fault memory = absurd is
  caused_by form b (stops.Merge f) is h why fault memory = absurd is

  pub index_by : (s : RunStop) → IsOfIndex s → ((rule at : ℕ) → P (damaged rule at)) → P failed → P no_memory → P (stop_ending s)
  index_by (stops.Damaged rule at) is why fault memory = why rule at
  index_by stops.Failed is why fault memory = fault
  index_by stops.Memory is why fault memory = memory
  index_by stops.Usage is why fault memory = absurd is
  index_by (stops.Absent said) is why fault memory = absurd is
  index_by (stops.Collection f) is why fault memory = absurd is
  index_by (stops.Script f) is why fault memory = absurd is
  index_by stops.Changed is why fault memory = absurd is
  index_by (stops.Merge f) is why fault memory = absurd is

  pub whole_by : (s : RunStop) → IsOfWhole s → ((rule at : ℕ) → P (damaged rule at)) → P changed → P failed → P no_memory → P (stop_ending s)
  whole_by (stops.Damaged rule at) is why change fault memory = why rule at
  whole_by stops.Changed is why change fault memory = change
  whole_by stops.Failed is why change fault memory = fault
  whole_by stops.Memory is why change fault memory = memory
  whole_by stops.Usage is why change fault memory = absurd is
  whole_by (stops.Absent said) is why change fault memory = absurd is
  whole_by (stops.Collection f) is why change fault memory = absurd is
  whole_by (stops.Script f) is why change fault memory = absurd is
  whole_by (stops.Merge f) is why change fault memory = absurd is

  pub told_by : (b : List ℕ) (s : RunStop) → IsWholeCause b s → ((rule at : ℕ) → damage b ≡ Some (broken_at rule at) → P (damaged rule at)) → P failed → P no_memory → P (stop_ending s)
  told_by b (stops.Damaged rule at) is why fault memory = why rule at is
  told_by b stops.Failed is why fault memory = fault
  told_by b stops.Memory is why fault memory = memory
  told_by b stops.Changed is why fault memory = absurd is
  told_by b stops.Usage is why fault memory = absurd is
  told_by b (stops.Absent said) is why fault memory = absurd is
  told_by b (stops.Collection f) is why fault memory = absurd is
  told_by b (stops.Script f) is why fault memory = absurd is
  told_by b (stops.Merge f) is why fault memory = absurd is

  unmerged_by : (Q : MergeRefusal → Type 0) (o : Option MergeRefusal) → MatchOption o (Unit {0}) Q → ((r : MergeRefusal) → Q r → P (merge_refused r)) → P no_memory → P (merge_ending o)
  unmerged_by Q None h why memory = memory
  unmerged_by Q (Some r) h why memory = why r h

  pub merged_by : (a b : Image) (s : RunStop) → IsMergeCause a b s → ((r : MergeRefusal) → merge_refusal a b ≡ Some r → P (merge_refused r)) → P no_memory → P (stop_ending s)
  merged_by a b (stops.Merge f) is why memory = unmerged_by (λ r. merge_refusal a b ≡ Some r) (merge_refusal_of f) is why memory
  merged_by a b (stops.Damaged rule at) is why memory = absurd is
  merged_by a b stops.Failed is why memory = absurd is
  merged_by a b stops.Memory is why memory = absurd is
  merged_by a b stops.Changed is why memory = absurd is
  merged_by a b stops.Usage is why memory = absurd is
  merged_by a b (stops.Absent said) is why memory = absurd is
  merged_by a b (stops.Collection f) is why memory = absurd is
  merged_by a b (stops.Script f) is why memory = absurd is

-- a stop that is handed on ends the run
pub ended_early : (P : Ending → Type 0) (r : Result (Unit {0}) RunStop) (x : RunStop) → IsErrAnd r (λ y. y ≡ x) → P (stop_ending x) → P (ended r)
ended_early P (Ok u) x is h = absurd is
ended_early P (Err y) x is h = subst (λ z. P (stop_ending z)) (sym is) h
