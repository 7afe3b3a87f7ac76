-- A run that could do all and met no fault did all, or found no memory.
use Rattle.std.proofs.Common.{◌≡◌, ◌⊎◌, ℕ, List, inl, inr, refl, sym, subst, ◌∙◌}
use Rattle.std.specs.Prelude.{Option, Some, None}
use Rattle.std.specs.FinMap as map
use Rattle.cs_base.specs.outside.Causes.{Rose}
use Rattle.cs_base.specs.outside.Outside.{Held, File, IsHeld}
use Rattle.cs_model.specs.Corpus.{Corpus}
use Rattle.cs_model.specs.Outputs.{IsAnswer, MayPut, OneEach, failed_reads, script_lines}
use Rattle.cs_model_index.specs.BlockRules.{broken_at}
use Rattle.cs_model_index.specs.Images.{Image}
use Rattle.cs_model_index.specs.Sections.{file_corpus, image_of}
use Rattle.cs_indexing.specs.Build.{BuildStops, BuildTold, BuildWrites, CanBuild}
use Rattle.cs_indexing.specs.CommandLine.{Command, build, ask, replay, serve, trial, upgrade, merge, live, Ending, done, usage, refused, damaged, absent, failed, no_memory, script_refused, changed, merge_refused, status, Caused, CausedBy}
use Rattle.cs_indexing.specs.Import.{IsAcceptedAs, IsRefusedAs, Refusal, of_collection, of_csv, of_jsonl}
use Rattle.cs_indexing.specs.Merge.{CanMerge, MergeStops, MergeTold}
use Rattle.cs_indexing.specs.Met.{Listened, Met, Wrote, held_bytes}
use Rattle.cs_indexing.specs.Upgrade.{CanUpgrade, UpgradeStops, UpgradeTold}
use Rattle.cs_indexing.specs.declared.words.Form.{Form}
use Rattle.cs_indexing.specs.declared.words.Form.TheVariants as forms
use Rattle.cs_indexing.specs.declared.words.HitForm.{HitForm}
use Rattle.cs_top.specs.ScriptRuns.{AskStops, AskTold, CanAsk, CanReplay, IndexScript, ReplayCaused, ReplayStops, ReplayTold}
use Rattle.cs_top.specs.Answering.{IsReplayed}
use Rattle.cs_top.specs.LiveRuns.{IsToldCourse, LiveTold}
use Rattle.cs_top.specs.CommandRuns.{Completes, Ran}
use Rattle.cs_top.specs.ScriptEndings.{IsReadable, MayPutAll, ScriptEnds}
use Rattle.cs_top.specs.Serve.{CanServe, ServeCaused, ServeEnds, ServeStops, ServeTold}
use Rattle.cs_top.specs.Trial.{TrialEnds}
use Rattle.cs_top.proofs.ServeEndings.{served_all}

missing : (f : Option File) → IsHeld f → f ≡ None → ⊥
missing None held none = held
missing (Some f) held none = absurd cc

-- a source that is accepted isn't refused
never : (form : Form) (b : List ℕ) (r : Refusal) → IsRefusedAs form b r → IsAcceptedAs form b → ⊥
never forms.Collection b (of_collection r) is can = let e : Some r ≡ None = sym is ∙ can in absurd cc
never forms.Csv b (of_csv r) is can = let e : Some r ≡ None = sym is ∙ can in absurd cc
never forms.JsonLines b (of_jsonl r) is can = let e : Some r ≡ None = sym is ∙ can in absurd cc
never forms.Collection b (of_csv r) is can = is
never forms.Collection b (of_jsonl r) is can = is
never forms.Csv b (of_collection r) is can = is
never forms.Csv b (of_jsonl r) is can = is
never forms.JsonLines b (of_collection r) is can = is
never forms.JsonLines b (of_csv r) is can = is

abbrev IsWell : Ending → Type 0
IsWell e = (status e ≡ 0) ⊎ (status e ≡ 7)

module _ (e : Ending) (fb fn ob on : ℕ) (cause : Caused e fb fn ob on) (files : Rose fb fn → ⊥) (out : Rose ob on → ⊥) where
  no_failure : e ≡ failed → ⊥
  no_failure is = elim (subst (λ x. Caused x fb fn ob on) is cause).0 [ inl r ↦ files r | inr r ↦ out r ]

stopped : (e : Ending) (h : Held) (c s : List ℕ) → CanAsk h c s → AskStops e h c s → (e ≡ failed → ⊥) → IsWell e
stopped (absent n) h c s can (inl a) calm = absurd (missing (map.get h c) can.0.0.0 a.1)
stopped (absent n) h c s can (inr a) calm = absurd (missing (map.get h s) can.0.0.1 a.2)
stopped (refused r) h c s can (held, is) calm = absurd (never forms.Collection (held_bytes h c) r is can.0.1)
stopped no_memory h c s can a calm = inr refl
stopped failed h c s can a calm = absurd (calm refl)
stopped done h c s can a calm = absurd a
stopped usage h c s can a calm = absurd a
stopped (script_refused f) h c s can a calm = absurd a
stopped (damaged rule at) h c s can a calm = absurd a
stopped changed h c s can a calm = absurd a
stopped (merge_refused r) h c s can a calm = absurd a

scripted : (A : MayPut) (e : Ending) (ls : List (ℕ × List ℕ)) (ts : List (List ℕ)) (w : Wrote) → IsReadable ls → ScriptEnds A e ls ts w → (e ≡ failed → ⊥) → IsWell e
scripted A done ls ts w can a calm = inl refl
scripted A (script_refused f) ls ts w can a calm = let e : Some f ≡ None = sym a.0 ∙ can in absurd cc
scripted A failed ls ts w can a calm = absurd (calm refl)
scripted A usage ls ts w can a calm = absurd a
scripted A (refused r) ls ts w can a calm = absurd a
scripted A (damaged rule at) ls ts w can a calm = absurd a
scripted A (absent n) ls ts w can a calm = absurd a
scripted A no_memory ls ts w can a calm = absurd a
scripted A changed ls ts w can a calm = absurd a
scripted A (merge_refused r) ls ts w can a calm = absurd a

told : (form : HitForm) (e : Ending) (h : Held) (c s : List ℕ) (w : Wrote) → AskTold form e h c s w → CanAsk h c s → (e ≡ failed → ⊥) → IsWell e
told form e h c s w (inl a) can calm = stopped e h c s can a.0 calm
told form e h c s w (inr a) can calm = scripted _ e (script_lines (held_bytes h s)) a.1.0 w can.1 a.1.1 calm

unmade : (form : Form) (e : Ending) (h : Held) (c : List ℕ) → CanBuild form h c → BuildStops form e h c → (e ≡ failed → ⊥) → IsWell e
unmade form (absent n) h c can a calm = absurd (missing (map.get h c) can.0 a.1)
unmade form (refused r) h c can (held, is) calm = absurd (never form (held_bytes h c) r is can.1)
unmade form no_memory h c can a calm = inr refl
unmade form failed h c can a calm = absurd (calm refl)
unmade form done h c can a calm = absurd a
unmade form usage h c can a calm = absurd a
unmade form (script_refused f) h c can a calm = absurd a
unmade form (damaged rule at) h c can a calm = absurd a
unmade form changed h c can a calm = absurd a
unmade form (merge_refused r) h c can a calm = absurd a

written : (e : Ending) (h : Held) (i : List ℕ) (x : Image) (now : Option Held) → BuildWrites e h i x now → (e ≡ failed → ⊥) → IsWell e
written done h i x now a calm = inl refl
written no_memory h i x now a calm = inr refl
written failed h i x now a calm = absurd (calm refl)
written usage h i x now a calm = absurd a
written (refused r) h i x now a calm = absurd a
written (absent n) h i x now a calm = absurd a
written (script_refused f) h i x now a calm = absurd a
written (damaged rule at) h i x now a calm = absurd a
written changed h i x now a calm = absurd a
written (merge_refused r) h i x now a calm = absurd a

built : (form : Form) (e : Ending) (h : Held) (c i : List ℕ) (now : Option Held) → BuildTold form e h c i now → CanBuild form h c → (e ≡ failed → ⊥) → IsWell e
built form e h c i now (inl a) can calm = unmade form e h c can a.0 calm
built form e h c i now (inr a) can calm = written e h i a.0 now a.2 calm

no_failed_file : (e : Ending) (before now : ℕ) → CausedBy e before now → (Rose before now → ⊥) → e ≡ failed → ⊥
no_failed_file e before now cause files is = files (subst (λ x. CausedBy x before now) is cause).0

unplayed : (e : Ending) (h : Held) (i s : List ℕ) → CanReplay h i s → ReplayStops e h i s → (e ≡ failed → ⊥) → IsWell e
unplayed (absent n) h i s can (inl a) calm = absurd (missing (map.get h i) can.0.0.0 a.1)
unplayed (absent n) h i s can (inr a) calm = absurd (missing (map.get h s) can.0.0.1 a.2)
unplayed (damaged rule at) h i s can a calm = let e : Some (broken_at rule at) ≡ None = sym a.1 ∙ can.0.1 in absurd cc
unplayed no_memory h i s can a calm = inr refl
unplayed failed h i s can a calm = absurd (calm refl)
unplayed done h i s can a calm = absurd a
unplayed usage h i s can a calm = absurd a
unplayed (refused r) h i s can a calm = absurd a
unplayed (script_refused f) h i s can a calm = absurd a
unplayed changed h i s can a calm = absurd a
unplayed (merge_refused r) h i s can a calm = absurd a

played : (A R : MayPutAll) (e : Ending) (ls : List (ℕ × List ℕ)) (before now : ℕ) (w : Wrote) → IsReadable ls → IndexScript A R e ls before now w → (e ≡ failed → ⊥) → IsWell e
played A R done ls before now w can a calm = inl refl
played A R (script_refused f) ls before now w can a calm = let e : Some f ≡ None = sym a.1.0 ∙ can in absurd cc
played A R failed ls before now w can a calm = absurd (calm refl)
played A R usage ls before now w can a calm = absurd a
played A R (refused r) ls before now w can a calm = absurd a
played A R (damaged rule at) ls before now w can a calm = absurd a
played A R (absent n) ls before now w can a calm = absurd a
played A R no_memory ls before now w can a calm = absurd a
played A R changed ls before now w can a calm = absurd a
played A R (merge_refused r) ls before now w can a calm = absurd a

replay_told : (e : Ending) (h : Held) (i s : List ℕ) (before now : ℕ) (w : Wrote) → ReplayTold e h i s before now w → CanReplay h i s → (e ≡ failed → ⊥) → IsWell e
replay_told e h i s before now w (inl a) can calm = unplayed e h i s can a.0 calm
replay_told e h i s before now w (inr a) can calm =
    let k : Corpus = file_corpus (held_bytes h i) in
    played (OneEach (IsAnswer k)) (OneEach (IsReplayed k)) e (script_lines (held_bytes h s)) before now w can.1 a.1 calm

live_told : (e : Ending) (h : Held) (i s : List ℕ) (before now : ℕ) (w : Wrote) → LiveTold e h i s before now w → CanReplay h i s → (e ≡ failed → ⊥) → IsWell e
live_told e h i s before now w (inl a) can calm = unplayed e h i s can a.0 calm
live_told e h i s before now w (inr a) can calm =
    let b = held_bytes h i in
    played (λ ls ts. IsToldCourse b ls ts × (failed_reads ts ≡ 0)) (IsToldCourse b) e (script_lines (held_bytes h s)) before now w can.1 a.1 calm

no_failed_replay : (e : Ending) (fb fn ob on : ℕ) → ReplayCaused e fb fn ob on → (Rose fb fn → ⊥) → (Rose ob on → ⊥) → e ≡ failed → ⊥
no_failed_replay e fb fn ob on cause files out is = elim (subst (λ x. ReplayCaused x fb fn ob on) is cause).0 [ inl r ↦ files r | inr r ↦ out r ]

unserved : (e : Ending) (h : Held) (i : List ℕ) → CanServe h i → ServeStops e h i → (e ≡ failed → ⊥) → IsWell e
unserved (absent n) h i can a calm = absurd (missing (map.get h i) can.0 a.1)
unserved (damaged rule at) h i can a calm = let e : Some (broken_at rule at) ≡ None = sym a.1 ∙ can.1 in absurd cc
unserved no_memory h i can a calm = inr refl
unserved failed h i can a calm = absurd (calm refl)
unserved done h i can a calm = absurd a
unserved usage h i can a calm = absurd a
unserved (refused r) h i can a calm = absurd a
unserved (script_refused f) h i can a calm = absurd a
unserved changed h i can a calm = absurd a
unserved (merge_refused r) h i can a calm = absurd a

served : (e : Ending) (h : Held) (i p n : List ℕ) (before now : ℕ) (w : Wrote) (net : Listened) → ServeTold e h i p n before now w net → CanServe h i → (e ≡ failed → ⊥) → IsWell e
served done h i p n before now w net a can calm = inl refl
served (absent x) h i p n before now w net a can calm = unserved (absent x) h i can a calm
served (damaged rule at) h i p n before now w net a can calm = unserved (damaged rule at) h i can a calm
served no_memory h i p n before now w net a can calm = inr refl
served failed h i p n before now w net a can calm = absurd (calm refl)
served usage h i p n before now w net a can calm = absurd a
served (refused r) h i p n before now w net a can calm = absurd a
served (script_refused f) h i p n before now w net a can calm = absurd a
served changed h i p n before now w net a can calm = absurd a
served (merge_refused r) h i p n before now w net a can calm = absurd a

no_failed_serve : (e : Ending) (fb fn ob on hb hn : ℕ) → ServeCaused e fb fn ob on hb hn → (Rose fb fn → ⊥) → (Rose ob on → ⊥) → (Rose hb hn → ⊥) → e ≡ failed → ⊥
no_failed_serve e fb fn ob on hb hn cause files out hub is = elim (subst (λ x. ServeCaused x fb fn ob on hb hn) is cause).0 [ inl r ↦ files r | inr r ↦ elim r [ inl r ↦ out r | inr r ↦ hub r ] ]

unread : (e : Ending) (h : Held) (i : List ℕ) → CanUpgrade h i → UpgradeStops e h i → (e ≡ failed → ⊥) → IsWell e
unread (absent n) h i can a calm = absurd (missing (map.get h i) can.0 a.1)
unread (damaged rule at) h i can a calm = let e : Some (broken_at rule at) ≡ None = sym a.1 ∙ can.1 in absurd cc
unread no_memory h i can a calm = inr refl
unread failed h i can a calm = absurd (calm refl)
unread done h i can a calm = absurd a
unread usage h i can a calm = absurd a
unread (refused r) h i can a calm = absurd a
unread (script_refused f) h i can a calm = absurd a
unread changed h i can a calm = absurd a
unread (merge_refused r) h i can a calm = absurd a

upgraded : (e : Ending) (h : Held) (i n : List ℕ) (now : Option Held) → UpgradeTold e h i n now → CanUpgrade h i → (e ≡ failed → ⊥) → IsWell e
upgraded e h i n now (inl a) can calm = unread e h i can a.0 calm
upgraded e h i n now (inr a) can calm = written e h n (image_of (held_bytes h i)) now a.1 calm

unmerged : (e : Ending) (h : Held) (a b : List ℕ) → CanMerge h a b → MergeStops e h a b → (e ≡ failed → ⊥) → IsWell e
unmerged (absent n) h a b can (inl x) calm = absurd (missing (map.get h a) can.0.0.0 x.1)
unmerged (absent n) h a b can (inr x) calm = absurd (missing (map.get h b) can.0.0.1 x.2)
unmerged (damaged rule at) h a b can (held, inl x) calm = let e : Some (broken_at rule at) ≡ None = sym x ∙ can.0.1 in absurd cc
unmerged (damaged rule at) h a b can (held, inr x) calm = let e : Some (broken_at rule at) ≡ None = sym x.1 ∙ can.0.2 in absurd cc
unmerged (merge_refused r) h a b can x calm = let e : Some r ≡ None = sym x.1 ∙ can.1 in absurd cc
unmerged no_memory h a b can x calm = inr refl
unmerged failed h a b can x calm = absurd (calm refl)
unmerged done h a b can x calm = absurd x
unmerged usage h a b can x calm = absurd x
unmerged (refused r) h a b can x calm = absurd x
unmerged (script_refused f) h a b can x calm = absurd x
unmerged changed h a b can x calm = absurd x

merged : (e : Ending) (h : Held) (a b n : List ℕ) (now : Option Held) → MergeTold e h a b n now → CanMerge h a b → (e ≡ failed → ⊥) → IsWell e
merged e h a b n now (inl x) can calm = unmerged e h a b can x.0 calm
merged e h a b n now (inr x) can calm = written e h n x.0 now x.2 calm

-- no other ending has this status
only_done : (e : Ending) → status e ≡ 0 → e ≡ done
only_done done is = refl
only_done usage is = absurd cc
only_done (refused r) is = absurd cc
only_done (damaged rule at) is = absurd cc
only_done (absent x) is = absurd cc
only_done failed is = absurd cc
only_done no_memory is = absurd cc
only_done (script_refused f) is = absurd cc
only_done changed is = absurd cc
only_done (merge_refused r) is = absurd cc

tried : (e : Ending) (n : List ℕ) (w : Wrote) → TrialEnds e n w → (e ≡ failed → ⊥) → IsWell e
tried done n w a calm = inl refl
tried no_memory n w a calm = inr refl
tried failed n w a calm = absurd (calm refl)
tried usage n w a calm = absurd a
tried (refused r) n w a calm = absurd a
tried (damaged rule at) n w a calm = absurd a
tried (absent x) n w a calm = absurd a
tried (script_refused f) n w a calm = absurd a
tried changed n w a calm = absurd a
tried (merge_refused r) n w a calm = absurd a

pub completes : {H : Type 0} (e : Ending) (command : Option Command) (m : Met H) → Ran e command m → Completes command m (status e)
completes e None m r = λ h held able. absurd able
completes e (Some (build form c i)) m r = λ h held able files out hub.
    built form e h c i m.held_now (r.told h held) able (no_failed_file e m.files_before m.files_now r.caused files)
completes e (Some (ask form c s)) m r = λ h held able files out hub.
    told form e h c s m.out (r.told h held) able (no_failure e m.files_before m.files_now m.out.before m.out.now r.caused files out)
completes e (Some (replay i s)) m r = λ h held able files out hub.
    replay_told e h i s m.files_before m.files_now m.out (r.told h held) able (no_failed_replay e m.files_before m.files_now m.out.before m.out.now r.caused files out)
completes e (Some (serve i p n)) m r = λ h held able. (
  λ files out hub. served e h i p n m.files_before m.files_now m.out m.net (r.told h held) able (no_failed_serve e m.files_before m.files_now m.out.before m.out.now m.net.old.faults m.net.new.faults r.caused files out hub),
  λ zero calm sent. let is = only_done e zero in
      served_all h i p n m.files_before m.files_now m.out m.net (subst (λ x. ServeEnds x i p n m.out m.net) is r.ends).0 (subst (λ x. ServeTold x h i p n m.files_before m.files_now m.out m.net) is (r.told h held)) calm sent,
)
completes e (Some (trial n)) m r = λ files out hub. tried e n m.out r.ends (no_failed_file e m.out.before m.out.now r.caused out)
completes e (Some (upgrade i n)) m r = λ h held able files out hub.
    upgraded e h i n m.held_now (r.told h held) able (no_failed_file e m.files_before m.files_now r.caused files)
completes e (Some (merge a b n)) m r = λ h held able files out hub.
    merged e h a b n m.held_now (r.told h held) able (no_failed_file e m.files_before m.files_now r.caused files)
completes e (Some (live i s)) m r = λ h held able files out hub.
    live_told e h i s m.files_before m.files_now m.out (r.told h held) able (no_failed_replay e m.files_before m.files_now m.out.before m.out.now r.caused files out)
